use Rattle.std.proofs.Common.{◌∷◌, ◌++◌, [], ◌∙◌, ap, arith, subst, sym, take}
use Rattle.std.proofs.lemmas.List.{take_all, take_more}
use Rattle.coord_engine.specs.Facade.{Works, based_on}
use Rattle.coord_engine.proofs.Worked.{works_last}
use Rattle.coord_engine.proofs.working.take_each.Goals as goal

pub loop-packet-preserved : goal.loop-packet-preserved
loop-packet-preserved g c =
    let b = based_on g.D.Disk.model g.L.Origin.base g.L.Origin.before in
    let k = c.loop-packet.packet-index in
    let came = take k c.args.packets.now in
    let one_more = take_more c.args.packets.now k c.packet-item.result c.loop-packet-test.true ∙ ap (λ p. came ++ p ∷ []) (sym c.packet-item.is) in
    subst (λ ps. Works b c.args.share.now c.args.hand.now ps c.try_waiting.new.share (record c.take.new.hand { waiting = c.try_waiting.new.waiting })) (sym one_more)
    (works_last b c.args.share.now c.loop-packet.share c.take.new.share c.try_waiting.new.share c.args.hand.now c.loop-packet.hand c.take.new.hand came c.try_waiting.new.waiting c.packet-item.result c.loop-packet.invariant c.take.ensures c.try_waiting.ensures)

pub returns : goal.returns
returns g c =
    let b = based_on g.D.Disk.model g.L.Origin.base g.L.Origin.before in
    subst (λ ps. Works b c.args.share.now c.args.hand.now ps c.loop-packet.share c.loop-packet.hand) (take_all c.loop-packet.packet-index c.args.packets.now (omega (arith, c.loop-packet-test.false))) c.loop-packet.invariant
