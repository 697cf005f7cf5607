use Rattle.std.proofs.Common.{rules}
use Rattle.proxy_core.proofs.Chosen.{second_begins, second_goes_on}
use Rattle.proxy_core.proofs.choice.fill.Goals as goal

pub loop-i-init : goal.loop-i-init
loop-i-init c = second_begins _ _ _ _ _ _ _ _ _ c.new-picks.ensures.items c.new-staying.ensures.empty c.new-unnumbered.ensures.empty

pub loop-i-preserved : goal.loop-i-preserved
loop-i-preserved c =
    second_goes_on _ _ _ _ _ _ _ _ _ _ _ _ _ _ c.loop-i.i c.index-pending.result.now c.index-leads.result.now c.is_filling-goes.result c.loop-i.invariant (search rules) (search rules) c.index-pending.ensures c.index-leads.ensures c.is_filling-goes.ensures c.room_left-room.ensures c.in_ok-note.ensures.staying c.in_ok-note.ensures.unnumbered c.in_ok-push.ensures.items
