use Rattle.std.proofs.Common.{length, sym, ap, arith, ◌∙◌}
use Rattle.coord_engine.specs.Facade.{based_on}
use Rattle.coord_engine.proofs.Tried.{drops_one, tries_on, tries_stuck}
use Rattle.coord_engine.proofs.working.try_waiting.Goals as goal

pub returns-then-submit : goal.returns-then-submit
returns-then-submit g c =
    let b = based_on g.D.Disk.model g.L.Origin.base g.L.Origin.before in
    let first = sym c.first.ensures ∙ c.in-Some.is in
    c.loop-tried.invariant.1 c.submit.new.share c.loop-tried.waiting (tries_stuck b c.loop-tried.share c.submit.new.share c.loop-tried.waiting c.in-Some.packet c.submit.result first c.submit.ensures c.if-submit.true)

pub loop-tried-preserved : goal.loop-tried-preserved
loop-tried-preserved g c =
    let b = based_on g.D.Disk.model g.L.Origin.base g.L.Origin.before in
    let first = sym c.first.ensures ∙ c.in-Some.is in (
      omega (arith, c.loop-tried.invariant.0, drops_one c.loop-tried.waiting c.in-Some.packet first, ap length c.drop_first.ensures),
      λ later left rest.
          c.loop-tried.invariant.1 later left
          (tries_on b c.loop-tried.share c.submit.new.share c.loop-tried.waiting c.in-Some.packet c.submit.result later left first c.submit.ensures c.if-submit.false (rw (sym c.drop_first.ensures) rest)),
    )
