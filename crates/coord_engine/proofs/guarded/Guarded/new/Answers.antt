use Rattle.std.proofs.Common.{◌≡◌, ◌++◌, length, take, refl, sym, ap, subst, arith, ◌∙◌}
use Rattle.std.proofs.Math.Seq.{take-length}
use Rattle.coord_ledger.specs.Facade.{settled_steps}
use Rattle.coord_engine.specs.Facade.{Beginning, HasReadSettled, StartsWith}
use Rattle.coord_engine.proofs.Past.{at_home, made_over}
use Rattle.coord_engine.proofs.guarded.Guarded.new.Goals as goal

pub write_settled-requires-clause-here : goal.write_settled-requires-clause-here
write_settled-requires-clause-here g c = c.requires.here ∙ sym (ap (λ (b : Beginning). b.history) c.requires.earlier)

pub write_settled-requires-clause-on : goal.write_settled-requires-clause-on
write_settled-requires-clause-on g c =
    let settled = settled_steps c.args.ledger.log in
    subst (λ (b : Beginning). StartsWith (g.L.Origin.earlier ++ settled) b.steps) (sym c.requires.earlier) (settled, refl)

pub invariant_of-result : goal.invariant_of-result
invariant_of-result g c =
    let l = c.args.ledger in
    let b = c.open-book.ensures in
    let trail : c.trail-start.result.now ≡ l.log.trail = c.trail-start.ensures in
    let n : length c.trail-start.result.now ≡ length l.log.trail = ap length trail in (
      omega arith,
      omega (arith, b.parts, c.requires.parts.0, c.requires.parts.1),
      b.amount,
      omega (arith, n, b.total),
      c.requires.base,
      ap length (trail ∙ c.requires.before),
      ap (λ k. take k l.log.trail) n ∙ take-length l.log.trail ∙ c.requires.before,
      at_home g.D.Disk.model l.log.doubt l.out c.requires.home,
      made_over g.D.Disk.model g.met.D.Disk.laws g.L.Origin.disk g.L.Origin.base l c.requires.disk c.requires.base c.lemma_images_give_settled.ensures,
      subst (λ (b : Beginning). HasReadSettled b.history g.L.Origin.earlier (settled_steps l.log) c.write_settled.new.writer) c.requires.earlier c.write_settled.ensures,
    )
