use Rattle.std.proofs.Common.{sym, subst}
use Rattle.coord_world.specs.Facade.{InRange, IsFresh, Legal}
use Rattle.coord_world.proofs.legal.NextKeepsLegal.{legal_next}
use Rattle.coord_world.proofs.ranges.NextKeepsRanges.{ranges_next}
use Rattle.coord_world.proofs.world.World.apply.Goals as goal

pub invariant_of-self-2 : goal.invariant_of-self-2
invariant_of-self-2 c =
    let w = c.self.inside.tables in
    let legal = subst Legal (sym c.self.view_is) c.requires.legal in
    let fresh = subst (λ v. IsFresh v v c.args.step.now) (sym c.self.view_is) c.requires.fresh in
    subst InRange (sym c.in_ok-outcome.ensures.world) (ranges_next w w c.args.step.now c.lemma_in_range.ensures c.self.invariant legal fresh)

pub returns-clause-legal : goal.returns-clause-legal
returns-clause-legal c =
    let w = c.self.inside.tables in
    let legal = subst Legal (sym c.self.view_is) c.requires.legal in
    let fresh = subst (λ v. IsFresh v v c.args.step.now) (sym c.self.view_is) c.requires.fresh in
    subst Legal (sym c.in_ok-outcome.ensures.world) (legal_next w w c.args.step.now c.self.invariant legal fresh)
