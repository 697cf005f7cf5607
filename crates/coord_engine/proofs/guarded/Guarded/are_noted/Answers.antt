use Rattle.std.proofs.Common.{◌≡◌, ◌+◌, ◌-◌, ℕ, List, drop, length, refl, sym, ap, subst, arith, ◌∙◌, All, Contains}
use Rattle.std.proofs.lemmas.List.{length-drop}
use Rattle.coord_types.specs.declared.steps.Kind.{Kind}
use Rattle.coord_types.specs.declared.steps.Step.{Step}
use Rattle.coord_ledger.specs.machine.Log.{kinds_of}
use Rattle.coord_engine.specs.Facade.{GuardedState, all_notes, notes_of}
use Rattle.coord_engine.proofs.guarded.Guarded.are_noted.Goals as goal

pub returns : goal.returns
returns g c =
    let P : ℕ → List Step → List Kind → Type 0 = λ n s k. All (Contains (all_notes c.args.shares.now)) (notes_of n s k) in
    let V : GuardedState g.row.D.Denot → Type 0 = λ x. P (x.ledger.log.base.count + x.start) (drop x.start x.ledger.log.trail) (drop x.start (kinds_of x.ledger.log.base x.ledger.log.trail)) in
    let log = c.self.inside.ledger.log in
    let s = c.steps_from-steps.result.now in
    let steps : s ≡ drop c.self.inside.start log.trail = c.steps_from-steps.ensures ∙ ap (drop c.self.inside.start) c.trail.ensures in
    let k = c.kinds_from-kinds.result.now in
    let kinds : k ≡ drop c.self.inside.start (kinds_of log.base log.trail) = c.kinds_from-kinds.ensures ∙ ap (drop c.self.inside.start) c.kinds.ensures.kinds in
    let others : c.accepted_count.result - length s ≡ log.base.count + c.self.inside.start = omega (arith, c.accepted_count.ensures.value, ap length steps, length-drop c.self.inside.start log.trail, c.self.invariant.3) in (
      λ t. record { ascending = c.if-not-all_ascending.ensures.0 refl; noted = subst V c.self.view_is (rw (sym others) (subst (λ x. P (c.accepted_count.result - length s) x (drop c.self.inside.start (kinds_of log.base log.trail))) steps (subst (P (c.accepted_count.result - length s) s) kinds (c.all_noted.ensures.0 t)))) },
      λ are. c.all_noted.ensures.1 (subst (P (c.accepted_count.result - length s) s) (sym kinds) (subst (λ x. P (c.accepted_count.result - length s) x (drop c.self.inside.start (kinds_of log.base log.trail))) (sym steps) (rw others (subst V (sym c.self.view_is) are.noted)))),
    )
