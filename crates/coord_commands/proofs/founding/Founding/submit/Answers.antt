use Rattle.std.proofs.Common.{◌≡◌, ◌∙◌, ℕ, ◌+◌, List, [], ◌∷◌, ◌++◌, Ok, ap, sym, subst, length, length-append, arith, rules}
use Rattle.coord_store.proofs.Freshness.{fold-push, fresh-push}
use Rattle.coord_store.specs.Recovered.{AllFresh}
use Rattle.coord_types.specs.Table.{get}
use Rattle.coord_types.specs.declared.steps.Step.{Step}
use Rattle.coord_types.specs.declared.steps.Step.TheVariants.{Order}
use Rattle.coord_world.specs.Facade.{IsFresh, World, fold, last_number, next, no_world}
use Rattle.coord_commands.specs.Founding.{founder}
use Rattle.coord_commands.proofs.OneClient.{last_after, no_repeat}
use Rattle.coord_commands.proofs.founding.Founding.submit.Goals as goal

pub unreachable-requires : goal.unreachable-requires
unreachable-requires c =
    let f = c.args.self.now in
    let size : length f.steps.items ≡ c.len.result = search rules in
    let last : last_number (get f.world.sessions c.founder.result) ≡ c.len.result =
    ap (λ (n : ℕ). last_number (get f.world.sessions n)) c.founder.ensures ∙ c.requires.numbered ∙ size in
    no_repeat f.world f.settled c.founder.result c.len.result c.args.command.now c.in-Ok-Repeat.field-0-0 last
    (sym c.judge.ensures.value ∙ c.in-Ok-Repeat.is ∙ ap (λ v. Ok v) c.in-Ok-Repeat.field-0-is)

pub returns-clause-under_way : goal.returns-clause-under_way
returns-clause-under_way c =
    let f = c.args.self.now in
    let steps = f.steps.items in
    let size : length steps ≡ c.len.result = search rules in
    let step : Step = Order c.founder.result (c.len.result + 1) c.args.command.now in
    let items : c.extend_from_slice.new.self.items ≡ steps ++ step ∷ [] = c.in_ok-extend_from_slice.ensures.items in
    let here : IsFresh f.world f.settled step = c.judge.ensures.fresh c.in-Ok-Fresh.field-0-0 (c.in-Ok-Fresh.is ∙ ap (λ v. Ok v) c.in-Ok-Fresh.field-0-is) in
    let fresh : IsFresh (fold (no_world 2) steps) (no_world 2) step =
    subst (λ (w : World). IsFresh w (no_world 2) step) c.requires.world (subst (λ (w : World). IsFresh f.world w step) c.requires.nothing_settled here) in
    let last : last_number (get c.apply.new.self.sessions founder) ≡ c.len.result + 1 =
    ap (λ (w : World). last_number (get w.sessions founder)) c.in_ok-apply.ensures.world
    ∙ ap (λ (n : ℕ). last_number (get (next f.world step).sessions n)) (sym c.founder.ensures)
    ∙ last_after f.world c.founder.result (c.len.result + 1) c.args.command.now in
    let long : c.len.result + 1 ≡ length c.extend_from_slice.new.self.items = omega (arith, size, ap length items, length-append steps (step ∷ [])) in
    record {
      nothing_settled = c.requires.nothing_settled;
      world = c.in_ok-apply.ensures.world ∙ ap (λ (w : World). next w step) c.requires.world ∙ sym (fold-push steps (no_world 2) step) ∙ sym (ap (λ (l : List Step). fold (no_world 2) l) items);
      fresh = subst (λ (l : List Step). AllFresh (no_world 2) (no_world 2) l) (sym items) (fresh-push steps (no_world 2) (no_world 2) step c.requires.fresh fresh);
      legal = c.apply.ensures.legal;
      numbered = last ∙ long;
    }
