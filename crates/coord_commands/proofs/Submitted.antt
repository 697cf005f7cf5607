-- The founder's orders, as far as they are submitted.
use Rattle.std.proofs.Common.{◌≡◌, ℕ, ◌+◌, ◌<◌, List, [], ◌∷◌, ◌++◌, length, take, drop, get_or, Err, sym, ap, ◌∙◌, arith}
use Rattle.coord_store.proofs.Freshness.{split_at, take-push}
use Rattle.coord_store.specs.Recovered.{AllFresh}
use Rattle.coord_types.specs.declared.refusals.Refusal.{Refusal}
use Rattle.coord_types.specs.declared.steps.Command.{Command}
use Rattle.coord_types.specs.declared.steps.Step.{Step}
use Rattle.coord_types.specs.declared.steps.Step.TheVariants.{Order}
use Rattle.coord_world.specs.Facade.{accepts, fold, no_world}
use Rattle.coord_commands.proofs.OneClient.{length-numbered, numbered-append}
use Rattle.coord_commands.specs.Founding.{IsRefusedBy, founder, numbered}

module _ (commands : List Command) (i : ℕ) (x : Command) (steps : List Step) (below : i < length commands) (is : x ≡ get_or commands i x) (submitted : steps ≡ numbered 1 (take i commands)) where
  next_number : 1 + length (take i commands) ≡ length steps + 1
  next_number = omega (arith, ap length submitted ∙ length-numbered 1 (take i commands))

  -- all steps but those that are submitted
  following : (rest : List Command) → numbered 1 (take i commands ++ x ∷ rest) ≡ steps ++ Order founder (length steps + 1) x ∷ numbered (length steps + 1 + 1) rest
  following rest =
      numbered-append 1 (take i commands) (x ∷ rest) ∙ ap (λ l. l ++ numbered (1 + length (take i commands)) (x ∷ rest)) (sym submitted) ∙ ap (λ n. steps ++ numbered n (x ∷ rest)) next_number

  -- with one more
  pub submitted_push : steps ++ Order founder (length steps + 1) x ∷ [] ≡ numbered 1 (take (i + 1) commands)
  submitted_push = sym (ap (numbered 1) (take-push commands i x below is) ∙ following [])

  -- if the next one is refused
  pub refused_next : (reason : Refusal) → AllFresh (no_world 2) (no_world 2) steps → accepts (fold (no_world 2) steps) (no_world 2) (Order founder (length steps + 1) x) ≡ Err reason → IsRefusedBy (numbered 1 commands) reason
  refused_next reason fresh why =
      record {
        front = steps;
        refused = Order founder (length steps + 1) x;
        rest = numbered (length steps + 1 + 1) (drop (i + 1) commands);
        split = ap (numbered 1) (split_at commands i x below is) ∙ following (drop (i + 1) commands);
        fresh = fresh;
        why = why;
      }
