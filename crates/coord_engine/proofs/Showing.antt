-- What a ledger answers to a caller that wants to see it.
use Rattle.std.proofs.Common.{◌≡◌, ℕ, ◌<◌, ◌≤◌, Bool, true, false, List, Result, Ok, Err, refl, sym, subst, arith, MatchResult, OnErr, is_some, nat_lt}
use Rattle.std.proofs.lemmas.Bool.Decides.{nat_tests}
use Rattle.atomic_table.specs.Seated.{TableId}
use Rattle.coord_types.specs.declared.refusals.Refusal.{Refusal}
use Rattle.coord_types.specs.declared.refusals.Refusal.TheVariants.{Behind, OutOfMemory, Stopped}
use Rattle.coord_types.specs.declared.steps.Step.{Step}
use Rattle.coord_ledger.specs.machine.Log.{accepted_count, settled_count, settled_steps, settled_world}
use Rattle.coord_view.specs.Shown.{Shown, shown}
use Rattle.coord_engine.specs.Facade.{AnswersShow, Basis, Beginning, CanHold, GuardedState, HasReadSettled, RefusesShow, Shows}

module _ {D : Type 0} (g : GuardedState D) (seen later : ℕ) where
  -- what the ledger says that it did
  pub record LedgerShows (answer : Result Shown Refusal) : Type 0 where
    pub stopped : is_some g.ledger.log.doubt ≡ true → answer ≡ Err Stopped
    pub behind : is_some g.ledger.log.doubt ≡ false → settled_count g.ledger.log < seen → answer ≡ Err (Behind (settled_count g.ledger.log))
    pub view : is_some g.ledger.log.doubt ≡ false → seen ≤ settled_count g.ledger.log → MatchResult answer (λ v. (v ≡ shown (accepted_count g.ledger.log) (settled_world g.ledger.log)) × (later ≡ settled_count g.ledger.log)) (λ why. why ≡ OutOfMemory)
    pub unseen : OnErr answer (later ≡ seen)

  -- what is shown at that moment
  abbrev Returned : Result Shown Refusal → Type 0
  Returned (Ok view) = Shows view seen later g
  Returned (Err why) = RefusesShow why seen g × (later ≡ seen)

  returned_shown : (answer : Result Shown Refusal) → OnErr answer (later ≡ seen) → is_some g.ledger.log.doubt ≡ false → seen ≤ settled_count g.ledger.log
      → MatchResult answer (λ v. (v ≡ shown (accepted_count g.ledger.log) (settled_world g.ledger.log)) × (later ≡ settled_count g.ledger.log)) (λ why. why ≡ OutOfMemory) → Returned answer
  returned_shown (Ok v) unseen going le is = (going, le, is.0, is.1)
  returned_shown (Err why) unseen going le is = (rw is tt, unseen)

  returned_by : (answer : Result Shown Refusal) → LedgerShows answer → (b c : Bool) → is_some g.ledger.log.doubt ≡ b → nat_lt (settled_count g.ledger.log) seen ≡ c → Returned answer
  returned_by answer is true c b_is c_is = let why = is.stopped b_is in subst Returned (sym why) (b_is, subst (λ r. OnErr r (later ≡ seen)) why is.unseen)
  returned_by answer is false true b_is c_is =
      let lt : settled_count g.ledger.log < seen = grind (arith, nat_tests) in
      let why = is.behind b_is lt in
      subst Returned (sym why) ((refl, lt), subst (λ r. OnErr r (later ≡ seen)) why is.unseen)
  returned_by answer is false false b_is c_is = let le : seen ≤ settled_count g.ledger.log = grind (arith, nat_tests) in returned_shown answer is.unseen b_is le (is.view b_is le)

  module _ (b : Basis D) (is : CanHold b g) (history : TableId) (earlier : List Step) (read : Beginning) (reads : HasReadSettled history earlier (settled_steps g.ledger.log) read) where
    returned_at : (answer : Result Shown Refusal) → Returned answer → AnswersShow b history earlier read answer seen later
    returned_at (Ok view) so = record { state = g; held = is; so = (so, reads) }
    returned_at (Err why) so = (record { state = g; held = is; so = (so.0, reads) }, so.1)

    pub returned : (answer : Result Shown Refusal) → LedgerShows answer → AnswersShow b history earlier read answer seen later
    returned answer shows = returned_at answer (returned_by answer shows (is_some g.ledger.log.doubt) (nat_lt (settled_count g.ledger.log) seen) refl refl)
