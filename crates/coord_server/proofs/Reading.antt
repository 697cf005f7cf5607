-- What a desk has read of its engine's history.
use Rattle.std.proofs.Common.{◌≡◌, ℕ, List, Result, Ok, Err, [], ◌∷◌, ◌++◌, drop, length, refl, sym, ap, ◌∙◌, append_assoc, append-nil, subst}
use Rattle.atomic_table.specs.Seated.{TableId}
use Rattle.coord_types.specs.declared.refusals.Refusal.{Refusal}
use Rattle.coord_types.specs.declared.steps.Reply.{Reply}
use Rattle.coord_types.specs.declared.steps.Step.{Step}
use Rattle.coord_view.specs.Shown.{Shown}
use Rattle.coord_ledger.specs.Facade.{Claim, settled_steps}
use Rattle.coord_engine.specs.Facade.{AnswersShow, AnswersTicket, AtMomentRead, Basis, Beginning, CollectsAs, HasReadSettled, IsReturnedToTicket, RefusesShow, Shows, StartsWith}
use Rattle.coord_engine.specs.State.{GuardedState}
use Rattle.coord_engine.specs.declared.collected.Collected.TheVariants.{Refused, Settled}
use Rattle.coord_server.specs.EngineDesk.{AtMomentAnswered, IsReadIn, Replies, ShowsTo, read_in, without_ticket}

drop_all : (xs ys : List Step) → drop (length xs) (xs ++ ys) ≡ ys
drop_all [] ys = refl
drop_all (x ∷ xs) ys = drop_all xs ys

cancel : (xs ys zs : List Step) → xs ++ ys ≡ xs ++ zs → ys ≡ zs
cancel xs ys zs is = sym (drop_all xs ys) ∙ ap (drop (length xs)) is ∙ drop_all xs zs

-- after the same steps
pub begins_after : (earlier first later : List Step) → StartsWith (earlier ++ later) (earlier ++ first) → StartsWith later first
begins_after earlier first later (others, is) = (others, cancel earlier later (first ++ others) (is ∙ append_assoc earlier first others))

-- what was read after earlier steps
pub read_back : (history : TableId) (earlier settled : List Step) (read : Beginning) → HasReadSettled history earlier settled read → read_in earlier read ≡ settled
read_back history earlier settled read is = ap (λ (r : Beginning). drop (length earlier) r.steps) is ∙ drop_all earlier settled

pub is_read : (history : TableId) (earlier settled : List Step) (read : Beginning) → HasReadSettled history earlier settled read → IsReadIn history earlier read
is_read history earlier settled read is = subst (λ steps. HasReadSettled history earlier steps read) (sym (read_back history earlier settled read is)) is

-- nothing was read after them
pub reads_nothing : (history : TableId) (earlier : List Step) (read : Beginning) → read ≡ record { history = history; steps = earlier } → HasReadSettled history earlier [] read
reads_nothing history earlier read is = is ∙ ap (λ steps. record { history = history; steps = steps }) (sym (append-nil earlier))

-- some steps that were read begin with others
pub begins_so : (history : TableId) (earlier first later : List Step) (before now : Beginning) → HasReadSettled history earlier first before → HasReadSettled history earlier later now → StartsWith now.steps before.steps → StartsWith later first
begins_so history earlier first later before now was is begins =
    begins_after earlier first later
    (subst (λ steps. StartsWith steps (earlier ++ first)) (ap (λ (r : Beginning). r.steps) is)
    (subst (λ steps. StartsWith now.steps steps) (ap (λ (r : Beginning). r.steps) was) begins))

module _ {D : Type 0} (b : Basis D) (history : TableId) (earlier : List Step) (before now : Beginning) (P : GuardedState D → Type 0) where
  -- what is so at a moment of which the settled steps were read
  pub returned_at : IsReadIn history earlier before → StartsWith now.steps before.steps → AtMomentRead b history earlier now P → AtMomentAnswered b (read_in earlier before) (read_in earlier now) P
  returned_at was begins is = record {
    at = record { state = is.state; held = is.held; so = (is.so.0, sym (read_back history earlier (settled_steps is.state.ledger.log) now is.so.1)) };
    begins = begins_so history earlier (read_in earlier before) (read_in earlier now) before now was (is_read history earlier (settled_steps is.state.ledger.log) now is.so.1) begins;
  }

  pub read_at : AtMomentRead b history earlier now P → IsReadIn history earlier now
  read_at is = is_read history earlier (settled_steps is.state.ledger.log) now is.so.1

-- what a desk collects, which reads on
pub collected : {D : Type 0} (b : Basis D) (history : TableId) (earlier : List Step) (before now : Beginning) (claim : Claim) (answer : Result Reply (Refusal × Claim)) (result : Result Reply Refusal) → IsReadIn history earlier before → StartsWith now.steps before.steps → AnswersTicket b history earlier now claim answer
    → result ≡ without_ticket answer → Replies b (Ok claim) result (read_in earlier before) (read_in earlier now)
collected b history earlier before now claim answer result was begins is same = subst (λ r. Replies b (Ok claim) r (read_in earlier before) (read_in earlier now)) (sym same) (of answer is)
  where
    of : (a : Result Reply (Refusal × Claim)) → AnswersTicket b history earlier now claim a → Replies b (Ok claim) (without_ticket a) (read_in earlier before) (read_in earlier now)
    of (Ok reply) so = returned_at b history earlier before now (λ g. CollectsAs g.ledger claim (Settled reply)) was begins so
    of (Err (refusal, back)) so = returned_at b history earlier before now (λ g. CollectsAs g.ledger claim (Refused refusal claim)) was begins (record { state = so.state; held = so.held; so = ((refl, so.so.0.1), so.so.1) })

pub read_collected : {D : Type 0} (b : Basis D) (history : TableId) (earlier : List Step) (now : Beginning) (claim : Claim) (answer : Result Reply (Refusal × Claim)) → AnswersTicket b history earlier now claim answer → IsReadIn history earlier now
read_collected b history earlier now claim answer is = read_at b history earlier now now (λ g. IsReturnedToTicket g.ledger claim answer) is

-- what is shown to a desk that reads on
pub shows_to : {D : Type 0} (b : Basis D) (history : TableId) (earlier : List Step) (before now : Beginning) (result : Result Shown Refusal) (seen later : ℕ) → IsReadIn history earlier before → StartsWith now.steps before.steps → AnswersShow b history earlier now result seen later → ShowsTo b result seen later (read_in earlier before) (read_in earlier now)
shows_to b history earlier before now (Ok view) seen later was begins is = returned_at b history earlier before now (Shows view seen later) was begins is
shows_to b history earlier before now (Err why) seen later was begins is = (returned_at b history earlier before now (RefusesShow why seen) was begins is.0, is.1)

pub read_shown : {D : Type 0} (b : Basis D) (history : TableId) (earlier : List Step) (now : Beginning) (result : Result Shown Refusal) (seen later : ℕ) → AnswersShow b history earlier now result seen later → IsReadIn history earlier now
read_shown b history earlier now (Ok view) seen later is = read_at b history earlier now now (Shows view seen later) is
read_shown b history earlier now (Err why) seen later is = read_at b history earlier now now (RefusesShow why seen) is.0
