-- Each event has an answer, and one that releases nothing.
use Rattle.std.proofs.Common.{◌≡◌, ℕ, ◌+◌, List, [], ◌∷◌, map, Option, Some, None, Result, Ok, Err, refl, ap, ◌∙◌, cond, inl, inr, is_some, nat_le}
use Rattle.coord_ledger.specs.Facade.{Answer, Begin, Begun, Collect, Collected, Commit, Crash, Event, Failed, Finish, Finished, FlightOut, Fresh, Good, IsOneOf, Machine, Mark, New, NoFlight, NoTicket, Nothing, Opened, Refusal, Refused, Repeat, Repeated, Reply, Resend, Show, Shown, Step, Submit, Torn, Verdict, Waiting, accepted_count, after, after_finish, after_submit, answers, finished, has_stopped, kept_by, kept_with, next_size, settled_count, settled_world, cannot_flush, ticket, to_collect, to_commit, to_finish, to_submit, verdict, with_flight}
use Rattle.coord_types.specs.declared.refusals.Refusal.TheVariants.{OutOfMemory, Stopped}
use Rattle.coord_store.specs.declared.faults.CommitFault.TheVariants as fault
use Rattle.coord_world.proofs.Facade.{by_test}
use Rattle.coord_ledger.specs.laws.Laws.{HasAnswer}
use Rattle.coord_view.specs.Shown.{shown}

-- one of these answers, of which P holds
abbrev Any : List Answer → (Answer → Type 0) → Type 0
Any given P = (a : Answer) × IsOneOf a given × P a

module _ (s : Machine) where
  -- with it nothing is released
  abbrev Keeps : Event → Answer → Type 0
  Keeps e a = (after s e a).released ≡ s.released

  silent_submit : (x : Step) (v : Result Verdict Refusal) → Any (to_submit (accepted_count s.log + 1) v) (λ a. (after_submit s x v a).released ≡ s.released)
  silent_submit x (Ok (Fresh k)) = (Refused OutOfMemory, inr (inl refl), refl)
  silent_submit x (Ok (Repeat r)) = (Repeated r.step, inl refl, refl)
  silent_submit x (Err e) = (Refused e, inl refl, refl)

  silent_commit : (f : Option FlightOut) → Any (with_flight f (λ g. to_commit g.mark)) (Keeps Commit)
  silent_commit None = (NoFlight, inl refl, refl)
  silent_commit (Some f) = by_mark f.mark
    where
      by_mark : (m : Mark) → Any (to_commit m) (Keeps Commit)
      by_mark New = (Failed fault.OutOfMemory, inr (inr (inl refl)), refl)
      by_mark Good = (Failed fault.Again, inl refl, refl)
      by_mark Torn = (Failed fault.Stopped, inl refl, refl)

  silent_finish : (f : Option FlightOut) → s.flight ≡ f → Any (with_flight f (λ g. to_finish (settled_count s.log) g.size g.mark)) (Keeps Finish)
  silent_finish None out = (NoFlight, inl refl, refl)
  silent_finish (Some f) out = by_mark f.mark refl
    where
      back : (m : Mark) → f.mark ≡ m → (finished s s.flight).released ≡ (after_finish s f.size m).released
      back m mark = ap (λ o. (finished s o).released) out ∙ ap (λ x. (after_finish s f.size x).released) mark

      by_mark : (m : Mark) → f.mark ≡ m → Any (to_finish (settled_count s.log) f.size m) (Keeps Finish)
      by_mark New mark = (Finished (settled_count s.log), inl refl, back New mark)
      by_mark Good mark = (Refused OutOfMemory, inr (inl refl), refl)
      by_mark Torn mark = (Finished (settled_count s.log), inl refl, back Torn mark)

  silent_collect : (i : ℕ) (t : Option Reply) → Any (to_collect (settled_count s.log) t) (Keeps (Collect i))
  silent_collect i None = (NoTicket, inl refl, refl)
  silent_collect i (Some r) =
      by_test (nat_le r.step (settled_count s.log)) (λ b. Any (cond b (Collected r) Waiting ∷ []) (Keeps (Collect i))) (λ _. (Collected r, inl refl, refl)) (λ _. (Waiting, inl refl, refl))

  silent_crash : (f : Option FlightOut) (o : Option ℕ) → Any (map (λ n. Opened (s.log.base.count + n)) (kept_by s.log.settled f o)) (Keeps Crash)
  silent_crash None None = (Opened (s.log.base.count + s.log.settled), inl refl, refl)
  silent_crash None (Some b) = (Opened (s.log.base.count + s.log.settled), inl refl, refl)
  silent_crash (Some f) o = by_mark f.mark
    where
      by_mark : (m : Mark) → Any (map (λ n. Opened (s.log.base.count + n)) (kept_with s.log.settled f.size m)) (Keeps Crash)
      by_mark Good = (Opened (s.log.base.count + (s.log.settled + f.size)), inl refl, refl)
      by_mark m = (Opened (s.log.base.count + s.log.settled), inl refl, refl)

  pub silent : (e : Event) → Any (answers s e) (Keeps e)
  silent (Submit x) = silent_submit x (verdict s.log x)
  silent Begin =
      by_test (cannot_flush (is_some s.flight) s.log) (λ b. Any (cond b (Nothing ∷ []) (Begun (next_size s.log) ∷ Refused OutOfMemory ∷ [])) (Keeps Begin)) (λ _. (Nothing, inl refl, refl)) (λ _. (Refused OutOfMemory, inr (inl refl), refl))
  silent Commit = silent_commit s.flight
  silent Finish = silent_finish s.flight refl
  silent (Collect i) = silent_collect i (ticket s.tickets i)
  silent Resend = (Refused OutOfMemory, inr (inl refl), refl)
  silent Show =
      by_test (has_stopped s.log) (λ b. Any (cond b (Refused Stopped ∷ []) (Shown (shown (accepted_count s.log) (settled_world s.log)) ∷ Refused OutOfMemory ∷ [])) (Keeps Show))
      (λ _. (Refused Stopped, inl refl, refl)) (λ _. (Refused OutOfMemory, inr (inl refl), refl))
  silent Crash = silent_crash s.flight s.log.doubt

pub has_answer : HasAnswer
has_answer s e = ((silent s e).0, (silent s e).1)
