-- What calls leave of a driver: its flight, its disk, its tickets and how often the device has failed.
use Rattle.std.proofs.Common.{◌+◌, ◌-◌, ◌∙◌, arith, ◌≡◌, Bool, true, false, length, take, Option, Some, None, Ok, Err, refl, sym, ap, subst, Result, IfOk, IsSomeAnd, ◌≤◌, [], ◌∷◌, ℕ, List, inl, inr, OnErr, ◌++◌, zero, suc, ◌<◌, slice_set, slice_index_or}
use Rattle.std.proofs.lemmas.Bool.Decides.{nat_tests}
use Rattle.std.proofs.lemmas.List.{length-take, take-append-le, set-set, set-get_or}
use Rattle.std.specs.Option.{option_map}
use Rattle.coord_types.specs.declared.limits.TheConstants.{MAX_BATCH_STEPS}
use Rattle.coord_ledger.specs.Facade.{FlightState, IsOut, LedgerState, keeps_store, next_flight, pending, releases_in, settling_releases, taken_back, with_store_out, Handed, HandedTo, HoldsFlight, IsConsistentLog, Refusal, Step, with_accepted, Answer, Crash, Event, FollowsTo, ImagesGiveOneOf, IsCutShort, IsEventFault, IsPromised, IsReopenFault, Log, Machine, Release, Run, RunFaultKind, world_after, Commit, HasFailed, failed_at, failed_in_run, failed_until, spent, ticket}
use Rattle.coord_ledger.proofs.follows.Follows.{next_is_out}
use Rattle.coord_ledger.proofs.machine.Logs.{pending_with}
use Rattle.coord_disk.specs.Model.Present.{Present}
use Rattle.coord_store.proofs.Exclusion.{recovered_is_opened}
use Rattle.coord_ledger.specs.declared.trace.RunFaultKind.TheVariants.{OutOfMemory, Store}
use Rattle.coord_store.specs.Faults.{failures_in}
use Rattle.coord_store.specs.declared.faults.CommitFault.{CommitFault}
use Rattle.coord_ledger.proofs.runs.EachMoment.{commit_answer}

-- ---- flight and disk

-- a flight goes out exactly when the store leaves home
pub record Departs {D : Type 0} (l left : LedgerState D) (f : FlightState D) : Type 0 where
  pub goes : keeps_store l ≡ false
  pub is : f ≡ next_flight l.log f.disk
  pub home : l.disk ≡ Some f.disk
  pub now : left ≡ with_store_out l (length f.steps)

pub departs_own : {D : Type 0} (l left : LedgerState D) (f : FlightState D) → Departs l left f → IsOut left f
departs_own l left f departs =
    let steps : f.steps ≡ take MAX_BATCH_STEPS (pending l.log) = ap (λ (g : FlightState _). g.steps) departs.is in
    let same : left ≡ with_store_out l (length (take MAX_BATCH_STEPS (pending l.log))) = departs.now ∙ ap (λ k. with_store_out l (length k)) steps in
    rw same (subst (IsOut (with_store_out l (length (take MAX_BATCH_STEPS (pending l.log))))) (sym departs.is) (next_is_out l f.disk))

-- as the call says it
abbrev IsBegun : {D : Type 0} → LedgerState D → LedgerState D → Option (FlightState D) → Type 0
IsBegun l left o = IsSomeAnd o (λ f. (f ≡ next_flight l.log f.disk) × (l.disk ≡ Some f.disk) × (left ≡ with_store_out l (length f.steps)))

module _ {D E : Type 0} (l left : LedgerState D) (r : Result (Option (FlightState D)) E) (nothing : keeps_store l ≡ true → (r ≡ Ok None) × (left ≡ l)) (begun : keeps_store l ≡ false → IfOk r (IsBegun l left)) where
  pub begun_some : (f : FlightState D) → r ≡ Ok (Some f) → Departs l left f
  begun_some f is = grind (arith, nat_tests)

  pub begun_none : r ≡ Ok None → (keeps_store l ≡ true) × (left ≡ l)
  begun_none is = grind (arith, nat_tests)

  pub begun_err : (e : E) → r ≡ Err e → keeps_store l ≡ false
  begun_err e is = grind (arith, nat_tests)

-- ---- a flight comes back

module _ {D : Type 0} (l new : LedgerState D) (f : FlightState D) (taken : new ≡ taken_back l (length f.steps) f.mark f.disk) where
  pub same_base : new.log.base ≡ l.log.base
  same_base = grind (arith, nat_tests)

  -- a flight that comes back gives what the steps release that are settled
  pub gave : IsOut l f → releases_in f f.mark ≡ settling_releases l.log (new.log.settled - l.log.settled)
  gave own = grind (arith, nat_tests)

-- ---- a submitted step leaves them

-- a flight that is out stays the ledger's own while a step is accepted
pub own_later : {D : Type 0} (l : LedgerState D) (x : Step) (f : Option (FlightState D)) → IsConsistentLog l.log → HoldsFlight l f → HoldsFlight (with_accepted l x) f
own_later l x f h1 h2 = grind (arith, nat_tests, length-take, pending_with, take-append-le)

pub record Submitted {D : Type 0} (l new : LedgerState D) (f : Option (FlightState D)) : Type 0 where
  pub own : HoldsFlight new f
  pub disk : new.disk ≡ l.disk

pub submitted : {D : Type 0} (l new : LedgerState D) (f : Option (FlightState D)) (x : Step) (r : Result Handed Refusal) → IsConsistentLog l.log → HoldsFlight l f → HandedTo l x r new → Submitted l new f
submitted l new f x r h1 h2 h3 = grind (arith, nat_tests, own_later)

-- ---- what a driver makes of the event that a call was

pub answered : {D E : Type 0} (s : Machine) (e what : Event) (r answer : Result Answer E) (h new : Run D) (a : Answer) → IfOk r (λ x. FollowsTo s what x new) → answer ≡ r → answer ≡ Ok a → e ≡ what → h ≡ new → FollowsTo s e a h
answered s e what r answer h new a to says ok event held = grind (arith, nat_tests)

pub cut_short : {D E : Type 0} (s : Machine) (e what : Event) (r answer : Result Answer E) (h new : Run D) (x : E) (kind : RunFaultKind) (released : List Release) → OnErr r (IsCutShort s what OutOfMemory new.released.items) → answer ≡ r → answer ≡ Err x → e ≡ what → h ≡ new → released ≡ h.released.items → kind ≡ OutOfMemory →
    IsCutShort s e kind released
cut_short s e what r answer h new x kind released h1 h2 h3 h4 h5 h6 h7 = grind (arith, nat_tests)

pub on_err_map : {A E X Y : Type 0} (r : Result A E) → (X → Y) → OnErr r X → OnErr r Y
on_err_map (Ok a) f x = tt
on_err_map (Err e) f x = f x

-- ---- what a driver makes of a crash

pub some_is : (b : Bool) → Some b ≡ Some true → b ≡ true
some_is true is = refl
some_is false is = cc

pub crash_on : (model : Option Bool) → IsPromised model Crash → model ≡ Some true
crash_on model (inl on) = on
crash_on model (inr other) = let none : ⊥ = cc in absurd none

pub crash_fault : (model : Option Bool) (b : Bool) (present lost : Present) (log : Log) (counts : List ℕ) (k : RunFaultKind) → model ≡ Some b → ImagesGiveOneOf b present log counts → IsReopenFault b present lost k → IsEventFault model Crash k
crash_fault model b present lost log counts OutOfMemory is images cause = refl
crash_fault model b present lost log counts (Store fault) is images cause = (
  refl,
  cause.0,
  λ on. let keeps = some_is b (sym is ∙ on) in
      let refused = cause.1 keeps in
      let one = images keeps refused.image refused.allowed in
      recovered_is_opened refused.image (world_after log one.steps) fault one.recovered refused.refused,
)

-- ---- how often the device has failed

-- of the disk that is held
pub failed_so : {D : Type 0} (failures : D → ℕ) (o : Option D) (disk : D) (n : ℕ) → HasFailed failures o n → o ≡ Some disk → failures disk ≡ n
failed_so failures o disk n so there = let is : Some (failures disk) ≡ Some n = sym (ap (option_map failures) there) ∙ so in cc

pub so_failed : {D : Type 0} (failures : D → ℕ) (o : Option D) (disk : D) (n : ℕ) → o ≡ Some disk → failures disk ≡ n → HasFailed failures o n
so_failed failures o disk n there is = ap (option_map failures) there ∙ ap Some is

pub failed_same : {D : Type 0} (failures : D → ℕ) (o p : Option D) (n : ℕ) → p ≡ o → HasFailed failures o n → HasFailed failures p n
failed_same failures o p n same so = ap (option_map failures) same ∙ so

pub failed_as : {D : Type 0} (failures : D → ℕ) (o : Option D) (m n : ℕ) → m ≡ n → HasFailed failures o m → HasFailed failures o n
failed_as failures o m n same so = so ∙ ap Some same

-- one event more
pub failed_on : (es : List Event) (given : List Answer) (e : Event) (a : Answer) → length given ≡ length es → failed_until (es ++ e ∷ []) (given ++ a ∷ []) ≡ failed_until es given + failed_at e a
failed_on [] [] e a many = omega arith
failed_on [] (b ∷ given) e a many = absurd (omega (arith, many))
failed_on (x ∷ es) [] e a many = absurd (omega (arith, many))
failed_on (x ∷ es) (b ∷ given) e a many = let later = failed_on es given e a (omega (arith, many)) in omega (arith, later)

-- a commit's answer says how often its device failed
commit_answer_failed : {T : Type 0} (r : Result T CommitFault) → failures_in r ≡ failed_at Commit (commit_answer r)
commit_answer_failed (Ok done) = refl
commit_answer_failed (Err why) = refl

pub failed_committing : {D T : Type 0} (failures : D → ℕ) (o p : Option D) (d e : D) (r : Result T CommitFault) (a : Answer) (n : ℕ) → o ≡ Some d → p ≡ Some e → failures e ≡ failures d + failures_in r → a ≡ commit_answer r → HasFailed failures o n → HasFailed failures p (n + failed_at Commit a)
failed_committing failures o p d e r a n there now is says so = grind (arith, nat_tests, failed_so, so_failed, commit_answer_failed)

-- another event does not
pub failed_aside : {D : Type 0} (failures : D → ℕ) (o p : Option D) (e what : Event) (a : Answer) (n : ℕ) → e ≡ what → failed_at what a ≡ 0 → p ≡ o → HasFailed failures o n → HasFailed failures p (n + failed_at e a)
failed_aside failures o p e what a n event none same so = grind (arith, nat_tests, failed_as, failed_same)

-- out of memory: the disk is returned unchanged
pub failed_giving_up : {D : Type 0} (failures : D → ℕ) (o : Option D) (lost : D) (kind : RunFaultKind) (n : ℕ) → o ≡ Some lost → kind ≡ OutOfMemory → HasFailed failures o n → failures lost ≡ n + failed_in_run kind
failed_giving_up failures o lost kind n there memory so = grind (arith, nat_tests, failed_so)

-- ---- tickets by their index

pub ticket_past : {A : Type 0} (ts : List (Option A)) (i : ℕ) → length ts ≤ i → ticket ts i ≡ None
ticket_past [] i past = refl
ticket_past (t ∷ ts) zero past = absurd (omega (arith, past))
ticket_past (t ∷ ts) (suc i) past = ticket_past ts i (omega (arith, past))

pub ticket_within : {A : Type 0} (ts : List (Option A)) (i : ℕ) (t : Option A) → i < length ts → t ≡ slice_index_or ts i t → ticket ts i ≡ t
ticket_within [] i t below is = absurd (omega (arith, below))
ticket_within (x ∷ ts) zero t below is = sym is
ticket_within (x ∷ ts) (suc i) t below is = ticket_within ts i t (omega (arith, below)) is

pub spent_is : {A : Type 0} (ts : List (Option A)) (i : ℕ) → slice_set ts i None ≡ spent ts i
spent_is [] i = refl
spent_is (t ∷ ts) zero = refl
spent_is (t ∷ ts) (suc i) = ap (λ l. t ∷ l) (spent_is ts i)

-- an element that is set to its old value
pub set_same : {A : Type 0} (ts : List A) (i : ℕ) (t : A) → t ≡ slice_index_or ts i t → slice_set ts i t ≡ ts
set_same ts i t is = ap (slice_set ts i) is ∙ set-get_or ts i t

-- an element that was taken out and put back
pub put_back : {A : Type 0} (ts : List A) (i : ℕ) (t other back : A) → t ≡ slice_index_or ts i t → back ≡ t → slice_set (slice_set ts i other) i back ≡ ts
put_back ts i t other back is same = set-set ts i other back ∙ ap (slice_set ts i) same ∙ set_same ts i t is
