-- What the types of a ledger and of a flight keep, through each call.
use Rattle.std.proofs.Common.{◌≡◌, ℕ, ◌≤◌, List, [], ◌∷◌, ◌++◌, length, take, drop, Option, Some, None, IfSome, IfNone, Ok, refl, sym, ap, ◌∙◌, subst, arith}
use Rattle.std.proofs.lemmas.Bool.Decides.{nat_tests}
use Rattle.std.proofs.Math.Seq.{take-length}
use Rattle.std.proofs.lemmas.List.{drop-drop, length-append, length-drop, length-take, take-append-le}
use Rattle.std.specs.List.{AllByRecursion}
use Rattle.coord_batch.specs.Batches.{IsNumbered}
use Rattle.coord_node.specs.Steps.{kind}
use Rattle.coord_store.proofs.Freshness.{fold-push}
use Rattle.coord_store.specs.Facade.{AllFresh, Kept}
use Rattle.coord_types.specs.declared.limits.TheConstants.{MAX_BATCH_STEPS}
use Rattle.coord_ledger.specs.Facade.{FitsOut, FlightState, Fresh, Good, IsConsistentLog, Kind, Log, New, Output, Step, Torn, accepted_count, front_world, kinds_of, pending, settled_count, settled_world, verdict, with_doubt, with_settled, with_step}
use Rattle.coord_types.specs.declared.steps.Step.TheVariants.{Order, Take, Clear}
use Rattle.coord_world.proofs.Facade.{fresh_number, itself, trail_keeps_worlds, verdict_fresh, verdict_kind}
use Rattle.coord_world.specs.Facade.{IsFresh, Legal, StepInRange, World, fold, next, outputs, state}
use Rattle.coord_ledger.specs.code.Holding.{IsAway, IsCarried, IsFlight, IsHome, IsLedger, doubted, outputs_of}
use Rattle.coord_ledger.proofs.follows.Granted.{outputs_of-drop, outputs_of-push}
use Rattle.coord_ledger.proofs.machine.ConsistentSteps.{accepted_stays}
use Rattle.coord_ledger.proofs.machine.Verdicts.{verdict_accepts}
use Rattle.coord_ledger.proofs.machine.Replies.{kinds_of-length, kinds_of-push}
use Rattle.coord_ledger.proofs.machine.Logs.{count_after, count_front, doubted_stays, fresh_first, front_is, log_stays, pending_with, world-add}

-- an order that is fresh is numbered from 1
numbered_one : (w settled : World) (s : Step) → IsFresh w settled s → IsNumbered s
numbered_one w settled (Order c n x) fresh = omega (arith, fresh_number w settled c n x fresh)
numbered_one w settled (Take p) fresh = tt
numbered_one w settled (Clear p) fresh = tt

pub numbered : (steps : List Step) (settled w : World) → AllFresh settled w steps → AllByRecursion IsNumbered steps
numbered [] settled w fresh = tt
numbered (s ∷ steps) settled w fresh = (numbered_one w settled s fresh.0, numbered steps settled (next w s) fresh.1)

-- no step of a flight goes away
away_with : (log : Log) (s : Step) (out : ℕ) → IsAway log out → IsAway (with_step log s) out
away_with log s out away = grind (arith, nat_tests, length-append)

-- the next steps are not too many
length_next : (xs : List Step) → length (take MAX_BATCH_STEPS xs) ≤ MAX_BATCH_STEPS
length_next xs = omega (arith, length-take MAX_BATCH_STEPS xs)

-- the outputs with one more step
given_with : (log : Log) (s : Step) (given : List (List Output)) (front : World) → log.settled ≤ length log.trail → IsConsistentLog log → given ≡ outputs_of (settled_world log) (pending log) → front ≡ front_world log
    → given ++ outputs front s ∷ [] ≡ outputs_of (settled_world (with_step log s)) (pending (with_step log s))
given_with log s given front le is same led = grind (arith, nat_tests, front_is, outputs_of-push, pending_with, take-append-le)

-- the outputs that remain once the next n steps are settled
given_after : (log : Log) (n : ℕ) (given : List (List Output)) → given ≡ outputs_of (settled_world log) (pending log) → drop n given ≡ outputs_of (settled_world (with_settled log n)) (pending (with_settled log n))
given_after log n given same = grind (arith, nat_tests, outputs_of-drop, world-add, drop-drop)

module _ {D : Type 0} where
  -- ---- one step more

  module _ (log : Log) (s : Step) (going : log.doubt ≡ None) where
    home_with : (kept : Kept D) → log.settled ≤ length log.trail → IsHome log kept → IsHome (with_step log s) kept
    home_with kept le home = record { world_is = home.world_is ∙ sym (ap (fold log.base) (take-append-le log.settled log.trail (s ∷ []) le)); torn_is = home.torn_is ∙ ap (doubted log) going ∙ sym (ap (doubted (with_step log s)) going) }

    if_home_with : (store : Option (Kept D)) → log.settled ≤ length log.trail → IfSome store (IsHome log) → IfSome store (IsHome (with_step log s))
    if_home_with None le home = tt
    if_home_with (Some kept) le home = home_with kept le home

    if_away_with : (store : Option (Kept D)) (out : ℕ) → IfNone store (IsAway log out) → IfNone store (IsAway (with_step log s) out)
    if_away_with None out away = away_with log s out away
    if_away_with (Some kept) out away = tt

    pub accepted : (kinds : List Kind) (given : List (List Output)) (front settled : World) (out : ℕ) (store : Option (Kept D)) (k : Kind) → IsLedger {D = D} log kinds given front settled out store → IsConsistentLog (with_step log s)
        → k ≡ kind (state front) s → IsLedger (with_step log s) (kinds ++ k ∷ []) (given ++ outputs front s ∷ []) (next front s) settled out store
    accepted kinds given front settled out store k is consistent same =
        let le = is.consistent.within in
        record {
          consistent = consistent;
          kinds_are = ap (λ l. l ++ k ∷ []) is.kinds_are ∙ ap (λ x. kinds_of log.base log.trail ++ x ∷ []) (same ∙ ap (λ w. kind (state w) s) is.front_is) ∙ sym (kinds_of-push log.trail log.base s);
          given_is = given_with log s given front le is.consistent is.given_is is.front_is;
          front_is = ap (λ w. next w s) is.front_is ∙ sym (fold-push log.trail log.base s);
          settled_is = is.settled_is ∙ sym (ap (fold log.base) (take-append-le log.settled log.trail (s ∷ []) le));
          doubt_within = rw going tt;
          home = if_home_with store le is.home;
          away = if_away_with store out is.away;
        }

  -- ---- flights

  -- the next steps go out
  pub flies : (log : Log) (kinds : List Kind) (given : List (List Output)) (front settled : World) (out : ℕ) (kept : Kept D) (steps : List Step) (later : World) → IsLedger log kinds given front settled out (Some kept) → log.doubt ≡ None
      → steps ≡ take MAX_BATCH_STEPS (pending log) → later ≡ fold (settled_world log) steps → 1 ≤ length steps → IsFlight steps kept.world (Some later) New kept
  flies log kinds given front settled out kept steps later is going same led some =
      let w = settled_world log in
      let world = kept.world in
      let here : world ≡ w = is.home.world_is in
      let fresh : AllFresh w w (take MAX_BATCH_STEPS (pending log)) = fresh_first MAX_BATCH_STEPS (pending log) w w is.consistent.fresh in
      let flown : AllFresh world world steps = rw same (rw here fresh) in
      record {
        some = some;
        most = omega (arith, ap length same, length_next (pending log));
        numbered = numbered steps world world flown;
        fresh = flown;
        world_is = refl;
        torn_is = is.home.torn_is ∙ ap (doubted log) going;
        next_is = led ∙ ap (λ v. fold v steps) (sym here);
      }

  -- the store is away with them
  pub sent_away : (log : Log) (kinds : List Kind) (given : List (List Output)) (front settled : World) (out n : ℕ) (store later : Option (Kept D)) (steps : List Step) → IsLedger log kinds given front settled out store → log.doubt ≡ None → steps ≡ take MAX_BATCH_STEPS (pending log) → 1 ≤ length steps
      → later ≡ None → n ≡ length steps → IsLedger log kinds given front settled n later
  sent_away log kinds given front settled out n store later steps is going same some gone size =
      let fits : FitsOut log n = record {
        some = omega (arith, some, size);
        most = omega (arith, size, ap length same, length_next (pending log));
        within = omega (arith, size, ap length same, length-take MAX_BATCH_STEPS (pending log), length-drop log.settled log.trail, is.consistent.within);
      } in
      rw gone (record {
        consistent = is.consistent;
        kinds_are = is.kinds_are;
        given_is = is.given_is;
        front_is = is.front_is;
        settled_is = is.settled_is;
        doubt_within = is.doubt_within;
        home = tt;
        away = record { fits = fits; going = going };
      })

  -- a flight comes back that was torn
  pub back_torn : (log : Log) (kinds : List Kind) (given : List (List Output)) (front settled : World) (out any : ℕ) (kept : Kept D) (f : FlightState D) → IsLedger {D = D} log kinds given front settled out None → IsCarried f kept → f.mark ≡ Torn
      → f.world ≡ settled_world log → out ≡ length f.steps → f.steps ≡ take (length f.steps) (pending log) → IsLedger (with_doubt log (length f.steps)) kinds given front settled any (Some kept)
  back_torn log kinds given front settled out any kept f is carried torn at size same = grind (arith, nat_tests, world-add, doubted_stays, front_is)

  -- one that was committed
  pub back_good : (log : Log) (kinds : List Kind) (given left : List (List Output)) (front settled later : World) (out any : ℕ) (kept : Kept D) (f : FlightState D) → IsLedger {D = D} log kinds given front settled out None → IsCarried f kept → f.mark ≡ Good
      → f.world ≡ settled_world log → out ≡ length f.steps → f.steps ≡ take (length f.steps) (pending log) → left ≡ drop (length f.steps) given → later ≡ fold f.world f.steps → IsLedger (with_settled log (length f.steps)) kinds left front later any (Some kept)
  back_good log kinds given left front settled later out any kept f is carried good at size same rest led = grind (arith, nat_tests, world-add, log_stays, given_after, front_is)

  -- ---- what the front takes

  pub legal_front : (log : Log) (kinds : List Kind) (given : List (List Output)) (front settled : World) (out : ℕ) (store : Option (Kept D)) → IsLedger log kinds given front settled out store → Legal front
  legal_front log kinds given front settled out store is =
      subst Legal (ap (fold log.base) (take-length log.trail) ∙ sym is.front_is) (trail_keeps_worlds log.base log.trail (length log.trail) is.consistent.trail).legal

  pub legal_settled : (log : Log) (kinds : List Kind) (given : List (List Output)) (front settled : World) (out : ℕ) (store : Option (Kept D)) → IsLedger log kinds given front settled out store → Legal settled
  legal_settled log kinds given front settled out store is =
      subst Legal (sym is.settled_is) (trail_keeps_worlds log.base log.trail log.settled is.consistent.trail).legal

  pub fresh_front : (log : Log) (kinds : List Kind) (given : List (List Output)) (front settled : World) (out : ℕ) (store : Option (Kept D)) (s : Step) (k : Kind) → IsLedger log kinds given front settled out store
      → verdict log s ≡ Ok (Fresh k) → IsFresh front front s
  fresh_front log kinds given front settled out store s k is said =
      let fresh = verdict_fresh (front_world log) (settled_world log) s k (verdict_accepts log s k said).fresh in
      rw is.front_is (itself (front_world log) (settled_world log) s fresh)

  -- the next steps are fresh over the settled world
  pub fresh_next : (log : Log) (kinds : List Kind) (given : List (List Output)) (front settled : World) (out : ℕ) (store : Option (Kept D)) (steps : List Step) → IsLedger log kinds given front settled out store → steps ≡ take (length steps) (pending log)
      → AllFresh settled settled steps
  fresh_next log kinds given front settled out store steps is same = grind (arith, nat_tests, fresh_first)

  -- the next steps, if there are no others after them, lead to the front
  pub front_after : (log : Log) (kinds : List Kind) (given : List (List Output)) (front settled : World) (out : ℕ) (store : Option (Kept D)) (steps : List Step) → IsLedger log kinds given front settled out store → steps ≡ take (length steps) (pending log)
      → length steps ≡ length (pending log) → front ≡ fold (settled_world log) steps
  front_after log kinds given front settled out store steps is same all =
      is.front_is ∙ sym (front_is log is.consistent) ∙ ap (fold (settled_world log)) (sym (same ∙ ap (λ n. take n (pending log)) all ∙ take-length (pending log)))

  -- with a step that was judged fresh
  pub took_step : (base : World) (trail : List Step) (done : ℕ) (doubt : Option ℕ) (kinds : List Kind) (given : List (List Output)) (front settled : World) (out : ℕ) (store : Option (Kept D)) (s : Step) (k : Kind) (longer : List Step) (more : List Kind) (also : List (List Output)) (later : World)
      → IsLedger (record { base = base; trail = trail; settled = done; doubt = doubt }) kinds given front settled out store → verdict (record { base = base; trail = trail; settled = done; doubt = doubt }) s ≡ Ok (Fresh k) → StepInRange s
      → longer ≡ trail ++ s ∷ [] → more ≡ kinds ++ k ∷ [] → also ≡ given ++ outputs front s ∷ [] → later ≡ next front s → IsLedger (record { base = base; trail = longer; settled = done; doubt = doubt }) more also later settled out store
  took_step base trail done (Some b) kinds given front settled out store s k longer more also later is said named t m g w = cc
  took_step base trail done None kinds given front settled out store s k longer more also later is said named t m g w =
      let log : Log = record { base = base; trail = trail; settled = done; doubt = None } in
      let kind_is : k ≡ kind (state front) s = verdict_kind (front_world log) (settled_world log) s k (verdict_accepts log s k said).fresh ∙ ap (λ v. kind (state v) s) (sym is.front_is) in
      let now = accepted log s refl kinds given front settled out store k is (accepted_stays log s k is.consistent named said) kind_is in
      rw t (rw m (rw g (rw w now)))

  -- ---- counts

  pub counts_settled : (log : Log) (kinds : List Kind) (given : List (List Output)) (front settled : World) (out : ℕ) (store : Option (Kept D)) → IsLedger log kinds given front settled out store → settled.count ≡ settled_count log
  counts_settled log kinds given front settled out store is = ap (λ (w : World). w.count) is.settled_is ∙ count_after log log.settled is.consistent.within

  pub counts_front : (log : Log) (kinds : List Kind) (given : List (List Output)) (front settled : World) (out : ℕ) (store : Option (Kept D)) → IsLedger log kinds given front settled out store → front.count ≡ accepted_count log
  counts_front log kinds given front settled out store is = ap (λ (w : World). w.count) is.front_is ∙ count_front log

  pub kinds_within : (log : Log) (kinds : List Kind) (given : List (List Output)) (front settled : World) (out : ℕ) (store : Option (Kept D)) → IsLedger log kinds given front settled out store → length kinds ≡ length log.trail
  kinds_within log kinds given front settled out store is = ap length is.kinds_are ∙ kinds_of-length log.trail log.base
