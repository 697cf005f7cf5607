-- The effect of a submitted step on a drill: its tickets, and its output.
use Rattle.std.proofs.Common.{◌≡◌, ◌≢◌, ℕ, true, false, List, Option, Some, [], ◌∷◌, ◌++◌, Result, Ok, Err, refl, sym, ap, ◌∙◌, subst, ◌≤◌, length, take, arith}
use Rattle.std.specs.List.{AllByRecursion}
use Rattle.coord_disk.specs.Model.DiskModel.{DiskModel}
use Rattle.std.proofs.lemmas.List.{drop-append-le, take-append-le}
use Rattle.coord_types.specs.declared.refusals.Refusal.TheVariants.{OutOfMemory}
use Rattle.coord_world.proofs.Facade.{fold-take_drop}
use Rattle.coord_world.specs.Facade.{World, fold, next, reply}
use Rattle.coord_ledger.proofs.follows.Granted.{granted_repeat}
use Rattle.coord_ledger.specs.declared.events.Answer.TheVariants as answer
use Rattle.coord_ledger.specs.declared.events.Event.TheVariants as event
use Rattle.coord_ledger.specs.declared.handed.Handed.TheVariants.{Accepted, Repeated}
use Rattle.coord_ledger.specs.Facade.{Claim, DriverState, HandedTo, IsGranted, LedgerState, RefusesStep, claimed, disk_held, pending, reply_of, run, settled_count, settled_world, verdict, with_accepted}
use Rattle.coord_drill.specs.declared.asked.Asked.TheVariants.{Submit}
use Rattle.coord_ledger.specs.declared.handed.Handed.{Handed}
use Rattle.coord_drill.specs.Answered.{asked_lines}
use Rattle.coord_drill.specs.Drill.{after_asked, line_events}
use Rattle.coord_drill.specs.Facade.{Answer, Begins, Carries, Drill, DrillState, Flies, Hands, IsHeld, IsReadyDrill, IsReadyWith, Leads, LeadsPart, Refusal, Reply, Step, Verdict, claims_of, drill_of, flight_events, flight_lines, kept_line, machine_of, pending_line, refusal_line, seen_as, state_of}
use Rattle.coord_drill.proofs.does.Does.{flown_after, flown_line, held_after, held_line, refused_after, refused_line, repeat_after, repeat_lines}
use Rattle.coord_drill.proofs.does.Moments.{Survive, carries, leads_then, none_led}
use Rattle.coord_drill.proofs.does.Verdicts.{no_refusal, other_refusal}

-- ---- what a ledger answers

-- a refusal other than OutOfMemory is the answer to the step
pub refused_said : (e : Refusal) (v : Result Verdict Refusal) → RefusesStep e v → e ≢ OutOfMemory → v ≡ Err e
refused_said e v h1 h2 = grind arith

-- ---- tickets

claims_push : (w : World) (ss : List Step) (x : Step) → claims_of w (ss ++ x ∷ []) ≡ claims_of w ss ++ claimed x (reply (fold w ss) x) ∷ []
claims_push w [] x = refl
claims_push w (s ∷ ss) x = ap (λ cs. claimed s (reply w s) ∷ cs) (claims_push (next w s) ss x)

-- that of an accepted step joins the others
accepted_held : {D : Type 0} (l new : LedgerState D) (claims : List Claim) (x : Step) (t : Claim) → l.log.settled ≤ length l.log.trail → IsHeld l claims → HandedTo l x (Ok (Accepted t)) new → IsHeld new (claims ++ t ∷ [])
accepted_held l new claims x t h1 h2 h3 = grind (arith, fold-take_drop, claims_push, take-append-le, drop-append-le)

pub repeated_granted : {D : Type 0} (l new : LedgerState D) (x : Step) (t : Claim) → HandedTo l x (Ok (Repeated t)) new → IsGranted new.log t
repeated_granted {D} l new x t to =
    rw to.now (subst (IsGranted l.log) (sym to.claims) (granted_repeat l.log x to.kept to.judged))

-- ---- the drill after it, and the output

module _ {D : Type 0} (disk : DiskModel D) (crashes : D → D → Type 0) (d : Drill D) (w : DriverState D) (x : Step) (ready : IsReadyDrill d) where
  abbrev v : DriverState D
  v = d.driver

  -- the ticket of an accepted step joins the others
  pub accepted_ready : (t : Claim) (tickets : List Claim) → Begins v → Hands disk crashes v x (Ok (Accepted t)) w → tickets ≡ d.tickets.items ++ t ∷ [] → IsReadyWith w tickets
  accepted_ready t tickets begins hands pushed =
      (hands.flight ∙ ready.0, pushed ∙ accepted_held v.ledger w.ledger d.tickets.items x t begins.consistent.log.within ready.1 hands.handed)

  -- a step that was not accepted leaves the ledger unchanged
  pub kept_ready : (tickets : List Claim) → w.flight ≡ v.flight → w.ledger ≡ v.ledger → tickets ≡ d.tickets.items → IsReadyWith w tickets
  kept_ready tickets flight same kept =
      (flight ∙ ready.0, kept ∙ ready.1 ∙ ap (λ (l : LedgerState D). claims_of (settled_world l.log) (pending l.log)) (sym same))

  module _ (new : Drill D) (begins : Begins v) where
    abbrev s : DrillState
    s = state_of d

    -- a step that is held, a repeat, and a step that is refused
    module _ (now : new.driver ≡ w) (holds : new.holds ≡ d.holds) where
      carried : (given : List Answer) (reported : List ℕ) → Leads disk crashes v (line_events d.holds (Submit x) given) given w → AllByRecursion (λ a. a ≢ answer.Refused OutOfMemory) given → reported ≡ asked_lines s (Submit x) given →
          drill_of w.ledger new.holds new.has_begun ≡ after_asked s (Submit x) given → Carries disk crashes d (Submit x) reported new
      carried given reported leads memory printed on =
          carries disk crashes d new (Submit x) given reported refl begins (subst (Leads disk crashes v (line_events d.holds (Submit x) given) given) (sym now) leads) memory printed
          (ap (λ (y : DriverState D). drill_of y.ledger new.holds new.has_begun) now ∙ on)

      pub carries_pending : (t : Claim) → Hands disk crashes v x (Ok (Accepted t)) w → new.has_begun ≡ true → d.holds ≡ true → Carries disk crashes d (Submit x) (pending_line t.step) new
      carries_pending t hands begun held =
          let to = hands.handed in
          carried (answer.Accepted t.step ∷ []) (pending_line t.step)
          (rw held hands.moments) (no_refusal _ refl, tt) (sym (held_line s x t.step held))
          ((λ i. drill_of (to.now i) (holds i) (begun i)) ∙ sym (held_after s x to.kind t.step to.judged held))

      pub carries_repeat : (t : Claim) → Hands disk crashes v x (Ok (Repeated t)) w → new.has_begun ≡ d.has_begun → Carries disk crashes d (Submit x) (kept_line (settled_count w.ledger.log) (reply_of t)) new
      carries_repeat t hands begun =
          let to = hands.handed in
          let line = kept_line (settled_count w.ledger.log) (reply_of t) in
          carried (answer.Repeated t.step ∷ []) line hands.moments (no_refusal _ refl, tt)
          ((λ i. kept_line (settled_count (to.now i).log) (reply_of (to.claims i))) ∙ sym (repeat_lines s x to.kept t.step to.judged))
          ((λ i. drill_of (to.now i) (holds i) (begun i)) ∙ sym (repeat_after s x to.kept t.step to.judged))

      pub carries_refusal : (e : Refusal) → Hands disk crashes v x (Err e) w → new.has_begun ≡ d.has_begun → e ≢ OutOfMemory → Carries disk crashes d (Submit x) (refusal_line e) new
      carries_refusal e hands begun other =
          let to = hands.handed in
          carried (answer.Refused e ∷ []) (refusal_line e) hands.moments (other_refusal e other, tt) (sym (refused_line s x e))
          ((λ i. drill_of (to.now i) (holds i) (begun i)) ∙ sym (refused_after s x e (refused_said e (verdict v.ledger.log x) to.why other)))

    -- a step that is settled at once, by the drill that holds its ticket: the machine has given that before its flight
    pub carries_flight : (mid : Drill D) (t : Claim) (reported : List ℕ) → mid.driver ≡ w → mid.holds ≡ d.holds → mid.has_begun ≡ true → d.holds ≡ false → Hands disk crashes v x (Ok (Accepted t)) w → Flies disk crashes mid reported new → Carries disk crashes d (Submit x) reported new
    carries_flight mid t reported there holds begun free hands flown =
        let to = hands.handed in
        let given = flown.given in
        let tickets : List (Option Reply) = Some (record { step = t.step; kind = to.kind }) ∷ [] in
        let mid_is : state_of mid ≡ drill_of (with_accepted v.ledger x) d.holds true = ap (λ (y : DriverState D). drill_of y.ledger mid.holds mid.has_begun) there ∙ (λ i. drill_of (to.now i) (holds i) (begun i)) in
        let hand : Leads disk crashes v (event.Submit x ∷ []) (answer.Accepted t.step ∷ []) mid.driver = subst (Leads disk crashes v (event.Submit x ∷ []) (answer.Accepted t.step ∷ [])) (sym there) hands.moments in
        let all = leads_then disk crashes v mid.driver new.driver (event.Submit x ∷ []) (flight_events given) (answer.Accepted t.step ∷ []) given hand flown.moments in
        carries disk crashes d new (Submit x) (answer.Accepted t.step ∷ given) reported refl begins
        (rw free all) (no_refusal _ refl, flown.with_memory)
        (flown.printed ∙ ap (λ (r : DrillState). flight_lines r.log given) mid_is ∙ sym (flown_line s x t.step given free))
        (flown.goes_on tickets ∙ (λ i. seen_as (run (record (machine_of (mid_is i)) { tickets = tickets }) (flight_events given) given) (holds i) (begun i))
        ∙ sym (flown_after s x to.kind t.step given to.judged free))

    -- the flight of the step was cut short
    pub cut_flight : (mid : Drill D) (t : Claim) (lost : D) → mid.driver ≡ w → d.holds ≡ false → Hands disk crashes v x (Ok (Accepted t)) w → LeadsPart disk crashes mid.driver flight_events lost → LeadsPart disk crashes v (line_events d.holds (Submit x)) lost
    cut_flight mid t lost there free hands part =
        let hand : Leads disk crashes v (event.Submit x ∷ []) (answer.Accepted t.step ∷ []) mid.driver = subst (Leads disk crashes v (event.Submit x ∷ []) (answer.Accepted t.step ∷ [])) (sym there) hands.moments in
        let all = leads_then disk crashes v mid.driver part.mid (event.Submit x ∷ []) (take (length part.given) (flight_events part.given)) (answer.Accepted t.step ∷ []) part.given hand part.moments in
        record {
          given = answer.Accepted t.step ∷ part.given;
          mid = part.mid;
          moments = rw free all;
          left = part.left;
        }

    -- the disk was given up as the step that was handed in left it
    pub cut_handed : (r : Result Handed Refusal) (lost : D) → Survive disk crashes v → Hands disk crashes v x r w → disk_held w ≡ Some lost → LeadsPart disk crashes v (line_events d.holds (Submit x)) lost
    cut_handed r lost survives hands there = none_led disk crashes v w (line_events d.holds (Submit x)) lost survives hands.stays there
