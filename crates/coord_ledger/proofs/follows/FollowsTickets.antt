-- What a driver holds follows the event machine where replies are collected, packets sent again, and worlds shown.
use Rattle.std.proofs.Common.{◌≡◌, ℕ, ◌≤◌, Bool, false, true, List, [], ◌∷◌, ◌++◌, length, Vec, Global, Option, Some, None, refl, sym, ap, ◌∙◌, subst, arith, inl, inr, cond, is_some, nat_le}
use Rattle.std.proofs.lemmas.Bool.Decides.{nat_tests}
use Rattle.coord_types.specs.declared.refusals.Refusal.TheVariants.{OutOfMemory, Stopped}
use Rattle.coord_ledger.specs.Facade.{Answer, Claim, Collect, Collected, Event, Follows, FollowsTo, HoldsTicket, HoldsTickets, IsCollectable, IsConsistent, IsGranted, IsOneOf, Log, Machine, NoTicket, Refused, Release, Reply, Resend, Resent, Run, Show, Shown, Waiting, accepted_count, after, answers, reply_of, resent, settled_count, settled_world, spent, ticket, to_collect}
use Rattle.coord_world.specs.protocol.Outputs.{again}
use Rattle.coord_view.specs.Shown.{shown}
use Rattle.coord_ledger.proofs.follows.Granted.{holds_at, holds_spent}
use Rattle.coord_ledger.proofs.follows.Follows.{accepted_is, count_is, settled_is, stopped_is}

module _ {D : Type 0} (h : Run D) (s : Machine) (is : IsConsistent s) (follows : Follows h s) where
  abbrev log : Log
  log = h.driver.ledger.log

  -- an event that leaves the log and the flight
  aside : (claims : Vec (Option Claim) Global) (seen : ℕ) (released : Vec Release Global) (tickets : List (Option Reply)) (shown : ℕ) (given : List Release) (replied : List Reply) → HoldsTickets log claims.items tickets → seen ≡ shown → released.items ≡ given →
      Follows (record h { tickets = claims; seen = seen; released = released }) (record s { tickets = tickets; seen = shown; released = given; replied = replied })
  aside claims seen released tickets shown given replied holds same all =
      record {
        represents = record { by = follows.represents.by; within = follows.represents.within; is = λ i. record (follows.represents.is i) { tickets = tickets; seen = shown; released = given; replied = replied }; own = follows.represents.own };
        tickets = holds;
        seen = same;
        released = all;
      }

  -- the parts that an event leaves unchanged, with the tickets put back
  stays : (claims : Vec (Option Claim) Global) → claims.items ≡ h.tickets.items → (e : Event) (a : Answer) → IsOneOf a (answers s e) → after s e a ≡ s → FollowsTo s e a (record h { tickets = claims })
  stays claims same e a allowed left = record {
    allowed = allowed;
    follows = subst (Follows (record h { tickets = claims })) (sym left) (record { represents = follows.represents; tickets = rw same follows.tickets; seen = follows.seen; released = follows.released });
  }

  -- ---- collect

  pub follows_no_ticket : (claims : Vec (Option Claim) Global) → claims.items ≡ h.tickets.items → (i : ℕ) → ticket h.tickets.items i ≡ None → FollowsTo s (Collect i) NoTicket (record h { tickets = claims })
  follows_no_ticket claims same i none = stays claims same (Collect i) NoTicket (by_ticket (ticket s.tickets i) (rw (sym none) (holds_at log h.tickets.items s.tickets i follows.tickets))) refl
    where
      by_ticket : (t : Option Reply) → HoldsTicket log None t → IsOneOf NoTicket (to_collect (settled_count s.log) t)
      by_ticket None holds = inl refl
      by_ticket (Some r) holds = absurd holds

  module _ (i : ℕ) (claim : Claim) (there : ticket h.tickets.items i ≡ Some claim) where
    -- the machine's ticket is this claim's
    ticket_is : (ticket s.tickets i ≡ Some (reply_of claim)) × IsGranted log claim
    ticket_is = by_ticket (ticket s.tickets i) (rw (sym there) (holds_at log h.tickets.items s.tickets i follows.tickets))
      where
        by_ticket : (t : Option Reply) → HoldsTicket log (Some claim) t → (t ≡ Some (reply_of claim)) × IsGranted log claim
        by_ticket None holds = absurd holds
        by_ticket (Some r) holds = (ap Some (sym holds.0), holds.1)

    may_collect : (a : Answer) → IsOneOf a (cond (nat_le claim.step (settled_count s.log)) (Collected (reply_of claim)) Waiting ∷ []) → IsOneOf a (answers s (Collect i))
    may_collect a one = rw ticket_is.0 one

    pub follows_collected : (claims : Vec (Option Claim) Global) → claims.items ≡ spent h.tickets.items i → (reply : Reply) → reply ≡ reply_of claim → IsCollectable log claim → FollowsTo s (Collect i) (Collected reply) (record h { tickets = claims })
    follows_collected claims is_spent reply its settled =
        let here : claim.step ≤ settled_count s.log = rw (sym (count_is h.driver s is follows.represents)) settled.settled in
        let low : nat_le claim.step (settled_count s.log) ≡ true = grind (arith, nat_tests, here) in
        rw its (record {
          allowed = may_collect (Collected (reply_of claim)) (rw low (inl refl));
          follows = aside claims h.seen h.released (spent s.tickets i) s.seen s.released (s.replied ++ reply_of claim ∷ []) (rw is_spent (holds_spent log h.tickets.items s.tickets i follows.tickets)) follows.seen follows.released;
        })

    pub follows_waiting : (claims : Vec (Option Claim) Global) → claims.items ≡ h.tickets.items → (IsCollectable log claim → ⊥) → FollowsTo s (Collect i) Waiting (record h { tickets = claims })
    follows_waiting claims same never = stays claims same (Collect i) Waiting (may_collect Waiting (by_count (nat_le claim.step (settled_count s.log)) refl)) refl
      where
        by_count : (b : Bool) → nat_le claim.step (settled_count s.log) ≡ b → IsOneOf Waiting (cond b (Collected (reply_of claim)) Waiting ∷ [])
        by_count true low =
            let here : claim.step ≤ settled_count s.log = grind (arith, nat_tests, low) in
            absurd (never (record { settled = rw (count_is h.driver s is follows.represents) here; granted = ticket_is.1 }))
        by_count false high = inl refl

  -- ---- resend and show

  -- the machine has released as much
  pub resent_releases : IsOneOf (Resent (length (again (settled_world log)))) (answers s Resend) × (s.released ++ resent (settled_world s.log) ≡ h.released.items ++ resent (settled_world log))
  resent_releases = grind (arith, nat_tests, settled_is)

  pub follows_resent : (released : Vec Release Global) → released.items ≡ h.released.items ++ resent (settled_world log) → FollowsTo s Resend (Resent (length (again (settled_world log)))) (record h { released = released })
  follows_resent released given =
      record {
        allowed = resent_releases.0;
        follows = aside h.tickets h.seen released s.tickets s.seen (s.released ++ resent (settled_world s.log)) s.replied follows.tickets follows.seen (given ∙ sym resent_releases.1);
      }

  -- nothing greater was shown
  pub never_behind : h.seen ≤ settled_count h.driver.ledger.log
  never_behind = omega (arith, follows.seen, is.seen, count_is h.driver s is follows.represents)

  may_show : (b : Bool) (a : Answer) → is_some h.driver.ledger.log.doubt ≡ b → IsOneOf a (cond b (Refused Stopped ∷ []) (Shown (shown (accepted_count s.log) (settled_world s.log)) ∷ Refused OutOfMemory ∷ [])) → IsOneOf a (answers s Show)
  may_show b a stopped one = subst (λ x. IsOneOf a (cond x (Refused Stopped ∷ []) (Shown (shown (accepted_count s.log) (settled_world s.log)) ∷ Refused OutOfMemory ∷ []))) (sym stopped ∙ stopped_is h.driver s is follows.represents) one

  pub follows_shown : is_some h.driver.ledger.log.doubt ≡ false → FollowsTo s Show (Shown (shown (accepted_count log) (settled_world log))) (record h { seen = settled_count log })
  follows_shown going =
      record {
        allowed = may_show false (Shown (shown (accepted_count log) (settled_world log))) going (inl (λ i. Shown (shown (accepted_is h.driver s is follows.represents i) (settled_is h.driver s is follows.represents i))));
        follows = aside h.tickets (settled_count log) h.released s.tickets (settled_count s.log) s.released s.replied follows.tickets (count_is h.driver s is follows.represents) follows.released;
      }

  pub follows_not_shown : is_some h.driver.ledger.log.doubt ≡ true → FollowsTo s Show (Refused Stopped) h
  follows_not_shown stopped = stays h.tickets refl Show (Refused Stopped) (may_show true (Refused Stopped) stopped (inl refl)) refl

  pub follows_unshown : is_some h.driver.ledger.log.doubt ≡ false → FollowsTo s Show (Refused OutOfMemory) h
  follows_unshown going = stays h.tickets refl Show (Refused OutOfMemory) (may_show false (Refused OutOfMemory) going (inr (inl refl))) refl
