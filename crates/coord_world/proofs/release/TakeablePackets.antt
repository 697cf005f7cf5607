-- Facts about a packet that is refused only because it is not released.
use Rattle.std.proofs.Common.{◌≡◌, ℕ, ◌+◌, ◌≤◌, true, false, [], ◌∷◌, Option, Some, None, Ok, Err, Result, cond, refl, arith}
use Rattle.std.proofs.lemmas.Bool.Decides.{nat_tests}
use Rattle.coord_types.specs.Facade.{begins_with}
use Rattle.coord_types.specs.declared.packets.DataPacket.{DataPacket}
use Rattle.coord_types.specs.declared.packets.ReceiptPacket.{ReceiptPacket}
use Rattle.coord_types.specs.declared.refusals.Refusal.{Refusal}
use Rattle.coord_types.specs.declared.steps.Step.TheVariants.{Take}
use Rattle.coord_link.specs.LaneMachine.{Lane, Tests, against_clear, against_take, refused_or}
use Rattle.coord_world.specs.Facade.{IsFresh, World, against_data, lane, lane_at, of_incarnation}
use Rattle.coord_world.specs.laws.Release.{IsClearable, IsTakeable}
use Rattle.coord_tables.proofs.Cases.{by_test}
use Rattle.coord_world.proofs.Acceptance.{NoneHolds, begins_is, tests_passed, with_incarnation}
use Rattle.coord_world.proofs.release.LaneFronts.{IsNumbered, IsFront}

-- if no test refuses, none holds
pub refused_or_none_holds : {V : Type 0} (v r : V) (ts : Tests) → refused_or v ts ≡ Ok r → NoneHolds ts
refused_or_none_holds v r [] h = tt
refused_or_none_holds {V} v r (t ∷ ts) h = by_test t.0 (λ b. cond {A = Result V Refusal} b (Err t.1) (refused_or v ts) ≡ Ok r → (b ≡ false) × NoneHolds ts) (λ _ e. cc) (λ _ e. (refl, refused_or_none_holds v r ts e)) h

-- if no test holds, none refuses
pub none_holds_passes : {V : Type 0} (v : V) (ts : Tests) → NoneHolds ts → refused_or v ts ≡ Ok v
none_holds_passes v [] h = refl
none_holds_passes {V} v (t ∷ ts) h = let rest = none_holds_passes v ts h.1 in grind (arith, nat_tests, h.0, rest)

-- a lane that was looked up by its incarnation has it
of_incarnation_inc : (i : ℕ) (o : Option Lane) (l : Lane) → of_incarnation i o ≡ Some l → l.inc ≡ i
of_incarnation_inc i o l h1 = grind (arith, nat_tests, h1)

-- a lane that was found by its incarnation is there
pub lane_found : (w : World) (u v i : ℕ) (l : Lane) → lane w u v i ≡ Some l → (lane_at w.links u v ≡ Some l) × (l.inc ≡ i)
lane_found w u v i l is = (with_incarnation i (lane_at w.links u v) l is, of_incarnation_inc i (lane_at w.links u v) l is)

-- a lane that is there is found by its incarnation
of_incarnation_found : (i : ℕ) (o : Option Lane) (l : Lane) → o ≡ Some l → l.inc ≡ i → of_incarnation i o ≡ Some l
of_incarnation_found i o l h1 h2 = grind (arith, nat_tests, h1, h2)

pub lane_numbered : (w : World) (u v i n : ℕ) (at : IsNumbered w u v i n) → lane w u v i ≡ Some at.lane
lane_numbered w u v i n at = of_incarnation_found i (lane_at w.links u v) at.lane at.there at.inc

-- the packet is its lane's front, and isn't taken yet
pub record IsNextPacket (w : World) (p : DataPacket) : Type 0 where
  pub front : IsFront w p
  pub idle : front.at.lane.got ≡ front.at.lane.base

next_packet : (w : World) (p : DataPacket) (l : Lane) → lane w p.from p.to p.inc ≡ Some l → NoneHolds (against_take l p.number p.msg) → IsNextPacket w p
next_packet w p l is h =
    let begins : begins_with l.queue p.msg ≡ true = grind (arith, nat_tests, h.1.1.0) in
    let front = begins_is l.queue p.msg begins in
    let there = lane_found w p.from p.to p.inc l is in
    record {
      front = record { at = record { lane = l; there = there.0; inc = there.1; number = grind (arith, nat_tests, h.0, h.1.0) }; rest = front.0; queue = front.1 };
      idle = grind (arith, nat_tests, h.1.0);
    }

pub takeable_is_next : (w : World) (p : DataPacket) → IsTakeable w p → IsNextPacket w p
takeable_is_next w p is = next_packet w p is.0 is.1.0 (refused_or_none_holds tt tt (against_take is.0 p.number p.msg) is.1.1)

pub fresh_take_is_next : (w settled : World) (p : DataPacket) → IsFresh w settled (Take p) → IsNextPacket w p
fresh_take_is_next w settled p fresh = of_lane (lane w p.from p.to p.inc) refl (tests_passed w settled (Take p) fresh)
  where
    of_lane : (o : Option Lane) → lane w p.from p.to p.inc ≡ o → NoneHolds (against_data o (lane settled p.from p.to p.inc) p) → IsNextPacket w p
    of_lane None is h = cc
    of_lane (Some l) is h = next_packet w p l is (h.0, (h.1.0, (h.1.1.0, tt)))

-- the receipt is of its lane's front, which was taken
pub record IsDueReceipt (w : World) (p : ReceiptPacket) : Type 0 where
  pub at : IsNumbered w p.from p.to p.inc p.number
  pub got : at.lane.base + 1 ≤ at.lane.got

due_receipt : (w : World) (p : ReceiptPacket) (l : Lane) → lane w p.from p.to p.inc ≡ Some l → NoneHolds (against_clear l p.number) → IsDueReceipt w p
due_receipt w p l is h =
    let there = lane_found w p.from p.to p.inc l is in
    record { at = record { lane = l; there = there.0; inc = there.1; number = grind (arith, nat_tests, h.0, h.1.0) }; got = grind (arith, nat_tests, h.0, h.1.0) }

pub clearable_is_due : (w : World) (p : ReceiptPacket) → IsClearable w p → IsDueReceipt w p
clearable_is_due w p is = due_receipt w p is.0 is.1.0 (refused_or_none_holds tt tt (against_clear is.0 p.number) is.1.1)
