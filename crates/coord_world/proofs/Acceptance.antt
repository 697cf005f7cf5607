-- Facts about a step that a world accepts.
use Rattle.std.proofs.Common.{◌≡◌, true, false, [], ◌∷◌, Ok, Err, cond, refl, ℕ, ◌+◌, ◌^◌, ◌≤◌, ◌&&◌, List, Option, Some, None, Result, arith, eqb, ◌≢◌, Bool, ◌||◌, not, is_some, ap, ◌∙◌}
use Rattle.std.proofs.lemmas.Bool.Decides.{nat_tests}
use Rattle.coord_types.specs.declared.refusals.Refusal.{Refusal}
use Rattle.coord_world.specs.declared.verdicts.Verdict.{Verdict}
use Rattle.coord_link.specs.LaneMachine.{Tests, refused_or, Lane}
use Rattle.coord_types.specs.Facade.{begins_with, same_command, same_msg}
use Rattle.coord_types.specs.declared.messages.Msg.{Msg}
use Rattle.coord_types.specs.declared.packets.DataPacket.{DataPacket}
use Rattle.coord_types.specs.declared.packets.ReceiptPacket.{ReceiptPacket}
use Rattle.coord_types.specs.declared.refusals.Refusal.TheVariants.{Exhausted}
use Rattle.coord_types.specs.declared.steps.Command.{Command}
use Rattle.coord_types.specs.declared.steps.Session.{Session}
use Rattle.coord_types.specs.declared.steps.Step.{Step}
use Rattle.coord_types.specs.declared.steps.Step.TheVariants.{Take, Clear, Order}
use Rattle.coord_types.specs.declared.steps.Kind.{Kind}
use Rattle.coord_node.specs.Steps.{kind}
use Rattle.coord_world.specs.declared.verdicts.Verdict.TheVariants.{Fresh, Repeat}
use Rattle.coord_world.specs.Facade.{IsFresh, World, against, against_data, against_receipt, is_exhausted, judged, lane, lane_at, of_incarnation, or_repeat, state, against_command, is_full, is_linked, is_unknown, last_number, accepts}
use Rattle.coord_tables.proofs.Cases.{by_test}
use Rattle.coord_types.specs.NodeState.{NodeState}
use Rattle.coord_types.specs.Table.{get, has, len}
use Rattle.coord_types.specs.declared.steps.Command.TheVariants.{Add, Remove, Join, Drop, Reset, Confirm}
use Rattle.coord_node.specs.Rules.{is_empty}
use Rattle.coord_types.specs.declared.steps.Kind.TheVariants.{Taken, Cleared}
use Rattle.coord_world.specs.laws.Laws.{FreshOverItself}
use Rattle.coord_types.specs.NodeSet as set

-- ---- tests that are passed, or not, whatever the verdict

pub passes : (v : Verdict) (ts : Tests) → refused_or (tt {0}) ts ≡ Ok (tt {0}) → refused_or v ts ≡ Ok v
passes v [] h = refl
passes v (t ∷ ts) h = elim t.0 as (λ b. cond b (Err t.1) (refused_or (tt {0}) ts) ≡ Ok (tt {0}) → cond b (Err t.1) (refused_or v ts) ≡ Ok v) [
  | true ↦ λ e. cc
  | false ↦ λ e. passes v ts e
] h

pub refuses : (v : Verdict) (r : Refusal) (ts : Tests) → refused_or (tt {0}) ts ≡ Err r → refused_or v ts ≡ Err r
refuses v r [] h = cc
refuses v r (t ∷ ts) h = elim t.0 as (λ b. cond b (Err t.1) (refused_or (tt {0}) ts) ≡ Err r → cond b (Err t.1) (refused_or v ts) ≡ Err r) [
  | true ↦ λ e. cc
  | false ↦ λ e. refuses v r ts e
] h

-- ---- a step that is fresh

-- none of the tests holds
abbrev pub NoneHolds : Tests → Type 0
NoneHolds [] = Unit {0}
NoneHolds (t ∷ ts) = (t.0 ≡ false) × NoneHolds ts

-- if no test refuses, none holds
pub none_holds : (v r : Verdict) (ts : Tests) → refused_or v ts ≡ Ok r → NoneHolds ts
none_holds v r [] h = tt
none_holds v r (t ∷ ts) h = by_test t.0 (λ b. cond b (Err t.1) (refused_or v ts) ≡ Ok r → (b ≡ false) × NoneHolds ts) (λ _ e. cc) (λ _ e. (refl, none_holds v r ts e)) h

-- the same message is that message
same_is : (f m : Msg) → same_msg f m ≡ true → f ≡ m
same_is f m h1 = grind (arith, nat_tests, h1)

-- a list that begins with a message has it in front
pub begins_is : (q : List Msg) (m : Msg) → begins_with q m ≡ true → (rest : List Msg) × (q ≡ m ∷ rest)
begins_is q m h1 = grind (arith, nat_tests, h1)

-- a lane of an incarnation is there
pub with_incarnation : (i : ℕ) (o : Option Lane) (l : Lane) → of_incarnation i o ≡ Some l → o ≡ Some l
with_incarnation i o l h1 = grind (arith, nat_tests, h1)

-- a fresh order is no repeat
pub not_a_repeat : (o : Option Session) (n : ℕ) (x : Command) (v : Result Verdict Refusal) (k : Kind) → or_repeat o n x v ≡ Ok (Fresh k) → v ≡ Ok (Fresh k)
not_a_repeat None n x v k h = h
not_a_repeat (Some o) n x v k h = by_test (eqb o.number n && same_command o.command x) (λ b. cond b (Ok (Repeat o.reply)) v ≡ Ok (Fresh k) → v ≡ Ok (Fresh k)) (λ _ e. cc) (λ _ e. e) h

-- a fresh step passes the judgement
fresh_judged : (w settled : World) (s : Step) → IsFresh w settled s → judged w settled s ≡ Ok (Fresh (kind (state w) s))
fresh_judged w settled s h1 = grind (arith, nat_tests, h1)

module _ (w settled : World) (s : Step) (fresh : IsFresh w settled s) where
  -- a fresh step passes each test
  all_passed : NoneHolds ((is_exhausted w, Exhausted) ∷ against w settled s)
  all_passed = none_holds (Fresh (kind (state w) s)) (Fresh (kind (state w) s)) ((is_exhausted w, Exhausted) ∷ against w settled s) (fresh_judged w settled s fresh)

  -- there is a number left for the step
  pub fresh_count : w.count + 1 ≤ 2 ^ 40
  fresh_count = let more = all_passed.0 in grind (arith, nat_tests)

  -- a fresh step passes the tests of its kind
  pub tests_passed : NoneHolds (against w settled s)
  tests_passed = all_passed.1

-- the front of the lane that a packet names is the packet's, and isn't taken yet
pub record Takes (w : World) (p : DataPacket) : Type 0 where
  pub lane : Lane
  pub rest : List Msg
  pub there : lane_at w.links p.from p.to ≡ Some lane
  pub idle : lane.got ≡ lane.base
  pub front : lane.queue ≡ p.msg ∷ rest

-- a packet that is taken names such a lane
pub fresh_take : (w settled : World) (p : DataPacket) → IsFresh w settled (Take p) → Takes w p
fresh_take w settled p fresh = of_lane (lane w p.from p.to p.inc) refl (tests_passed w settled (Take p) fresh)
  where
    of_lane : (o : Option Lane) → lane w p.from p.to p.inc ≡ o →
        NoneHolds (against_data o (lane settled p.from p.to p.inc) p) → Takes w p
    of_lane None is h = cc
    of_lane (Some l) is h =
        let begins : begins_with l.queue p.msg ≡ true = grind (arith, nat_tests) in
        let front = begins_is l.queue p.msg begins in
        record {
          lane = l;
          rest = front.0;
          there = with_incarnation p.inc (lane_at w.links p.from p.to) l is;
          idle = grind (arith, nat_tests);
          front = front.1;
        }

-- the message that a receipt names was taken
pub record Clears (w : World) (p : ReceiptPacket) : Type 0 where
  pub lane : Lane
  pub there : lane_at w.links p.from p.to ≡ Some lane
  pub more : lane.base + 1 ≤ lane.got

-- a receipt that clears names such a lane
pub fresh_clear : (w settled : World) (p : ReceiptPacket) → IsFresh w settled (Clear p) → Clears w p
fresh_clear w settled p fresh = of_lane (lane w p.from p.to p.inc) refl (tests_passed w settled (Clear p) fresh)
  where
    of_lane : (o : Option Lane) → lane w p.from p.to p.inc ≡ o →
        NoneHolds (against_receipt o (lane settled p.from p.to p.inc) p) → Clears w p
    of_lane None is h = cc
    of_lane (Some l) is h = record { lane = l; there = with_incarnation p.inc (lane_at w.links p.from p.to) l is; more = grind (arith, nat_tests) }

-- ---- an order

-- two nodes that may be linked
pub record Joinable (w : World) (a b : ℕ) : Type 0 where
  pub first : has w.nodes a ≡ true
  pub second : has w.nodes b ≡ true
  pub apart : a ≢ b
  pub one_group : (state w a).group ≡ (state w b).group
  pub free : is_linked w a b ≡ false
  pub first_room : set.len (state w a).neighbours ≤ 15
  pub second_room : set.len (state w b).neighbours ≤ 15
  pub room : len w.links ≤ 127

-- two nodes whose link may be dropped
pub record Droppable (w : World) (a b : ℕ) : Type 0 where
  pub first : has w.nodes a ≡ true
  pub second : has w.nodes b ≡ true
  pub apart : a ≢ b
  pub linked : is_linked w a b ≡ true

-- an epoch of a node that may be confirmed
pub record Confirmable (w : World) (u e : ℕ) : Type 0 where
  pub there : has w.nodes u ≡ true
  pub entered : e ≤ (state w u).epoch

-- a node that may be removed
pub record Removable (w : World) (u : ℕ) : Type 0 where
  pub there : has w.nodes u ≡ true
  pub alone : is_empty (state w u).neighbours ≡ true

-- what its tests say of a command
abbrev pub Passes : World → Command → Type 0
Passes w (Add u g) = get w.nodes u ≡ None
Passes w (Remove u) = Removable w u
Passes w (Join a b) = Joinable w a b
Passes w (Drop a b) = Droppable w a b
Passes w (Reset u) = has w.nodes u ≡ true
Passes w (Confirm u e) = Confirmable w u e

-- who is not there is nobody
absent : (o : Option NodeState) → is_some o ≡ false → o ≡ None
absent o h1 = grind (arith, nat_tests, h1)

-- a test that is not false is true
positive : (b : Bool) → not b ≡ false → b ≡ true
positive b h1 = grind (arith, nat_tests, h1)

-- two tests that fail
neither : (a b : Bool) → (a || b) ≡ false → (a ≡ false) × (b ≡ false)
neither a b h1 = grind (arith, nat_tests, h1)

-- a command that no test refuses
command_passes : (w : World) (x : Command) → NoneHolds (against_command w x) → Passes w x
command_passes w (Add u g) h = absent _ h.0
command_passes w (Remove u) h = record { there = positive _ h.0; alone = positive _ h.1.0 }
command_passes w (Join a b) h =
    let known = neither (is_unknown w a) (is_unknown w b) h.0 in
    let rooms = neither (is_full (state w a)) (is_full (state w b)) h.1.1.1.1.0 in
    record {
      first = positive _ known.0;
      second = positive _ known.1;
      apart = λ same. grind (arith, nat_tests, h.1.0, same);
      one_group = grind (arith, nat_tests, h.1.1.0);
      free = h.1.1.1.0;
      first_room = grind (arith, nat_tests, rooms.0);
      second_room = grind (arith, nat_tests, rooms.1);
      room = grind (arith, nat_tests, h.1.1.1.1.1.0);
    }
command_passes w (Drop a b) h =
    let known = neither (is_unknown w a) (is_unknown w b) h.0 in
    record { first = positive _ known.0; second = positive _ known.1; apart = λ same. grind (arith, nat_tests, h.1.0, same); linked = positive _ h.1.1.0 }
command_passes w (Reset u) h = positive _ h.0
command_passes w (Confirm u e) h = record { there = positive _ h.0; entered = grind (arith, nat_tests, h.1.0) }

module _ (w settled : World) (c n : ℕ) (x : Command) (fresh : IsFresh w settled (Order c n x)) where
  -- the number is the client's next one
  pub fresh_number : n ≡ last_number (get w.sessions c) + 1
  fresh_number = let h = tests_passed w settled (Order c n x) fresh in grind (arith, nat_tests, h.0, h.1.0)

  -- an order that is taken passes the tests of its command
  pub fresh_order : Passes w x
  fresh_order = command_passes w x (tests_passed w settled (Order c n x) fresh).1.1

-- ---- fresh over some settled world, a step is fresh over the world itself

-- a lane that passes the tests against the settled world has the packet itself
data_itself : (o settled : Option Lane) (p : DataPacket) (v r : Verdict) → refused_or v (against_data o settled p) ≡ Ok r → refused_or v (against_data o o p) ≡ Ok r
data_itself o settled p v r h1 = grind (arith, nat_tests, h1)

-- a lane that passes the tests of a receipt has taken its message itself
receipt_itself : (o settled : Option Lane) (p : ReceiptPacket) (v r : Verdict) → refused_or v (against_receipt o settled p) ≡ Ok r → refused_or v (against_receipt o o p) ≡ Ok r
receipt_itself o settled p v r h1 = grind (arith, nat_tests, h1)

-- under a test that comes first
guarded : (b : Bool) (e : Refusal) (x y : Result Verdict Refusal) (v : Verdict) → cond b (Err e) x ≡ Ok v → (x ≡ Ok v → y ≡ Ok v) → cond b (Err e) y ≡ Ok v
guarded b e x y v h1 h2 = grind (arith, nat_tests, h1, h2)

-- packets are judged by the settled world, and orders are not
pub itself : FreshOverItself
itself w settled (Order c n x) h = h
itself w settled (Take p) h = guarded (is_exhausted w) Exhausted _ _ (Fresh Taken) h (data_itself (lane w p.from p.to p.inc) _ p (Fresh Taken) (Fresh Taken))
itself w settled (Clear p) h = guarded (is_exhausted w) Exhausted _ _ (Fresh Cleared) h (receipt_itself (lane w p.from p.to p.inc) _ p (Fresh Cleared) (Fresh Cleared))

-- ---- a verdict of Fresh

passed_is : (v r : Verdict) (ts : Tests) → refused_or v ts ≡ Ok r → v ≡ r
passed_is v r [] h = cc
passed_is v r (t ∷ ts) h = by_test t.0 (λ b. cond b (Err t.1) (refused_or v ts) ≡ Ok r → v ≡ r) (λ _ e. cc) (λ _ e. passed_is v r ts e) h

kind_is : (w settled : World) (s : Step) (k : Kind) → judged w settled s ≡ Ok (Fresh k) → Fresh (kind (state w) s) ≡ Fresh k
kind_is w settled s k h = passed_is (Fresh (kind (state w) s)) (Fresh k) ((is_exhausted w, Exhausted) ∷ against w settled s) h

judged_fresh : (w settled : World) (s : Step) (k : Kind) → accepts w settled s ≡ Ok (Fresh k) → judged w settled s ≡ Ok (Fresh k)
judged_fresh w settled (Order c n x) k h = not_a_repeat (get w.sessions c) n x _ k h
judged_fresh w settled (Take p) k h = h
judged_fresh w settled (Clear p) k h = h

-- the kind is that of the step
pub verdict_kind : (w settled : World) (s : Step) (k : Kind) → accepts w settled s ≡ Ok (Fresh k) → k ≡ kind (state w) s
verdict_kind w settled s k h = let same = kind_is w settled s k (judged_fresh w settled s k h) in cc

-- a step that is judged fresh is fresh
pub verdict_fresh : (w settled : World) (s : Step) (k : Kind) → accepts w settled s ≡ Ok (Fresh k) → IsFresh w settled s
verdict_fresh w settled s k h = h ∙ ap (λ x. Ok (Fresh x)) (verdict_kind w settled s k h)

-- a step that is judged fresh is fresh over the world itself
pub verdict_fresh_itself : (w settled : World) (s : Step) (k : Kind) → accepts w settled s ≡ Ok (Fresh k) → IsFresh w w s
verdict_fresh_itself w settled s k h = itself w settled s (verdict_fresh w settled s k h)
