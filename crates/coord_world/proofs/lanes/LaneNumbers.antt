-- The numbers of lanes fit their queues, and lanes of sound worlds are short.
use Rattle.std.proofs.Common.{◌≡◌, ◌≢◌, ℕ, ◌+◌, ◌≤◌, true, List, [], ◌∷◌, Some, sym, ◌∙◌, cond, eqb, refl, inl, arith, get_or, slice_get, Bool, length, ap, subst, is_some}
use Rattle.std.proofs.lemmas.Bool.Decides.{nat_tests}
use Rattle.std.specs.List.{All}
use Rattle.std.proofs.lemmas.Option.{slice_get-get_or}
use Rattle.coord_types.specs.declared.messages.Msg.{Msg}
use Rattle.coord_types.specs.declared.steps.Command.TheVariants.{Drop, Join}
use Rattle.coord_link.specs.LaneMachine.{Lane, Counts, took, cleared, sent, new_lane, transit}
use Rattle.coord_node.specs.Facade.{Transition, added, is_link}
use Rattle.coord_world.specs.Facade.{World, is_lane, lane_at, on_lane, with_command, with_transition, InRange, Links, lanes_in_order, pair_cmp, pair_cmp_total, aborts, acks, one, readies, transit_or_none, view}
use Rattle.coord_tables.proofs.Cases.{by_test}
use Rattle.coord_world.proofs.lists.GetAfter.{lane_done, lane_on, lane_left, lane_made, each_changed, each_left, each_made}
use Rattle.coord_world.proofs.lanes.Transit.{counts_from, counts-sent, counts-took}
use Rattle.coord_tables.specs.Links.{Turned}
use Rattle.coord_tables.proofs.LinkLanes.{in_order-found, in_order-sorted}
use Rattle.coord_tables.proofs.SortedEntries.{found}
use Rattle.coord_world.specs.code.Fronts.{HasNumber}
use Rattle.coord_types.specs.Facade.{Ideal, after_front, contains}
use Rattle.coord_types.specs.declared.messages.Msg.TheVariants.{Abort, Ack, Ready}
use Rattle.coord_world.specs.laws.Laws.{IsShort}
use Rattle.coord_world.proofs.legal.Sound.{Sound}

-- ---- through each change of a world

-- the numbers of every lane fit its queue
abbrev pub AllCount : World → Type 0
AllCount w = (x y : ℕ) (l : Lane) → lane_at w.links x y ≡ Some l → Counts l

-- a lane that is the one from u to v is the one that is there
pub it_is : (w : World) (u v x y : ℕ) (k l : Lane) → lane_at w.links u v ≡ Some k → lane_at w.links x y ≡ Some l → is_lane (x, y) u v ≡ true → l ≡ k
it_is w u v x y k l there e t = grind (arith, nat_tests, there, e, t)

-- more was taken than is receipted: the front was
pub was_taken : (l : Lane) → Counts l → l.base + 1 ≤ l.got → (l.got ≡ l.base + 1) × (l.queue ≢ [])
was_taken l h1 h2 = grind (arith, nat_tests, h1, h2)

module _ (w : World) (counts : AllCount w) where
  -- after a transition
  pub counts_done : (u : ℕ) (d : Transition) → AllCount (with_transition w u d)
  counts_done u d x y m e = each_changed (lane_at w.links x y) (λ l. cond (eqb x u) (sent (added d y) l) l) Counts
      (λ l is. by_test (eqb x u) (λ b. Counts (cond b (sent (added d y) l) l)) (λ _. counts-sent l (added d y) (counts x y l is)) (λ _. counts x y l is))
      m (sym (lane_done w u d x y) ∙ e)

  -- after a link is cut
  pub counts_left : (a b : ℕ) → AllCount (with_command w (Drop a b))
  counts_left a b x y m e = counts x y m (each_left (lane_at w.links x y) (is_link a b x y) m (sym (lane_left w a b x y) ∙ e))

  -- after a link is made
  pub counts_made : (a b : ℕ) → AllCount (with_command w (Join a b))
  counts_made a b x y m e = each_made (lane_at w.links x y) (is_link a b x y) (new_lane (w.count + 1)) Counts (λ _. counts_from (new_lane (w.count + 1)) (inl refl)) (λ _ l is. counts x y l is)
      m (sym (lane_made w a b x y) ∙ e)

  -- the front that is taken is there, and isn't taken yet
  pub counts_took : (v u : ℕ) (k : Lane) (front : Msg) (rest : List Msg) → lane_at w.links v u ≡ Some k → k.got ≡ k.base → k.queue ≡ front ∷ rest →
      AllCount (on_lane w v u took)
  counts_took v u k front rest there idle is_front x y m e = each_changed (lane_at w.links x y) (λ l. cond (is_lane (x, y) v u) (took l) l) Counts
      (λ l is. by_test (is_lane (x, y) v u) (λ b. Counts (cond b (took l) l))
      (λ t. rw (it_is w v u x y k l there is t) (counts-took k front rest idle is_front)) (λ _. counts x y l is))
      m (sym (lane_on w v u took x y) ∙ e)

  -- the front that is cleared was taken
  pub counts_cleared : (u v : ℕ) (k : Lane) → lane_at w.links u v ≡ Some k → k.base + 1 ≤ k.got → AllCount (on_lane w u v cleared)
  counts_cleared u v k there more x y m e = each_changed (lane_at w.links x y) (λ l. cond (is_lane (x, y) u v) (cleared l) l) Counts
      (λ l is. by_test (is_lane (x, y) u v) (λ b. Counts (cond b (cleared l) l))
      (λ t. rw (it_is w u v x y k l there is t) (counts_from (cleared k) (inl (was_taken k (counts u v k there) more).0))) (λ _. counts x y l is))
      m (sym (lane_on w u v cleared x y) ∙ e)

-- ---- numbers that the program holds

-- a lane that is listed is there
lane_listed : (t : Links) → Turned t → (i : ℕ) (e : (ℕ × ℕ) × Lane) → slice_get (lanes_in_order t) i ≡ Some e → lane_at t e.0.0 e.0.1 ≡ Some e.1
lane_listed t turned i e here = sym (in_order-found t turned e.0.0 e.0.1) ∙ found pair_cmp pair_cmp_total (lanes_in_order t) i e (in_order-sorted t) here

pub all_numbered : (w : World) → InRange w → All HasNumber (lanes_in_order w.links)
all_numbered w range k d below =
    let there = lane_listed w.links range.turned k (get_or (lanes_in_order w.links) k d) (slice_get-get_or (lanes_in_order w.links) k d below) in
    let most = (range.lanes _ _ _ there).base in
    let count = range.count in
    omega arith

-- ---- short lanes

-- each message is of one of three kinds
counted : (ms : List Msg) → length ms ≡ aborts ms + acks ms + readies ms
counted [] = omega arith
counted (Abort k ∷ ms) = omega (arith, counted ms)
counted (Ack ∷ ms) = omega (arith, counted ms)
counted (Ready ∷ ms) = omega (arith, counted ms)

-- one or none
at_most_one : (b : Bool) → one b ≤ 1
at_most_one b = grind arith

-- one Abort and one Ack by the two ends' counts, and one Ready
pub way_short : (w : Ideal) (u v : ℕ) → Sound w → w.linked u v ≡ true → length (w.in_transit u v) ≤ 3
way_short w u v sound linked = grind (arith, nat_tests, sound, linked, counted (w.in_transit u v), at_most_one (contains (w.state u).pend v), at_most_one (contains (w.state v).pend u))

-- one Abort, by the count of the end that awaits
pub way_aborts : (w : Ideal) (u v : ℕ) → Sound w → w.linked u v ≡ true → aborts (w.in_transit u v) ≤ 1
way_aborts w u v h1 h2 = grind (arith, nat_tests, h1, h2)

aborts-following : (q : List Msg) → aborts q ≤ aborts (after_front q) + 1
aborts-following q = grind (arith, nat_tests)

aborts-queue : (l : Lane) → aborts l.queue ≤ aborts (transit l) + 1
aborts-queue l = grind (arith, nat_tests, aborts-following l.queue)

-- only the front is left out
length-following : (q : List Msg) → length q ≤ length (after_front q) + 1
length-following q = grind (arith, nat_tests)

-- at most the front isn't on the way
length-queue : (l : Lane) → length l.queue ≤ length (transit l) + 1
length-queue l = grind (arith, nat_tests, length-following l.queue)

-- a lane of a sound world is short
pub lane_short : (w : World) (u v : ℕ) (l : Lane) → Sound (view w) → lane_at w.links u v ≡ Some l → IsShort l
lane_short w u v l sound there =
    let in_transit : length (transit l) ≤ 3 = subst (λ o. length (transit_or_none o) ≤ 3) there (way_short (view w) u v sound (ap is_some there)) in
    let few : aborts (transit l) ≤ 1 = subst (λ o. aborts (transit_or_none o) ≤ 1) there (way_aborts (view w) u v sound (ap is_some there)) in
    record { on_way = in_transit; queued = omega (arith, length-queue l); few_aborts = omega (arith, aborts-queue l) }
