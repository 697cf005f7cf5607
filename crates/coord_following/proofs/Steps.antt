-- What one step does to a node that stays, and to the links.
use Rattle.std.proofs.Common.{◌≡◌, ◌⊎◌, ℕ, ◌+◌, ◌≤◌, ◌&&◌, ◌||◌, eqb, Bool, true, false, List, [], ◌∷◌, Option, Some, None, Result, Ok, Err, cond, is_some, refl, sym, ap, subst, ◌∙◌, arith, inl, inr, if◌then◌else◌, ◌==◌}
use Rattle.std.specs.Cmp.{nat_cmp_total}
use Rattle.std.specs.Option.{option_map}
use Rattle.std.proofs.lemmas.Bool.Decides.{nat_tests}
use Rattle.coord_types.specs.Facade.{NodeState, new_node, same_command}
use Rattle.coord_types.specs.Table.{Table, get, has, insert, remove}
use Rattle.coord_types.specs.NodeSet as set
use Rattle.coord_types.specs.declared.messages.Mode.{Mode}
use Rattle.coord_types.specs.declared.messages.Mode.TheVariants.{Ready, Abort, Converge}
use Rattle.coord_types.specs.declared.messages.Msg.{Msg}
use Rattle.coord_types.specs.declared.messages.Msg.TheVariants as msg
use Rattle.coord_types.specs.declared.packets.DataPacket.{DataPacket}
use Rattle.coord_types.specs.declared.steps.Command.{Command}
use Rattle.coord_types.specs.declared.steps.Command.TheVariants.{Add, Remove, Join, Drop, Reset, Confirm}
use Rattle.coord_types.specs.declared.steps.Kind.{Kind}
use Rattle.coord_types.specs.declared.steps.Session.{Session}
use Rattle.coord_types.specs.declared.steps.Step.{Step}
use Rattle.coord_types.specs.declared.steps.Step.TheVariants.{Order, Take, Clear}
use Rattle.coord_types.specs.declared.refusals.Refusal.{Refusal}
use Rattle.coord_types.specs.declared.refusals.Refusal.TheVariants.{Exhausted}
use Rattle.coord_link.specs.LaneMachine.{Lane, Tests, cleared, new_lane, refused_or, sent, took}
use Rattle.coord_node.specs.Facade.{Transition, acknowledged, added, finish, idle, is_empty, is_parent, kept, kind, lost, lost_in, on_abort_in, on_ack, on_ready_in, request, request_in, transition, transitions, wave_back, wave_on, with_neighbour, without}
use Rattle.coord_tables.specs.Links.{change_lanes}
use Rattle.coord_tables.proofs.Found.{get-set, get-unset}
use Rattle.coord_tables.proofs.LinkLanes.{lane-changed, lane-joined, lane-mirrored, lane-parted}
use Rattle.coord_world.specs.declared.verdicts.Verdict.{Verdict}
use Rattle.coord_world.specs.declared.verdicts.Verdict.TheVariants.{Fresh, Repeat}
use Rattle.coord_world.specs.Facade.{InRange, IsFresh, Links, World, against, against_data, is_exhausted, judged, lane, lane_at, next, of_incarnation, or_repeat, prepared, state, state_or_none, with_transition, with_transitions}
use Rattle.coord_world.proofs.Facade.{fresh_order}
use Rattle.coord_following.specs.Histories.{Turn, Takes, Raises, IsTurn, adds, turned}

-- ---- tests that a fresh step passes

abbrev NoneHolds : Tests → Type 0
NoneHolds [] = Unit {0}
NoneHolds (t ∷ ts) = (t.0 ≡ false) × NoneHolds ts

none_holds : (v r : Verdict) (ts : Tests) → refused_or v ts ≡ Ok r → NoneHolds ts
none_holds v r [] h = tt
none_holds v r (t ∷ ts) h = of t.0 h (none_holds v r ts)
  where
    of : (b : Bool) → cond b (Err t.1) (refused_or v ts) ≡ Ok r → (refused_or v ts ≡ Ok r → NoneHolds ts) → (b ≡ false) × NoneHolds ts
    of true e rest = absurd (cc)
    of false e rest = (refl, rest e)

not_a_repeat : (o : Option Session) (n : ℕ) (x : Command) (v : Result Verdict Refusal) (k : Kind) → or_repeat o n x v ≡ Ok (Fresh k) → v ≡ Ok (Fresh k)
not_a_repeat None n x v k h = h
not_a_repeat (Some o) n x v k h = of ((o.number == n) && same_command o.command x) h
  where
    of : (b : Bool) → cond b (Ok (Repeat o.reply)) v ≡ Ok (Fresh k) → v ≡ Ok (Fresh k)
    of true e = absurd (cc)
    of false e = e

passed : (w : World) (s : Step) → judged w w s ≡ Ok (Fresh (kind (state w) s)) → NoneHolds ((is_exhausted w, Exhausted) ∷ against w w s)
passed w s h = none_holds (Fresh (kind (state w) s)) (Fresh (kind (state w) s)) ((is_exhausted w, Exhausted) ∷ against w w s) h

-- an epoch that is confirmed is above the one that was
confirms_more : (w : World) (c n u e : ℕ) → IsFresh w w (Order c n (Confirm u e)) → (state w u).confirmed ≤ e
confirms_more w c n u e fresh =
    let all = passed w (Order c n (Confirm u e)) (not_a_repeat (get w.sessions c) n (Confirm u e) (judged w w (Order c n (Confirm u e))) (kind (state w) (Order c n (Confirm u e))) fresh) in
    let last = all.1.1.1.1.0 in
    grind (arith, nat_tests, last)

-- a packet that is taken came over a lane
takes_lane : (w : World) (p : DataPacket) → IsFresh w w (Take p) → is_some (lane_at w.links p.from p.to) ≡ true
takes_lane w p fresh = of (lane w p.from p.to p.inc) refl (passed w (Take p) fresh).1
  where
    there : (i : ℕ) (o : Option Lane) (l : Lane) → of_incarnation i o ≡ Some l → is_some o ≡ true
    there i None l e = absurd (cc)
    there i (Some k) l e = refl

    of : (o : Option Lane) → lane w p.from p.to p.inc ≡ o → NoneHolds (against_data o o p) → is_some (lane_at w.links p.from p.to) ≡ true
    of None is h = absurd (let first = h.0 in cc)
    of (Some l) is h = there p.inc (lane_at w.links p.from p.to) l is

-- ---- nodes

-- a predicate on every node, with its number
abbrev AllRows : (ℕ → NodeState → Type 0) → Table nat_cmp_total NodeState → Type 0
AllRows P rows = (x : ℕ) (r : NodeState) → get rows x ≡ Some r → P x r

all_put : (Q : ℕ → NodeState → Type 0) (rows : Table nat_cmp_total NodeState) (u : ℕ) (s : NodeState) → AllRows Q rows → Q u s → AllRows Q (insert rows u s)
all_put Q rows u s all here x r e = of (eqb x u) refl (sym (get-set rows u s x) ∙ e)
  where
    of : (b : Bool) → eqb x u ≡ b → cond b (Some s) (get rows x) ≡ Some r → Q x r
    of true same found = let at : x ≡ u = grind (arith, nat_tests, same) in let is : s ≡ r = cc in subst (λ y. Q y r) (sym at) (subst (Q u) is here)
    of false other found = all x r found

all_gone : (Q : ℕ → NodeState → Type 0) (rows : Table nat_cmp_total NodeState) (u : ℕ) → AllRows Q rows → AllRows Q (remove rows u)
all_gone Q rows u all x r e = of (eqb x u) (sym (get-unset rows u x) ∙ e)
  where
    of : (b : Bool) → cond b None (get rows x) ≡ Some r → Q x r
    of true found = absurd (cc)
    of false found = all x r found

-- the node was there, and no epoch is confirmed less
pub record Stayed (w : World) (x : ℕ) (r : NodeState) : Type 0 where
  pub there : has w.nodes x ≡ true
  pub confirmed : (state w x).confirmed ≤ r.confirmed

-- unless a turn adds it
abbrev StayedBut : World → Turn → ℕ → NodeState → Type 0
StayedBut w t x r = adds x t ≡ 0 → Stayed w x r

stayed : (w : World) (t : Turn) → AllRows (StayedBut w t) w.nodes
stayed w t x r is none = record { there = ap is_some is; confirmed = subst (λ o. (state_or_none o).confirmed ≤ r.confirmed) (sym is) (omega arith) }

-- a node whose confirmed epoch stays
same_confirmed : (w : World) (t : Turn) (u : ℕ) (r : NodeState) → has w.nodes u ≡ true → r.confirmed ≡ (state w u).confirmed → StayedBut w t u r
same_confirmed w t u r there same none = record { there = there; confirmed = omega (arith, same) }

either : (b : Bool) (d e : Transition) (n : ℕ) → d.state.confirmed ≡ n → e.state.confirmed ≡ n → (if b then d else e).state.confirmed ≡ n
either true d e n first second = first
either false d e n first second = second

acknowledged_confirms : (r : NodeState) (parent : Option ℕ) → (acknowledged r parent).state.confirmed ≡ r.confirmed
acknowledged_confirms r None = refl
acknowledged_confirms r (Some p) = refl

request_confirms : (version : ℕ) (r : NodeState) → (request version r).state.confirmed ≡ r.confirmed
request_confirms version r = of r.mode
  where
    of : (m : Mode) → (request_in m version r).state.confirmed ≡ r.confirmed
    of Ready = either (is_empty r.neighbours) (finish r) (wave_on version r None r.neighbours 0) r.confirmed refl refl
    of Abort = refl
    of Converge = refl

abort_confirms : (m : Mode) (version : ℕ) (r : NodeState) (v distance : ℕ) → (on_abort_in m version r v distance).state.confirmed ≡ r.confirmed
abort_confirms Ready version r v distance =
    either (is_empty (set.remove r.neighbours v)) (wave_back r v (kept version distance)) (wave_on version r (Some v) (set.remove r.neighbours v) (kept version distance)) r.confirmed refl refl
abort_confirms Abort version r v distance = refl
abort_confirms Converge version r v distance = refl

ready_confirms : (m : Mode) (r : NodeState) (v : ℕ) → (on_ready_in m r v).state.confirmed ≡ r.confirmed
ready_confirms Converge r v = either (is_parent r.parent v) (finish r) (idle r) r.confirmed refl refl
ready_confirms Ready r v = refl
ready_confirms Abort r v = refl

ack_confirms : (r : NodeState) (v : ℕ) → (on_ack r v).state.confirmed ≡ r.confirmed
ack_confirms r v =
    let s : NodeState = record r { pend = set.remove r.pend v } in
    either (is_empty r.pend) (idle r) (if is_empty (set.remove r.pend v) then acknowledged s s.parent else idle s) r.confirmed refl
    (either (is_empty (set.remove r.pend v)) (acknowledged s s.parent) (idle s) r.confirmed (acknowledged_confirms s s.parent) refl)

transition_confirms : (version : ℕ) (m : Msg) (r : NodeState) (v : ℕ) → (transition version m r v).state.confirmed ≡ r.confirmed
transition_confirms version (msg.Abort k) r v = abort_confirms r.mode version r v k
transition_confirms version msg.Ack r v = ack_confirms r v
transition_confirms version msg.Ready r v = ready_confirms r.mode r v

lost_in_confirms : (m : Mode) (s : NodeState) (awaited child : Bool) → (lost_in m s awaited child).state.confirmed ≡ s.confirmed
lost_in_confirms Ready s awaited child = refl
lost_in_confirms Abort s awaited child = either (awaited && is_empty s.pend) (acknowledged s s.parent) (idle s) s.confirmed (acknowledged_confirms s s.parent) refl
lost_in_confirms Converge s awaited child = either child (finish s) (idle s) s.confirmed refl refl

lost_confirms : (r : NodeState) (v : ℕ) → (lost r v).state.confirmed ≡ r.confirmed
lost_confirms r v = lost_in_confirms r.mode (record r { parent = without r.parent v; pend = set.remove r.pend v; neighbours = set.remove r.neighbours v }) (set.contains r.pend v) (is_parent r.parent v)

-- one for a test that holds
abbrev once_if : Bool → ℕ
once_if b = if b then 1 else 0

not_itself : (u : ℕ) → once_if (u == u) ≡ 0 → ⊥
not_itself u e = grind (arith, nat_tests, e)

rows_ordered : (w : World) (c n : ℕ) (x : Command) → IsFresh w w (Order c n x) → AllRows (StayedBut w (Takes (Order c n x))) (next w (Order c n x)).nodes
rows_ordered w c n (Add u g) fresh = all_put (StayedBut w (Takes (Order c n (Add u g)))) w.nodes u (new_node g) (stayed w (Takes (Order c n (Add u g)))) (λ none. absurd (not_itself u none))
rows_ordered w c n (Remove u) fresh = all_gone (StayedBut w (Takes (Order c n (Remove u)))) w.nodes u (stayed w (Takes (Order c n (Remove u))))
rows_ordered w c n (Join a b) fresh =
    let joins = fresh_order w w c n (Join a b) fresh in
    let t = Takes (Order c n (Join a b)) in
    all_put (StayedBut w t) _ b _ (all_put (StayedBut w t) w.nodes a _ (stayed w t) (same_confirmed w t a (with_neighbour (state w a) b) joins.first refl)) (same_confirmed w t b (with_neighbour (state w b) a) joins.second refl)
rows_ordered w c n (Drop a b) fresh =
    let drops = fresh_order w w c n (Drop a b) fresh in
    let t = Takes (Order c n (Drop a b)) in
    all_put (StayedBut w t) _ b _ (all_put (StayedBut w t) w.nodes a _ (stayed w t) (same_confirmed w t a (lost (state w a) b).state drops.first (lost_confirms (state w a) b)))
    (same_confirmed w t b (lost (state w b) a).state drops.second (lost_confirms (state w b) a))
rows_ordered w c n (Reset u) fresh =
    let t = Takes (Order c n (Reset u)) in
    all_put (StayedBut w t) w.nodes u _ (stayed w t) (same_confirmed w t u (request w.version (state w u)).state (fresh_order w w c n (Reset u) fresh) (request_confirms w.version (state w u)))
rows_ordered w c n (Confirm u e) fresh =
    let t = Takes (Order c n (Confirm u e)) in
    all_put (StayedBut w t) w.nodes u _ (stayed w t) (λ none. record { there = (fresh_order w w c n (Confirm u e) fresh).there; confirmed = confirms_more w c n u e fresh })

rows_turned : (w : World) (t : Turn) → InRange w → IsTurn w t → AllRows (StayedBut w t) (turned w t).nodes
rows_turned w (Takes (Order c n x)) range is = rows_ordered w c n x is.0
rows_turned w (Takes (Take p)) range is =
    let known = range.ends p.to p.from (sym (lane-mirrored w.links p.from p.to) ∙ takes_lane w p is.0) in
    all_put (StayedBut w (Takes (Take p))) w.nodes p.to _ (stayed w (Takes (Take p)))
    (same_confirmed w (Takes (Take p)) p.to (transition w.version p.msg (state w p.to) p.from).state known (transition_confirms w.version p.msg (state w p.to) p.from))
rows_turned w (Takes (Clear p)) range is = stayed w (Takes (Clear p))
rows_turned w Raises range is = stayed w Raises

there_is : (o : Option NodeState) → is_some o ≡ true → o ≡ Some (state_or_none o)
there_is None e = absurd (cc)
there_is (Some r) e = refl

-- a node that is there after a turn, which didn't add it
pub stays : (w : World) (t : Turn) (x : ℕ) → InRange w → IsTurn w t → has (turned w t).nodes x ≡ true → adds x t ≡ 0 → Stayed w x (state (turned w t) x)
stays w t x range is there none = rows_turned w t range is x (state (turned w t) x) (there_is (get (turned w t).nodes x) there) none

absent : (o : Option NodeState) → is_some o ≡ true → o ≡ None → ⊥
absent None e f = absurd (cc)
absent (Some r) e f = absurd (cc)

not_added : (w : World) (x u : ℕ) (b : Bool) → has w.nodes x ≡ true → get w.nodes u ≡ None → (u == x) ≡ b → once_if b ≡ 0
not_added w x u true there free same = absurd (let at : u ≡ x = grind (arith, nat_tests, same) in absent (get w.nodes x) there (subst (λ v. get w.nodes v ≡ None) at free))
not_added w x u false there free other = refl

-- no node is added that is there
pub adds_none : (w : World) (t : Turn) (x : ℕ) → IsTurn w t → has w.nodes x ≡ true → adds x t ≡ 0
adds_none w (Takes (Order c n (Add u g))) x is there = not_added w x u (u == x) there (fresh_order w w c n (Add u g) is.0) refl
adds_none w (Takes (Order c n (Remove u))) x is there = refl
adds_none w (Takes (Order c n (Join a b))) x is there = refl
adds_none w (Takes (Order c n (Drop a b))) x is there = refl
adds_none w (Takes (Order c n (Reset u))) x is there = refl
adds_none w (Takes (Order c n (Confirm u e))) x is there = refl
adds_none w (Takes (Take p)) x is there = refl
adds_none w (Takes (Clear p)) x is there = refl
adds_none w Raises x is there = refl

-- ---- links

-- the world has a lane between the same nodes, of the same incarnation
pub record WasThere (w : World) (x y : ℕ) (m : Lane) : Type 0 where
  pub lane : Lane
  pub there : lane_at w.links x y ≡ Some lane
  pub same : lane.inc ≡ m.inc

-- a lane of the next world was in the world before, or the next step made it
abbrev pub IsOld : World → ℕ → ℕ → Lane → Type 0
IsOld w x y m = WasThere w x y m ⊎ (m.inc ≡ w.count + 1)

abbrev AllOld : World → Links → Type 0
AllOld w t = (x y : ℕ) (m : Lane) → lane_at t x y ≡ Some m → IsOld w x y m

all_old : (w : World) → AllOld w w.links
all_old w x y m is = inl (record { lane = m; there = is; same = refl })

-- the incarnation is what counts
old_by : (w : World) (x y : ℕ) (l m : Lane) → m.inc ≡ l.inc → IsOld w x y l → IsOld w x y m
old_by w x y l m same (inl was) = inl (record { lane = was.lane; there = was.there; same = was.same ∙ sym same })
old_by w x y l m same (inr new) = inr (same ∙ new)

old_changed : (w : World) (t : Links) (f : ℕ × ℕ → Lane → Lane) → ((k : ℕ × ℕ) (l : Lane) → (f k l).inc ≡ l.inc) → AllOld w t → AllOld w (change_lanes f t)
old_changed w t f keeps old x y m is = of (lane_at t x y) refl (sym (lane-changed t f x y) ∙ is)
  where
    of : (o : Option Lane) → lane_at t x y ≡ o → option_map (f (x, y)) o ≡ Some m → IsOld w x y m
    of None was e = absurd (cc)
    of (Some l) was e = let made : f (x, y) l ≡ m = cc in old_by w x y l m (sym (ap (λ (n : Lane). n.inc) made) ∙ keeps (x, y) l) (old x y l was)

sends_keep : (b : Bool) (ms : List Msg) (l : Lane) → (if b then sent ms l else l).inc ≡ l.inc
sends_keep true ms l = refl
sends_keep false ms l = refl

old_after : (w v : World) (ds : List (ℕ × Transition)) → AllOld w v.links → AllOld w (with_transitions v ds).links
old_after w v [] old = old
old_after w v (d ∷ ds) old = old_after w (with_transition v d.0 d.1) ds (old_changed w v.links (λ k l. if k.0 == d.0 then sent (added d.1 k.1) l else l) (λ k l. sends_keep (k.0 == d.0) (added d.1 k.1) l) old)

one_keeps : (b : Bool) (f : Lane → Lane) (l : Lane) → (f l).inc ≡ l.inc → (if b then f l else l).inc ≡ l.inc
one_keeps true f l same = same
one_keeps false f l same = refl

old_prepared : (w : World) (s : Step) → AllOld w (prepared w s).links
old_prepared w (Order c n (Add u g)) = all_old w
old_prepared w (Order c n (Remove u)) = all_old w
old_prepared w (Order c n (Join a b)) = λ x y m is. of x y m ((eqb x a && eqb y b) || (eqb x b && eqb y a)) (sym (lane-joined w.links a b (new_lane (w.count + 1)) x y) ∙ is)
  where
    of : (x y : ℕ) (m : Lane) (b : Bool) → cond b (Some (new_lane (w.count + 1))) (lane_at w.links x y) ≡ Some m → IsOld w x y m
    of x y m true e = let made : new_lane (w.count + 1) ≡ m = cc in inr (sym (ap (λ (n : Lane). n.inc) made))
    of x y m false e = all_old w x y m e
old_prepared w (Order c n (Drop a b)) = λ x y m is. of x y m ((eqb x a && eqb y b) || (eqb x b && eqb y a)) (sym (lane-parted w.links a b x y) ∙ is)
  where
    of : (x y : ℕ) (m : Lane) (b : Bool) → cond b None (lane_at w.links x y) ≡ Some m → IsOld w x y m
    of x y m true e = absurd (cc)
    of x y m false e = all_old w x y m e
old_prepared w (Order c n (Reset u)) = all_old w
old_prepared w (Order c n (Confirm u e)) = all_old w
old_prepared w (Take p) = old_changed w w.links (λ k l. if (k.0 == p.from) && (k.1 == p.to) then took l else l) (λ k l. one_keeps ((k.0 == p.from) && (k.1 == p.to)) took l refl) (all_old w)
old_prepared w (Clear p) = old_changed w w.links (λ k l. if (k.0 == p.from) && (k.1 == p.to) then cleared l else l) (λ k l. one_keeps ((k.0 == p.from) && (k.1 == p.to)) cleared l refl) (all_old w)

-- a lane after a turn was there before it, or the turn made it
pub was_or_new : (w : World) (t : Turn) (x y : ℕ) (m : Lane) → lane_at (turned w t).links x y ≡ Some m → IsOld w x y m
was_or_new w (Takes (Order c n o)) = old_after w (prepared w (Order c n o)) (transitions w.version (state w) (Order c n o)) (old_prepared w (Order c n o))
was_or_new w (Takes (Take p)) = old_after w (prepared w (Take p)) (transitions w.version (state w) (Take p)) (old_prepared w (Take p))
was_or_new w (Takes (Clear p)) = old_prepared w (Clear p)
was_or_new w Raises = all_old w
