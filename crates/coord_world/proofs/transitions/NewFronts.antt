-- The new fronts of a step are on the lanes that it touches: those on which it sends, and the one that it clears.
use Rattle.std.proofs.Common.{◌≡◌, ◌≢◌, ℕ, ◌+◌, Bool, true, false, List, [], ◌∷◌, ◌++◌, Option, Some, None, cond, eqb, refl, sym, ap, ◌∙◌, arith, append-nil, nat_lt, is_some}
use Rattle.std.proofs.lemmas.Bool.Decides.{nat_tests}
use Rattle.coord_types.specs.NodeSet as set
use Rattle.coord_types.specs.Facade.{NodeState}
use Rattle.coord_types.proofs.Sets.{contains-empty, contains-remove, items-sorted}
use Rattle.coord_types.proofs.Tables.{option_map}
use Rattle.coord_types.specs.declared.messages.Msg.{Msg}
use Rattle.coord_types.specs.declared.steps.Command.TheVariants.{Add, Remove, Join, Drop, Reset, Confirm}
use Rattle.coord_types.specs.declared.steps.Step.{Step}
use Rattle.coord_types.specs.declared.steps.Step.TheVariants.{Order, Take, Clear}
use Rattle.coord_link.specs.LaneMachine.{Lane, cleared, new_lane, sent, took}
use Rattle.coord_node.specs.Facade.{Transition, added, is_link, lost, request, sends_of, transition, without, without_parent}
use Rattle.coord_tables.proofs.LinkLanes.{lane-apart}
use Rattle.coord_world.specs.Facade.{Links, World, all_sent, is_lane, lane_at, lanes_in_order, next, on_lane, sent_by, state, with_command, with_transition}
use Rattle.coord_world.specs.code.Fronts.{by_lesser, front_after, fronts_sent, new_fronts}
use Rattle.coord_world.specs.code.Ready.{IsReadyFor}
use Rattle.coord_tables.proofs.Cases.{by_test}
use Rattle.coord_world.proofs.Acceptance.{fresh_order, fresh_take}
use Rattle.coord_world.proofs.ranges.NextKeepsRanges.{turned_next}
use Rattle.coord_tables.specs.Links.{Turned}
use Rattle.coord_world.proofs.lists.GetAfter.{lane_done, lane_left, lane_made, lane_on}
use Rattle.coord_world.proofs.lists.NodeSets.{has_only}
use Rattle.coord_world.proofs.transitions.FrontsOfSends.{among, front_now, in_order, Still, fronts_of_sends, lanes_to, nothing_here, rising_to, sends_here, still_same, still_took, two_fronts}
use Rattle.coord_world.proofs.transitions.RuleCases.{lost_cases}

-- nothing is touched
quiet_step : (w : World) (after : Links) → Turned after → ((k : ℕ × ℕ) → Still k (lane_at w.links k.0 k.1) (lane_at after k.0 k.1)) → [] ≡ all_sent w.links (lanes_in_order after)
quiet_step w after turned still = sym (in_order w.links after turned [] tt (λ k l is away. still k l is))

reset_fronts : (w : World) (u : ℕ) (d : Transition) → Turned (with_transition w u d).links → fronts_sent w.links u (sends_of d) ≡ all_sent w.links (lanes_in_order (with_transition w u d).links)
reset_fronts w u d turned =
    let after = (with_transition w u d).links in
    sym (in_order w.links after turned (lanes_to u (set.items d.to)) (rising_to u (set.items d.to) (items-sorted d.to))
    (λ k l is away. still_same k (lane_at w.links k.0 k.1) l (sym (lane_done w u d k.0 k.1 ∙ nothing_here u d k.0 k.1 (lane_at w.links k.0 k.1) away) ∙ is))
    ∙ fronts_of_sends w.links after u d (λ v to. lane_done w u d u v ∙ sends_here u d v (lane_at w.links u v) to))

take_fronts : (w : World) (a u : ℕ) (d : Transition) → a ≢ u → Turned (with_transition (on_lane w a u took) u d).links → fronts_sent w.links u (sends_of d) ≡ all_sent w.links (lanes_in_order (with_transition (on_lane w a u took) u d).links)
take_fronts w a u d apart turned =
    let mid = on_lane w a u took in
    let after = (with_transition mid u d).links in
    sym (in_order w.links after turned (lanes_to u (set.items d.to)) (rising_to u (set.items d.to) (items-sorted d.to))
    (λ k l is away. still_took k (is_lane k a u) (lane_at w.links k.0 k.1) l
    (sym (lane_done mid u d k.0 k.1 ∙ nothing_here u d k.0 k.1 (lane_at mid.links k.0 k.1) away ∙ lane_on w a u took k.0 k.1) ∙ is))
    ∙ fronts_of_sends w.links after u d (λ v to.
    let other : is_lane (u, v) a u ≡ false = grind (arith, nat_tests, apart) in
    lane_done mid u d u v ∙ sends_here u d v (lane_at mid.links u v) to ∙ ap (option_map (sent (d.message ∷ []))) (lane_on w a u took u v ∙ untouched (is_lane (u, v) a u) (lane_at w.links u v) other)))
  where
    untouched : (b : Bool) (o : Option Lane) → b ≡ false → option_map (λ l. cond b (took l) l) o ≡ o
    untouched b None isnt = refl
    untouched b (Some l) isnt = ap (λ t. Some (cond t (took l) l)) isnt

clear_fronts : (w : World) (a b : ℕ) → Turned (on_lane w a b cleared).links → front_after (lane_at w.links a b) (a, b) ≡ all_sent w.links (lanes_in_order (on_lane w a b cleared).links)
clear_fronts w a b turned =
    let after = (on_lane w a b cleared).links in
    sym (in_order w.links after turned ((a, b) ∷ []) (tt, tt)
    (λ k l is away. let other : is_lane k a b ≡ false = grind (arith, nat_tests, away) in still_same k (lane_at w.links k.0 k.1) l (sym (lane_on w a b cleared k.0 k.1 ∙ untouched (is_lane k a b) (lane_at w.links k.0 k.1) other) ∙ is))
    ∙ append-nil (front_now w.links (a, b) (lane_at after a b))
    ∙ ap (front_now w.links (a, b)) (lane_on w a b cleared a b) ∙ following (lane_at w.links a b) refl)
  where
    untouched : (t : Bool) (o : Option Lane) → t ≡ false → option_map (λ l. cond t (cleared l) l) o ≡ o
    untouched t None isnt = refl
    untouched t (Some l) isnt = ap (λ f. Some (cond f (cleared l) l)) isnt

    here : is_lane (a, b) a b ≡ true
    here = grind (arith, nat_tests)

    following : (o : Option Lane) → lane_at w.links a b ≡ o → front_now w.links (a, b) (option_map (λ l. cond (is_lane (a, b) a b) (cleared l) l) o) ≡ front_after o (a, b)
    following None was = refl
    following (Some l) was = grind (arith, nat_tests, was)

-- a node sends nothing to the one that it lost
not_back : (r : NodeState) (v : ℕ) → set.contains (lost r v).to v ≡ false
not_back r v =
    lost_cases r v (λ d. set.contains d.to v ≡ false) (λ _. contains-empty v) (λ _ _. contains-empty v) (λ _ _. contains-empty v) (λ _ _. finishes (without r.parent v)) (λ _ _ _. finishes (without r.parent v))
    (λ _ _ p e. has_only p v ∙ other r.parent p e)
  where
    finishes : (o : Option ℕ) → set.contains (without_parent (set.remove r.neighbours v) o) v ≡ false
    finishes None = grind (arith, nat_tests, contains-remove r.neighbours v v)
    finishes (Some p) = grind (arith, nat_tests, contains-remove (set.remove r.neighbours v) p v, contains-remove r.neighbours v v)

    other : (o : Option ℕ) (p : ℕ) → without o v ≡ Some p → eqb v p ≡ false
    other None p e = cc
    other (Some q) p e = by_test (eqb q v) (λ t. cond t None (Some q) ≡ Some p → eqb v p ≡ false) (λ _ none. cc) (λ away some. let same : q ≡ p = cc in grind (arith, nat_tests, away, same)) e

not_mine : (t : Bool) (ms : List Msg) (o : Option Lane) → t ≡ false → option_map (λ l. cond t (sent ms l) l) o ≡ o
not_mine t ms o h1 = grind (arith, nat_tests, h1)

left : (t : Bool) (o : Option Lane) → t ≡ false → cond t None o ≡ o
left t o isnt = ap (λ f. cond f None o) isnt

module _ (w : World) (a b : ℕ) (apart : a ≢ b) where
  abbrev da : Transition
  da = lost (state w a) b

  abbrev db : Transition
  db = lost (state w b) a

  abbrev cut : World
  cut = with_command w (Drop a b)

  abbrev between : World
  between = with_transition cut a da

  abbrev dropped : World
  dropped = with_transition between b db

  first_sends : (y : ℕ) → set.contains da.to y ≡ true → lane_at dropped.links a y ≡ option_map (sent (da.message ∷ [])) (lane_at w.links a y)
  first_sends y to =
      let far : y ≢ b = λ same. let none = ap (set.contains da.to) same ∙ not_back (state w a) b in cc in
      let theirs : eqb a b ≡ false = grind (arith, nat_tests, apart) in
      let other : is_link a b a y ≡ false = grind (arith, nat_tests, apart, far) in
      lane_done between b db a y ∙ not_mine (eqb a b) (added db y) (lane_at between.links a y) theirs ∙ lane_done cut a da a y ∙ sends_here a da y (lane_at cut.links a y) to
      ∙ ap (option_map (sent (da.message ∷ []))) (lane_left w a b a y ∙ left (is_link a b a y) (lane_at w.links a y) other)

  second_sends : (y : ℕ) → set.contains db.to y ≡ true → lane_at dropped.links b y ≡ option_map (sent (db.message ∷ [])) (lane_at w.links b y)
  second_sends y to =
      let far : y ≢ a = λ same. let none = ap (set.contains db.to) same ∙ not_back (state w b) a in cc in
      let theirs : eqb b a ≡ false = grind (arith, nat_tests, apart) in
      let other : is_link a b b y ≡ false = grind (arith, nat_tests, apart, far) in
      lane_done between b db b y ∙ sends_here b db y (lane_at between.links b y) to
      ∙ ap (option_map (sent (db.message ∷ []))) (lane_done cut a da b y ∙ not_mine (eqb b a) (added da y) (lane_at cut.links b y) theirs ∙ lane_left w a b b y ∙ left (is_link a b b y) (lane_at w.links b y) other)

  others_still : (k : ℕ × ℕ) → among k (lanes_to a (set.items da.to)) ≡ false → among k (lanes_to b (set.items db.to)) ≡ false → Still k (lane_at w.links k.0 k.1) (lane_at dropped.links k.0 k.1)
  others_still k one two l is = gone (is_link a b k.0 k.1) (lane_at w.links k.0 k.1)
      (sym (lane_done between b db k.0 k.1 ∙ nothing_here b db k.0 k.1 (lane_at between.links k.0 k.1) two ∙ lane_done cut a da k.0 k.1 ∙ nothing_here a da k.0 k.1 (lane_at cut.links k.0 k.1) one ∙ lane_left w a b k.0 k.1) ∙ is)
    where
      gone : (t : Bool) (o : Option Lane) → cond t None o ≡ Some l → sent_by o k l l.queue ≡ []
      gone true o none = cc
      gone false o here = still_same k o l here

  drop_fronts : Turned dropped.links → by_lesser a b (fronts_sent w.links a (sends_of da)) (fronts_sent w.links b (sends_of db)) ≡ all_sent w.links (lanes_in_order dropped.links)
  drop_fronts turned = by_test (nat_lt a b) (λ t. cond t (fronts_sent w.links a (sends_of da) ++ fronts_sent w.links b (sends_of db)) (fronts_sent w.links b (sends_of db) ++ fronts_sent w.links a (sends_of da)) ≡ all_sent w.links (lanes_in_order dropped.links))
      (λ less. two_fronts w.links dropped.links turned a b da db less first_sends second_sends others_still)
      (λ isnt. let more : nat_lt b a ≡ true = grind (arith, nat_tests, apart, isnt) in
      two_fronts w.links dropped.links turned b a db da more second_sends first_sends (λ k one two. others_still k two one))

-- the links stay turned
after : (w : World) (s : Step) → IsReadyFor w s → Turned (next w s).links
after w s ready = turned_next w w s ready.ranges.turned ready.fresh

pub fronts_are : (w : World) (s : Step) → IsReadyFor w s → new_fronts w s ≡ all_sent w.links (lanes_in_order (next w s).links)
fronts_are w (Order c n (Add u g)) ready = quiet_step w w.links ready.ranges.turned (λ k. still_same k (lane_at w.links k.0 k.1))
fronts_are w (Order c n (Remove u)) ready = quiet_step w w.links ready.ranges.turned (λ k. still_same k (lane_at w.links k.0 k.1))
fronts_are w (Order c n (Join a b)) ready = quiet_step w (with_command w (Join a b)).links (after w (Order c n (Join a b)) ready) (λ k l is. made (is_link a b k.0 k.1) k (lane_at w.links k.0 k.1) l (sym (lane_made w a b k.0 k.1) ∙ is))
  where
    made : (t : Bool) (k : ℕ × ℕ) (o : Option Lane) (l : Lane) → cond t (Some (new_lane (w.count + 1))) o ≡ Some l → sent_by o k l l.queue ≡ []
    made true k o l is = let same : new_lane (w.count + 1) ≡ l = cc in rw (sym same) refl
    made false k o l is = still_same k o l is
fronts_are w (Order c n (Drop a b)) ready = drop_fronts w a b (fresh_order w w c n (Drop a b) ready.fresh).apart (after w (Order c n (Drop a b)) ready)
fronts_are w (Order c n (Reset u)) ready = reset_fronts w u (request w.version (state w u)) (after w (Order c n (Reset u)) ready)
fronts_are w (Order c n (Confirm u e)) ready = quiet_step w w.links ready.ranges.turned (λ k. still_same k (lane_at w.links k.0 k.1))
fronts_are w (Take p) ready = take_fronts w p.from p.to (transition w.version p.msg (state w p.to) p.from) (λ same.
    let there : is_some (lane_at w.links p.from p.to) ≡ true = ap is_some (fresh_take w w p ready.fresh).there in
    let none : is_some (lane_at w.links p.from p.to) ≡ false = ap (λ x. is_some (lane_at w.links x p.to)) same ∙ lane-apart w.links ready.ranges.turned p.to in
    cc) (after w (Take p) ready)
fronts_are w (Clear p) ready = clear_fronts w p.from p.to (after w (Clear p) ready)
