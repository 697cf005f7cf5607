-- Fronts of a lane and their receipts, and what one step makes of them.
use Rattle.std.proofs.Common.{◌≡◌, ℕ, ◌+◌, Bool, true, false, List, [], ◌∷◌, ◌++◌, Option, Some, None, cond, eqb, refl, sym, ap, ◌∙◌, arith, append-nil, append_assoc, ◌⊎◌, ◌≤◌, subst, inl, inr}
use Rattle.std.proofs.lemmas.Bool.Decides.{nat_tests}
use Rattle.coord_types.specs.declared.messages.Msg.{Msg}
use Rattle.coord_types.specs.declared.packets.DataPacket.{DataPacket}
use Rattle.coord_types.specs.declared.packets.ReceiptPacket.{ReceiptPacket}
use Rattle.coord_types.specs.declared.steps.Command.TheVariants.{Add, Remove, Join, Drop, Reset, Confirm}
use Rattle.coord_types.specs.declared.steps.Step.{Step}
use Rattle.coord_types.specs.declared.steps.Step.TheVariants.{Order, Take, Clear}
use Rattle.coord_types.proofs.Tables.{option_map}
use Rattle.coord_link.specs.LaneMachine.{Lane, cleared, new_lane, sent, took}
use Rattle.coord_node.specs.Facade.{Transition, added, is_link, transitions, transitions_ordered}
use Rattle.coord_world.specs.Facade.{World, is_lane, lane_at, next, on_lane, state, with_command, with_transition, with_transitions, IsFresh, fold}
use Rattle.coord_world.proofs.lists.GetAfter.{lane_done, lane_on, lane_left, lane_made}
use Rattle.coord_world.specs.laws.Trails.{IsSound}
use Rattle.coord_world.proofs.Acceptance.{fresh_take}
use Rattle.coord_world.proofs.release.Trails.{EachFresh, sound_next}

-- ---- what one step makes of one lane

-- the lane from x to y after a step
pub data LaneStep (w : World) (s : Step) (x y : ℕ) (after : Option Lane) : Type 0 where
  is_none : after ≡ None → LaneStep w s x y after
  is_made : after ≡ Some (new_lane (w.count + 1)) → LaneStep w s x y after
  is_kept : (l : Lane) (ms : List Msg) → lane_at w.links x y ≡ Some l → after ≡ Some (sent ms l) → LaneStep w s x y after
  is_taken : (l : Lane) (ms : List Msg) (p : DataPacket) → s ≡ Take p → (p.from ≡ x) × (p.to ≡ y) → lane_at w.links x y ≡ Some l → after ≡ Some (sent ms (took l)) → LaneStep w s x y after
  is_cleared : (l : Lane) (p : ReceiptPacket) → s ≡ Clear p → (p.from ≡ x) × (p.to ≡ y) → lane_at w.links x y ≡ Some l → after ≡ Some (cleared l) → LaneStep w s x y after

-- if nothing is sent, the lane stays
pub sent_none : (l : Lane) → l ≡ sent [] l
sent_none l = let same = sym (append-nil l.queue) in λ i. record l { queue = same i }

-- messages sent one after the other are sent at once
pub sent_twice : (ms ns : List Msg) (l : Lane) → sent ns (sent ms l) ≡ sent (ms ++ ns) l
sent_twice ms ns l i = record l { queue = append_assoc l.queue ms ns i }

-- what transitions send on one lane
abbrev pub Sends : Option Lane → Option Lane → Type 0
Sends before after = (ms : List Msg) × (after ≡ option_map (sent ms) before)

sends_none : (o : Option Lane) → Sends o o
sends_none None = ([], refl)
sends_none (Some l) = ([], ap Some (sent_none l))

-- what one transition sends, and those after it
one_more : (b : Bool) (ms ns : List Msg) (o : Option Lane) → option_map (sent ns) (option_map (λ l. cond b (sent ms l) l) o) ≡ option_map (sent (cond b ms [] ++ ns)) o
one_more b ms ns None = refl
one_more true ms ns (Some l) = ap Some (sent_twice ms ns l)
one_more false ms ns (Some l) = refl

-- transitions do nothing else to a lane
pub transitions_send : (ds : List (ℕ × Transition)) (w : World) (x y : ℕ) → Sends (lane_at w.links x y) (lane_at (with_transitions w ds).links x y)
transitions_send [] w x y = sends_none (lane_at w.links x y)
transitions_send (d ∷ ds) w x y =
    let later = transitions_send ds (with_transition w d.0 d.1) x y in (
      cond (eqb x d.0) (added d.1 y) [] ++ later.0,
      later.1 ∙ ap (option_map (sent later.0)) (lane_done w d.0 d.1 x y) ∙ one_more (eqb x d.0) (added d.1 y) later.0 (lane_at w.links x y),
    )

module _ (w : World) (s : Step) (x y : ℕ) where
  -- a lane that stays, except for new messages
  stays : (o after : Option Lane) → lane_at w.links x y ≡ o → Sends o after → LaneStep w s x y after
  stays None after is sends = LaneStep.is_none sends.1
  stays (Some l) after is sends = LaneStep.is_kept l sends.0 is sends.1

  -- a lane that is made, or stays
  makes : (b : Bool) (after : Option Lane) → after ≡ cond b (Some (new_lane (w.count + 1))) (lane_at w.links x y) → LaneStep w s x y after
  makes true after is = LaneStep.is_made is
  makes false after is = let same = sends_none (lane_at w.links x y) in stays (lane_at w.links x y) after refl (same.0, is ∙ same.1)

  -- a lane that is removed, or stays
  unlinks : (b : Bool) (after : Option Lane) → Sends (cond b None (lane_at w.links x y)) after → LaneStep w s x y after
  unlinks true after sends = LaneStep.is_none sends.1
  unlinks false after sends = stays (lane_at w.links x y) after refl sends

same_ends : (x y u v : ℕ) → is_lane (x, y) u v ≡ true → (u ≡ x) × (v ≡ y)
same_ends x y u v h = (grind (arith, nat_tests), grind (arith, nat_tests))

-- what a step makes of a lane, by the kind of the step
pub lane_step : (w : World) (s : Step) (x y : ℕ) → LaneStep w s x y (lane_at (next w s).links x y)
lane_step w (Order c n (Add u g)) x y = stays w (Order c n (Add u g)) x y (lane_at w.links x y) (lane_at w.links x y) refl (sends_none (lane_at w.links x y))
lane_step w (Order c n (Remove u)) x y = stays w (Order c n (Remove u)) x y (lane_at w.links x y) (lane_at w.links x y) refl (sends_none (lane_at w.links x y))
lane_step w (Order c n (Join a b)) x y = makes w (Order c n (Join a b)) x y (is_link a b x y) (lane_at (with_command w (Join a b)).links x y) (lane_made w a b x y)
lane_step w (Order c n (Drop a b)) x y =
    let sends = transitions_send (transitions_ordered w.version (state w) (Drop a b)) (with_command w (Drop a b)) x y in
    unlinks w (Order c n (Drop a b)) x y (is_link a b x y) _ (sends.0, sends.1 ∙ ap (option_map (sent sends.0)) (lane_left w a b x y))
lane_step w (Order c n (Reset u)) x y = stays w (Order c n (Reset u)) x y (lane_at w.links x y) _ refl (transitions_send (transitions_ordered w.version (state w) (Reset u)) w x y)
lane_step w (Order c n (Confirm u e)) x y = stays w (Order c n (Confirm u e)) x y (lane_at w.links x y) (lane_at w.links x y) refl (sends_none (lane_at w.links x y))
lane_step w (Take p) x y =
    let sends = transitions_send (transitions w.version (state w) (Take p)) (on_lane w p.from p.to took) x y in
    of_lane (is_lane (x, y) p.from p.to) (lane_at w.links x y) refl refl sends.0 (sends.1 ∙ ap (option_map (sent sends.0)) (lane_on w p.from p.to took x y))
  where
    of_lane : (b : Bool) (o : Option Lane) → is_lane (x, y) p.from p.to ≡ b → lane_at w.links x y ≡ o → (ms : List Msg) → lane_at (next w (Take p)).links x y ≡ option_map (sent ms) (option_map (λ l. cond b (took l) l) o) →
        LaneStep w (Take p) x y (lane_at (next w (Take p)).links x y)
    of_lane b None there is ms e = LaneStep.is_none e
    of_lane true (Some l) there is ms e = LaneStep.is_taken l ms p refl (same_ends x y p.from p.to there) is e
    of_lane false (Some l) there is ms e = LaneStep.is_kept l ms is e
lane_step w (Clear p) x y = of_lane (is_lane (x, y) p.from p.to) (lane_at w.links x y) refl refl (lane_on w p.from p.to cleared x y)
  where
    of_lane : (b : Bool) (o : Option Lane) → is_lane (x, y) p.from p.to ≡ b → lane_at w.links x y ≡ o → lane_at (next w (Clear p)).links x y ≡ option_map (λ l. cond b (cleared l) l) o → LaneStep w (Clear p) x y (lane_at (next w (Clear p)).links x y)
    of_lane b None there is e = LaneStep.is_none e
    of_lane true (Some l) there is e = LaneStep.is_cleared l p refl (same_ends x y p.from p.to there) is e
    of_lane false (Some l) there is e = LaneStep.is_kept l [] is (e ∙ ap Some (sent_none l))

-- the lane whose message is taken
pub lane_taken : (w : World) (p : DataPacket) (l : Lane) → lane_at w.links p.from p.to ≡ Some l → (ms : List Msg) × (lane_at (next w (Take p)).links p.from p.to ≡ Some (sent ms (took l)))
lane_taken w p l there =
    let sends = transitions_send (transitions w.version (state w) (Take p)) (on_lane w p.from p.to took) p.from p.to in
    let here : is_lane (p.from, p.to) p.from p.to ≡ true = grind (arith, nat_tests) in (
      sends.0,
      sends.1 ∙ ap (option_map (sent sends.0)) (lane_on w p.from p.to took p.from p.to ∙ ap (option_map (λ l. cond (is_lane (p.from, p.to) p.from p.to) (took l) l)) there ∙ ap (λ b. Some (cond b (took l) l)) here),
    )

-- ---- fronts and their receipts, what a step makes of them, and which numbers no front has again

-- the lane from x to y has this incarnation, and its front would have this number
pub record IsNumbered (w : World) (x y i n : ℕ) : Type 0 where
  pub lane : Lane
  pub there : lane_at w.links x y ≡ Some lane
  pub inc : lane.inc ≡ i
  pub number : lane.base + 1 ≡ n

-- a data packet is its lane's front
pub record IsFront (w : World) (p : DataPacket) : Type 0 where
  pub at : IsNumbered w p.from p.to p.inc p.number
  pub rest : List Msg
  pub queue : at.lane.queue ≡ p.msg ∷ rest

-- a receipt is of its lane's front, which was taken
pub record IsFrontReceipt (w : World) (p : ReceiptPacket) : Type 0 where
  pub at : IsNumbered w p.from p.to p.inc p.number
  pub got : at.lane.got ≡ at.lane.base + 1

-- no lane will have this number in front again
pub record IsPast (w : World) (x y i n : ℕ) : Type 0 where
  pub made : i ≤ w.count
  pub past : (l : Lane) → lane_at w.links x y ≡ Some l → l.inc ≡ i → n ≤ l.base

-- a number that is past is no front's
pub front_not_past : {A : Type 0} (w : World) (x y inc number : ℕ) → IsNumbered w x y inc number → IsPast w x y inc number → A
front_not_past w x y inc number at gone = absurd (let less = gone.past at.lane at.there at.inc in omega (arith, at.number, less))

-- a pair of ends has one lane
pub one_lane : (o : Option Lane) (k l : Lane) → o ≡ Some k → o ≡ Some l → k ≡ l
one_lane o k l is also = cc

-- a number that is past stays so
pub past_next : (w : World) (s : Step) (x y inc number : ℕ) → IsPast w x y inc number → IsPast (next w s) x y inc number
past_next w s x y inc number gone = record { made = let old = gone.made in omega arith; past = by_step (lane_step w s x y) }
  where
    by_step : LaneStep w s x y (lane_at (next w s).links x y) → (l : Lane) → lane_at (next w s).links x y ≡ Some l → l.inc ≡ inc → number ≤ l.base
    by_step (LaneStep.is_none e) l there is = cc
    by_step (LaneStep.is_made e) l there is = let old = gone.made in let same = one_lane _ (new_lane (w.count + 1)) l e there in absurd (let count = ap (λ k. k.inc) same in omega arith)
    by_step (LaneStep.is_kept k ms was e) l there is = let same = one_lane _ (sent ms k) l e there in rw (sym (ap (λ z. z.base) same)) (gone.past k was (ap (λ z. z.inc) same ∙ is))
    by_step (LaneStep.is_taken k ms p t ends was e) l there is = let same = one_lane _ (sent ms (took k)) l e there in rw (sym (ap (λ z. z.base) same)) (gone.past k was (ap (λ z. z.inc) same ∙ is))
    by_step (LaneStep.is_cleared k p t ends was e) l there is =
        let same = one_lane _ (cleared k) l e there in
        rw (sym (ap (λ z. z.base) same)) (let less = gone.past k was (ap (λ z. z.inc) same ∙ is) in omega arith)

pub past_fold : (ss : List Step) (w : World) (x y inc number : ℕ) → IsPast w x y inc number → IsPast (fold w ss) x y inc number
past_fold [] w x y inc number gone = gone
past_fold (s ∷ ss) w x y inc number gone = past_fold ss (next w s) x y inc number (past_next w s x y inc number gone)

module _ (w : World) (s : Step) (sound : IsSound w) where
  -- a lane's incarnation is at most the count
  inc_within_count : (x y inc number : ℕ) → IsNumbered w x y inc number → inc ≤ w.count
  inc_within_count x y inc number at = rw (sym at.inc) (sound.in_range.lanes x y at.lane at.there).inc

  -- if a step removes the lane, its front's number is past
  past_none : (x y inc number : ℕ) → IsNumbered w x y inc number → lane_at (next w s).links x y ≡ None → IsPast (next w s) x y inc number
  past_none x y inc number at none = record { made = let old = inc_within_count x y inc number at in omega arith; past = λ l there is. cc }

  -- if a step makes the lane again, its front's number is past
  past_made : (x y inc number : ℕ) → IsNumbered w x y inc number → lane_at (next w s).links x y ≡ Some (new_lane (w.count + 1)) → IsPast (next w s) x y inc number
  past_made x y inc number at made =
      let old = inc_within_count x y inc number at in
      record { made = omega arith; past = λ l there is. let same = one_lane _ (new_lane (w.count + 1)) l made there in absurd (let count = ap (λ k. k.inc) same in omega arith) }

  -- if a step clears the front, its number is past
  past_cleared : (x y inc number : ℕ) (at : IsNumbered w x y inc number) → lane_at (next w s).links x y ≡ Some (cleared at.lane) → IsPast (next w s) x y inc number
  past_cleared x y inc number at e =
      let old = inc_within_count x y inc number at in
      record { made = omega arith; past = λ l there is. let same = one_lane _ (cleared at.lane) l e there in rw (sym (ap (λ z. z.base) same)) (omega (arith, at.number)) }

  -- a step keeps a front, or its number is past
  pub front_next : (p : DataPacket) → IsFront w p → IsFront (next w s) p ⊎ IsPast (next w s) p.from p.to p.inc p.number
  front_next p front = by_step (lane_step w s p.from p.to)
    where
      at : IsNumbered w p.from p.to p.inc p.number
      at = front.at

      by_step : LaneStep w s p.from p.to (lane_at (next w s).links p.from p.to) → IsFront (next w s) p ⊎ IsPast (next w s) p.from p.to p.inc p.number
      by_step (LaneStep.is_none e) = inr (past_none p.from p.to p.inc p.number at e)
      by_step (LaneStep.is_made e) = inr (past_made p.from p.to p.inc p.number at e)
      by_step (LaneStep.is_kept k ms was e) =
          let same = one_lane _ k at.lane was at.there in
          inl (record { at = record { lane = sent ms k; there = e; inc = ap (λ z. z.inc) same ∙ at.inc; number = ap (λ z. z.base + 1) same ∙ at.number }; rest = front.rest ++ ms; queue = ap (λ z. z.queue ++ ms) same ∙ ap (λ q. q ++ ms) front.queue })
      by_step (LaneStep.is_taken k ms q t ends was e) =
          let same = one_lane _ k at.lane was at.there in
          inl (record { at = record { lane = sent ms (took k); there = e; inc = ap (λ z. z.inc) same ∙ at.inc; number = ap (λ z. z.base + 1) same ∙ at.number }; rest = front.rest ++ ms; queue = ap (λ z. z.queue ++ ms) same ∙ ap (λ q. q ++ ms) front.queue })
      by_step (LaneStep.is_cleared k q t ends was e) = let same = one_lane _ k at.lane was at.there in inr (past_cleared p.from p.to p.inc p.number at (e ∙ ap (λ z. Some (cleared z)) same))

  -- a front's receipt stays, or its number is past
  pub receipt_next : (p : ReceiptPacket) → IsFresh w w s → IsFrontReceipt w p → IsFrontReceipt (next w s) p ⊎ IsPast (next w s) p.from p.to p.inc p.number
  receipt_next p fresh receipt = by_step (lane_step w s p.from p.to)
    where
      at : IsNumbered w p.from p.to p.inc p.number
      at = receipt.at

      by_step : LaneStep w s p.from p.to (lane_at (next w s).links p.from p.to) → IsFrontReceipt (next w s) p ⊎ IsPast (next w s) p.from p.to p.inc p.number
      by_step (LaneStep.is_none e) = inr (past_none p.from p.to p.inc p.number at e)
      by_step (LaneStep.is_made e) = inr (past_made p.from p.to p.inc p.number at e)
      by_step (LaneStep.is_kept k ms was e) =
          let same = one_lane _ k at.lane was at.there in
          inl (record { at = record { lane = sent ms k; there = e; inc = ap (λ z. z.inc) same ∙ at.inc; number = ap (λ z. z.base + 1) same ∙ at.number }; got = ap (λ z. z.got) same ∙ receipt.got ∙ sym (ap (λ z. z.base + 1) same) })
      by_step (LaneStep.is_taken k ms q t ends was e) =
          let taken = fresh_take w w q (subst (IsFresh w w) t fresh) in
          let named : lane_at w.links q.from q.to ≡ Some at.lane = (λ i. lane_at w.links (ends.0 i) (ends.1 i)) ∙ at.there in
          let same = one_lane _ taken.lane at.lane taken.there named in
          absurd (let idle = sym (ap (λ z. z.got) same) ∙ taken.idle ∙ ap (λ z. z.base) same in omega (arith, receipt.got))
      by_step (LaneStep.is_cleared k q t ends was e) = let same = one_lane _ k at.lane was at.there in inr (past_cleared p.from p.to p.inc p.number at (e ∙ ap (λ z. Some (cleared z)) same))

-- the steps of a list leave a front in front, or its number is past
pub front_fold : (ss : List Step) (w : World) (p : DataPacket) → IsSound w → EachFresh w ss → IsFront w p → IsFront (fold w ss) p ⊎ IsPast (fold w ss) p.from p.to p.inc p.number
front_fold [] w p sound each front = inl front
front_fold (s ∷ ss) w p sound each front = elim (front_next w s sound p front) [
  | inl stays ↦ front_fold ss (next w s) p (sound_next w s sound each.0) each.1 stays
  | inr past ↦ inr (past_fold ss (next w s) p.from p.to p.inc p.number past)
]

pub receipt_fold : (ss : List Step) (w : World) (p : ReceiptPacket) → IsSound w → EachFresh w ss → IsFrontReceipt w p → IsFrontReceipt (fold w ss) p ⊎ IsPast (fold w ss) p.from p.to p.inc p.number
receipt_fold [] w p sound each receipt = inl receipt
receipt_fold (s ∷ ss) w p sound each receipt = elim (receipt_next w s sound p each.0.0 receipt) [
  | inl stays ↦ receipt_fold ss (next w s) p (sound_next w s sound each.0) each.1 stays
  | inr past ↦ inr (past_fold ss (next w s) p.from p.to p.inc p.number past)
]
