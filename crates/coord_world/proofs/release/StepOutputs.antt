-- The packets that a step sends are fronts of the world after it, and each front there was sent by the step or was
-- one before.
use Rattle.std.proofs.Common.{◌≡◌, ◌⊎◌, ℕ, ◌+◌, true, false, List, [], ◌∷◌, ◌++◌, Option, Some, None, cond, refl, sym, ap, ◌∙◌, subst, inl, inr, Contains, arith}
use Rattle.std.proofs.lemmas.Bool.Decides.{nat_tests}
use Rattle.std.proofs.lemmas.List.Elements.{Contains-append_cases, Contains-append_left, Contains-append_right}
use Rattle.coord_types.specs.Facade.{is_nil}
use Rattle.coord_types.specs.declared.messages.Msg.{Msg}
use Rattle.coord_types.specs.declared.outputs.Output.{Output}
use Rattle.coord_types.specs.declared.outputs.Output.TheVariants.{Receipted, Signalled, Sent}
use Rattle.coord_types.specs.declared.packets.DataPacket.{DataPacket}
use Rattle.coord_types.specs.declared.packets.ReceiptPacket.{ReceiptPacket}
use Rattle.coord_types.specs.declared.steps.Step.{Step}
use Rattle.coord_types.specs.declared.steps.Step.TheVariants.{Clear, Order, Take}
use Rattle.coord_tables.specs.Links.{Turned}
use Rattle.coord_tables.proofs.LinkLanes.{in_order-found}
use Rattle.coord_link.specs.LaneMachine.{Lane, cleared, new_lane, sent, took}
use Rattle.coord_node.specs.Facade.{Transition, transitions}
use Rattle.coord_world.specs.Facade.{IsFresh, World, all_sent, front_packet, had_front, lane_at, lanes_in_order, next, outputs, pair_cmp, receipt, receipts, sent_by, signals, state}
use Rattle.coord_world.specs.laws.Trails.{IsSound}
use Rattle.coord_tables.proofs.Cases.{by_test}
use Rattle.coord_world.proofs.lanes.Transit.{counts_cases}
use Rattle.coord_world.proofs.release.ResendList.{entries_found, front_packet_is, all_sent-flat_map, Contains-cons_cases, Contains-head, not_in_nil, Contains-one, Contains-flat_map_found, Contains-flat_map_entry}
use Rattle.coord_world.proofs.release.LaneFronts.{LaneStep, lane_step, lane_taken, IsNumbered, IsFront, IsFrontReceipt, one_lane}
use Rattle.coord_tables.proofs.Found.{same_pair}
use Rattle.coord_world.proofs.release.TakeablePackets.{fresh_take_is_next}
use Rattle.coord_world.proofs.lanes.Transit.{counts_cases}

-- the receipts of a step are of the packet that it takes
receipts_taken : (s : Step) (p : ReceiptPacket) → Contains (receipts s) (Receipted p) → (q : DataPacket) × ((s ≡ Take q) × (receipt q ≡ p))
receipts_taken s p h1 = grind (arith, nat_tests, h1)

receipts_no_data : {A : Type 0} (s : Step) (p : DataPacket) → Contains (receipts s) (Sent p) → A
receipts_no_data (Order c n x) p h = not_in_nil (Sent p) h
receipts_no_data (Take q) p h = absurd (let e = Contains-one (Receipted (receipt q)) (Sent p) h in cc e)
receipts_no_data (Clear q) p h = not_in_nil (Sent p) h

-- signals are no packets
abbrev IsPacket : Output → Type 0
IsPacket (Receipted p) = Unit {0}
IsPacket (Signalled u e) = ⊥
IsPacket (Sent p) = Unit {0}

signals_no_packet : {A : Type 0} (ds : List (ℕ × Transition)) (o : Output) → IsPacket o → Contains (signals ds) o → A
signals_no_packet [] o is h = not_in_nil o h
signals_no_packet {A} (d ∷ ds) o is h = by_test d.1.finished (λ b. Contains (cond b (Signalled d.0 d.1.state.epoch ∷ signals ds) (signals ds)) o → A)
    (λ _ x. elim (Contains-cons_cases (Signalled d.0 d.1.state.epoch) (signals ds) o x) [ inl here ↦ absurd (subst IsPacket (sym here) is) | inr later ↦ signals_no_packet ds o is later ])
    (λ _ x. signals_no_packet ds o is x) h

-- what a lane sends is its front
sent_by_front : (before : Option Lane) (k : ℕ × ℕ) (l : Lane) (q : List Msg) (o : Output) → Contains (sent_by before k l q) o → (m : Msg) × ((ms : List Msg) × ((q ≡ m ∷ ms) × (Sent (front_packet k l m) ≡ o)))
sent_by_front before k l q o h1 = grind (arith, nat_tests, h1)

module _ (w : World) (s : Step) (turned : Turned (next w s).links) where
  -- each sent packet comes from a lane of the next world
  all_sent_lane : (o : Output) → Contains (all_sent w.links (lanes_in_order (next w s).links)) o → (e : (ℕ × ℕ) × Lane) × ((lane_at (next w s).links e.0.0 e.0.1 ≡ Some e.1) × Contains (sent_by (lane_at w.links e.0.0 e.0.1) e.0 e.1 e.1.queue) o)
  all_sent_lane o h = Contains-flat_map_entry pair_cmp same_pair (λ e. sent_by (lane_at w.links e.0.0 e.0.1) e.0 e.1 e.1.queue) (λ e. lane_at (next w s).links e.0.0 e.0.1 ≡ Some e.1) (lanes_in_order (next w s).links) o (entries_found (next w s) turned)
      (rw (sym (all_sent-flat_map w.links (lanes_in_order (next w s).links))) h)

  -- what a lane of the next world sends is sent
  lane_sent : (o : Output) (k : ℕ × ℕ) (l : Lane) → lane_at (next w s).links k.0 k.1 ≡ Some l → Contains (sent_by (lane_at w.links k.0 k.1) k l l.queue) o → Contains (all_sent w.links (lanes_in_order (next w s).links)) o
  lane_sent o k l there h = rw (all_sent-flat_map w.links (lanes_in_order (next w s).links))
      (Contains-flat_map_found pair_cmp same_pair (λ e. sent_by (lane_at w.links e.0.0 e.0.1) e.0 e.1 e.1.queue) (lanes_in_order (next w s).links) k l o (in_order-found (next w s).links turned k.0 k.1 ∙ there) h)

  -- what a step gives out is a receipt, a signal, or sent
  outputs_cases : {A : Type 0} (o : Output) → (Contains (receipts s) o → A) → (Contains (signals (transitions w.version (state w) s)) o → A) → (Contains (all_sent w.links (lanes_in_order (next w s).links)) o → A) → Contains (outputs w s) o → A
  outputs_cases o first second third h = elim (Contains-append_cases (receipts s ++ signals (transitions w.version (state w) s)) (all_sent w.links (lanes_in_order (next w s).links)) o h) [
    | inl early ↦ elim (Contains-append_cases (receipts s) (signals (transitions w.version (state w) s)) o early) [ inl receipt ↦ first receipt | inr signal ↦ second signal ]
    | inr sends ↦ third sends
  ]

  -- a sent data packet is a front
  pub outputs_front : (p : DataPacket) → Contains (outputs w s) (Sent p) → IsFront (next w s) p
  outputs_front p h = outputs_cases (Sent p) (receipts_no_data s p) (signals_no_packet (transitions w.version (state w) s) (Sent p) tt)
      (λ last.
      let on = all_sent_lane (Sent p) last in
      let by = sent_by_front (lane_at w.links on.0.0.0 on.0.0.1) on.0.0 on.0.1 on.0.1.queue (Sent p) on.1.1 in
      let is : front_packet on.0.0 on.0.1 by.0 ≡ p = let e = by.1.1.1 in cc e in
      subst (IsFront (next w s)) is (record { at = record { lane = on.0.1; there = on.1.0; inc = refl; number = refl }; rest = by.1.0; queue = by.1.1.0 }))
      h

  -- a sent receipt is of the packet that is taken
  outputs_receipt_taken : (p : ReceiptPacket) → Contains (outputs w s) (Receipted p) → (q : DataPacket) × ((s ≡ Take q) × (receipt q ≡ p))
  outputs_receipt_taken p h = outputs_cases (Receipted p) (receipts_taken s p) (signals_no_packet (transitions w.version (state w) s) (Receipted p) tt)
      (λ last.
      let on = all_sent_lane (Receipted p) last in
      let by = sent_by_front (lane_at w.links on.0.0.0 on.0.0.1) on.0.0 on.0.1 on.0.1.queue (Receipted p) on.1.1 in
      absurd (let e = by.1.1.1 in cc e))
      h

  -- a new front is sent
  new_front_output : (p : DataPacket) (front : IsFront (next w s) p) → had_front (lane_at w.links p.from p.to) front.at.lane ≡ false → Contains (outputs w s) (Sent p)
  new_front_output p front new =
      let l = front.at.lane in
      let before = lane_at w.links p.from p.to in
      let sends : Contains (sent_by before (p.from, p.to) l l.queue) (Sent p) =
      subst (λ q. Contains (sent_by before (p.from, p.to) l q) (Sent p)) (sym front.queue)
      (subst (λ b. Contains (cond b [] (Sent (front_packet (p.from, p.to) l p.msg) ∷ [])) (Sent p)) (sym new)
      (subst (λ z. Contains (Sent (front_packet (p.from, p.to) l p.msg) ∷ []) (Sent z)) (front_packet_is (next w s) p front) (Contains-head (Sent (front_packet (p.from, p.to) l p.msg)) []))) in
      Contains-append_right (receipts s ++ signals (transitions w.version (state w) s)) (all_sent w.links (lanes_in_order (next w s).links)) (Sent p) (lane_sent (Sent p) (p.from, p.to) l front.at.there sends)

-- a sent receipt is of a taken front
pub outputs_receipt : (w : World) (s : Step) (p : ReceiptPacket) → Turned (next w s).links → IsFresh w w s → Contains (outputs w s) (Receipted p) → IsFrontReceipt (next w s) p
outputs_receipt w s p turned fresh h = let by = outputs_receipt_taken w s turned p h in subst (λ z. IsFrontReceipt (next w z) p) (sym by.1.0) (subst (IsFrontReceipt (next w (Take by.0))) by.1.1 (taken by.0 (subst (IsFresh w w) by.1.0 fresh)))
  where
    taken : (q : DataPacket) → IsFresh w w (Take q) → IsFrontReceipt (next w (Take q)) (receipt q)
    taken q fresh =
        let is = fresh_take_is_next w w q fresh in
        let l = is.front.at.lane in
        let after = lane_taken w q l is.front.at.there in
        record { at = record { lane = sent after.0 (took l); there = after.1; inc = is.front.at.inc; number = is.front.at.number }; got = ap (λ n. n + 1) is.idle }

-- a front that was one before
record Had (before : Option Lane) (l : Lane) : Type 0 where
  lane : Lane
  there : before ≡ Some lane
  more : is_nil lane.queue ≡ false
  inc : lane.inc ≡ l.inc
  base : lane.base ≡ l.base

had_front_lane : (before : Option Lane) (l : Lane) → had_front before l ≡ true → Had before l
had_front_lane None l h = cc
had_front_lane (Some o) l h = record { lane = o; there = refl; more = grind (arith, nat_tests, h); inc = grind (arith, nat_tests, h); base = grind (arith, nat_tests, h) }

-- a list that isn't empty keeps its front
same_front : (q ms : List Msg) (m : Msg) (rest : List Msg) → is_nil q ≡ false → q ++ ms ≡ m ∷ rest → (old : List Msg) × (q ≡ m ∷ old)
same_front q ms m rest h1 h2 = grind (arith, nat_tests, h1, h2)

-- a front was sent by the step, or was one before
pub front_from_step : (w : World) (s : Step) → Turned (next w s).links → (p : DataPacket) → IsFront (next w s) p → Contains (outputs w s) (Sent p) ⊎ IsFront w p
front_from_step w s turned p front = by_test (had_front (lane_at w.links p.from p.to) front.at.lane) (λ b. had_front (lane_at w.links p.from p.to) front.at.lane ≡ b → Contains (outputs w s) (Sent p) ⊎ IsFront w p)
    (λ had _. inr (by_step (had_front_lane (lane_at w.links p.from p.to) front.at.lane had) (lane_step w s p.from p.to))) (λ new _. inl (new_front_output w s turned p front new)) refl
  where
    at : IsNumbered (next w s) p.from p.to p.inc p.number
    at = front.at

    -- a front that the step did not give out was in front already
    kept : (had : Had (lane_at w.links p.from p.to) at.lane) (k : Lane) (ms : List Msg) → lane_at w.links p.from p.to ≡ Some k → k.queue ++ ms ≡ at.lane.queue → IsFront w p
    kept had k ms was is =
        let same = one_lane _ had.lane k had.there was in
        let old = same_front k.queue ms p.msg front.rest (ap (λ z. is_nil z.queue) (sym same) ∙ had.more) (is ∙ front.queue) in
        record { at = record { lane = k; there = was; inc = ap (λ z. z.inc) (sym same) ∙ had.inc ∙ at.inc; number = ap (λ z. z.base + 1) (sym same) ∙ ap (λ n. n + 1) had.base ∙ at.number }; rest = old.0; queue = old.1 }

    by_step : Had (lane_at w.links p.from p.to) at.lane → LaneStep w s p.from p.to (lane_at (next w s).links p.from p.to) → IsFront w p
    by_step had (LaneStep.is_none e) = absurd (let there = at.there in cc)
    by_step had (LaneStep.is_made e) = absurd (let same = one_lane _ (new_lane (w.count + 1)) at.lane e at.there in let none = ap (λ z. z.queue) same ∙ front.queue in cc none)
    by_step had (LaneStep.is_kept k ms was e) = kept had k ms was (ap (λ z. z.queue) (one_lane _ (sent ms k) at.lane e at.there))
    by_step had (LaneStep.is_taken k ms q t ends was e) = kept had k ms was (ap (λ z. z.queue) (one_lane _ (sent ms (took k)) at.lane e at.there))
    by_step had (LaneStep.is_cleared k q t ends was e) = grind (arith, nat_tests, had, had.base, one_lane _ had.lane k had.there was, ap (λ z. z.base) (one_lane _ (cleared k) at.lane e at.there))

-- a front that was taken was taken by the step, or before it
pub receipt_from_step : (w : World) (s : Step) (p : ReceiptPacket) → IsSound w → IsFresh w w s → IsFrontReceipt (next w s) p → Contains (outputs w s) (Receipted p) ⊎ IsFrontReceipt w p
receipt_from_step w s p sound fresh r = by_step (lane_step w s p.from p.to)
  where
    at : IsNumbered (next w s) p.from p.to p.inc p.number
    at = r.at

    by_step : LaneStep w s p.from p.to (lane_at (next w s).links p.from p.to) → Contains (outputs w s) (Receipted p) ⊎ IsFrontReceipt w p
    by_step (LaneStep.is_none e) = absurd (let there = at.there in cc)
    by_step (LaneStep.is_made e) = absurd (let same = one_lane _ (new_lane (w.count + 1)) at.lane e at.there in let got = ap (λ z. z.got) same in omega (arith, got, r.got))
    by_step (LaneStep.is_kept k ms was e) =
        let same = one_lane _ (sent ms k) at.lane e at.there in
        inr (record { at = record { lane = k; there = was; inc = ap (λ z. z.inc) same ∙ at.inc; number = ap (λ z. z.base + 1) same ∙ at.number }; got = ap (λ z. z.got) same ∙ r.got ∙ ap (λ z. z.base + 1) (sym same) })
    by_step (LaneStep.is_taken k ms q t ends was e) =
        let same = one_lane _ (sent ms (took k)) at.lane e at.there in
        let is = fresh_take_is_next w w q (subst (IsFresh w w) t fresh) in
        let here : is.front.at.lane ≡ k = one_lane _ is.front.at.lane k is.front.at.there ((λ i. lane_at w.links (ends.0 i) (ends.1 i)) ∙ was) in
        let inc : q.inc ≡ p.inc = sym is.front.at.inc ∙ ap (λ z. z.inc) here ∙ ap (λ z. z.inc) same ∙ at.inc in
        let number : q.number ≡ p.number = sym is.front.at.number ∙ ap (λ z. z.base + 1) here ∙ ap (λ z. z.base + 1) same ∙ at.number in
        let named : receipt q ≡ p = λ i. record { from = ends.0 i; to = ends.1 i; inc = inc i; number = number i } in
        let first : Contains (receipts s) (Receipted p) = rw t (rw (sym named) (Contains-head (Receipted (receipt q)) [])) in
        inl (Contains-append_left (receipts s ++ signals (transitions w.version (state w) s)) (all_sent w.links (lanes_in_order (next w s).links)) (Receipted p) (Contains-append_left (receipts s) (signals (transitions w.version (state w) s)) (Receipted p) first))
    by_step (LaneStep.is_cleared k q t ends was e) =
        let same = one_lane _ (cleared k) at.lane e at.there in
        let got = ap (λ z. z.got) same in
        let base = ap (λ z. z.base) same in
        absurd (elim (counts_cases k (sound.legal.lanes p.from p.to k was)) [ inl idle ↦ omega (arith, idle, got, base, r.got) | inr taken ↦ omega (arith, taken.0, got, base, r.got) ])
