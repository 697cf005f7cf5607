-- The resend list: it holds the fronts, and the receipts of those that were taken.
use Rattle.std.proofs.Common.{◌≡◌, ◌⊎◌, true, false, List, [], ◌∷◌, ◌++◌, Some, Ordering, cond, refl, subst, inl, inr, flat_map, Contains, arith, ℕ, Bool, if◌then◌else◌, sym, ap, ◌∙◌}
use Rattle.std.proofs.lemmas.List.Elements.{Contains-append_cases, Contains-append_left, Contains-append_right, Contains-push_cases}
use Rattle.std.specs.FinMap.Entries.{find}
use Rattle.std.specs.List.{AllByRecursion}
use Rattle.std.specs.Ordering.{eq_by_cmp}
use Rattle.std.proofs.lemmas.Bool.Decides.{nat_tests}
use Rattle.coord_types.specs.declared.messages.Msg.{Msg}
use Rattle.coord_types.specs.declared.outputs.Output.{Output}
use Rattle.coord_types.specs.declared.outputs.Output.TheVariants.{Receipted, Signalled, Sent}
use Rattle.coord_types.specs.declared.packets.DataPacket.{DataPacket}
use Rattle.coord_types.specs.declared.packets.ReceiptPacket.{ReceiptPacket}
use Rattle.coord_tables.specs.Links.{Turned}
use Rattle.coord_tables.proofs.LinkLanes.{in_order-found, in_order-sorted}
use Rattle.coord_link.specs.LaneMachine.{Lane, is_front_taken}
use Rattle.coord_world.specs.Facade.{Links, World, again, again_by, all_again, all_sent, front_packet, lane_at, lanes_in_order, pair_cmp, pair_cmp_total, receipt, sent_by}
use Rattle.coord_world.specs.laws.Trails.{IsSound}
use Rattle.coord_tables.proofs.Cases.{by_test}
use Rattle.coord_tables.proofs.KeyedLists.{each_entry}
use Rattle.coord_tables.proofs.Found.{same_pair}
use Rattle.coord_world.proofs.lanes.Transit.{counts_cases}
use Rattle.coord_world.proofs.release.LaneFronts.{IsFront, IsFrontReceipt}

-- ---- membership in short lists, and in lists made of the entries of a table

module _ {X A : Type 0} where
  -- nothing is in an empty list
  pub not_in_nil : (x : X) → Contains [] x → A
  not_in_nil x h = absurd (let lt = h.1 in omega arith)

module _ {X : Type 0} where
  pub Contains-head : (x : X) (xs : List X) → Contains (x ∷ xs) x
  Contains-head x xs = (0, omega arith, refl)

  pub Contains-tail : (x : X) (xs : List X) (y : X) → Contains xs y → Contains (x ∷ xs) y
  Contains-tail x xs y h = Contains-append_right (x ∷ []) xs y h

  pub Contains-one : (x y : X) → Contains (x ∷ []) y → x ≡ y
  Contains-one x y h = elim (Contains-push_cases [] x y h) [ inl none ↦ not_in_nil y none | inr is ↦ is ]

  pub Contains-cons_cases : (x : X) (xs : List X) (y : X) → Contains (x ∷ xs) y → (x ≡ y) ⊎ Contains xs y
  Contains-cons_cases x xs y h = elim (Contains-append_cases (x ∷ []) xs y h) [ inl here ↦ inl (Contains-one x y here) | inr later ↦ inr later ]

module _ {K L X : Type 0} (R : K → K → Ordering) (same : (p q : K) → eq_by_cmp R p q ≡ true → p ≡ q) (f : K × L → List X) where
  -- each item made of a found entry is in the list
  pub Contains-flat_map_found : (es : List (K × L)) (k : K) (l : L) (x : X) → find R k es ≡ Some l → Contains (f (k, l)) x → Contains (flat_map f es) x
  Contains-flat_map_found [] k l x is h = cc
  Contains-flat_map_found (e ∷ es) k l x is h =
      elim (eq_by_cmp R k e.0) as (λ b. eq_by_cmp R k e.0 ≡ b → cond b (Some e.1) (find R k es) ≡ Some l → Contains (f e ++ flat_map f es) x) [
        | true ↦ λ tied found.
            let at = same k e.0 tied in
            let that : l ≡ e.1 = cc found in
            Contains-append_left (f e) (flat_map f es) x (subst (λ z. Contains (f z) x) (λ i. (at i, that i)) h)
        | false ↦ λ apart found. Contains-append_right (f e) (flat_map f es) x (Contains-flat_map_found es k l x found h)
      ] refl is

  -- each item of a list made of entries is made of one of them
  pub Contains-flat_map_entry : (P : K × L → Type 0) (es : List (K × L)) (x : X) → AllByRecursion P es → Contains (flat_map f es) x → (e : K × L) × (P e × Contains (f e) x)
  Contains-flat_map_entry P [] x all h = not_in_nil x h
  Contains-flat_map_entry P (e ∷ es) x all h = elim (Contains-append_cases (f e) (flat_map f es) x h) [
    | inl here ↦ (e, (all.0, here))
    | inr later ↦ Contains-flat_map_entry P es x all.1 later
  ]

-- ---- the list

-- both lists are made of the entries of the lanes
all_again-flat_map : (es : List ((ℕ × ℕ) × Lane)) → all_again es ≡ flat_map (λ e. again_by e.0 e.1 e.1.queue) es
all_again-flat_map [] = refl
all_again-flat_map (e ∷ es) = ap (λ l. again_by e.0 e.1 e.1.queue ++ l) (all_again-flat_map es)

pub all_sent-flat_map : (before : Links) (es : List ((ℕ × ℕ) × Lane)) → all_sent before es ≡ flat_map (λ e. sent_by (lane_at before e.0.0 e.0.1) e.0 e.1 e.1.queue) es
all_sent-flat_map before [] = refl
all_sent-flat_map before (e ∷ es) = ap (λ l. sent_by (lane_at before e.0.0 e.0.1) e.0 e.1 e.1.queue ++ l) (all_sent-flat_map before es)

-- each entry is found
pub entries_found : (w : World) → Turned w.links → AllByRecursion (λ e. lane_at w.links e.0.0 e.0.1 ≡ Some e.1) (lanes_in_order w.links)
entries_found w turned = each_entry pair_cmp_total same_pair (λ e. lane_at w.links e.0.0 e.0.1 ≡ Some e.1) (lanes_in_order w.links) (in_order-sorted w.links) (λ k l is. sym (in_order-found w.links turned k.0 k.1) ∙ is)

-- the receipt of a front, where b says that it was taken
abbrev receipted : ℕ × ℕ → Lane → Msg → Bool → List Output
receipted k l m b = if b then Receipted (receipt (front_packet k l m)) ∷ [] else []

-- what one lane sends again
module _ (k : ℕ × ℕ) (l : Lane) where
  again_by_sent : (q : List Msg) (p : DataPacket) → Contains (again_by k l q) (Sent p) → (m : Msg) × ((ms : List Msg) × ((q ≡ m ∷ ms) × (front_packet k l m ≡ p)))
  again_by_sent q p h1 = grind (arith, nat_tests, h1)

  again_by_receipted : (q : List Msg) (p : ReceiptPacket) → Contains (again_by k l q) (Receipted p) → (is_front_taken l ≡ true) × ((m : Msg) × (receipt (front_packet k l m) ≡ p))
  again_by_receipted q p h1 = grind (arith, nat_tests, h1)

-- each item of the list comes from a lane
again_lane : (w : World) → Turned w.links → (o : Output) → Contains (again w) o → (e : (ℕ × ℕ) × Lane) × ((lane_at w.links e.0.0 e.0.1 ≡ Some e.1) × Contains (again_by e.0 e.1 e.1.queue) o)
again_lane w turned o h = Contains-flat_map_entry pair_cmp same_pair (λ e. again_by e.0 e.1 e.1.queue) (λ e. lane_at w.links e.0.0 e.0.1 ≡ Some e.1) (lanes_in_order w.links) o (entries_found w turned) (rw (sym (all_again-flat_map (lanes_in_order w.links))) h)

-- what a lane sends again is in the list
lane_again : (w : World) → Turned w.links → (o : Output) (k : ℕ × ℕ) (l : Lane) → lane_at w.links k.0 k.1 ≡ Some l → Contains (again_by k l l.queue) o → Contains (again w) o
lane_again w turned o k l there h = rw (all_again-flat_map (lanes_in_order w.links))
    (Contains-flat_map_found pair_cmp same_pair (λ e. again_by e.0 e.1 e.1.queue) (lanes_in_order w.links) k l o (in_order-found w.links turned k.0 k.1 ∙ there) h)

-- a packet that is sent again is a front
pub again_front : (w : World) → Turned w.links → (p : DataPacket) → Contains (again w) (Sent p) → IsFront w p
again_front w turned p h =
    let on = again_lane w turned (Sent p) h in
    let by = again_by_sent on.0.0 on.0.1 on.0.1.queue p on.1.1 in
    subst (IsFront w) by.1.1.1 (record { at = record { lane = on.0.1; there = on.1.0; inc = refl; number = refl }; rest = by.1.0; queue = by.1.1.0 })

-- a receipt that is sent again is of a front that was taken
pub again_receipt : (w : World) → Turned w.links → (p : ReceiptPacket) → Contains (again w) (Receipted p) → IsFrontReceipt w p
again_receipt w turned p h =
    let on = again_lane w turned (Receipted p) h in
    let by = again_by_receipted on.0.0 on.0.1 on.0.1.queue p on.1.1 in
    let taken = by.0 in
    subst (IsFrontReceipt w) by.1.1 (record { at = record { lane = on.0.1; there = on.1.0; inc = refl; number = refl }; got = grind (arith, nat_tests, taken) })

-- no signal is sent again
pub again_no_signal : {A : Type 0} (w : World) → Turned w.links → (u e : ℕ) → Contains (again w) (Signalled u e) → A
again_no_signal {A} w turned u e h = let on = again_lane w turned (Signalled u e) h in of_queue on.0.0 on.0.1 on.0.1.queue on.1.1
  where
    of_queue : (k : ℕ × ℕ) (l : Lane) (q : List Msg) → Contains (again_by k l q) (Signalled u e) → A
    of_queue k l [] h = not_in_nil (Signalled u e) h
    of_queue k l (m ∷ ms) h = elim (Contains-cons_cases (Sent (front_packet k l m)) (receipted k l m (is_front_taken l)) (Signalled u e) h) [
      | inl here ↦ absurd (cc here)
      | inr later ↦ by_test (is_front_taken l) (λ b. Contains (receipted k l m b) (Signalled u e) → A)
          (λ _ x. absurd (let e = Contains-one (Receipted (receipt (front_packet k l m))) (Signalled u e) x in cc e)) (λ _ x. not_in_nil (Signalled u e) x) later
    ]

-- the packet of a front, and the receipt of it
pub front_packet_is : (w : World) (p : DataPacket) (front : IsFront w p) → front_packet (p.from, p.to) front.at.lane p.msg ≡ p
front_packet_is w p front i = record { from = p.from; to = p.to; inc = front.at.inc i; number = front.at.number i; msg = p.msg }

front_receipt_is : (w : World) (p : ReceiptPacket) (r : IsFrontReceipt w p) (m : Msg) → receipt (front_packet (p.from, p.to) r.at.lane m) ≡ p
front_receipt_is w p r m i = record { from = p.from; to = p.to; inc = r.at.inc i; number = r.at.number i }

-- each front is sent again
pub front_again : (w : World) → Turned w.links → (p : DataPacket) → IsFront w p → Contains (again w) (Sent p)
front_again w turned p front =
    let l = front.at.lane in
    lane_again w turned (Sent p) (p.from, p.to) l front.at.there
    (rw front.queue (rw (sym (front_packet_is w p front)) (Contains-head (Sent (front_packet (p.from, p.to) l p.msg)) (receipted (p.from, p.to) l p.msg (is_front_taken l)))))

-- the receipt of a front is sent again, once the front was taken
pub receipt_again : (w : World) (p : ReceiptPacket) → IsSound w → IsFrontReceipt w p → Contains (again w) (Receipted p)
receipt_again w p sound r = lane_again w sound.in_range.turned (Receipted p) (p.from, p.to) l r.at.there (of_queue l.queue refl)
  where
    l : Lane
    l = r.at.lane

    of_queue : (q : List Msg) → l.queue ≡ q → Contains (again_by (p.from, p.to) l q) (Receipted p)
    of_queue [] none = absurd (elim (counts_cases l (sound.legal.lanes p.from p.to l r.at.there)) [ inl idle ↦ omega (arith, idle, r.got) | inr taken ↦ taken.1 none ])
    of_queue (m ∷ ms) is =
        let front = front_packet (p.from, p.to) l m in
        let taken : is_front_taken l ≡ true = grind (arith, nat_tests, r.got) in
        Contains-tail (Sent front) (receipted (p.from, p.to) l m (is_front_taken l)) (Receipted p)
        (rw taken (rw (sym (front_receipt_is w p r m)) (Contains-head (Receipted (receipt front)) [])))
