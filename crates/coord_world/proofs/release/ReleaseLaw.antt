-- The release law and the resend law: the releases of all settled steps.
use Rattle.std.proofs.Common.{◌≡◌, ◌⊎◌, ◌≤◌, true, false, List, [], ◌∷◌, Option, Some, None, take, drop, leb, refl, sym, ap, ◌∙◌, inl, inr, Contains, arith}
use Rattle.std.proofs.lemmas.Bool.Decides.{nat_tests}
use Rattle.std.proofs.lemmas.List.Elements.{All-contains_itself, All-weaker, Contains-append_cases, Contains-append_left, Contains-append_right}
use Rattle.coord_types.specs.Messages.{is_nil}
use Rattle.coord_types.specs.declared.messages.Msg.{Msg}
use Rattle.coord_types.specs.declared.outputs.Output.{Output}
use Rattle.coord_types.specs.declared.outputs.Output.TheVariants.{Receipted, Signalled, Sent}
use Rattle.coord_types.specs.declared.packets.DataPacket.{DataPacket}
use Rattle.coord_types.specs.declared.packets.ReceiptPacket.{ReceiptPacket}
use Rattle.coord_types.specs.declared.steps.Step.{Step}
use Rattle.coord_link.specs.LaneMachine.{Lane}
use Rattle.coord_tables.specs.Links.{Turned}
use Rattle.coord_world.specs.Facade.{World, again, fold, has_receipted, has_sent, lane, next, outputs}
use Rattle.coord_world.specs.laws.Release.{IsReleased, ReleaseLaw, ResendLaw, HoldsReleased, outputs_of}
use Rattle.coord_world.specs.laws.Trails.{IsSound}
use Rattle.coord_tables.proofs.Cases.{by_test}
use Rattle.coord_world.proofs.lanes.Transit.{counts_cases}
use Rattle.coord_world.proofs.release.StepOutputs.{front_from_step, outputs_front, receipt_from_step, outputs_receipt}
use Rattle.coord_world.proofs.release.ResendList.{again_front, again_receipt, again_no_signal, front_again, receipt_again, not_in_nil}
use Rattle.coord_world.proofs.release.TakeablePackets.{IsDueReceipt, IsNextPacket, clearable_is_due, lane_found, takeable_is_next, lane_numbered}
use Rattle.coord_world.proofs.release.LaneFronts.{IsNumbered, IsFront, IsPast, IsFrontReceipt, front_fold, front_not_past, one_lane, past_fold, receipt_fold}
use Rattle.coord_world.proofs.release.Trails.{EachFresh, fold-take_drop, each_fresh-drop, each_fresh-take, sound_fold, sound_next, trail_each_fresh}
use Rattle.coord_world.proofs.lanes.Transit.{counts_cases}

-- a front at the end was sent by the steps, or was one before them
pub front_of_steps : (ss : List Step) (w : World) (p : DataPacket) → IsSound w → EachFresh w ss → IsFront (fold w ss) p → Contains (outputs_of w ss) (Sent p) ⊎ IsFront w p
front_of_steps [] w p sound each front = inr front
front_of_steps (s ∷ ss) w p sound each front = elim (front_of_steps ss (next w s) p (sound_next w s sound each.0) each.1 front) [
  | inl later ↦ inl (Contains-append_right (outputs w s) (outputs_of (next w s) ss) (Sent p) later)
  | inr now ↦ elim (front_from_step w s (sound_next w s sound each.0).in_range.turned p now) [
    | inl given ↦ inl (Contains-append_left (outputs w s) (outputs_of (next w s) ss) (Sent p) given)
    | inr before ↦ inr before
  ]
]

-- the receipt of a taken front was sent by the steps, or was one before them
pub receipt_of_steps : (ss : List Step) (w : World) (p : ReceiptPacket) → IsSound w → EachFresh w ss → IsFrontReceipt (fold w ss) p → Contains (outputs_of w ss) (Receipted p) ⊎ IsFrontReceipt w p
receipt_of_steps [] w p sound each receipt = inr receipt
receipt_of_steps (s ∷ ss) w p sound each receipt = elim (receipt_of_steps ss (next w s) p (sound_next w s sound each.0) each.1 receipt) [
  | inl later ↦ inl (Contains-append_right (outputs w s) (outputs_of (next w s) ss) (Receipted p) later)
  | inr now ↦ elim (receipt_from_step w s p sound each.0.0 now) [
    | inl given ↦ inl (Contains-append_left (outputs w s) (outputs_of (next w s) ss) (Receipted p) given)
    | inr before ↦ inr before
  ]
]

-- a packet that the steps gave out is in front at their end, or its number is past
outputs_of_front : (ss : List Step) (w : World) (p : DataPacket) → IsSound w → EachFresh w ss → Contains (outputs_of w ss) (Sent p) → IsFront (fold w ss) p ⊎ IsPast (fold w ss) p.from p.to p.inc p.number
outputs_of_front [] w p sound each h = not_in_nil (Sent p) h
outputs_of_front (s ∷ ss) w p sound each h = elim (Contains-append_cases (outputs w s) (outputs_of (next w s) ss) (Sent p) h) [
  | inl now ↦ front_fold ss (next w s) p (sound_next w s sound each.0) each.1 (outputs_front w s (sound_next w s sound each.0).in_range.turned p now)
  | inr later ↦ outputs_of_front ss (next w s) p (sound_next w s sound each.0) each.1 later
]

outputs_of_receipt : (ss : List Step) (w : World) (p : ReceiptPacket) → IsSound w → EachFresh w ss → Contains (outputs_of w ss) (Receipted p) → IsFrontReceipt (fold w ss) p ⊎ IsPast (fold w ss) p.from p.to p.inc p.number
outputs_of_receipt [] w p sound each h = not_in_nil (Receipted p) h
outputs_of_receipt (s ∷ ss) w p sound each h = elim (Contains-append_cases (outputs w s) (outputs_of (next w s) ss) (Receipted p) h) [
  | inl now ↦ receipt_fold ss (next w s) p (sound_next w s sound each.0) each.1 (outputs_receipt w s p (sound_next w s sound each.0).in_range.turned each.0.0 now)
  | inr later ↦ outputs_of_receipt ss (next w s) p (sound_next w s sound each.0) each.1 later
]

module _ (base : World) (ss : List Step) (sound : IsSound base) (each : EachFresh base ss) where
  -- a released packet is in front at the end, or its number is past
  released_front : (p : DataPacket) → IsReleased base ss (Sent p) → IsFront (fold base ss) p ⊎ IsPast (fold base ss) p.from p.to p.inc p.number
  released_front p gone = elim gone [ inl given ↦ outputs_of_front ss base p sound each given | inr before ↦ front_fold ss base p sound each (again_front base sound.in_range.turned p before) ]

  released_receipt : (p : ReceiptPacket) → IsReleased base ss (Receipted p) → IsFrontReceipt (fold base ss) p ⊎ IsPast (fold base ss) p.from p.to p.inc p.number
  released_receipt p gone = elim gone [ inl given ↦ outputs_of_receipt ss base p sound each given | inr before ↦ receipt_fold ss base p sound each (again_receipt base sound.in_range.turned p before) ]

  -- a front at the end is released
  front_released : (p : DataPacket) → IsFront (fold base ss) p → IsReleased base ss (Sent p)
  front_released p front = elim (front_of_steps ss base p sound each front) [ inl given ↦ inl given | inr before ↦ inr (front_again base sound.in_range.turned p before) ]

  receipt_released : (p : ReceiptPacket) → IsFrontReceipt (fold base ss) p → IsReleased base ss (Receipted p)
  receipt_released p receipt = elim (receipt_of_steps ss base p sound each receipt) [ inl given ↦ inl given | inr before ↦ inr (receipt_again base p sound before) ]

  turned_end : Turned (fold base ss).links
  turned_end = (sound_fold ss base sound each).in_range.turned

  -- what the end sends again is released
  pub again_released : (o : Output) → Contains (again (fold base ss)) o → IsReleased base ss o
  again_released (Receipted p) h = receipt_released p (again_receipt (fold base ss) turned_end p h)
  again_released (Signalled u e) h = again_no_signal (fold base ss) turned_end u e h
  again_released (Sent p) h = front_released p (again_front (fold base ss) turned_end p h)

-- the resend law
pub resend_law : ResendLaw
resend_law base trail d is =
    let steps = take d trail in
    let end = again (fold base steps) in
    All-weaker (Contains end) (IsReleased base steps) (λ o h. again_released base steps is.sound (each_fresh-take d trail base (trail_each_fresh base trail is)) o h) end (All-contains_itself end)

module _ (settled : World) (ss : List Step) (sound : IsSound settled) (each : EachFresh settled ss) where
  -- of a packet that the later world takes, the settled one shows whether it is its front
  module _ (p : DataPacket) (is : IsNextPacket (fold settled ss) p) where
    pub has_sent_front : has_sent (lane settled p.from p.to p.inc) p.number ≡ true → IsFront settled p
    has_sent_front h = of_lane (lane settled p.from p.to p.inc) refl h
      where
        same_message : (m : Msg) (rest : List Msg) (at : IsNumbered settled p.from p.to p.inc p.number) → at.lane.queue ≡ m ∷ rest → m ≡ p.msg
        same_message m rest at queue = elim (front_fold ss settled (record p { msg = m }) sound each (record { at = at; rest = rest; queue = queue })) [
          | inl still ↦ (let same = one_lane _ still.at.lane is.front.at.lane still.at.there is.front.at.there in let both = sym still.queue ∙ ap (λ z. z.queue) same ∙ is.front.queue in cc both)
          | inr past ↦ front_not_past (fold settled ss) p.from p.to p.inc p.number is.front.at past
        ]

        of_queue : (at : IsNumbered settled p.from p.to p.inc p.number) (q : List Msg) → at.lane.queue ≡ q → is_nil q ≡ false → IsFront settled p
        of_queue at [] queue more = cc
        of_queue at (m ∷ rest) queue more = record { at = at; rest = rest; queue = queue ∙ ap (λ z. z ∷ rest) (same_message m rest at queue) }

        of_lane : (o : Option Lane) → lane settled p.from p.to p.inc ≡ o → has_sent o p.number ≡ true → IsFront settled p
        of_lane None there e = cc
        of_lane (Some l) there e =
            let known = lane_found settled p.from p.to p.inc l there in
            of_queue (record { lane = l; there = known.0; inc = known.1; number = grind (arith, nat_tests, e) }) l.queue refl (grind (arith, nat_tests, e))

    pub front_has_sent : IsFront settled p → has_sent (lane settled p.from p.to p.inc) p.number ≡ true
    front_has_sent front = ap (λ o. has_sent o p.number) (lane_numbered settled p.from p.to p.inc p.number front.at) ∙ grind (arith, nat_tests, front.at.number, ap is_nil front.queue)

  -- a receipt by which the later world clears: the earlier one shows whether its message was taken
  module _ (p : ReceiptPacket) (is : IsDueReceipt (fold settled ss) p) where
    pub has_receipted_receipt : has_receipted (lane settled p.from p.to p.inc) p.number ≡ true → IsFrontReceipt settled p
    has_receipted_receipt h = of_lane (lane settled p.from p.to p.inc) refl h
      where
        of_lane : (o : Option Lane) → lane settled p.from p.to p.inc ≡ o → has_receipted o p.number ≡ true → IsFrontReceipt settled p
        of_lane None there e = cc
        of_lane (Some l) there e =
            let known = lane_found settled p.from p.to p.inc l there in
            let within : p.number ≤ l.got = grind (arith, nat_tests, e) in
            by_test (leb p.number l.base) (λ b. leb p.number l.base ≡ b → IsFrontReceipt settled p)
            (λ less _. front_not_past (fold settled ss) p.from p.to p.inc p.number is.at (past_fold ss settled p.from p.to p.inc p.number
            (record {
              made = rw (sym known.1) (sound.in_range.lanes p.from p.to l known.0).inc;
              past = λ k there same. let one = one_lane _ l k known.0 there in rw (sym one) (grind (arith, nat_tests, less));
            })))
            (λ more _. elim (counts_cases l (sound.legal.lanes p.from p.to l known.0)) [
              | inl idle ↦ absurd (grind (arith, nat_tests, more, within, idle))
              | inr taken ↦ record { at = record { lane = l; there = known.0; inc = known.1; number = grind (arith, nat_tests, more, within, taken.0) }; got = taken.0 }
            ])
            refl

    pub receipt_has_receipted : IsFrontReceipt settled p → has_receipted (lane settled p.from p.to p.inc) p.number ≡ true
    receipt_has_receipted receipt = ap (λ o. has_receipted o p.number) (lane_numbered settled p.from p.to p.inc p.number receipt.at) ∙ grind (arith, nat_tests, receipt.at.number, receipt.got)

-- if the front world is the settled one after more steps, the settled one determines the releases
settled_says : (base : World) (first others : List Step) → IsSound base → EachFresh base first → EachFresh (fold base first) others → HoldsReleased (fold (fold base first) others) (fold base first) (IsReleased base first)
settled_says base first others sound each on = record {
  packets = λ p is.
      let next = takeable_is_next (fold settled others) p is in (
        λ h. front_released base first sound each p (has_sent_front settled others kept on p next h),
        λ gone. elim (released_front base first sound each p gone) [
          | inl front ↦ front_has_sent settled others kept on p next front
          | inr past ↦ front_not_past (fold settled others) p.from p.to p.inc p.number next.front.at (past_fold others settled p.from p.to p.inc p.number past)
        ],
      );
  receipts = λ p is.
      let due = clearable_is_due (fold settled others) p is in (
        λ h. receipt_released base first sound each p (has_receipted_receipt settled others kept on p due h),
        λ gone. elim (released_receipt base first sound each p gone) [
          | inl receipt ↦ receipt_has_receipted settled others kept on p due receipt
          | inr past ↦ front_not_past (fold settled others) p.from p.to p.inc p.number due.at (past_fold others settled p.from p.to p.inc p.number past)
        ],
      );
}
  where
    settled : World
    settled = fold base first

    kept : IsSound settled
    kept = sound_fold first base sound each

-- the release law
pub release_law : ReleaseLaw
release_law base trail d is =
    let each = trail_each_fresh base trail is in
    rw (sym (fold-take_drop d trail base)) (settled_says base (take d trail) (drop d trail) is.sound (each_fresh-take d trail base each) (each_fresh-drop d trail base each))
