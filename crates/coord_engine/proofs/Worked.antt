-- What a worker did with one packet more, and what it has noted in the end: nothing but the steps of packets.
use Rattle.std.proofs.Common.{◌≡◌, ◌⊎◌, Bool, true, false, List, [], ◌∷◌, ◌++◌, ◌∙◌, Vec, ap, refl, subst, sym, inl, inr}
use Rattle.std.specs.declared.alloc.Global.{Global}
use Rattle.std.proofs.lemmas.List.{append-nil, append_assoc}
use Rattle.coord_types.specs.declared.packets.Packet.{Packet}
use Rattle.coord_ledger.specs.declared.ticket.Note.{Note}
use Rattle.coord_engine.specs.Facade.{AddsPackets, Basis, TakesPacket, Tries, TriesAll, Works, WorksAndTries, all_packets, step_of}
use Rattle.coord_engine.specs.declared.hand.Hand.{Hand}
use Rattle.coord_engine.proofs.PacketNotes.{adds_more, adds_none, adds_packet}

one_parcel_more : (came : List (Vec Packet Global)) (parcel : Vec Packet Global) → all_packets (came ++ parcel ∷ []) ≡ all_packets came ++ parcel.items
one_parcel_more [] parcel = append-nil parcel.items
one_parcel_more (p ∷ came) parcel = ap (λ l. p.items ++ l) (one_parcel_more came parcel) ∙ sym (append_assoc p.items (all_packets came) parcel.items)

module _ {D : Type 0} (b : Basis D) where
  -- one more was taken, and then those that wait were tried
  pub works_last : (notes next taken later : List Note) (hand rest kept : Hand) (came left : List Packet) (p : Packet) → Works b notes hand came next rest → TakesPacket b next rest p taken kept → TriesAll b taken kept.waiting later left
      → Works b notes hand (came ++ p ∷ []) later (record kept { waiting = left })
  works_last notes next taken later hand rest kept [] left p so takes tries =
      (taken, kept, later, left, subst (λ h. TakesPacket b notes h p taken kept) so.1 (subst (λ n. TakesPacket b n rest p taken kept) so.0 takes), tries, (refl, refl))
  works_last notes next taken later hand rest kept (q ∷ came) left p so takes tries =
      (so.0, so.1, so.2, so.3, so.4, so.5, works_last so.2 next taken later (record so.1 { waiting = so.3 }) rest kept came left p so.6 takes tries)

  -- more packets were taken after those that were worked on
  pub works_on : (notes next later : List Note) (hand rest left : Hand) (came more : List Packet) → Works b notes hand came next rest → Works b next rest more later left → Works b notes hand (came ++ more) later left
  works_on notes next later hand rest left [] more so then = subst (λ h. Works b notes h more later left) so.1 (subst (λ n. Works b n rest more later left) so.0 then)
  works_on notes next later hand rest left (q ∷ came) more so then =
      (so.0, so.1, so.2, so.3, so.4, so.5, works_on so.2 next later (record so.1 { waiting = so.3 }) rest left came more so.6 then)

  -- those of one parcel more
  pub works_parcel : (notes next later : List Note) (hand rest left : Hand) (came : List (Vec Packet Global)) (parcel : Vec Packet Global) → Works b notes hand (all_packets came) next rest → Works b next rest parcel.items later left
      → Works b notes hand (all_packets (came ++ parcel ∷ [])) later left
  works_parcel notes next later hand rest left came parcel so then =
      subst (λ l. Works b notes hand l later left) (sym (one_parcel_more came parcel)) (works_on notes next later hand rest left (all_packets came) parcel.items so then)

  tried_one : (notes later : List Note) (p : Packet) (waits : Bool) → Tries b notes p waits later → AddsPackets notes later
  tried_one notes later p waits is = adds_packet b p (step_of p) refl is.answer notes later is.submits

  after_one : (next later : List Note) (p : Packet) (ps left : List Packet) (waits : Bool) → ((waits ≡ true) × (later ≡ next) × (left ≡ p ∷ ps)) ⊎ ((waits ≡ false) × TriesAll b next ps later left)
      → (TriesAll b next ps later left → AddsPackets next later) → AddsPackets next later
  after_one next later p ps left waits (inl is) more = adds_none next later is.1
  after_one next later p ps left waits (inr is) more = more is.1

  tried_adds : (notes later : List Note) (waiting left : List Packet) → TriesAll b notes waiting later left → AddsPackets notes later
  tried_adds notes later [] left is = adds_none notes later is.0
  tried_adds notes later (p ∷ ps) left is = adds_more notes is.0 later (tried_one notes is.0 p is.1 is.2) (after_one is.0 later p ps left is.1 is.3 (λ more. tried_adds is.0 later ps left more))

  pub works_adds : (notes later : List Note) (hand left : Hand) (came : List Packet) → Works b notes hand came later left → AddsPackets notes later
  works_adds notes later hand left [] is = adds_none notes later is.0
  works_adds notes later hand left (p ∷ came) is =
      adds_more notes is.0 later (tried_one notes is.0 p is.4.waits is.4.tries) (adds_more is.0 is.2 later (tried_adds is.0 is.2 is.1.waiting is.3 is.5) (works_adds is.2 later (record is.1 { waiting = is.3 }) left came is.6))

  -- and so has a port that tries those that wait once more
  pub works_and_tries_adds : (notes later : List Note) (hand left : Hand) (came : List Packet) → WorksAndTries b notes hand came later left → AddsPackets notes later
  works_and_tries_adds notes later hand left came is =
      adds_more notes is.0 later (works_adds notes is.0 hand is.1 came is.3) (tried_adds is.0 later is.1.waiting is.2 is.4)
