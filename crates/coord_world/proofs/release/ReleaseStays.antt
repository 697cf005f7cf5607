-- A release stays, whichever world of the trail is the base.
use Rattle.std.proofs.Common.{◌≡◌, ◌≢◌, ◌↔◌, ℕ, zero, suc, ◌≤◌, true, not, List, [], ◌∷◌, ◌++◌, Option, Some, None, Ok, Err, take, drop, refl, sym, ap, inl, inr, arith, ◌+◌, subst, Contains}
use Rattle.std.proofs.lemmas.Bool.Decides.{nat_tests}
use Rattle.std.proofs.lemmas.List.Elements.{Contains-append_cases, Contains-append_left, Contains-append_right}
use Rattle.coord_types.specs.declared.outputs.Output.{Output}
use Rattle.coord_types.specs.declared.packets.DataPacket.{DataPacket}
use Rattle.coord_types.specs.declared.packets.ReceiptPacket.{ReceiptPacket}
use Rattle.coord_types.specs.declared.refusals.Refusal.TheVariants.{Exhausted, NotReleased}
use Rattle.coord_types.specs.declared.steps.Kind.TheVariants.{Cleared, Taken}
use Rattle.coord_types.specs.declared.steps.Step.{Step}
use Rattle.coord_types.specs.declared.steps.Step.TheVariants.{Clear, Order, Take}
use Rattle.coord_link.specs.LaneMachine.{Lane, Tests, against_clear, against_take, refused_or}
use Rattle.coord_world.specs.declared.verdicts.Verdict.TheVariants.{Fresh}
use Rattle.coord_world.specs.Facade.{IsFresh, World, accepts, against_data, against_receipt, fold, has_receipted, has_sent, is_exhausted, lane, next, outputs}
use Rattle.coord_world.specs.laws.Release.{FreshWhereReleased, IsReleased, IsClearable, NamesReleased, IsTakeable, ReleaseStays, HoldsReleased, ReleasedFromBase, ReleasedGrows, outputs_of}
use Rattle.coord_world.specs.laws.Trails.{IsSound}
use Rattle.coord_world.proofs.release.ReleaseLaw.{front_has_sent, has_receipted_receipt, receipt_has_receipted, release_law, has_sent_front, again_released}
use Rattle.coord_world.proofs.release.TakeablePackets.{clearable_is_due, refused_or_none_holds, none_holds_passes, takeable_is_next}
use Rattle.coord_world.proofs.release.LaneFronts.{front_fold, front_not_past, past_fold, receipt_fold}
use Rattle.coord_world.proofs.waves.Running.{fold-append}
use Rattle.coord_world.proofs.release.Trails.{EachFresh, fold-take_drop, each_fresh-append, each_fresh-drop, each_fresh-take, sound_fold, trail_each_fresh}
use Rattle.coord_world.proofs.release.ResendList.{not_in_nil}

-- ---- a release stays

-- what the earlier settled world shows as released, the later one shows so
record KeepsReleases (front earlier later : World) : Type 0 where
  packets : (p : DataPacket) → IsTakeable front p → has_sent (lane earlier p.from p.to p.inc) p.number ≡ true → has_sent (lane later p.from p.to p.inc) p.number ≡ true
  receipts : (p : ReceiptPacket) → IsClearable front p → has_receipted (lane earlier p.from p.to p.inc) p.number ≡ true → has_receipted (lane later p.from p.to p.inc) p.number ≡ true

-- a later settled world shows a release as the earlier one does, where steps lead from the one to the other
keeps_releases : (w : World) (mid rest : List Step) → IsSound w → EachFresh w mid → EachFresh (fold w mid) rest → KeepsReleases (fold (fold w mid) rest) w (fold w mid)
keeps_releases w mid rest sound each on = record {
  packets = λ p is h.
      let next = takeable_is_next front p is in
      let stood = has_sent_front w (mid ++ rest) sound (each_fresh-append mid rest w each on) p (takeable_is_next (fold w (mid ++ rest)) p (rw (fold-append mid rest w) is)) h in
      elim (front_fold mid w p sound each stood) [
        | inl stands ↦ front_has_sent later rest kept on p next stands
        | inr past ↦ front_not_past front p.from p.to p.inc p.number next.front.at (past_fold rest later p.from p.to p.inc p.number past)
      ];
  receipts = λ p is h.
      let due = clearable_is_due front p is in
      let stood = has_receipted_receipt w (mid ++ rest) sound (each_fresh-append mid rest w each on) p (clearable_is_due (fold w (mid ++ rest)) p (rw (fold-append mid rest w) is)) h in
      elim (receipt_fold mid w p sound each stood) [
        | inl stands ↦ receipt_has_receipted later rest kept on p due stands
        | inr past ↦ front_not_past front p.from p.to p.inc p.number due.at (past_fold rest later p.from p.to p.inc p.number past)
      ];
}
  where
    later : World
    later = fold w mid

    front : World
    front = fold later rest

    kept : IsSound later
    kept = sound_fold mid w sound each

-- the first d of the first e
take-take : (d e : ℕ) (ss : List Step) → d ≤ e → take d (take e ss) ≡ take d ss
take-take zero e ss le = refl
take-take (suc d) zero ss le = absurd (omega (arith, le))
take-take (suc d) (suc e) [] le = refl
take-take (suc d) (suc e) (s ∷ ss) le = ap (λ l. s ∷ l) (take-take d e ss (omega (arith, le)))

-- the verdict stays if the release does
verdict_stays : (front earlier later : World) (s : Step) → KeepsReleases front earlier later → accepts front earlier s ≢ Err NotReleased → accepts front later s ≡ accepts front earlier s
verdict_stays front earlier later (Order c n x) stays h = refl
verdict_stays front earlier later (Take p) stays h = of_lane (lane front p.from p.to p.inc) refl h
  where
    tests : Option Lane → World → Tests
    tests o w = (is_exhausted front, Exhausted) ∷ against_data o (lane w p.from p.to p.inc) p

    of_lane : (o : Option Lane) → lane front p.from p.to p.inc ≡ o → refused_or (Fresh Taken) (tests o earlier) ≢ Err NotReleased → refused_or (Fresh Taken) (tests o later) ≡ refused_or (Fresh Taken) (tests o earlier)
    of_lane None is more = refl
    of_lane (Some l) is more = grind (arith, nat_tests, is, more)
verdict_stays front earlier later (Clear p) stays h = of_lane (lane front p.from p.to p.inc) refl h
  where
    tests : Option Lane → World → Tests
    tests o w = (is_exhausted front, Exhausted) ∷ against_receipt o (lane w p.from p.to p.inc) p

    of_lane : (o : Option Lane) → lane front p.from p.to p.inc ≡ o → refused_or (Fresh Cleared) (tests o earlier) ≢ Err NotReleased → refused_or (Fresh Cleared) (tests o later) ≡ refused_or (Fresh Cleared) (tests o earlier)
    of_lane None is more = refl
    of_lane (Some l) is more = grind (arith, nat_tests, is, more)

-- a release stays
pub release_stays : ReleaseStays
release_stays base trail d e s is le h = verdict_stays (fold base trail) (fold base (take d trail)) (fold base (take e trail)) s all h
  where
    first : List Step
    first = take e trail

    each : EachFresh base first
    each = each_fresh-take e trail base (trail_each_fresh base trail is)

    earlier : World
    earlier = fold base (take d first)

    upto : fold earlier (drop d first) ≡ fold base first
    upto = fold-take_drop d first base

    over : KeepsReleases (fold (fold earlier (drop d first)) (drop e trail)) earlier (fold earlier (drop d first))
    over = keeps_releases earlier (drop d first) (drop e trail) (sound_fold (take d first) base is.sound (each_fresh-take d first base each)) (each_fresh-drop d first base each)
        (rw upto (each_fresh-drop e trail base (trail_each_fresh base trail is)))

    all : KeepsReleases (fold base trail) (fold base (take d trail)) (fold base first)
    all = rw (sym (fold-take_drop e trail base)) (rw (sym (take-take d e trail le)) (rw (sym upto) over))

-- a fresh step is accepted if the packet that it names is reported as released
fresh_where_owed : (front settled : World) (HasGone : Output → Type 0) (s : Step) → HoldsReleased front settled HasGone → IsFresh front front s → IsFresh front settled s ↔ NamesReleased HasGone s
fresh_where_owed front settled HasGone (Order c n x) says_so fresh = (λ _. tt, λ _. fresh)
fresh_where_owed front settled HasGone (Take p) says_so fresh = of_lane (lane front p.from p.to p.inc) refl fresh
  where
    tests : Option Lane → Option Lane → Tests
    tests o k = (is_exhausted front, Exhausted) ∷ against_data o k p

    of_lane : (o : Option Lane) → lane front p.from p.to p.inc ≡ o → refused_or (Fresh Taken) (tests o (lane front p.from p.to p.inc)) ≡ Ok (Fresh Taken) →
        (refused_or (Fresh Taken) (tests o (lane settled p.from p.to p.inc)) ≡ Ok (Fresh Taken)) ↔ NamesReleased HasGone (Take p)
    of_lane None is e = absurd (let none = refused_or_none_holds (Fresh Taken) (Fresh Taken) (tests None (lane front p.from p.to p.inc)) e in let bad = none.1.0 in cc bad)
    of_lane (Some l) is e =
        let none = refused_or_none_holds (Fresh Taken) (Fresh Taken) (tests (Some l) (lane front p.from p.to p.inc)) e in
        let says = says_so.packets p (l, (is, none_holds_passes tt (against_take l p.number p.msg) (none.1.0, (none.1.1.0, (none.1.1.1.0, tt))))) in (
          λ taken. says.0 (let all = refused_or_none_holds (Fresh Taken) (Fresh Taken) (tests (Some l) (lane settled p.from p.to p.inc)) taken in grind (arith, nat_tests, all.1.1.1.1.0)),
          λ gone. none_holds_passes (Fresh Taken) (tests (Some l) (lane settled p.from p.to p.inc)) (none.0, (none.1.0, (none.1.1.0, (none.1.1.1.0, (ap not (says.1 gone), tt))))),
        )
fresh_where_owed front settled HasGone (Clear p) says_so fresh = of_lane (lane front p.from p.to p.inc) refl fresh
  where
    tests : Option Lane → Option Lane → Tests
    tests o k = (is_exhausted front, Exhausted) ∷ against_receipt o k p

    of_lane : (o : Option Lane) → lane front p.from p.to p.inc ≡ o → refused_or (Fresh Cleared) (tests o (lane front p.from p.to p.inc)) ≡ Ok (Fresh Cleared) →
        (refused_or (Fresh Cleared) (tests o (lane settled p.from p.to p.inc)) ≡ Ok (Fresh Cleared)) ↔ NamesReleased HasGone (Clear p)
    of_lane None is e = absurd (let none = refused_or_none_holds (Fresh Cleared) (Fresh Cleared) (tests None (lane front p.from p.to p.inc)) e in let bad = none.1.0 in cc bad)
    of_lane (Some l) is e =
        let none = refused_or_none_holds (Fresh Cleared) (Fresh Cleared) (tests (Some l) (lane front p.from p.to p.inc)) e in
        let says = says_so.receipts p (l, (is, none_holds_passes tt (against_clear l p.number) (none.1.0, (none.1.1.0, tt)))) in (
          λ taken. says.0 (let all = refused_or_none_holds (Fresh Cleared) (Fresh Cleared) (tests (Some l) (lane settled p.from p.to p.inc)) taken in grind (arith, nat_tests, all.1.1.1.0)),
          λ gone. none_holds_passes (Fresh Cleared) (tests (Some l) (lane settled p.from p.to p.inc)) (none.0, (none.1.0, (none.1.1.0, (ap not (says.1 gone), tt)))),
        )

-- over a trail, a packet is fresh if it was released
pub fresh_where_released : FreshWhereReleased
fresh_where_released base trail d s is fresh = fresh_where_owed (fold base trail) (fold base (take d trail)) (IsReleased base (take d trail)) s (release_law base trail d is) fresh

-- ---- other bases

-- more steps give out all that fewer give out
outputs_of_more : (d e : ℕ) (ss : List Step) (w : World) (o : Output) → d ≤ e → Contains (outputs_of w (take d ss)) o → Contains (outputs_of w (take e ss)) o
outputs_of_more zero e ss w o le h = not_in_nil o h
outputs_of_more (suc d) zero ss w o le h = absurd (omega (arith, le))
outputs_of_more (suc d) (suc e) [] w o le h = not_in_nil o h
outputs_of_more (suc d) (suc e) (s ∷ ss) w o le h = elim (Contains-append_cases (outputs w s) (outputs_of (next w s) (take d ss)) o h) [
  | inl now ↦ Contains-append_left (outputs w s) (outputs_of (next w s) (take e ss)) o now
  | inr later ↦ Contains-append_right (outputs w s) (outputs_of (next w s) (take e ss)) o (outputs_of_more d e ss (next w s) o (omega (arith, le)) later)
]

-- what later steps give out is among the outputs of all
outputs_of_later : (n d : ℕ) (ss : List Step) (w : World) (o : Output) → Contains (outputs_of (fold w (take n ss)) (take d (drop n ss))) o → Contains (outputs_of w (take (n + d) ss)) o
outputs_of_later zero d ss w o h = let same : d ≡ zero + d = omega arith in subst (λ k. Contains (outputs_of w (take k ss)) o) same h
outputs_of_later (suc n) zero [] w o h = not_in_nil o h
outputs_of_later (suc n) (suc d) [] w o h = not_in_nil o h
outputs_of_later (suc n) d (s ∷ ss) w o h =
    let same : suc (n + d) ≡ suc n + d = omega arith in
    subst (λ k. Contains (outputs_of w (take k (s ∷ ss))) o) same (Contains-append_right (outputs w s) (outputs_of (next w s) (take (n + d) ss)) o (outputs_of_later n d ss (next w s) o h))

pub released_grows : ReleasedGrows
released_grows base trail d e o le gone = elim gone [ inl given ↦ inl (outputs_of_more d e trail base o le given) | inr before ↦ inr before ]

-- what a later world sends again is released already
pub released_from_base : ReleasedFromBase
released_from_base base trail n d o is gone = elim gone [
  | inl given ↦ inl (outputs_of_later n d trail base o given)
  | inr again ↦ released_grows base trail n (n + d) o (omega arith) (again_released base (take n trail) is.sound (each_fresh-take n trail base (trail_each_fresh base trail is)) o again)
]
