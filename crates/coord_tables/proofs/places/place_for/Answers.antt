use Rattle.std.proofs.Common.{◌≡◌, ℕ, ◌<◌, ◌==◌, false, Some, Ordering, Less, Equal, Greater, length, map, eqb, ap, sym, ◌∙◌, refl, arith, slice_get}
use Rattle.std.proofs.lemmas.Bool.Decides.{nat_tests}
use Rattle.std.proofs.lemmas.List.{length-map}
use Rattle.std.proofs.lemmas.Option.{slice_get-get_or, slice_get-map, slice_get_past}
use Rattle.std.specs.Option.{option_map}
use Rattle.std.specs.Ordering.{is_eq, ordering_index}
use Rattle.coord_tables.specs.Links.{Lanes, link_entry}
use Rattle.coord_tables.specs.Pairs.{pair_cmp}
use Rattle.coord_tables.specs.declared.links.LinkRow.{LinkRow}
use Rattle.coord_tables.proofs.Cases.{by_test}
use Rattle.coord_tables.proofs.IndexedLinks.{none_tied}
use Rattle.coord_tables.proofs.places.place_for.Goals as goal

greater_left : (o : Ordering) → (ordering_index o == 0) ≡ false → is_eq o ≡ false → o ≡ Greater
greater_left Less less equal = cc
greater_left Equal less equal = cc
greater_left Greater less equal = refl

pub loop-at-preserved : goal.loop-at-preserved
loop-at-preserved c j e below here =
    by_test (eqb j c.loop-at.at) (λ _. pair_cmp (c.args.a, c.args.b) e.0 ≡ Greater)
    (λ is.
    let r : LinkRow = c.index-links-at.result in
    let same : j ≡ c.loop-at.at = grind (arith, nat_tests, is) in
    let within : c.loop-at.at < length c.args.links.now = c.loop-at-test.true in
    let found : slice_get c.args.links.now c.loop-at.at ≡ Some r = slice_get-get_or c.args.links.now c.loop-at.at r within ∙ ap Some (sym c.index-links-at.is) in
    let there : slice_get (map link_entry c.args.links.now) c.loop-at.at ≡ Some (link_entry r) = slice_get-map link_entry c.args.links.now c.loop-at.at ∙ ap (option_map link_entry) found in
    let some : Some e ≡ Some (link_entry r) = sym here ∙ ap (slice_get (map link_entry c.args.links.now)) same ∙ there in
    let it : e ≡ link_entry r = cc in
    let apart = none_tied (c.args.a, c.args.b) (map link_entry c.args.links.now) c.loop-at.at (link_entry r) c.requires there in
    let less : (ordering_index (pair_cmp (c.args.a, c.args.b) (r.a, r.b)) == 0) ≡ false = ap (λ o. ordering_index o == 0) (sym c.cmp.ensures) ∙ sym c.eq.ensures ∙ c.if-eq.false in
    ap (λ (z : (ℕ × ℕ) × Lanes). pair_cmp (c.args.a, c.args.b) z.0) it ∙ greater_left (pair_cmp (c.args.a, c.args.b) (r.a, r.b)) less apart)
    (λ isnt. let before : j < c.loop-at.at = grind (arith, nat_tests, isnt, below) in c.loop-at.invariant j e before here)

pub returns : goal.returns
returns c = record {
  within = omega (arith, length-map c.args.links.now link_entry);
  lesser_before = λ j e before here. let past = c.loop-at-test.false in c.loop-at.invariant j e (omega (arith, before, past)) here;
  greater_here = λ e here. let none = slice_get_past (map link_entry c.args.links.now) (length c.args.links.now) (omega (arith, length-map c.args.links.now link_entry)) in cc;
}
