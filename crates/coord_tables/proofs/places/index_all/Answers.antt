use Rattle.std.proofs.Common.{◌≡◌, ◌<◌, length, map, sym, ap, ◌∙◌, slice_get, Some}
use Rattle.std.proofs.lemmas.Option.{slice_get-get_or, slice_get-map}
use Rattle.std.specs.Option.{option_map}
use Rattle.coord_tables.specs.Links.{link_entry}
use Rattle.coord_tables.specs.declared.links.LinkRow.{LinkRow}
use Rattle.coord_tables.proofs.IndexedEntries.{one_noted}
use Rattle.coord_tables.proofs.IndexedLinks.{lanes_in}
use Rattle.coord_tables.proofs.places.index_all.Goals as goal

pub loop-at-preserved : goal.loop-at-preserved
loop-at-preserved c =
    let n = c.loop-at.at in
    let r : LinkRow = c.index-links-at.result in
    let below : n < length c.args.links.now = c.loop-at-test.true in
    let here : slice_get c.args.links.now n ≡ Some r = slice_get-get_or c.args.links.now n r below ∙ ap Some (sym c.index-links-at.is) in
    rw c.pair_place-pair.ensures.value (one_noted n c.loop-at.places.items (map link_entry c.args.links.now) r.a r.b (lanes_in r) c.pair_place-pair.ensures.from c.pair_place-pair.ensures.to
    (slice_get-map link_entry c.args.links.now n ∙ ap (option_map link_entry) here) c.loop-at.invariant)
