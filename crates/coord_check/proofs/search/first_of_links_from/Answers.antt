-- Neighbour by neighbour.
use Rattle.std.proofs.Common.{sym, ap, ◌∙◌, arith}
use Rattle.std.specs.List.{flat_map}
use Rattle.coord_types.specs.NodeSet as set
use Rattle.coord_types.proofs.Sets.{len-first}
use Rattle.coord_check.specs.Faults.{first}
use Rattle.coord_check.proofs.Walk.{passed_by, reported_above, walk_is}
use Rattle.coord_check.proofs.search.first_of_links_from.Goals as goal

pub loop-b-init : goal.loop-b-init
loop-b-init c =
    ap (λ s. first (flat_map (reported_above c.args.world.now c.args.a) (set.items s))) c.neighbours_of-rest.ensures
    ∙ ap first (walk_is c.args.world.now c.args.a c.requires (omega arith))

pub loop-b-smaller : goal.loop-b-smaller
loop-b-smaller c =
    let shorter = len-first c.loop-b.rest c.in-Some.b (sym c.in-Some.ensures) in
    let rest = ap set.len c.without-rest.ensures in
    omega arith

pub loop-b-preserved : goal.loop-b-preserved
loop-b-preserved c =
    ap (λ s. first (flat_map (reported_above c.args.world.now c.args.a) (set.items s))) c.without-rest.ensures
    ∙ passed_by c.args.world.now c.args.a c.loop-b.rest c.in-Some.b (sym c.in-Some.ensures) (sym c.first_of_link_up.ensures ∙ c.in_default-first_of_link_up.is)
    ∙ c.loop-b.invariant
