use Rattle.std.proofs.Common.{ap, ◌∙◌, subst, arith}
use Rattle.std.specs.Cmp.{nat_cmp_total}
use Rattle.coord_types.specs.Table.{from_sorted}
use Rattle.coord_world.specs.code.Assembly.{AreNear}
use Rattle.coord_world.specs.protocol.Rows.{listed}
use Rattle.coord_world.proofs.listings.Assembled.{ids_are_nodes, links_in_order}
use Rattle.coord_world.proofs.listings.Near.{same_with}
use Rattle.coord_world.proofs.tables.Tables.assemble.Goals as goal

pub from_rows-requires-clause-rise : goal.from_rows-requires-clause-rise
from_rows-requires-clause-rise c = links_in_order (listed c.args.parts) c.requires

pub from_rows-requires-clause-few : goal.from_rows-requires-clause-few
from_rows-requires-clause-few c = let most = c.requires.most_links in omega (arith, most)

pub returns : goal.returns
returns c =
    let rows = listed c.args.parts in
    let near = c.by-near.result.sets in
    let known = subst (λ links. AreNear links near) c.deref.ensures.value c.by-near.ensures in
    let nodes = c.in_ok-nodes.ensures ∙ ap (from_sorted {o = nat_cmp_total}) (same_with near rows.links known rows.nodes (ids_are_nodes rows c.requires)) in
    λ i. record { version = rows.version; count = rows.count; nodes = nodes i; links = c.in_ok-links.ensures i; sessions = c.in_ok-sessions.ensures i }
