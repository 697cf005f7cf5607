use Rattle.std.proofs.Common.{[], ◌++◌, ◌∷◌, sym, ap, ◌∙◌, subst, arith}
use Rattle.std.proofs.lemmas.Result.{on_ok_weaker}
use Rattle.std.specs.List.{flat_map}
use Rattle.coord_types.specs.Table.{entries, len}
use Rattle.coord_world.specs.protocol.Rows as rows
use Rattle.coord_batch.specs.Fields.{how_many}
use Rattle.coord_codec.specs.ByNumber.{HasKeysTo, node_text}
use Rattle.coord_codec.specs.Worlds.{node_row, nodes}
use Rattle.coord_codec.proofs.ByNumber.{rows_text}
use Rattle.coord_codec.proofs.world_writing.put_nodes.Goals as goal

-- the size of a table, and the numbers of its keys
pub put_rows-requires : goal.put_rows-requires
put_rows-requires c = (omega arith, subst (HasKeysTo _) (sym c.nodes.ensures) (λ q x is. let range = c.requires.nodes q x is in (range.least, range.greatest)))

pub returns : goal.returns
unfolding nodes how_many
returns c =
    let out = c.args.out.now.items in
    on_ok_weaker c.put_rows.result
    (λ is. is ∙ ap (λ v. out ++ len c.nodes.result.now ∷ flat_map (node_text v) (entries c.nodes.result.now)) c.version.ensures ∙ ap (λ m. out ++ len m ∷ flat_map (node_text c.args.world.now.version) (entries m)) c.nodes.ensures ∙ ap (λ text. out ++ text) (rows_text c.args.world.now.nodes rows.node_row (node_row c.args.world.now.version 0 []).text))
    c.put_rows.ensures
