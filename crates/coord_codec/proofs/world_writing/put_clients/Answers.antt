use Rattle.std.proofs.Common.{[], ◌++◌, ◌∷◌, sym, ap, ◌∙◌, subst, arith}
use Rattle.std.proofs.lemmas.Result.{on_ok_weaker}
use Rattle.std.specs.List.{flat_map}
use Rattle.coord_types.specs.Table.{entries, len}
use Rattle.coord_world.specs.protocol.Rows as rows
use Rattle.coord_batch.specs.Fields.{how_many}
use Rattle.coord_codec.specs.ByNumber.{HasKeysTo, session_text}
use Rattle.coord_codec.specs.Worlds.{client_row, clients}
use Rattle.coord_codec.proofs.ByNumber.{rows_text}
use Rattle.coord_codec.proofs.world_writing.put_clients.Goals as goal

-- the size of a table, and the numbers of its keys
pub put_rows-requires : goal.put_rows-requires
put_rows-requires c = (omega arith, subst (HasKeysTo _) (sym c.sessions.ensures) (λ q x is. let range = c.requires.sessions q x is in (range.least, range.greatest)))

pub returns : goal.returns
unfolding clients how_many
returns c =
    let out = c.args.out.now.items in
    on_ok_weaker c.put_rows.result
    (λ is. is ∙ ap (λ m. out ++ len m ∷ flat_map (session_text c.args.world.now.version) (entries m)) c.sessions.ensures ∙ ap (λ text. out ++ text) (rows_text c.args.world.now.sessions rows.client_row (client_row 0 []).text))
    c.put_rows.ensures
