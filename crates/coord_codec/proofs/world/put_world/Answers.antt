use Rattle.std.proofs.Common.{◌≡◌, [], ◌++◌, refl, ap, sym, ◌∙◌, append_assoc}
use Rattle.std.specs.Int.{w64, to_be_bytes}
use Rattle.coord_world.specs.protocol.Rows.{rows_of}
use Rattle.coord_codec.specs.Worlds.{clients, links, nodes}
use Rattle.coord_codec.proofs.WorldGrammars.{world_text}
use Rattle.coord_codec.proofs.world.put_world.Goals as goal

pub returns : goal.returns
returns c =
    let out = c.args.out.now.items in
    let r = rows_of c.args.written.now in
    let count = to_be_bytes w64 r.count in
    let some_nodes = (nodes r.version 0).text r.nodes in
    let some_links = (links r.version 0 []).text r.links in
    let some_clients = (clients 0).text r.clients in
    let written : c.put_clients.new.out.items ≡ ((out ++ count) ++ some_nodes) ++ some_links ++ some_clients =
    rw (c.in_ok-put_clients.ensures, c.in_ok-put_links.ensures, c.in_ok-put_nodes.ensures, c.in_ok-extend_from_slice.ensures.items, c.to_be_bytes.ensures, c.count.ensures) refl in
    written ∙ append_assoc ((out ++ count) ++ some_nodes) some_links some_clients ∙ append_assoc (out ++ count) some_nodes (some_links ++ some_clients) ∙ append_assoc out count (some_nodes ++ (some_links ++ some_clients))
    ∙ ap (λ t. out ++ t) (sym (world_text r))
