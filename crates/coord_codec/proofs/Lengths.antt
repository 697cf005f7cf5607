-- How long spellings are.
use Rattle.std.proofs.Common.{◌≡◌, ℕ, ◌+◌, ◌*◌, ◌≤◌, List, [], ◌∷◌, ◌++◌, length, length-append, arith}
use Rattle.std.specs.Int.{w64, to_be_bytes}
use Rattle.std.specs.List.{AllByRecursion, flat_map}
use Rattle.std.proofs.lemmas.List.Concat.{flat_map-cons}
use Rattle.coord_types.specs.declared.messages.Msg.{Msg}
use Rattle.coord_types.specs.declared.messages.Msg.TheVariants as msg
use Rattle.coord_world.specs.laws.Laws.{HasFewAborts}
use Rattle.coord_world.specs.Facade.{LinkRowFits, NodeRowFits, Rows, RowsFit, SessionInRange, aborts}
use Rattle.coord_world.specs.declared.rows.parts.NodeRow.{NodeRow}
use Rattle.coord_tables.specs.declared.links.LinkRow.{LinkRow}
use Rattle.coord_world.specs.declared.rows.parts.ClientRow.{ClientRow}
use Rattle.coord_batch.specs.Fields.{at_most, client, from_one_to, group, how_many, message, node}
use Rattle.coord_batch.specs.Steps.{command}
use Rattle.coord_batch.proofs.Lengths.{aborted, length-command, length-distance, length-flat_map_most, length-message}
use Rattle.coord_codec.specs.Worlds.{client_row, clients, ends, kind, lane, link_row, links, mask, mode, most_distance, node_row, nodes, parent, queue, world}
use Rattle.coord_codec.proofs.WorldRows.{all_both, few_clients, few_nodes}
use Rattle.coord_codec.proofs.WorldGrammars.{world_text}

-- a message is a byte, and an Abort's distance
length-messages : (version : ℕ) (ms : List Msg) → length (flat_map (message version 0).text ms) ≤ length ms + 8 * aborts ms
length-messages version [] = omega arith
length-messages version (m ∷ ms) =
    let one = length-message version 0 m in
    let rest = length-messages version ms in
    let text = (message version 0).text in
    rw flat_map-cons (of_message m (length (text m)) (length (flat_map text ms)) one rest (length-append (text m) (flat_map text ms)))
  where
    of_message : (x : Msg) (here there : ℕ) → here ≤ 1 + 8 * aborted x → there ≤ length ms + 8 * aborts ms → length ((message version 0).text m ++ flat_map (message version 0).text ms) ≡ here + there → length ((message version 0).text m ++ flat_map (message version 0).text ms) ≤ length (x ∷ ms) + 8 * aborts (x ∷ ms)
    of_message (msg.Abort k) here there one rest is = omega (arith, one, rest, is)
    of_message msg.Ack here there one rest is = omega (arith, one, rest, is)
    of_message msg.Ready here there one rest is = omega (arith, one, rest, is)

-- a queue is its length and its messages
length-queue : (version : ℕ) (ms : List Msg) → length ((queue version 0).text ms) ≤ 1 + length ms + 8 * aborts ms
unfolding queue how_many
length-queue version ms = let most = length-messages version ms in omega (arith, most)

-- a node is four bytes and three numbers, and its distance
length-node_row : (version : ℕ) (r : NodeRow) → length ((node_row version 0 []).text r) ≤ 36
unfolding node_row node group mode parent mask at_most
length-node_row version r = let most = length-distance version (most_distance r.mode 0) r.distance in omega (arith, most)

-- a link is its ends, its incarnation, and two lanes of two numbers, at most five bytes and 2 distances
length-link_row : (version count : ℕ) (listed : List NodeRow) (r : LinkRow) → LinkRowFits count listed r → HasFewAborts r → length ((link_row version 0 [] []).text r) ≤ 84
unfolding link_row ends node from_one_to lane at_most
length-link_row version count listed r fits few =
    let one = (queue version 0).text r.forth.queue in
    let other = (queue version 0).text r.back.queue in
    omega (arith, length-append one (to_be_bytes w64 r.back.base ++ (to_be_bytes w64 r.back.got ++ other)), length-queue version r.forth.queue, length-queue version r.back.queue, fits.forth_short, fits.back_short, few.forth, few.back)

-- a client is itself, two numbers, a command and a kind
length-client_row : (r : ClientRow) → length ((client_row 0 []).text r) ≤ 28
unfolding client_row client from_one_to kind
length-client_row r =
    let ordered = command.text r.session.command in
    omega (arith, length-append ordered (to_be_bytes w64 r.session.reply.step ++ (kind r.session.command).text r.session.reply.kind), length-command r.session.command)

module _ (r : Rows) (fit : RowsFit r) (few : AllByRecursion HasFewAborts r.links) where
  length-nodes : length ((nodes r.version 0).text r.nodes) ≤ 2305
  unfolding nodes how_many
  length-nodes = omega (arith, few_nodes r fit, length-flat_map_most (NodeRowFits r.count) (node_row r.version 0 []).text 36 (λ x _. length-node_row r.version x) r.nodes fit.nodes)

  length-links : length ((links r.version 0 []).text r.links) ≤ 10753
  unfolding links how_many
  length-links = omega (arith, fit.most_links, length-flat_map_most (λ x. LinkRowFits r.count r.nodes x × HasFewAborts x) (link_row r.version 0 [] []).text 84 (λ x both_ranges. length-link_row r.version r.count r.nodes x both_ranges.0 both_ranges.1) r.links (all_both (LinkRowFits r.count r.nodes) HasFewAborts r.links fit.links few))

  length-clients : length ((clients 0).text r.clients) ≤ 449
  unfolding clients how_many
  length-clients = omega (arith, few_clients r fit, length-flat_map_most (λ x. SessionInRange r.count x.client x.session) (client_row 0 []).text 28 (λ x _. length-client_row x) r.clients fit.clients)

  -- no legal world is spelled in more bytes
  pub length-world : length ((world r.version).text r) ≤ 13515
  length-world =
      let some_nodes = (nodes r.version 0).text r.nodes in
      let some_links = (links r.version 0 []).text r.links in
      let some_clients = (clients 0).text r.clients in
      rw (world_text r) (omega (arith, length-append some_nodes (some_links ++ some_clients), length-append some_links some_clients, length-nodes, length-links, length-clients))
