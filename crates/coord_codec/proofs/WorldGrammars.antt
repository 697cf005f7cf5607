-- The formats of worlds are grammars, and so what spells a world is read as that world.
use Rattle.std.proofs.Common.{◌≡◌, ℕ, true, List, [], ◌∷◌, ◌++◌, length, refl, ap, zero, suc, ◌<◌, ◌^◌, leb, ltb, arith, Result, Ok, Err, subst, IfOk}
use Rattle.std.specs.Int.{w64, to_be_bytes}
use Rattle.std.specs.List.{flat_map}
use Rattle.std.proofs.lemmas.Bool.Decides.{nat_tests}
use Rattle.coord_types.specs.Facade.{mask_of, mode_number, mode_from, nodes_of}
use Rattle.coord_types.specs.declared.messages.Msg.{Msg}
use Rattle.coord_link.specs.LaneMachine.{Lane}
use Rattle.coord_world.specs.protocol.Rows.{Rows}
use Rattle.coord_world.specs.declared.rows.parts.NodeRow.{NodeRow}
use Rattle.coord_tables.specs.declared.links.LinkRow.{LinkRow}
use Rattle.coord_batch.specs.Fields.{at_most, distance, from_one_to, group, how_many, message, message_case, node, unless}
use Rattle.coord_codec.specs.Worlds.{client_row, clients, content_of_lane, ends, lane, link_row, links, mask, mode, most_distance, node_row, nodes, parent, parent_number, queue, world, can_link, first_rises, kind, kind_from, kind_number, last_by, parent_from, second_rises}
use Rattle.coord_types.specs.declared.steps.Command.{Command}
use Rattle.coord_link.specs.declared.lane.TheConstants.{PLACES}
use Rattle.coord_types.proofs.Masks.{mask_back}
use Rattle.coord_world.specs.protocol.Ranges.{answers}
use Rattle.coord_world.specs.declared.rows.parts.ClientRow.{ClientRow}
use Rattle.coord_batch.specs.Facade.{byte, client, such_that, u64}
use Rattle.coord_batch.proofs.Grammars.{IsGrammar, byte_grammar, u64_grammar, such_grammar, followed_grammar, made_grammar, counted_grammar, IsBytes, prefix_free}
use Rattle.coord_batch.proofs.StepGrammars.{and_grammar, at_most_grammar, client_grammar, command_grammar, distance_grammar, from_one_to_grammar, group_grammar, how_many_grammar, message_grammar, node_grammar}
use Rattle.coord_world.specs.Facade.{InRange, World, rows_of}
use Rattle.coord_world.proofs.Facade.{rows_give_world, rows_of_world_fit}
use Rattle.coord_batch.specs.declared.fault.CodecFault.{CodecFault}
use Rattle.coord_batch.specs.declared.fault.FaultKind.{FaultKind}
use Rattle.coord_batch.specs.Decoding.{AnswersDecoded, Unless, decoded, is_version}
use Rattle.coord_batch.proofs.Decoded.{answers_found, answers_only}
use Rattle.coord_codec.proofs.WorldRows.{rows_fit, version_fits}
use Rattle.coord_batch.proofs.SpellingLaws.{cut_short, more_extra}
use Rattle.coord_codec.specs.Laws.{BytesAfterWorldsAreExtra, CutWorldsAreShort, WorldsArePrefixFree}

-- ---- how the parts of a world are spelled, whatever else is asked of them

-- the encoding of a distance does not depend on its limit
distance_text : (version most other n : ℕ) → (distance version most).text n ≡ (distance version other).text n
unfolding distance unless at_most
distance_text version most other n = grind arith

message_text : (version most : ℕ) (m : Msg) → (message version most).text m ≡ (message version 0).text m
unfolding message message_case
message_text version most m = grind (arith, distance_text)

node_row_text : (version count : ℕ) (r : NodeRow) → (node_row version count []).text r ≡ (node_row version 0 []).text r
unfolding node_row at_most node group mode parent mask
node_row_text version count r =
    ap (λ t. r.id ∷ r.group ∷ mode_number r.mode ∷ parent_number r.parent ∷ ((to_be_bytes w64 (mask_of r.pend) ++ (to_be_bytes w64 r.epoch ++ to_be_bytes w64 r.confirmed)) ++ t)) (distance_text version (most_distance r.mode count) (most_distance r.mode 0) r.distance)

nodes_text : (version count : ℕ) (rs : List NodeRow) → (nodes version count).text rs ≡ (nodes version 0).text rs
unfolding nodes how_many
nodes_text version count rs = λ i. length rs ∷ flat_map (λ r. node_row_text version count r i) rs

lane_text : (version count : ℕ) (l : Lane) → (lane version count).text (content_of_lane l) ≡ (lane version 0).text (content_of_lane l)
unfolding lane queue at_most how_many
lane_text version count l = λ i. to_be_bytes w64 l.base ++ (to_be_bytes w64 l.got ++ length l.queue ∷ flat_map (λ m. message_text version count m i) l.queue)

link_row_text : (version count : ℕ) (listed : List NodeRow) (r : LinkRow) → (link_row version count listed []).text r ≡ (link_row version 0 [] []).text r
unfolding link_row ends node from_one_to
link_row_text version count listed r = λ i. r.a ∷ r.b ∷ (to_be_bytes w64 r.forth.inc ++ (lane_text version count r.forth i ++ lane_text version count r.back i))

links_text : (version count : ℕ) (listed : List NodeRow) (rs : List LinkRow) → (links version count listed).text rs ≡ (links version 0 []).text rs
unfolding links how_many
links_text version count listed rs = λ i. length rs ∷ flat_map (λ r. link_row_text version count listed r i) rs

clients_text : (count : ℕ) → (clients count).text ≡ (clients 0).text
unfolding clients client_row from_one_to
clients_text count = refl

pub world_text : (r : Rows) → (world r.version).text r ≡ to_be_bytes w64 r.count ++ ((nodes r.version 0).text r.nodes ++ ((links r.version 0 []).text r.links ++ (clients 0).text r.clients))
unfolding world at_most
world_text r = λ i. to_be_bytes w64 r.count ++ (nodes_text r.version r.count r.nodes i ++ (links_text r.version r.count r.nodes r.links i ++ clients_text r.count i r.clients))

-- ---- the formats of fields

mode_again : (n : ℕ) → n < 3 → mode_number (mode_from n) ≡ n
mode_again n h1 = grind arith

mode_grammar : IsGrammar mode
unfolding mode
mode_grammar = made_grammar mode_from mode_number (such_that (λ n. ltb n 3) byte) (such_grammar (λ n. ltb n 3) byte byte_grammar) (λ n fits. mode_again n (grind (arith, fits.1)))

parent_again : (n : ℕ) → parent_number (parent_from n) ≡ n
parent_again zero = refl
parent_again (suc n) = refl

parent_grammar : IsGrammar parent
unfolding parent
parent_grammar = made_grammar parent_from parent_number (such_that (λ n. leb n 64) byte) (such_grammar (λ n. leb n 64) byte byte_grammar) (λ n fits. parent_again n)

mask_grammar : IsGrammar mask
unfolding mask
mask_grammar = made_grammar nodes_of mask_of u64 u64_grammar (λ bits fits. mask_back bits fits)

kind_again : (n : ℕ) → n < 4 → kind_number (kind_from n) ≡ n
kind_again n h1 = grind arith

kind_grammar : (x : Command) → IsGrammar (kind x)
unfolding kind
kind_grammar x = such_grammar (answers x) _ (made_grammar kind_from kind_number (such_that (λ n. ltb n 4) byte) (such_grammar (λ n. ltb n 4) byte byte_grammar) (λ n fits. kind_again n (grind (arith, fits.1))))

-- ---- the formats of rows

node_row_grammar : (version count : ℕ) (front : List NodeRow) → IsGrammar (node_row version count front)
unfolding node_row
node_row_grammar version count front =
    made_grammar _ _ _
    (followed_grammar _ _
    (and_grammar _ _ (such_grammar (ltb (last_by (λ r. r.id) 0 front)) node node_grammar) (and_grammar _ _ group_grammar (and_grammar _ _ mode_grammar (and_grammar _ _ parent_grammar (and_grammar _ _ mask_grammar (and_grammar _ _ (at_most_grammar count) (at_most_grammar count)))))))
    (λ p. distance_grammar version (most_distance p.1.1.0 count)))
    (λ p fits. refl)

same_nodes : (version count : ℕ) (front : List NodeRow) → (node_row version count front).text ≡ (node_row version count []).text
unfolding node_row
same_nodes version count front = refl

nodes_grammar : (version count : ℕ) → IsGrammar (nodes version count)
unfolding nodes
nodes_grammar version count = counted_grammar _ (node_row version count) (how_many_grammar 64) (node_row_grammar version count) (same_nodes version count)

ends_grammar : (listed : List NodeRow) (front : List LinkRow) → IsGrammar (ends listed front)
unfolding ends
ends_grammar listed front =
    such_grammar (can_link listed front) _
    (followed_grammar _ _ (such_grammar (first_rises front) node node_grammar) (λ a. such_grammar (second_rises front a) node node_grammar))

queue_grammar : (version count : ℕ) → IsGrammar (queue version count)
unfolding queue
queue_grammar version count = counted_grammar _ (λ _. message version count) (how_many_grammar PLACES) (λ _. message_grammar version count) (λ _. refl)

lane_grammar : (version count : ℕ) → IsGrammar (lane version count)
unfolding lane
lane_grammar version count = and_grammar _ _ (at_most_grammar count) (and_grammar _ _ (at_most_grammar count) (queue_grammar version count))

link_row_grammar : (version count : ℕ) (listed : List NodeRow) (front : List LinkRow) → IsGrammar (link_row version count listed front)
unfolding link_row
link_row_grammar version count listed front =
    made_grammar _ _ _ (and_grammar _ _ (ends_grammar listed front) (and_grammar _ _ (from_one_to_grammar count) (and_grammar _ _ (lane_grammar version count) (lane_grammar version count)))) (λ p fits. refl)

same_links : (version count : ℕ) (listed : List NodeRow) (front : List LinkRow) → (link_row version count listed front).text ≡ (link_row version count listed []).text
unfolding link_row ends
same_links version count listed front = refl

links_grammar : (version count : ℕ) (listed : List NodeRow) → IsGrammar (links version count listed)
unfolding links
links_grammar version count listed = counted_grammar _ (link_row version count listed) (how_many_grammar 128) (link_row_grammar version count listed) (same_links version count listed)

client_row_grammar : (count : ℕ) (front : List ClientRow) → IsGrammar (client_row count front)
unfolding client_row
client_row_grammar count front =
    made_grammar _ _ _
    (and_grammar _ _ (such_grammar (ltb (last_by (λ r. r.client) 0 front)) client client_grammar) (and_grammar _ _ (from_one_to_grammar count) (followed_grammar _ _ command_grammar (λ x. and_grammar _ _ (from_one_to_grammar count) (kind_grammar x)))))
    (λ p fits. refl)

same_clients : (count : ℕ) (front : List ClientRow) → (client_row count front).text ≡ (client_row count []).text
unfolding client_row
same_clients count front = refl

clients_grammar : (count : ℕ) → IsGrammar (clients count)
unfolding clients
clients_grammar count = counted_grammar _ (client_row count) (how_many_grammar 16) (client_row_grammar count) (same_clients count)

pub world_grammar : (version : ℕ) → IsGrammar (world version)
unfolding world
world_grammar version =
    made_grammar _ _ _ (followed_grammar _ _ (at_most_grammar (2 ^ 40)) (λ count. followed_grammar _ _ (nodes_grammar version count) (λ listed. and_grammar _ _ (links_grammar version count listed) (clients_grammar count)))) (λ p fits. refl)

-- ---- what spells a world is read as that world

-- a value that is read is in its ranges, and the bytes encode it
pub world_found : (version : ℕ) (bytes : List ℕ) (result : Result World CodecFault) → IsBytes bytes → IfOk result InRange → AnswersDecoded rows_of result (decoded world version bytes) → IfOk result (λ v. (v.version ≡ version) × InRange v × (bytes ≡ (world version).text (rows_of v)))
world_found version bytes result fits ranges answers = grind (arith, answers_found, world_grammar, version_fits)

-- the statement about every fault but OutOfMemory, in another form
weaker : (k : FaultKind) (P Q : Type 0) → (P → Q) → Unless k P → Unless k Q
weaker k P Q h1 h2 = grind arith

-- an answer with these rows is this world
same_world : (w : World) (result : Result World CodecFault) → InRange w → IfOk result InRange → AnswersDecoded rows_of result (Ok (rows_of w)) → AnswersDecoded (λ v. v) result (Ok w)
same_world w (Ok v) range ranges answers = let rows : rows_of w ≡ rows_of v = cc in ap Ok (rows_give_world w v range ranges rows)
same_world w (Err e) range ranges answers = weaker e.kind _ _ (λ is. absurd cc) answers

-- what spells a world is read as that world, unless memory runs out
pub world_only : (version : ℕ) (bytes : List ℕ) (result : Result World CodecFault) (w : World) → IfOk result InRange → w.version ≡ version → InRange w → bytes ≡ (world version).text (rows_of w) → AnswersDecoded rows_of result (decoded world version bytes) → AnswersDecoded (λ v. v) result (Ok w)
world_only version bytes result w ranges known range spelled answers =
    let a_version : is_version version ≡ true = subst (λ n. is_version n ≡ true) known (grind (arith, nat_tests, range.first, range.last)) in
    let fits = subst (λ n. (world n).Fits (rows_of w)) known (rows_fit (rows_of w) (rows_of_world_fit w range)) in
    same_world w result range ranges (answers_only world world_grammar version rows_of bytes result (rows_of w) a_version fits spelled answers)

-- ---- the laws of the spellings of worlds, from those of any grammar

-- a world in its ranges has a spelling
world_fits : (w : World) → InRange w → (world w.version).Fits (rows_of w)
world_fits w range = rows_fit (rows_of w) (rows_of_world_fit w range)

-- the version of a world that is spelled is one that there is
known : (w : World) → InRange w → is_version w.version ≡ true
known w range = grind (arith, nat_tests, range.first, range.last)

pub worlds_prefix_free : WorldsArePrefixFree
worlds_prefix_free v w rest more first second one same = grind (arith, nat_tests, prefix_free (world v.version) (world_grammar v.version) (rows_of v) (rows_of w) rest more (world_fits v first) (rw one (world_fits w second)) same, prefix_free, world_grammar, world_fits, rows_give_world)

pub cut_worlds_short : CutWorldsAreShort
cut_worlds_short w front rest b range is = cut_short world world_grammar w.version (known w range) (rows_of w) front rest b (world_fits w range) is

pub more_worlds_extra : BytesAfterWorldsAreExtra
more_worlds_extra w rest b range = more_extra world world_grammar w.version (known w range) (rows_of w) rest b (world_fits w range)
