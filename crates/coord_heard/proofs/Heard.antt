-- The laws.
use Rattle.std.proofs.Common.{◌≡◌, ◌≤◌, ◌<◌, ◌^◌, ℕ, List, codes, Some, option_and_then, map, refl, ap, ◌∙◌, arith}
use Rattle.json.specs.Tree.{depth}
use Rattle.serde_json.specs.Data.{Data, array, member, no_members, object, string}
use Rattle.serde_json.specs.View.{items_of}
use Rattle.serde_json.specs.Read.{max_depth}
use Rattle.serde_json.specs.Written.{outline}
use Rattle.coord_types.specs.declared.steps.Reply.{Reply}
use Rattle.coord_types.specs.Names.{kind_name, refusal_name, refusal_number}
use Rattle.coord_types.specs.declared.refusals.Refusal.{Refusal}
use Rattle.coord_types.specs.declared.refusals.Refusal.TheVariants.{Stopped, OutOfMemory, Exhausted, OutOfTurn, NumberReused, UnknownNode, NodeExists, HasLinks, SameNode, OtherGroup, LinkExists, NoLink, DegreeFull, LinksFull, BadEpoch, PendingFull}
use Rattle.coord_types.specs.declared.steps.Kind.TheVariants.{Done, Started, Finished, Joined}
use Rattle.coord_view.specs.Shown.{Shown}
use Rattle.coord_admin.specs.Replies.{link_row, node_row, num, reply, reply_line, rows}
use Rattle.coord_admin.specs.declared.answer.Answer.TheVariants as printed
use Rattle.coord_wire.specs.AnswerLine.{answer_in, answer_of, or_no_answer}
use Rattle.coord_wire.specs.ShowLine.{each, link_in, or_no_view, shown_in, shown_of, shown_with}
use Rattle.coord_heard.specs.Heard.{IsView, RefusalIsRead, ReplyIsRead, ShownIsRead}
use Rattle.coord_heard.proofs.Lines.{IsPlain, IsSame, array_same, line_read, number_same}
use Rattle.coord_heard.proofs.Rows.{links_flat, links_plain, links_read, links_same, nodes_flat, nodes_plain, nodes_read, nodes_same}

four_same : (a b c d : Data) → IsSame a → IsSame b → IsSame c → IsSame d
    → IsSame (object (member (codes "accepted") a (member (codes "links") b (member (codes "nodes") c (member (codes "settled") d no_members)))))
four_same a b c d ea eb ec ed = rw (ea, eb, ec, ed) refl

view_of : (v : Shown) → IsView v → shown_of (reply (printed.Shown v)) ≡ Some v
view_of v is =
    ap (λ ns. shown_with ns (each link_in (items_of (map link_row v.links))) (Some v.accepted) (Some v.settled)) (nodes_read v.nodes is.nodes)
    ∙ ap (λ ls. shown_with (Some v.nodes) ls (Some v.accepted) (Some v.settled)) (links_read v.links is.links)

view_plain : (v : Shown) → IsView v → IsPlain (reply (printed.Shown v))
view_plain v is = (is.accepted, (links_plain v.links is.links, (nodes_plain v.nodes is.nodes, (is.settled, tt))))

view_same : (v : Shown) → IsView v → IsSame (reply (printed.Shown v))
view_same v is =
    four_same (num v.accepted) (rows link_row v.links) (rows node_row v.nodes) (num v.settled)
    (number_same v.accepted is.accepted) (array_same _ (links_same v.links is.links)) (array_same _ (nodes_same v.nodes is.nodes)) (number_same v.settled is.settled)

view_flat : (v : Shown) → depth (outline (reply (printed.Shown v))) ≤ max_depth
view_flat v = omega (arith, nodes_flat v.nodes, links_flat v.links)

pub shown_is_read : ShownIsRead
unfolding shown_in
shown_is_read v is =
    ap (λ o. or_no_view (option_and_then shown_of o)) (line_read (reply (printed.Shown v)) (view_plain v is) (view_flat v) (view_same v is)) ∙ ap or_no_view (view_of v is)

reply_same : (kind : List ℕ) (step : ℕ) → step < 2 ^ 64
    → IsSame (object (member (codes "kind") (string kind) (member (codes "step") (num step) no_members)))
reply_same kind step is = rw (number_same step is) refl

reply_read : (r : Reply) → r.step < 2 ^ 64 → answer_in (reply_line (printed.Replied r)) ≡ or_no_answer (answer_of (reply (printed.Replied r)))
unfolding answer_in
reply_read r is = ap (λ o. or_no_answer (option_and_then answer_of o)) (line_read (reply (printed.Replied r)) (tt, (is, tt)) (omega arith) (reply_same (kind_name r.kind) r.step is))

pub reply_is_read : ReplyIsRead
reply_is_read = (
  λ step is. reply_read (record { step = step; kind = Done }) is,
  (λ step is. reply_read (record { step = step; kind = Started }) is, (λ step is. reply_read (record { step = step; kind = Finished }) is, (λ step is. reply_read (record { step = step; kind = Joined }) is, tt))),
)

refusal_same : (name : List ℕ) (n : ℕ) → n < 2 ^ 64
    → IsSame (object (member (codes "name") (string name) (member (codes "refused") (num n) no_members)))
refusal_same name n is = rw (number_same n is) refl

few : (r : Refusal) → refusal_number r < 2 ^ 64
few r = grind arith

refusal_read : (r : Refusal) → answer_in (reply_line (printed.Refused r)) ≡ or_no_answer (answer_of (reply (printed.Refused r)))
unfolding answer_in
refusal_read r = ap (λ o. or_no_answer (option_and_then answer_of o)) (line_read (reply (printed.Refused r)) (tt, (few r, tt)) (omega arith) (refusal_same (refusal_name r) (refusal_number r) (few r)))

pub refusal_is_read : RefusalIsRead
refusal_is_read = (refusal_read Stopped, (refusal_read OutOfMemory, (refusal_read Exhausted, (refusal_read OutOfTurn, (refusal_read NumberReused, (refusal_read UnknownNode, (refusal_read NodeExists, (refusal_read HasLinks, (refusal_read SameNode, (refusal_read OtherGroup, (refusal_read LinkExists, (refusal_read NoLink, (refusal_read DegreeFull, (refusal_read LinksFull, (refusal_read BadEpoch, (refusal_read PendingFull, tt))))))))))))))))
