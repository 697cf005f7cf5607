-- The answer in a line from the server (docs/FORMATS.md, "Administration lines").
use Rattle.std.specs.Prelude.{ℕ, List, [], ◌∷◌, codes, Option, Some, None, option_and_then, Result, Ok, Err, if◌then◌else◌}
use Rattle.std.specs.Str.{bytes_eq}
use Rattle.serde_json.specs.Data.{Data}
use Rattle.serde_json.specs.Find.{get, as_number, as_str, as_u64}
use Rattle.serde_json.specs.Read.{read}
use Rattle.coord_types.specs.declared.steps.Kind.{Kind}
use Rattle.coord_types.specs.declared.steps.Kind.TheVariants.{Done, Started, Finished, Joined}
use Rattle.coord_types.specs.declared.steps.Reply.{Reply}
use Rattle.coord_types.specs.declared.refusals.Refusal.{Refusal}
use Rattle.coord_types.specs.declared.refusals.Refusal.TheVariants.{Stopped, OutOfMemory, Exhausted, OutOfTurn, NumberReused, UnknownNode, NodeExists, HasLinks, SameNode, OtherGroup, LinkExists, NoLink, DegreeFull, LinksFull, BadEpoch, PendingFull}
use Rattle.coord_orders.specs.declared.meaning.Answer.{Answer}
use Rattle.coord_orders.specs.declared.meaning.Answer.TheVariants.{Replied, Refused}
use Rattle.coord_wire.specs.declared.answer_line.ReadFault.{ReadFault}
use Rattle.coord_wire.specs.declared.answer_line.ReadFault.TheVariants.{NoAnswer}

abbrev pub Name : Type 0
Name = List ℕ

-- the value beside a name in a table of names, or None
abbrev pub named : {X : Type 0} → List (Name × X) → Name → Option X
named [] name = None
named (row ∷ rows) name = if bytes_eq name row.0 then Some row.1 else named rows name

abbrev pub kinds : List (Name × Kind)
kinds = (codes "done", Done) ∷ (codes "started", Started) ∷ (codes "finished", Finished) ∷ (codes "joined", Joined) ∷ []

abbrev pub refusals : List (Name × Refusal)
refusals =
    (codes "Stopped", Stopped) ∷ (codes "OutOfMemory", OutOfMemory) ∷ (codes "Exhausted", Exhausted) ∷ (codes "OutOfTurn", OutOfTurn)
    ∷ (codes "NumberReused", NumberReused) ∷ (codes "UnknownNode", UnknownNode) ∷ (codes "NodeExists", NodeExists) ∷ (codes "HasLinks", HasLinks)
    ∷ (codes "SameNode", SameNode) ∷ (codes "OtherGroup", OtherGroup) ∷ (codes "LinkExists", LinkExists) ∷ (codes "NoLink", NoLink)
    ∷ (codes "DegreeFull", DegreeFull) ∷ (codes "LinksFull", LinksFull) ∷ (codes "BadEpoch", BadEpoch) ∷ (codes "PendingFull", PendingFull) ∷ []

abbrev pub kind_named : Name → Option Kind
kind_named name = named kinds name

abbrev pub refusal_named : Name → Option Refusal
refusal_named name = named refusals name

abbrev pub text_at : Name → Data → Option Name
text_at name d = option_and_then as_str (get name d)

abbrev pub number_at : Name → Data → Option ℕ
number_at name d = option_and_then as_u64 (option_and_then as_number (get name d))

abbrev pub reply_with : Option Kind → Option ℕ → Option Reply
reply_with (Some kind) (Some step) = Some (record { step = step; kind = kind })
reply_with kind step = None

abbrev pub reply_of : Data → Option Reply
reply_of d = reply_with (option_and_then kind_named (text_at (codes "kind") d)) (number_at (codes "step") d)

abbrev pub refusal_of : Data → Option Refusal
refusal_of d = option_and_then refusal_named (text_at (codes "name") d)

abbrev pub answer_with : Option Reply → Option Refusal → Option Answer
answer_with (Some reply) refusal = Some (Replied reply)
answer_with None (Some refusal) = Some (Refused refusal)
answer_with None None = None

-- the answer in an object: a reply, by its kind and step, or else a refusal, by its name
abbrev pub answer_of : Data → Option Answer
answer_of d = answer_with (reply_of d) (refusal_of d)

abbrev pub or_no_answer : Option Answer → Result Answer ReadFault
or_no_answer None = Err NoAnswer
or_no_answer (Some a) = Ok a

-- the answer in a text, which is parsed as JSON
unfoldable pub answer_in : List ℕ → Result Answer ReadFault
answer_in text = or_no_answer (option_and_then answer_of (read text))
