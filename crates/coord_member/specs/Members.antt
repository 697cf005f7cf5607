-- Members, the views that they see, and the messages between them.
use Rattle.std.specs.Prelude.{ℕ, ◌+◌, ◌==◌, Bool, false, List, [], ◌∷◌, ◌++◌, Option, Some, None, if◌then◌else◌, slice_get}
use Rattle.coord_member.specs.declared.view.Entry.{Entry}
use Rattle.coord_member.specs.declared.view.Row.{Row}
use Rattle.coord_member.specs.declared.rule.Due.{Due}
use Rattle.coord_member.specs.declared.rule.Due.TheVariants.{Begin}
use Rattle.coord_member.specs.Rule.{Kept, new_kept, due, kept_after, tag_for, begun_with, without_work, same_party}

-- the work of a member from one begin to the next; each start has its own serial number
pub record Start : Type 0 where
  pub node : ℕ
  pub epoch : ℕ
  pub serial : ℕ

pub record Member : Type 0 where
  pub kept : Kept  -- on disk
  pub tag : Option (List Entry)  -- in memory: the party that names its run, if it may talk
  pub loading : Option ℕ  -- in memory: the epoch whose common start it is loading
  pub work : Option Start
  pub causal_past : List Start  -- the starts that its work has heard of, directly or through others, including its own start

pub record Message : Type 0 where
  pub tag : List Entry
  pub causal_past : List Start

-- a start that has talked, and the party that names its run
pub record Talked : Type 0 where
  pub start : Start
  pub party : List Entry

pub record MemberWorld : Type 0 where
  pub member : ℕ → Member
  pub messages : List Message  -- all messages ever sent, newest first
  pub talked : List Talked  -- all starts that ever talked, with the names of their runs
  pub serial : ℕ  -- the serial number of the next start

-- a member without work
abbrev pub idle : Kept → Member
idle kept = record { kept = kept; tag = None; loading = None; work = None; causal_past = [] }

abbrev pub new_world : MemberWorld
new_world = record { member = λ i. idle new_kept; messages = []; talked = []; serial = 0 }

-- an event at member i; a lost message is a message that is never heard
pub data Event : Type 0 where
  Look : (i : ℕ) → Row → List Entry → Event  -- the member reads a view: its node's row and its party
  Load : (i : ℕ) → Event  -- the member has loaded the common start for the epoch that it begins
  Crash : (i : ℕ) → Event  -- the member crashes and keeps its files
  Forget : (i : ℕ) → Event  -- the member loses its work and keeps its other files
  Lose : (i : ℕ) → Event  -- the member loses all its files
  Send : (i : ℕ) → Event
  Hear : (i k : ℕ) → Event  -- the k-th message arrives: late, again or for the first time

abbrev pub with_member : MemberWorld → ℕ → Member → MemberWorld
with_member w i m = record w { member = λ j. if j == i then m else w.member j }

-- ---- a look

abbrev pub talked_by : Option Start → Option (List Entry) → List Talked
talked_by (Some start) (Some party) = record { start = start; party = party } ∷ []
talked_by _ _ = []

-- the member after it has stored the due change and carried out the due action
abbrev pub member_for : Member → Kept → Row → Due → Member
member_for m kept row Begin = record { kept = kept; tag = None; loading = Some row.epoch; work = None; causal_past = [] }
member_for m kept row d = record m { kept = kept; tag = tag_for kept d }

abbrev pub member_after : Member → Row → List Entry → Member
member_after m row now = member_for m (kept_after m.kept row now) row (due m.kept row now)

abbrev pub looked : MemberWorld → ℕ → Member → MemberWorld
looked w i m = with_member (record w { talked = talked_by m.work m.tag ++ w.talked }) i m

-- ---- the end of a begin

abbrev pub loaded : MemberWorld → ℕ → Option ℕ → MemberWorld
loaded w i None = w
loaded w i (Some epoch) =
    let start : Start = record { node = i; epoch = epoch; serial = w.serial } in
    with_member (record w { serial = w.serial + 1 }) i (record { kept = begun_with (w.member i).kept epoch; tag = None; loading = None; work = Some start; causal_past = start ∷ [] })

-- ---- messages

abbrev pub message_of : Option (List Entry) → List Start → List Message
message_of None causal_past = []
message_of (Some tag) causal_past = record { tag = tag; causal_past = causal_past } ∷ []

-- whether a member accepts a message: the member must talk, and the message must have the member's tag
abbrev pub is_of_run : Option (List Entry) → List Entry → Bool
is_of_run None tag = false
is_of_run (Some own) tag = same_party own tag

abbrev pub heard : Member → Option Message → Member
heard m None = m
heard m (Some message) = if is_of_run m.tag message.tag then record m { causal_past = message.causal_past ++ m.causal_past } else m

-- ----

abbrev pub happens : MemberWorld → Event → MemberWorld
happens w (Look i row now) = looked w i (member_after (w.member i) row now)
happens w (Load i) = loaded w i (w.member i).loading
happens w (Crash i) = with_member w i (record (w.member i) { tag = None; loading = None })
happens w (Forget i) = with_member w i (idle (without_work (w.member i).kept))
happens w (Lose i) = with_member w i (idle new_kept)
happens w (Send i) = record w { messages = message_of (w.member i).tag (w.member i).causal_past ++ w.messages }
happens w (Hear i k) = with_member w i (heard (w.member i) (slice_get w.messages k))

abbrev pub run : MemberWorld → List Event → MemberWorld
run w [] = w
run w (event ∷ events) = run (happens w event) events
