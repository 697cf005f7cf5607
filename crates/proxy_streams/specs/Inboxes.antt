-- The bytes that arrived from a client and were not yet taken as lines.
use Rattle.std.specs.Prelude.{◌≡◌, ℕ, ◌||◌, Bool, false, List, [], Option, Some, None, if◌then◌else◌, is_some}
use Rattle.coord_lines.specs.Lines.{Line, extended, before_line_feed, after_line_feed}

pub record Inbox : Type 0 where
  pub line : Line  -- the line so far; None if it is over the limit
  pub is_whole : Bool  -- whether its line feed has arrived
  pub rest : List ℕ  -- the bytes after the line

abbrev pub new_inbox : Inbox
new_inbox = record { line = Some []; is_whole = false; rest = [] }

-- whether a whole line has arrived
abbrev pub has_line : Inbox → Bool
has_line i = i.is_whole || is_some (after_line_feed i.rest)

abbrev pub or_empty : Option (List ℕ) → List ℕ
or_empty None = []
or_empty (Some more) = more

-- the inbox after the bytes up to the next line feed, or all bytes if there is none, have moved into the line
abbrev pub with_line : Inbox → Inbox
with_line i =
    if i.is_whole then i
    else record { line = extended i.line (before_line_feed i.rest); is_whole = is_some (after_line_feed i.rest); rest = or_empty (after_line_feed i.rest) }

-- the inbox at the beginning of the next line
abbrev pub after_line : Inbox → Inbox
after_line i = record { line = Some []; is_whole = false; rest = i.rest }

-- All bytes that arrived are in the line, and the line is not complete.
abbrev pub IsDrained : Inbox → Type 0
IsDrained i = (i.is_whole ≡ false) × (i.rest ≡ [])

abbrev pub filled : List ℕ → Inbox → Inbox
filled bytes i = record { line = i.line; is_whole = i.is_whole; rest = bytes }
