-- The possible outputs of a drill for a whole input.
use Rattle.std.specs.Prelude.{◌≡◌, ℕ, ◌+◌, ◌==◌, Bool, true, false, List, [], ◌∷◌, ◌++◌, Option, Some, None, if◌then◌else◌}
use Rattle.std.specs.Str.{is_utf8}
use Rattle.coord_lines.specs.Lines.{Line, lines_of}
use Rattle.coord_world.specs.protocol.NumberedWorld.{no_world}
use Rattle.coord_ledger.specs.declared.events.Answer.{Answer}
use Rattle.coord_drill.specs.declared.request.Request.{Request}
use Rattle.coord_drill.specs.declared.request.Request.TheVariants.{Version2}
use Rattle.coord_drill.specs.Answered.{Responds}
use Rattle.coord_drill.specs.Drill.{DrillState, drill_over, version_of}
use Rattle.coord_drill.specs.Format.{◌>>=◌}
use Rattle.coord_drill.specs.Grammar.{request_of}

-- whether a line is skipped: it is empty, or a comment
abbrev pub is_skipped : List ℕ → Bool
is_skipped [] = true
is_skipped (c ∷ cs) = c == 35

-- the request that a line encodes in a drill of this version; None for a bad line
abbrev pub parsed : ℕ → List ℕ → Option Request
parsed version line = if is_utf8 line then request_of version line else None

-- the request, unless it is `version 2` and comes after the first accepted step
abbrev pub unless_late : DrillState → Request → Option Request
unless_late s Version2 = if s.has_begun then None else Some Version2
unless_late s request = Some request

-- the request of a line; None for a bad line
abbrev pub asked_by : DrillState → List ℕ → Option Request
asked_by s line = parsed (version_of s) line >>= unless_late s

-- A skipped line prints nothing and changes nothing.
abbrev pub UnlessSkipped : Bool → DrillState → List Answer → List ℕ → DrillState → Type 0 → Type 0
UnlessSkipped true s given reported t Otherwise = (given ≡ []) × (reported ≡ []) × (t ≡ s)
UnlessSkipped false s given reported t Otherwise = Otherwise

-- If the events of the line with this number get these answers, the line may print this text and leave
-- the drill in this state. A line over the limit is bad, even if it is a comment.
abbrev pub LineResponds : DrillState → ℕ → Line → List Answer → List ℕ → DrillState → Type 0
LineResponds s n None given reported t = Responds s n None given reported t
LineResponds s n (Some line) given reported t = UnlessSkipped (is_skipped line) s given reported t (Responds s n (asked_by s line) given reported t)

-- A text consists of the output of one line, and then the output of a drill in the state after that
-- line.
pub record PrintsOn (Line : List Answer → List ℕ → DrillState → Type 0) (Then : DrillState → List ℕ → Type 0) (text : List ℕ) : Type 0 where
  pub given : List Answer
  pub reported : List ℕ
  pub after : DrillState
  pub rest : List ℕ
  pub line : Line given reported after
  pub following : Then after rest
  pub whole : text ≡ reported ++ rest

-- A drill in this state may print this text for these lines. The first line has this number.
abbrev pub Prints : DrillState → ℕ → List Line → List ℕ → Type 0
Prints s n [] text = text ≡ []
Prints s n (l ∷ ls) text = PrintsOn (LineResponds s n l) (λ t rest. Prints t (n + 1) ls rest) text

-- A drill that begins in version 1 may print this text for this input.
abbrev pub IsDrilled : List ℕ → List ℕ → Type 0
IsDrilled input text = Prints (drill_over (no_world 1)) 1 (lines_of input) text
