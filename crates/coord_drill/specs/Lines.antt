-- What the functions that carry out lines promise, from any place of the drill.
use Rattle.std.specs.Prelude.{◌≡◌, ℕ, ◌+◌, List, [], ◌∷◌, ◌++◌}
use Rattle.coord_disk.specs.Model.DiskModel.{DiskModel}
use Rattle.coord_lines.specs.Lines.{Line, lines_on}
use Rattle.coord_drill.specs.Course.{FirstCutShort, Goes, LineGoes, Place, StopsDrill, StopsWork}
use Rattle.coord_drill.specs.Moments.{Stands}
use Rattle.coord_drill.specs.declared.console.Console.{Console}
use Rattle.coord_drill.specs.declared.drill.Drill.{Drill}
use Rattle.coord_drill.specs.declared.fault.Fault.{Fault}

-- ---- one line

-- The line with this number was carried out, with this output.
abbrev pub CarriesLine : {D : Type 0} → DiskModel D → (D → D → Type 0) → Drill D → ℕ → Line → List ℕ → Drill D → Type 0
CarriesLine {D} disk crashes d n line text new = (p : Place D) → Stands disk d p → n ≡ p.lines + 1 → (q : Place D) × Stands disk new q × (q.printed ≡ p.printed ++ text) × LineGoes disk crashes p line q

-- The line was cut short, and this fault and this disk are returned.
abbrev pub CutsLine : {D : Type 0} → DiskModel D → (D → D → Type 0) → Drill D → Line → Fault × D → Type 0
CutsLine {D} disk crashes d line refused = (p : Place D) → Stands disk d p → FirstCutShort disk crashes p (line ∷ []) refused

-- ---- lines, and the written part of their output

-- The drill is at this place, and the place and the drill count the same number of lines.
abbrev pub StandsAt : {D : Type 0} → DiskModel D → Console D → Place D → Type 0
StandsAt disk c p = Stands disk c.drill p × (p.lines ≡ c.number)

-- These lines were carried out, and their output was written.
abbrev pub CarriesOut : {D : Type 0} → DiskModel D → (D → D → Type 0) → Console D → List Line → List ℕ → Console D → Type 0
CarriesOut {D} disk crashes c lines text new = (p : Place D) → StandsAt disk c p → (q : Place D) × StandsAt disk new q × (q.printed ≡ p.printed ++ text) × Goes disk crashes p lines q

-- These lines were carried out, their output was written, and this disk was returned.
abbrev pub EndsWith : {D : Type 0} → DiskModel D → (D → D → Type 0) → Console D → List Line → List ℕ → D → Type 0
EndsWith {D} disk crashes c lines text last = (p : Place D) → StandsAt disk c p → (q : Place D) × (last ≡ q.disk) × (q.printed ≡ p.printed ++ text) × Goes disk crashes p lines q

-- Only a prefix of these lines was carried out. `Why` holds for the place after that prefix, the remaining
-- lines, and everything that was written.
pub record Breaks {D : Type 0} (disk : DiskModel D) (crashes : D → D → Type 0) (c : Console D) (lines : List Line) (text : List ℕ) (Why : Place D → List Line → List ℕ → Type 0) : Type 0 where
  pub ended : List Line
  pub others : List Line
  pub split : lines ≡ ended ++ others
  pub goes : (p : Place D) → StandsAt disk c p → (q : Place D) × Goes disk crashes p ended q × Why q others (p.printed ++ text)

-- A line or the writer stopped the drill.
abbrev pub LinesBreakOff : {D : Type 0} → DiskModel D → (D → D → Type 0) → Console D → List Line → Fault × D → List ℕ → Type 0
LinesBreakOff disk crashes c lines refused text = Breaks disk crashes c lines text (λ q others written. StopsWork disk crashes q others written refused)

-- A line, the writer, the input or the end of the input stopped the drill.
abbrev pub EndsEarly : {D : Type 0} → DiskModel D → (D → D → Type 0) → Console D → List Line → Fault × D → List ℕ → Type 0
EndsEarly disk crashes c lines refused text = Breaks disk crashes c lines text (λ q others written. StopsDrill disk crashes q others written refused)

-- A piece of the input was handled, except for `rest`: the lines that the piece completed were carried out,
-- and the partial line at the piece's end is kept.
pub record TakesPiece {D : Type 0} (disk : DiskModel D) (crashes : D → D → Type 0) (c : Console D) (piece rest text : List ℕ) (new : Console D) : Type 0 where
  pub ended : List Line
  pub lines : (more : List ℕ) → lines_on c.line (piece ++ more) ≡ ended ++ lines_on new.line (rest ++ more)
  pub out : CarriesOut disk crashes c ended text new
