-- The output for a whole input, and the causes of faults.
use Rattle.std.proofs.Common.{refl, ◌≡◌, ℕ, ◌+◌, List, [], ◌++◌, Option, Some, sym, ap, ◌∙◌, subst, append-nil, take, inl, inr}
use Rattle.std.specs.Io.KnownBytes.{Consumes}
use Rattle.std.proofs.KnownBytes.{Consumes-trans}
use Rattle.coord_disk.specs.Model.DiskModel.{DiskModel}
use Rattle.coord_lines.specs.Lines.{Line, lines_of, lines_on}
use Rattle.coord_lines.specs.Written.{IsFirstPart}
use Rattle.coord_lines.proofs.LinesOn.{lines_on-empty}
use Rattle.coord_drill.specs.Facade.{BrokeOff, Console, DrillEnded, EndsEarly, EndsWith, Fault, IsBegun, Place, Prints, StopsDrill, drill_over, start}
use Rattle.coord_drill.specs.Drilled.{IsDrilled}
use Rattle.coord_world.specs.Facade.{no_world}
use Rattle.coord_drill.proofs.course.Lines.{goes_prints}
use Rattle.coord_drill.proofs.does.LineResponds.{prints_somehow}
use Rattle.coord_drill.proofs.prints.FirstParts.{first_part-all, first_part-short}

-- a read that gave no byte
pub Consumes-none : (a b c : Option (List ℕ)) (seen bytes : List ℕ) (count : ℕ) → Consumes a b seen → Consumes b c (take count bytes) → count ≡ 0 → Consumes a c seen
Consumes-none a b c seen bytes count first second e =
    let none : take count bytes ≡ [] = rw e refl in
    subst (Consumes a c) (ap (λ l. seen ++ l) none ∙ append-nil seen) (Consumes-trans a b c seen (take count bytes) first second)

-- ---- a whole input

module _ {D : Type 0} (disk : DiskModel D) (crashes : D → D → Type 0) (given : D) (input : List ℕ) where
  -- the whole output is allowed
  pub ended_prints : (text : List ℕ) (last : D) → DrillEnded disk crashes given input text last → IsDrilled input text
  ended_prints text last ended =
      let lines = lines_of input in
      let prints = goes_prints disk crashes _ ended.place lines [] [] ended.course.goes refl in
      subst (IsDrilled input) (sym (ended.wrote ∙ prints.1 ∙ sym (append-nil prints.0))) (subst (λ ls. Prints (drill_over (no_world 1)) 1 ls (prints.0 ++ [])) (append-nil lines) prints.2)

  -- a first part was written, whatever stopped it
  stops_written : (refused : Fault × D) (q : Place D) (others : List Line) (written rest : List ℕ) → StopsDrill disk crashes q others written refused → IsFirstPart written (q.printed ++ rest)
  stops_written refused q others written rest (inl read) = first_part-all written q.printed rest read.wrote
  stops_written refused q others written rest (inr (inl flush)) = first_part-all written q.printed rest flush.wrote
  stops_written refused q others written rest (inr (inr (inl line))) = first_part-all written q.printed rest line.wrote
  stops_written refused q others written rest (inr (inr (inr short))) = first_part-short written q.printed rest short.wrote

  -- and a prefix of an allowed output, if it broke off
  pub broke_prints : (written : List ℕ) (refused : Fault × D) → BrokeOff disk crashes given input written refused → (text : List ℕ) × IsDrilled input text × IsFirstPart written text
  broke_prints written refused broke =
      let more = prints_somehow broke.place.state (broke.place.lines + 1) broke.others in
      let prints = goes_prints disk crashes _ broke.place broke.lines broke.others more.0 broke.course.goes more.1 in
      (prints.0 ++ more.0, rw broke.split prints.2, subst (λ t. IsFirstPart written (t ++ more.0)) prints.1 (stops_written refused broke.place broke.others written more.0 broke.why))

  -- from what the code's functions say of it
  module _ (c : Console D) (begun : IsBegun disk given c.drill) (empty : c.line ≡ Some []) (none : c.number ≡ 0) where
    lines_are : lines_on c.line input ≡ lines_of input
    lines_are = ap (λ l. lines_on l input) empty ∙ lines_on-empty input

    pub ended_of : (text : List ℕ) (last : D) → EndsWith disk crashes c (lines_on c.line input) text last → DrillEnded disk crashes given input text last
    ended_of text last ends =
        let one = ends (start begun.begun) (begun.stands, sym none) in
        record {
          place = one.0;
          course = record { begun = begun.begun; made = begun.made; unfailed = begun.unfailed; goes = rw (sym lines_are) one.3 };
          wrote = sym one.2;
          given_back = one.1;
        }

    pub broke_of : (refused : Fault × D) (text : List ℕ) → EndsEarly disk crashes c (lines_on c.line input) refused text → BrokeOff disk crashes given input text refused
    broke_of refused text breaks =
        let one = breaks.goes (start begun.begun) (begun.stands, sym none) in
        record {
          lines = breaks.ended;
          others = breaks.others;
          split = sym lines_are ∙ breaks.split;
          place = one.0;
          course = record { begun = begun.begun; made = begun.made; unfailed = begun.unfailed; goes = one.1 };
          why = one.2;
        }
