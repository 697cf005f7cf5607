-- A text in pieces has the lines of the whole.
use Rattle.std.proofs.Common.{◌≡◌, ℕ, Bool, true, false, List, [], ◌∷◌, ◌++◌, Some, refl, sym, ap, ◌∙◌, arith}
use Rattle.std.specs.List.{concat, All, slice_split}
use Rattle.coord_lines.specs.Lines.{Line, is_line_feed, extended, going_on, lines_on}
use Rattle.coord_lines.specs.Laws.{ended, last_of, lines_in_pieces, PiecesHaveTheLinesOfTheWhole}
use Rattle.coord_lines.proofs.LinesOn.{lines_on-empty, lines_on-feed, lines_on-byte, lines_on-bytes}

none_before : All (λ b. is_line_feed b ≡ false) []
none_before k d below = absurd (omega arith)

-- some lines, cut before the last, which a text goes on
abbrev cut_before : List ℕ → List Line → List Line
cut_before text lines = ended lines ++ lines_on (last_of lines) text

cut_before-ended : (text : List ℕ) (line first : Line) (parts : List (List ℕ)) → cut_before text (line ∷ going_on first parts) ≡ line ∷ cut_before text (going_on first parts)
cut_before-ended text line first [] = refl
cut_before-ended text line first (part ∷ parts) = refl

lines_on-append : (line : Line) (front text : List ℕ) → lines_on line (front ++ text) ≡ cut_before text (lines_on line front)
lines_on-append line [] text = lines_on-bytes line [] text none_before
lines_on-append line (byte ∷ front) text = by (λ l. lines_on-append l front text) (is_line_feed byte) refl
  where
    by : ((l : Line) → lines_on l (front ++ text) ≡ cut_before text (lines_on l front)) → (t : Bool) → is_line_feed byte ≡ t → lines_on line (byte ∷ front ++ text) ≡ cut_before text (lines_on line (byte ∷ front))
    by again true feed =
        lines_on-feed line [] (front ++ text) byte none_before feed
        ∙ ap (λ ls. extended line [] ∷ ls) (again (Some []))
        ∙ sym (cut_before-ended text (extended line []) (Some []) (slice_split is_line_feed front))
        ∙ ap (cut_before text) (sym (lines_on-feed line [] front byte none_before feed))
    by again false other =
        lines_on-byte line byte (front ++ text) other
        ∙ again (extended line (byte ∷ []))
        ∙ ap (cut_before text) (sym (lines_on-byte line byte front other))

lines_in_pieces-whole : (line : Line) (pieces : List (List ℕ)) → lines_in_pieces line pieces ≡ lines_on line (concat pieces)
lines_in_pieces-whole line [] = refl
lines_in_pieces-whole line (piece ∷ pieces) =
    ap (λ ls. ended (lines_on line piece) ++ ls) (lines_in_pieces-whole (last_of (lines_on line piece)) pieces)
    ∙ sym (lines_on-append line piece (concat pieces))

pub pieces_have_the_lines : PiecesHaveTheLinesOfTheWhole
pieces_have_the_lines pieces = lines_in_pieces-whole (Some []) pieces ∙ lines_on-empty (concat pieces)
