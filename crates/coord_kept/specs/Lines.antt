-- A party as lines: `NODE EPOCH` for each node and `A B INCARNATION` for each link.
use Rattle.std.specs.Prelude.{ℕ, Bool, List, ◌++◌, codes, decimal, map, filter, String, string_bytes}
use Rattle.std.specs.declared.alloc.Global.{Global}
use Rattle.std.specs.List.{list_any}
use Rattle.std.specs.List.Sorted.{IsPermutation, IsSorted}
use Rattle.std.specs.Str.{bytes_eq}
use Rattle.std.specs.String.{string_cmp}
use Rattle.coord_member.specs.declared.view.Entry.{Entry}
use Rattle.coord_member.specs.declared.view.Entry.TheVariants.{Node, Link}

abbrev pub entry_words : Entry → List ℕ
entry_words (Node n e) = decimal n ++ (codes " " ++ decimal e)
entry_words (Link a b incarnation) = decimal a ++ (codes " " ++ (decimal b ++ (codes " " ++ decimal incarnation)))

-- the list has the line of each entry, in the order of their bytes
pub record AreLinesOf (party : List Entry) (lines : List (String Global)) : Type 0 where
  pub all : IsPermutation (map entry_words party) (map (λ line. string_bytes line) lines)
  pub in_order : IsSorted string_cmp lines

-- whether the line of this entry is one of these lines
abbrev pub has_line : List (String Global) → Entry → Bool
has_line lines entry = list_any (λ line. bytes_eq (string_bytes line) (entry_words entry)) lines

-- the entries of a party whose lines are among these lines
abbrev pub known : List (String Global) → List Entry → List Entry
known lines party = filter (has_line lines) party
