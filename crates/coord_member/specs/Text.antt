-- The text of a party: one line for each of its entries.
use Rattle.std.specs.Prelude.{◌≡◌, ℕ, ◌^◌, ◌<◌, List, ◌++◌, codes, decimal}
use Rattle.std.specs.List.{AllByRecursion, flat_map}
use Rattle.coord_member.specs.declared.view.Entry.{Entry}
use Rattle.coord_member.specs.declared.view.Entry.TheVariants.{Node, Link}

abbrev pub entry_line : Entry → List ℕ
entry_line (Node n e) = decimal n ++ (codes " " ++ (decimal e ++ codes "\n"))
entry_line (Link a b incarnation) = decimal a ++ (codes " " ++ (decimal b ++ (codes " " ++ (decimal incarnation ++ codes "\n"))))

abbrev pub party_text : List Entry → List ℕ
party_text = flat_map entry_line

-- the numbers of an entry fit into a u64
abbrev pub IsWritten : Entry → Type 0
IsWritten (Node n e) = (n < 2 ^ 64) × (e < 2 ^ 64)
IsWritten (Link a b incarnation) = (a < 2 ^ 64) × (b < 2 ^ 64) × (incarnation < 2 ^ 64)

-- parties with equal texts are equal
abbrev pub PartyTextInjective : Type 0
PartyTextInjective = (p q : List Entry) → AllByRecursion IsWritten p → AllByRecursion IsWritten q → party_text p ≡ party_text q → p ≡ q
