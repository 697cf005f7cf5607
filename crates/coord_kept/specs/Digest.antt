-- The digest of a party's lines, and the tag of a start's messages.
use Rattle.std.specs.Prelude.{ℕ, ◌==◌, List, [], ◌++◌, codes, decimal, length, take, if◌then◌else◌, String, string_bytes}
use Rattle.std.specs.declared.alloc.Global.{Global}
use Rattle.std.specs.List.{flat_map}
use Rattle.hex.specs.Hex.{encode_lower}
use Rattle.sha2.specs.Sha256.{sha256}

abbrev pub line_of : String Global → List ℕ
line_of line = string_bytes line ++ codes "\n"

-- the word as a line, or nothing if the word is empty
abbrev pub word_line : List ℕ → List ℕ
word_line word = if length word == 0 then [] else word ++ codes "\n"

abbrev pub text_of : List ℕ → List (String Global) → List ℕ
text_of word lines = word_line word ++ flat_map line_of lines

-- the SHA-256 digest of these lines, in 64 hexadecimal digits
abbrev pub digest_of : List ℕ → List (String Global) → List ℕ
digest_of word lines = encode_lower (sha256 (text_of word lines))

-- the first 32 digits of the digest
abbrev pub half_of : List ℕ → List (String Global) → List ℕ
half_of word lines = encode_lower (take 16 (sha256 (text_of word lines)))

-- the tag of a start: half the digest of the party with which the start first talked, a dash, and half the
-- digest of the party that is shown now; empty for a start that was alone
abbrev pub tag_of : List ℕ → List (String Global) → List (String Global) → List ℕ
tag_of word first shown = if length first == 1 then [] else half_of word first ++ (codes "-" ++ half_of word shown)

-- the tag of a start's fence, which names the start's run; a start that was alone shares its run with no other
-- start, so its fence tag also depends on the count
abbrev pub fence_tag : List ℕ → ℕ → List (String Global) → List ℕ
fence_tag word count first = if length first == 1 then half_of (word ++ (codes "@" ++ decimal count)) first else half_of word first

-- the line that the history gets for a party
abbrev pub history_line : List (String Global) → List ℕ
history_line lines = digest_of [] lines ++ codes "\n"
