-- Comparisons of a message's tag with the tag of its receiver.
use Rattle.std.specs.Prelude.{ℕ, ◌==◌, ◌&&◌, not, Bool, List, length}
use Rattle.std.specs.List.{before_first, after_first}
use Rattle.std.specs.Str.{bytes_eq}

abbrev pub is_dash : ℕ → Bool
is_dash byte = byte == 45

-- the part of a tag before the dash: the digest of the party with which the tag's start first talked; and the
-- part after the dash: the digest of the party that the start saw last
abbrev pub run_of : List ℕ → List ℕ
run_of tag = before_first is_dash tag

abbrev pub shown_of : List ℕ → List ℕ
shown_of tag = after_first is_dash tag

-- whether the message belongs to the receiver's run; a receiver without a tag accepts no message
abbrev pub is_same_run : List ℕ → List ℕ → Bool
is_same_run own other = not (length own == 0) && bytes_eq (run_of own) (run_of other)

-- whether the tags are of two runs that last saw the same party, so no further look by either can reconcile them
abbrev pub are_parted : List ℕ → List ℕ → Bool
are_parted own other = not (length own == 0) && (not (length other == 0) && (not (bytes_eq (run_of own) (run_of other)) && bytes_eq (shown_of own) (shown_of other)))
