-- The position of the first dash.
use Rattle.std.proofs.Common.{◌≡◌, ℕ, ◌<◌, ◌≤◌, List, length, slice_index, true, false}
use Rattle.std.specs.List.{position_or_len}
use Rattle.std.proofs.lemmas.List.Sums.{position_or_len_is}
use Rattle.coord_kept.specs.Tag.{is_dash}

-- none of those in front is one, and this one is, or there is no more
pub first_dash : (tag : List ℕ) (place : ℕ) → place ≤ length tag → ((k : ℕ) → k < place → is_dash (slice_index tag k) ≡ false) → (place < length tag → is_dash (slice_index tag place) ≡ true) → position_or_len is_dash tag ≡ place
first_dash tag place within before at = position_or_len_is is_dash tag place 0 within before at
