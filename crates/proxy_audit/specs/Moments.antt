-- The text of a time in UTC.
use Rattle.std.specs.Prelude.{◌≡◌, ℕ, ℤ, pos, false, List, [], ◌∷◌, ◌++◌, Some}
use Rattle.jiff_core.specs.declared.civil.datetime.DateTime.{DateTime}
use Rattle.jiff_core.specs.DateTime.{civil_nanos}
use Rattle.jiff_fmt.specs.Text.{datetime_text}

-- the text is the date and time in UTC at this number of nanoseconds since 1970, printed with milliseconds and followed
-- by `Z`
abbrev pub ShowsInstant : ℤ → List ℕ → Type 0
ShowsInstant nanos text = (dt : DateTime) × (civil_nanos dt ≡ nanos) × (text ≡ datetime_text false 84 (Some 3) dt ++ 90 ∷ [])

abbrev pub IsMoment : ℕ → List ℕ → Type 0
IsMoment nanos text = ShowsInstant (pos nanos) text
