-- A request line that has no answer yet, as the proxy holds it.
use Rattle.std.specs.Prelude.{ℕ, ◌==◌, Bool, List, [], ◌∷◌, ◌++◌, if◌then◌else◌}
use Rattle.proxy_core.specs.Rules.{Rules, as_sent, next}

pub record Pending : Type 0 where
  pub from : ℕ  -- the number of the connection that sent the line; no other connection ever has this number
  pub line : List ℕ
  pub is_once : Bool  -- the line must not be sent twice
  pub is_query : Bool  -- the line is a query
  pub is_unnumbered : Bool  -- the line is an order to which the proxy adds a number of its own

abbrev pub new_pending : ℕ → List ℕ → Bool → Bool → Bool → Pending
new_pending from line is_once is_query is_unnumbered = record { from = from; line = line; is_once = is_once; is_query = is_query; is_unnumbered = is_unnumbered }

abbrev pub is_from : ℕ → Pending → Bool
is_from c a = a.from == c

-- the last number after a line: the next number if the line takes one, else the same number
abbrev pub step : Bool → ℕ → ℕ
step own number = if own then next number else number

-- the bytes of lines as they are written to the server, each with a line feed; the unnumbered orders get the next numbers in turn
abbrev pub text_of : Rules → ℕ → List Pending → List ℕ
text_of r number [] = []
text_of r number (a ∷ more) = (as_sent r (next number) a.is_unnumbered a.line ++ (10 ∷ [])) ++ text_of r (step a.is_unnumbered number) more
