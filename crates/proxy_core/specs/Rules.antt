-- How the proxy reads lines and answers, and who may send which lines.
use Rattle.std.specs.Prelude.{ℕ, ◌+◌, min, ◌&&◌, not, Bool, List, if◌then◌else◌}

pub record Rules : Type 0 where
  pub allows : ℕ → List ℕ → Bool  -- connections in this role may send this line
  pub is_once : List ℕ → Bool  -- the line must not be sent twice; an example is `close`
  pub is_query : List ℕ → Bool  -- the line is a query: the server changes nothing for it
  pub is_unnumbered : List ℕ → Bool  -- an order without a client and a number
  pub spelled : ℕ → List ℕ → List ℕ  -- the same order with the proxy's client and this number
  pub refuses_number : List ℕ → Bool  -- the answer refuses the order's number, not the order itself
  pub uses_number : List ℕ → Bool  -- the answer says that the number is used now
  pub is_refusal : List ℕ → Bool  -- the answer refuses the order on its merits, so its number was the next one and is not used
  pub is_inconclusive : List ℕ → Bool  -- the answer to a line that was sent twice does not say whether the line was carried out
  pub needs_view : List ℕ → Bool  -- the line may be sent only right after a view that permits it; an example is a reset that names an epoch
  pub permits : List ℕ → List ℕ → Bool  -- this view permits this line

-- the line is one to which the proxy adds a number of its own: an unnumbered order that may be sent twice
abbrev pub needs_number : Rules → List ℕ → Bool
needs_number r line = r.is_unnumbered line && not (r.is_once line)

abbrev pub next : ℕ → ℕ
next number = min (number + 1) 18446744073709551615

-- a line as it is written to the server, without its line feed
abbrev pub as_sent : Rules → ℕ → Bool → List ℕ → List ℕ
as_sent r number own line = if own then r.spelled number line else line
