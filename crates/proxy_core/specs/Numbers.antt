-- What the proxy's own numbers guarantee for one request, and for two requests.
use Rattle.std.specs.Prelude.{◌≡◌, ◌⊎◌, ℕ, ◌+◌, ◌≤◌, ◌<◌, ◌&&◌, Bool, true, false, List, [], ◌∷◌, Contains}
use Rattle.proxy_core.specs.Rules.{Rules}
use Rattle.proxy_core.specs.Run.{Sent, Answer, Count, Run}

-- the serial numbers of the sent lines are n, n + 1, n + 2 ..
abbrev pub AreSerial : ℕ → List Sent → Type 0
AreSerial n [] = Unit {0}
AreSerial n (s ∷ more) = (s.serial ≡ n) × AreSerial (n + 1) more

-- the answer refuses the number of an unnumbered order that was not sent before with this number; the order waits for another
-- number
abbrev pub asks_again : Rules → Answer → Bool
asks_again r h = h.sent.is_first && (h.sent.is_unnumbered && r.refuses_number h.answer)

-- each answered line was sent after every line sent for an older request of its connection, unless the answer asks for another
-- number
abbrev pub IsInOrder : Rules → Run → Type 0
IsInOrder r w = (h : Answer) (s : Sent) → Contains w.answers h → asks_again r h ≡ false → Contains w.sent s → s.from ≡ h.sent.from → s.place < h.sent.place → s.serial < h.sent.serial

-- ---- what shows that a number was not used

-- the server's answer to exactly this line refuses the line's number
abbrev pub IsNumberRefused : Rules → List Answer → Sent → Type 0
IsNumberRefused r answers s = (h : Answer) × Contains answers h × (h.sent ≡ s) × (r.refuses_number h.answer ≡ true)

-- the server refused an order with the same number on its merits, and that order was this line or was sent later
abbrev pub IsOrderRefused : Rules → List Answer → Sent → Type 0
IsOrderRefused r answers s = (h : Answer) × Contains answers h × (h.sent.is_unnumbered ≡ true) × (h.sent.number ≡ s.number) × (s.serial ≤ h.sent.serial) × (r.is_refusal h.answer ≡ true)

-- after this line was sent, the loop found a last number below the line's number
abbrev pub IsAboveCount : List Count → Sent → Type 0
IsAboveCount counts s = (c : Count) × Contains counts c × (s.serial < c.sent) × (c.last < s.number)

abbrev pub IsUnused : Rules → List Answer → List Count → Sent → Type 0
IsUnused r answers counts s = IsNumberRefused r answers s ⊎ (IsOrderRefused r answers s ⊎ IsAboveCount counts s)

-- ---- what is promised

-- two lines that were sent with the proxy's own numbers, `s` before `t`
pub record AreTwo (w : Run) (s t : Sent) : Type 0 where
  pub first : Contains w.sent s
  pub second : Contains w.sent t
  pub first_own : s.is_unnumbered ≡ true
  pub second_own : t.is_unnumbered ≡ true
  pub before : s.serial < t.serial

-- two lines for the same request have different numbers only if the server refused the number of the earlier line
abbrev pub HasOneNumber : Rules → Run → Type 0
HasOneNumber r w = (s t : Sent) → AreTwo w s t → s.place ≡ t.place → (s.number ≡ t.number) ⊎ IsNumberRefused r w.answers s

-- two lines for different requests have the same number, below the greatest number, only if it is known that the earlier line did
-- not use the number
abbrev pub IsFresh : Rules → Run → Type 0
IsFresh r w = (s t : Sent) → AreTwo w s t → s.number ≡ t.number → t.number < 18446744073709551615 → (s.place ≡ t.place) ⊎ IsUnused r w.answers w.counts s
