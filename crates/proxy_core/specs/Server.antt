-- The session rule by which the server judges the orders of the proxy's client, one after another.
use Rattle.std.specs.Prelude.{◌≡◌, ◌⊎◌, ℕ, ◌+◌, ◌<◌, true, List, [], ◌∷◌, Contains}
use Rattle.std.specs.List.{AllByRecursion}
use Rattle.proxy_core.specs.Rules.{Rules}
use Rattle.proxy_core.specs.Run.{Sent, Answer, Run, Event, new_run, run}
use Rattle.proxy_core.specs.Session.{Session}

pub data Verdict : Type 0 where
  CarriedOut : Verdict  -- the order has the next number, and the server carries it out
  Repeated : Verdict  -- the order has the last number, and gets the reply that the server kept
  OrderRefused : Verdict  -- the order has the next number, and the server refuses it on its merits
  NumberRefused : Verdict  -- the server refuses the order's number
  NotJudged : Verdict  -- the server does not judge the order, since it has stopped or is out of memory

pub record Judged : Type 0 where
  pub sent : Sent
  pub verdict : Verdict

-- the order's number allows this verdict, given the client's last number
abbrev pub IsRight : ℕ → Verdict → ℕ → Type 0
IsRight last CarriedOut number = number ≡ last + 1
IsRight last Repeated number = number ≡ last
IsRight last OrderRefused number = number ≡ last + 1
IsRight last NumberRefused number = Unit {0}
IsRight last NotJudged number = Unit {0}

abbrev pub last_after : ℕ → Verdict → ℕ
last_after last CarriedOut = last + 1
last_after last Repeated = last
last_after last OrderRefused = last
last_after last NumberRefused = last
last_after last NotJudged = last

abbrev pub IsSession : ℕ → List Judged → Type 0
IsSession last [] = Unit {0}
IsSession last (j ∷ more) = IsRight last j.verdict j.sent.number × IsSession (last_after last j.verdict) more

-- the lines are judged in the order in which they were sent: the server reads one connection after another, and each in order
abbrev pub AreInOrder : List Judged → Type 0
AreInOrder [] = Unit {0}
AreInOrder (j ∷ more) = AllByRecursion (λ (k : Judged). j.sent.serial < k.sent.serial) more × AreInOrder more

abbrev pub with_sent : Verdict → Sent → List Sent → List Sent
with_sent CarriedOut s more = s ∷ more
with_sent Repeated s more = more
with_sent OrderRefused s more = more
with_sent NumberRefused s more = more
with_sent NotJudged s more = more

-- the sent lines that were carried out
abbrev pub carried_out : List Judged → List Sent
carried_out [] = []
carried_out (j ∷ more) = with_sent j.verdict j.sent (carried_out more)

-- the server judged the sent line that this answer belongs to, and the verdict satisfies P
abbrev pub HasVerdict : List Judged → Answer → (Verdict → Type 0) → Type 0
HasVerdict judged h P = (j : Judged) × Contains judged j × (j.sent ≡ h.sent) × P j.verdict

-- a server whose last number for the proxy's client was `last` at first judged these lines by the session rule, and the proxy
-- received some of its answers
pub record Serves (r : Rules) (w : Run) (last : ℕ) (judged : List Judged) : Type 0 where
  pub of_run : (j : Judged) → Contains judged j → Contains w.sent j.sent
  pub own : (j : Judged) → Contains judged j → j.sent.is_unnumbered ≡ true
  pub order : AreInOrder judged
  pub rule : IsSession last judged
  pub refuses_number : (h : Answer) → Contains w.answers h → h.sent.is_unnumbered ≡ true → r.refuses_number h.answer ≡ true → HasVerdict judged h (λ v. v ≡ NumberRefused)
  pub refuses_order : (h : Answer) → Contains w.answers h → h.sent.is_unnumbered ≡ true → r.is_refusal h.answer ≡ true → HasVerdict judged h (λ v. v ≡ OrderRefused)
  pub replies : (h : Answer) → Contains w.answers h → h.sent.is_unnumbered ≡ true → r.uses_number h.answer ≡ true → HasVerdict judged h (λ v. (v ≡ CarriedOut) ⊎ (v ≡ Repeated))
  -- the loop never found a last number below the server's first one, so all numbers of the proxy are above it
  pub above : (j : Judged) → Contains judged j → last < j.sent.number
  -- the server accepts at most 2^40 steps
  pub small : (j : Judged) → Contains judged j → j.sent.number < 18446744073709551615

-- if a server judges the lines sent in a run by its session rule, the run satisfies `Session`, the premise of the joint laws
abbrev pub SessionRule : Type 0
SessionRule = (r : Rules) (events : List Event) (last : ℕ) (judged : List Judged) → Serves r (run r new_run events) last judged → Session r (run r new_run events) (carried_out judged)
