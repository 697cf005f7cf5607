-- A desk that only counts its orders.
use Rattle.std.specs.Prelude.{◌≡◌, ℕ, ◌+◌, ◌^◌, nat_lt, if◌then◌else◌, [], Result, Ok, Err}
use Rattle.coord_types.specs.declared.steps.Kind.TheVariants.{Done}
use Rattle.coord_types.specs.declared.steps.Reply.{Reply}
use Rattle.coord_types.specs.declared.refusals.Refusal.{Refusal}
use Rattle.coord_types.specs.declared.refusals.Refusal.TheVariants.{Exhausted}
use Rattle.coord_admin.specs.declared.request.Request.{Request}
use Rattle.coord_admin.specs.declared.request.Request.TheVariants.{Order, Show, Resend, Close}
use Rattle.coord_admin.specs.declared.answer.Answer.{Answer}
use Rattle.coord_admin.specs.declared.answer.Answer.TheVariants as answer

-- the answer of a desk that has counted n orders: the next order gets step n + 1, or a refusal if
-- that is no u64
abbrev pub answer_of : ℕ → Request → Answer
answer_of n (Order c k x) = if nat_lt (n + 1) (2 ^ 64) then answer.Replied (record { step = n + 1; kind = Done }) else answer.Refused Exhausted
answer_of n Show = answer.Shown (record { accepted = n; settled = n; nodes = []; links = [] })
answer_of n Resend = answer.Resent 0
answer_of n Close = answer.Closed

abbrev pub count_after : ℕ → Request → ℕ
count_after n (Order c k x) = if nat_lt (n + 1) (2 ^ 64) then n + 1 else n
count_after n r = n

-- the reply to the next order
abbrev pub next_reply : ℕ → Result Reply Refusal
next_reply n = if nat_lt (n + 1) (2 ^ 64) then Ok (record { step = n + 1; kind = Done }) else Err Exhausted

-- Posting an order counts the order and stores its reply. No other request can be posted.
abbrev pub Counts : ℕ → Request → Result Reply Refusal → ℕ → Type 0
Counts n (Order c k x) reply m = (reply ≡ next_reply n) × (m ≡ count_after n (Order c k x))
Counts n r reply m = ⊥
