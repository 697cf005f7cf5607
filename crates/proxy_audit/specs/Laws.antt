-- The laws of the audit.
use Rattle.std.specs.Prelude.{◌≡◌, ◌≤◌, ◌<◌, ◌^◌, ℕ, ◌+◌, ◌*◌, ◌==◌, ◌&&◌, not, Bool, true, false, nat_lt, nat_le, if◌then◌else◌, List, [], ◌∷◌, ◌++◌, length, filter, Option, Some, None}
use Rattle.std.specs.List.{list_all}
use Rattle.std.specs.Duration.{as_nanos}
use Rattle.json.specs.Json.{document, max_depth}
use Rattle.json.specs.Tree.{depth}
use Rattle.proxy_audit.specs.Lines.{entry, text_of}
use Rattle.proxy_audit.specs.Quotas.{Quota, after_admission, after_more, has_room, more, new_quota, second, times_of}
use Rattle.proxy_audit.specs.declared.event.Event.{Event}
use Rattle.proxy_audit.specs.declared.event.Event.TheVariants.{Starts, Begins, Ends, Answered, Denied, Unanswered, More}
use Rattle.proxy_audit.specs.declared.quota.LineKind.{LineKind}
use Rattle.proxy_audit.specs.declared.quota.LineKind.TheVariants.{Refusal, Connection}
use Rattle.proxy_audit.specs.declared.quota.TheConstants.{MOST_LINES}

-- ---- lines

abbrev pub FitsSeconds : ℕ → Type 0
FitsSeconds nanos = nanos < 2 ^ 64 * 1_000_000_000

-- the numbers in an event are in the range of their types
abbrev pub IsInRange : Event → Type 0
IsInRange Starts = Unit {0}
IsInRange (Begins who) = Unit {0}
IsInRange (Ends who lasted) = FitsSeconds (as_nanos lasted)
IsInRange (Answered who line answer waited) = FitsSeconds (as_nanos waited)
IsInRange (Denied who line answer waited) = FitsSeconds (as_nanos waited)
IsInRange (Unanswered who line waited) = FitsSeconds (as_nanos waited)
IsInRange (More who count) = count < 2 ^ 64

-- parsing the text of an event as JSON gives the event's object
abbrev pub EventIsRead : Type 0
EventIsRead = (time : List ℕ) (e : Event) → IsInRange e → depth (entry time e) ≤ max_depth → document (text_of time e) ≡ Some (entry time e)

abbrev pub is_in_line : ℕ → Bool
is_in_line byte = not (byte == 10)

-- the text of an event contains no line feed: with the line feed after it, it is exactly one line
abbrev pub EventIsOneLine : Type 0
EventIsOneLine = (time : List ℕ) (e : Event) → IsInRange e → list_all is_in_line (text_of time e) ≡ true

-- ---- quotas

-- a call on a principal's quota, with its time: `asks` asks to write a line of a kind, `looks` takes the count of
-- left-out lines
pub data Call : Type 0 where
  asks : LineKind → ℕ → Call
  looks : ℕ → Call

abbrev pub time_of : Call → ℕ
time_of (asks kind now) = now
time_of (looks now) = now

-- the calls are in the order of their times, and none is before `from`
abbrev pub AreInOrder : ℕ → List Call → Type 0
AreInOrder from [] = Unit {0}
AreInOrder from (c ∷ cs) = (from ≤ time_of c) × AreInOrder (time_of c) cs

abbrev pub after_call : Call → Quota → Quota
after_call (asks kind now) q = after_admission kind now q
after_call (looks now) q = after_more now q

abbrev pub after_calls : List Call → Quota → Quota
after_calls [] q = q
after_calls (c ∷ cs) q = after_calls cs (after_call c q)

abbrev pub is_kind : LineKind → LineKind → Bool
is_kind Refusal Refusal = true
is_kind Refusal Connection = false
is_kind Connection Refusal = false
is_kind Connection Connection = true

-- the call's time if the call writes a line of this kind, else nothing
abbrev pub line_at : LineKind → Call → Quota → List ℕ
line_at kind (asks other now) q = if is_kind kind other && has_room now (times_of other q) then now ∷ [] else []
line_at kind (looks now) q = []

-- the times of all lines of a kind that a list of calls writes
abbrev pub lines_at : LineKind → List Call → Quota → List ℕ
lines_at kind [] q = []
lines_at kind (c ∷ cs) q = line_at kind c q ++ lines_at kind cs (after_call c q)

abbrev pub is_asked : Call → Bool
is_asked (asks kind now) = true
is_asked (looks now) = false

-- 1 if the call leaves a line out, else 0
abbrev pub left_out_by : Call → Quota → ℕ
left_out_by (asks kind now) q = if has_room now (times_of kind q) then 0 else 1
left_out_by (looks now) q = 0

abbrev pub left_out_in : List Call → Quota → ℕ
left_out_in [] q = 0
left_out_in (c ∷ cs) q = left_out_by c q + left_out_in cs (after_call c q)

abbrev pub or_zero : Option ℕ → ℕ
or_zero None = 0
or_zero (Some n) = n

abbrev pub counted_by : Call → Quota → ℕ
counted_by (asks kind now) q = 0
counted_by (looks now) q = or_zero (more now q)

-- the sum of the counts of left-out lines that the calls take
abbrev pub counted_in : List Call → Quota → ℕ
counted_in [] q = 0
counted_in (c ∷ cs) q = counted_by c q + counted_in cs (after_call c q)

abbrev pub is_in_second : ℕ → ℕ → Bool
is_in_second begin time = nat_le begin time && nat_lt time (begin + second)

pub record QuotaHolds : Type 0 where
  -- no second has more than MOST_LINES lines of a kind
  pub rate : (calls : List Call) → AreInOrder 0 calls → (kind : LineKind) (begin : ℕ) → length (filter (is_in_second begin) (lines_at kind calls new_quota)) ≤ MOST_LINES
  -- each line that a call asks to write is either written or left out
  pub all : (calls : List Call) → length (lines_at Refusal calls new_quota) + length (lines_at Connection calls new_quota) + left_out_in calls new_quota ≡ length (filter is_asked calls)
  -- each left-out line is counted once: in a count that was taken, or in the count that the quota still has
  pub once : (calls : List Call) → length calls < 2 ^ 64 → counted_in calls new_quota + (after_calls calls new_quota).left_out ≡ left_out_in calls new_quota
