-- The laws of quotas.
use Rattle.std.proofs.Common.{◌≡◌, ◌≤◌, ◌<◌, ◌^◌, inl, inr, ℕ, suc, ◌+◌, ◌-◌, ◌&&◌, ◌||◌, Bool, true, false, cond, if◌then◌else◌, nat_lt, nat_le, List, [], ◌∷◌, ◌++◌, length, Some, None, refl, ap, subst, ◌∙◌, arith, append_assoc, length-append}
use Rattle.std.proofs.lemmas.Bool.{and_parts, cases_Bool, leb-true}
use Rattle.std.proofs.lemmas.Bool.Decides.{nat_tests}
use Rattle.std.proofs.lemmas.List.Elements.{filter-append}
use Rattle.std.specs.Prelude.{filter}
use Rattle.proxy_audit.specs.declared.quota.LineKind.{LineKind}
use Rattle.proxy_audit.specs.declared.quota.LineKind.TheVariants.{Refusal, Connection}
use Rattle.proxy_audit.specs.Quotas.{Quota, after_admission, after_more, has_room, is_due, new_quota, second, times_of, with_left_out, with_moment, with_times, without_left_out}
use Rattle.proxy_audit.specs.Laws.{AreInOrder, Call, QuotaHolds, after_calls, asks, counted_in, is_asked, is_in_second, is_kind, left_out_in, lines_at, looks, or_zero}

-- ---- counting

abbrev count : (ℕ → Bool) → List ℕ → ℕ
count p xs = length (filter p xs)

one_or_none : (b : Bool) (x : ℕ) (xs : List ℕ) → length (cond b (x ∷ xs) xs) ≡ cond b 1 0 + length xs
one_or_none true x xs = omega arith
one_or_none false x xs = omega arith

count_append : (p : ℕ → Bool) (xs ys : List ℕ) → count p (xs ++ ys) ≡ count p xs + count p ys
count_append p xs ys = ap length (filter-append p xs ys) ∙ length-append (filter p xs) (filter p ys)

few_or_none : (b : Bool) → cond b 1 0 ≤ 1
few_or_none true = omega arith
few_or_none false = omega arith

count_few : (p : ℕ → Bool) (xs : List ℕ) → count p xs ≤ length xs
count_few p [] = omega arith
count_few p (x ∷ xs) = omega (arith, count_few p xs, one_or_none (p x) x (filter p xs), few_or_none (p x))

count_no : (p : ℕ → Bool) (x : ℕ) (xs : List ℕ) → p x ≡ false → count p (x ∷ xs) ≡ count p xs
count_no p x xs fails = rw fails refl

outside : (begin now : ℕ) → begin + second ≤ now → is_in_second begin now ≡ false
outside begin now far = grind (arith, nat_tests)

-- ---- the times of lines

kept_few : (now : ℕ) (ts : List ℕ) → length ts ≤ 10 → length (with_moment now ts) ≤ 10
kept_few now [] few = omega arith
kept_few now (t ∷ ts) few = grind (arith, nat_tests, length-append)

-- one more line, if those that are kept and the later ones are few in each second
more_full : (begin now t : ℕ) (ts later : List ℕ) → length (t ∷ ts) ≤ 10 → second ≤ now - t → (begin + second ≤ now → count (is_in_second begin) later ≡ 0)
    → count (is_in_second begin) ((ts ++ now ∷ []) ++ later) ≤ 10 → count (is_in_second begin) ((t ∷ ts) ++ now ∷ later) ≤ 10
more_full begin now t ts later few old none is = elim (cases_Bool (is_in_second begin t)) [
  | inl holds ↦
      let low : begin ≤ t = leb-true begin t (and_parts _ _ holds).0 in
      let far : begin + second ≤ now = omega arith in
      let one : count (is_in_second begin) (now ∷ later) ≡ count (is_in_second begin) later = count_no (is_in_second begin) now later (outside begin now far) in
      omega (arith, none far, one, count_append (is_in_second begin) (t ∷ ts) (now ∷ later), count_few (is_in_second begin) (t ∷ ts))
  | inr fails ↦
      let same : (ts ++ now ∷ []) ++ later ≡ ts ++ now ∷ later = append_assoc ts (now ∷ []) later in
      let fewer : count (is_in_second begin) (ts ++ now ∷ later) ≤ 10 = rw same at is in
      omega (arith, fewer, count_no (is_in_second begin) t (ts ++ now ∷ later) fails)
]

more_case : (small old : Bool) (begin now t : ℕ) (ts later : List ℕ) → nat_le second (now - t) ≡ old → length (t ∷ ts) ≤ 10 → (small || old) ≡ true
    → (begin + second ≤ now → count (is_in_second begin) later ≡ 0)
    → count (is_in_second begin) ((if small then t ∷ (ts ++ now ∷ []) else (if old then ts ++ now ∷ [] else t ∷ ts)) ++ later) ≤ 10 → count (is_in_second begin) ((t ∷ ts) ++ now ∷ later) ≤ 10
more_case true old begin now t ts later is_old few room none is =
    let same : (ts ++ now ∷ []) ++ later ≡ ts ++ now ∷ later = append_assoc ts (now ∷ []) later in
    let P : List ℕ → Type 0 = λ l. count (is_in_second begin) (t ∷ l) ≤ 10 in
    subst P same is
more_case false true begin now t ts later is_old few room none is = more_full begin now t ts later few (leb-true second (now - t) is_old) none is
more_case false false begin now t ts later is_old few room none is = absurd (cc)

more_line : (begin now : ℕ) (ts later : List ℕ) → length ts ≤ 10 → has_room now ts ≡ true → (begin + second ≤ now → count (is_in_second begin) later ≡ 0)
    → count (is_in_second begin) (with_moment now ts ++ later) ≤ 10 → count (is_in_second begin) (ts ++ now ∷ later) ≤ 10
more_line begin now [] later few room none is = is
more_line begin now (t ∷ ts) later few room none is = more_case (nat_lt (length (t ∷ ts)) 10) (nat_le second (now - t)) begin now t ts later refl few room none is

-- ---- the rate

none_if : (b : Bool) (begin now : ℕ) (later : List ℕ) → begin + second ≤ now → count (is_in_second begin) later ≡ 0 → count (is_in_second begin) ((if b then now ∷ [] else []) ++ later) ≡ 0
none_if true begin now later far none = count_no (is_in_second begin) now later (outside begin now far) ∙ none
none_if false begin now later far none = none

later_none : (kind : LineKind) (begin from : ℕ) (cs : List Call) (q : Quota) → AreInOrder from cs → begin + second ≤ from → count (is_in_second begin) (lines_at kind cs q) ≡ 0
later_none kind begin from [] q order far = refl
later_none kind begin from (asks other now ∷ cs) q order far =
    let so_far : begin + second ≤ now = omega (arith, order.0) in
    none_if (is_kind kind other && has_room now (times_of other q)) begin now (lines_at kind cs (after_admission other now q)) so_far
    (later_none kind begin now cs (after_admission other now q) order.1 so_far)
later_none kind begin from (looks now ∷ cs) q order far = later_none kind begin now cs (after_more now q) order.1 (omega (arith, order.0))

abbrev IsFew : LineKind → ℕ → List Call → Quota → Type 0
IsFew kind begin cs q = count (is_in_second begin) (times_of kind q ++ lines_at kind cs q) ≤ 10

-- lines stay few after a call for which there was room, or was not
asked_few : (room : Bool) (kind other : LineKind) (begin now : ℕ) (cs : List Call) (q : Quota) → has_room now (times_of other q) ≡ room → length (times_of kind q) ≤ 10
    → AreInOrder now cs → ((r : Quota) → length (times_of kind r) ≤ 10 → IsFew kind begin cs r)
    → count (is_in_second begin) (times_of kind q
    ++ ((if is_kind kind other && room then now ∷ [] else []) ++ lines_at kind cs (if room then with_times other (with_moment now (times_of other q)) q else with_left_out now q))) ≤ 10
asked_few true Refusal Refusal begin now cs q room few order holds =
    let r : Quota = with_times Refusal (with_moment now q.refusals) q in
    more_line begin now q.refusals (lines_at Refusal cs r) few room (later_none Refusal begin now cs r order) (holds r (kept_few now q.refusals few))
asked_few true Refusal Connection begin now cs q room few order holds = holds (with_times Connection (with_moment now q.connections) q) few
asked_few true Connection Refusal begin now cs q room few order holds = holds (with_times Refusal (with_moment now q.refusals) q) few
asked_few true Connection Connection begin now cs q room few order holds =
    let r : Quota = with_times Connection (with_moment now q.connections) q in
    more_line begin now q.connections (lines_at Connection cs r) few room (later_none Connection begin now cs r order) (holds r (kept_few now q.connections few))
asked_few false Refusal Refusal begin now cs q room few order holds = holds (with_left_out now q) few
asked_few false Refusal Connection begin now cs q room few order holds = holds (with_left_out now q) few
asked_few false Connection Refusal begin now cs q room few order holds = holds (with_left_out now q) few
asked_few false Connection Connection begin now cs q room few order holds = holds (with_left_out now q) few

looked_few : (due : Bool) (kind : LineKind) (begin : ℕ) (cs : List Call) (q : Quota) → length (times_of kind q) ≤ 10 → ((r : Quota) → length (times_of kind r) ≤ 10 → IsFew kind begin cs r)
    → count (is_in_second begin) (times_of kind q ++ lines_at kind cs (if due then without_left_out q else q)) ≤ 10
looked_few true Refusal begin cs q few holds = holds (without_left_out q) few
looked_few true Connection begin cs q few holds = holds (without_left_out q) few
looked_few false kind begin cs q few holds = holds q few

few_from : (kind : LineKind) (begin from : ℕ) (cs : List Call) (q : Quota) → AreInOrder from cs → length (times_of kind q) ≤ 10 → IsFew kind begin cs q
few_from kind begin from [] q order few = omega (arith, count_append (is_in_second begin) (times_of kind q) [], count_few (is_in_second begin) (times_of kind q))
few_from kind begin from (asks other now ∷ cs) q order few =
    asked_few (has_room now (times_of other q)) kind other begin now cs q refl few order.1 (λ r small. few_from kind begin now cs r order.1 small)
few_from kind begin from (looks now ∷ cs) q order few = looked_few (is_due now q) kind begin cs q few (λ r small. few_from kind begin now cs r order.1 small)

rate : (cs : List Call) → AreInOrder 0 cs → (kind : LineKind) (begin : ℕ) → count (is_in_second begin) (lines_at kind cs new_quota) ≤ 10
rate cs order Refusal begin = few_from Refusal begin 0 cs new_quota order (omega arith)
rate cs order Connection begin = few_from Connection begin 0 cs new_quota order (omega arith)

-- ---- the counts

abbrev AllAreCounted : List Call → Quota → Type 0
AllAreCounted cs q = length (lines_at Refusal cs q) + length (lines_at Connection cs q) + left_out_in cs q ≡ length (filter is_asked cs)

asked_all : (room : Bool) (kind : LineKind) (now : ℕ) (cs : List Call) (q : Quota) → ((r : Quota) → AllAreCounted cs r)
    → (let r = if room then with_times kind (with_moment now (times_of kind q)) q else with_left_out now q in
    length ((if is_kind Refusal kind && room then now ∷ [] else []) ++ lines_at Refusal cs r) + length ((if is_kind Connection kind && room then now ∷ [] else []) ++ lines_at Connection cs r)
    + ((if room then 0 else 1) + left_out_in cs r) ≡ length (filter is_asked (asks kind now ∷ cs)))
asked_all true Refusal now cs q all = omega (arith, all (with_times Refusal (with_moment now q.refusals) q))
asked_all true Connection now cs q all = omega (arith, all (with_times Connection (with_moment now q.connections) q))
asked_all false Refusal now cs q all = omega (arith, all (with_left_out now q))
asked_all false Connection now cs q all = omega (arith, all (with_left_out now q))

all_from : (cs : List Call) (q : Quota) → AllAreCounted cs q
all_from [] q = omega arith
all_from (asks kind now ∷ cs) q = asked_all (has_room now (times_of kind q)) kind now cs q (all_from cs)
all_from (looks now ∷ cs) q = omega (arith, all_from cs (after_more now q))

abbrev IsCountedOnce : List Call → Quota → Type 0
IsCountedOnce cs q = counted_in cs q + (after_calls cs q).left_out ≡ q.left_out + left_out_in cs q

asked_once : (room : Bool) (kind : LineKind) (now : ℕ) (cs : List Call) (q : Quota) → q.left_out + suc (length cs) < 2 ^ 64 → ((r : Quota) → r.left_out + length cs < 2 ^ 64 → IsCountedOnce cs r)
    → (let r = if room then with_times kind (with_moment now (times_of kind q)) q else with_left_out now q in
    0 + counted_in cs r + (after_calls cs r).left_out ≡ q.left_out + ((if room then 0 else 1) + left_out_in cs r))
asked_once true Refusal now cs q few once = omega (arith, once (with_times Refusal (with_moment now q.refusals) q) (omega arith))
asked_once true Connection now cs q few once = omega (arith, once (with_times Connection (with_moment now q.connections) q) (omega arith))
asked_once false kind now cs q few once = omega (arith, once (with_left_out now q) (omega arith))

looked_once : (due : Bool) (cs : List Call) (q : Quota) → q.left_out + suc (length cs) < 2 ^ 64 → ((r : Quota) → r.left_out + length cs < 2 ^ 64 → IsCountedOnce cs r)
    → (let r = if due then without_left_out q else q in
    or_zero (if due then Some q.left_out else None) + counted_in cs r + (after_calls cs r).left_out ≡ q.left_out + (0 + left_out_in cs r))
looked_once true cs q few once = omega (arith, once (without_left_out q) (omega arith))
looked_once false cs q few once = omega (arith, once q (omega arith))

once_from : (cs : List Call) (q : Quota) → q.left_out + length cs < 2 ^ 64 → IsCountedOnce cs q
once_from [] q few = omega arith
once_from (asks kind now ∷ cs) q few = asked_once (has_room now (times_of kind q)) kind now cs q few (once_from cs)
once_from (looks now ∷ cs) q few = looked_once (is_due now q) cs q few (once_from cs)

once : (cs : List Call) → length cs < 2 ^ 64 → counted_in cs new_quota + (after_calls cs new_quota).left_out ≡ left_out_in cs new_quota
once cs few = omega (arith, once_from cs new_quota (omega arith))

pub quota_holds : QuotaHolds
quota_holds = record { rate = rate; all = λ cs. all_from cs new_quota; once = once }
