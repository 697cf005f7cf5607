-- The text of an event is read as its object.
use Rattle.std.proofs.Common.{◌≡◌, ◌≤◌, ◌<◌, ◌^◌, ℕ, ◌+◌, ◌/◌, ◌%◌, Bool, true, false, if◌then◌else◌, List, [], ◌∷◌, ◌++◌, length, get_or, drop, Option, Some, None, zero, suc, decimal, append-nil, refl, sym, ap, ◌∙◌, arith, length-append}
use Rattle.std.proofs.lemmas.Fmt.{decimal_digit, decimal_is_IsNumeral, decimal_nonempty, decimal_step, first_decimal}
use Rattle.std.specs.Str.{is_utf8}
use Rattle.std.specs.Str.Parse.{AllDigits}
use Rattle.json.specs.Json.{Json, document}
use Rattle.json.specs.Print.{IsNumber}
use Rattle.json.specs.Tree.{HasNumbers, MembersHaveNumbers}
use Rattle.json.proofs.Numbered.{document-HasNumbers}
use Rattle.json.proofs.Printed.Decimals.{IsNumber-decimal}
use Rattle.json.proofs.Printed.Floats.{IsNumber-plain}
use Rattle.json.proofs.Printed.Trees.{document-print}
use Rattle.proxy_audit.specs.declared.event.Event.{Event}
use Rattle.proxy_audit.specs.declared.event.Event.TheVariants.{Starts, Begins, Ends, Answered, Denied, Unanswered, More}
use Rattle.proxy_audit.specs.declared.event.ClientLine.{ClientLine}
use Rattle.proxy_audit.specs.declared.event.ClientLine.TheVariants.{Request, Other, TooLong}
use Rattle.proxy_audit.specs.Laws.{EventIsRead, FitsSeconds, IsInRange}
use Rattle.proxy_audit.specs.Lines.{entry, line_value, members_of, or_excerpt, value_or_excerpt}
use Rattle.proxy_audit.specs.Seconds.{seconds_text, six_digits}

-- ---- seconds

all_but_first : (ds : List ℕ) → AllDigits 10 ds → AllDigits 10 (drop 1 ds)
all_but_first [] all = tt
all_but_first (d ∷ ds) all = all.1

six_are_digits : (m : ℕ) → m < 1_000_000 → AllDigits 10 (six_digits m)
six_are_digits m few = all_but_first (decimal (1_000_000 + m)) (decimal_is_IsNumeral (1_000_000 + m) (omega arith)).0.1

length-drop_one : (ds : List ℕ) → 2 ≤ length ds → 0 < length (drop 1 ds)
length-drop_one [] long = absurd (omega arith)
length-drop_one (d ∷ ds) long = omega arith

six_are_some : (m : ℕ) → m < 1_000_000 → 0 < length (six_digits m)
six_are_some m few =
    let n : ℕ = 1_000_000 + m in
    let front : 0 < length (decimal (n / 10)) = decimal_nonempty (n / 10) (omega arith) in
    let long : length (decimal n) ≡ length (decimal (n / 10)) + 1 = ap length (decimal_step n (omega arith) (omega arith)) ∙ length-append (decimal (n / 10)) ((48 + n % 10) ∷ []) in
    length-drop_one (decimal n) (omega arith)

lone_zero : (n : ℕ) → n < 2 ^ 64 → get_or (decimal n) 0 0 ≡ 48 → length (decimal n) ≡ 1
lone_zero zero small is = ap length (decimal_digit 0 (omega arith))
lone_zero (suc n) small is = absurd (omega (arith, first_decimal (suc n) (omega arith) small))

pub seconds_are_a_number : (nanos : ℕ) → FitsSeconds nanos → IsNumber (seconds_text nanos)
unfolding seconds_text
seconds_are_a_number nanos fits =
    let whole : ℕ = nanos / 1_000_000_000 in
    let small : whole < 2 ^ 64 = omega arith in
    let micros : ℕ = nanos % 1_000_000_000 / 1_000 in
    let few : micros < 1_000_000 = omega arith in
    let digits = decimal_is_IsNumeral whole small in
    IsNumber-plain _ (
      false,
      record { whole = decimal whole; point = true; fraction = six_digits micros; exponent_negative = false; exponent = []; len = length (decimal whole ++ ((46 ∷ six_digits micros) ++ [])) },
      ap (λ l. decimal whole ++ l) (sym (append-nil (46 ∷ six_digits micros))),
      record {
        well_formed = record {
          whole_digits = digits.0.1;
          fraction_digits = six_are_digits micros few;
          exponent_digits = tt;
          no_point = λ e. absurd (cc);
          no_exponent = λ e. refl;
          len_is = refl;
        };
        whole = digits.0.0;
        no_leading_zero = lone_zero whole small;
        fraction = λ e. six_are_some micros few;
        marked = λ e. absurd (cc);
      },
    )

-- ---- values

found_numbers : (bytes : List ℕ) (o : Option Json) → ((j : Json) → o ≡ Some j → HasNumbers j) → HasNumbers (or_excerpt bytes o)
found_numbers bytes None numbers = tt
found_numbers bytes (Some j) numbers = numbers j refl

document_if : (bytes : List ℕ) (b : Bool) (j : Json) → (if b then document bytes else None) ≡ Some j → HasNumbers j
document_if bytes true j is = document-HasNumbers bytes j is
document_if bytes false j is = absurd (cc)

pub value_numbers : (bytes : List ℕ) → HasNumbers (value_or_excerpt bytes)
value_numbers bytes = found_numbers bytes (if is_utf8 bytes then document bytes else None) (document_if bytes (is_utf8 bytes))

pub line_numbers : (line : ClientLine) → HasNumbers (line_value line)
line_numbers (Request bytes) = value_numbers bytes.now
line_numbers (Other bytes) = tt
line_numbers TooLong = tt

pub numbers : (e : Event) → IsInRange e → MembersHaveNumbers (members_of e)
numbers Starts fits = (tt, tt)
numbers (Begins who) fits = (tt, (tt, tt))
numbers (Ends who lasted) fits = (tt, (tt, (seconds_are_a_number _ fits, tt)))
numbers (Answered who line answer waited) fits = (tt, (tt, (line_numbers line, (value_numbers answer.now, (seconds_are_a_number _ fits, tt)))))
numbers (Denied who line answer waited) fits = (tt, (tt, (line_numbers line, (value_numbers answer.now, (seconds_are_a_number _ fits, tt)))))
numbers (Unanswered who line waited) fits = (tt, (tt, (line_numbers line, (seconds_are_a_number _ fits, tt))))
numbers (More who count) fits = (tt, (tt, (IsNumber-decimal count fits, tt)))

pub event_is_read : EventIsRead
event_is_read time e fits shallow = document-print (entry time e) (tt, numbers e fits) shallow
