use Rattle.std.proofs.Common.{◌≡◌, ◌+◌, ◌/◌, ◌%◌, ℕ, List, ◌∷◌, ◌++◌, length, drop, decimal, IfOk, string_bytes, rules, sym, ap, ap₂, subst, ◌∙◌, arith}
use Rattle.std.proofs.lemmas.Fmt.{decimal_nonempty}
use Rattle.std.proofs.lemmas.Result.{IfOk-weaker}
use Rattle.std.proofs.lemmas.Str.{IsCharBoundary-from_ascii}
use Rattle.std.specs.Duration.{as_nanos}
use Rattle.json.specs.Print.{IsNumber}
use Rattle.proxy_audit.specs.Seconds.{seconds_text, six_digits}
use Rattle.proxy_audit.proofs.Reading.{seconds_are_a_number}
use Rattle.proxy_audit.proofs.seconds.seconds_text.Goals as goal

pub range_from-places-requires : goal.range_from-places-requires
range_from-places-requires c =
    let text : c.format-digits.result.now ≡ decimal (1_000_000 + c.subsec_micros.result) = c.format-digits.ensures.text in
    let some : length c.format-digits.result.now ≡ length (decimal (1_000_000 + c.subsec_micros.result)) = ap length text in
    λ _. IsCharBoundary-from_ascii c.format-digits.result.now 1 c.format-digits.ensures.ascii (omega (arith, decimal_nonempty (1_000_000 + c.subsec_micros.result) (omega arith)))

pub returns-clause-text : goal.returns-clause-text
unfolding seconds_text
returns-clause-text c =
    let text : c.format-digits.result.now ≡ decimal (1_000_000 + c.subsec_micros.result) = c.format-digits.ensures.text in
    let places : c.range_from-places.result.now ≡ six_digits (as_nanos c.args.duration % 1_000_000_000 / 1_000) =
    c.range_from-places.ensures.value ∙ ap (drop 1) text ∙ ap (λ n. drop 1 (decimal (1_000_000 + n))) c.subsec_micros.ensures in
    let whole : c.as_secs-whole.result ≡ as_nanos c.args.duration / 1_000_000_000 = c.as_secs-whole.ensures in
    let made : IfOk c.format.result (λ t. string_bytes t ≡ decimal c.as_secs-whole.result ++ 46 ∷ c.range_from-places.result.now) = search rules in
    IfOk-weaker c.format.result _ _ (λ t e. e ∙ ap₂ (λ (a : ℕ) (b : List ℕ). decimal a ++ 46 ∷ b) whole places) made

pub returns-clause-number : goal.returns-clause-number
returns-clause-number c =
    let P : List ℕ → Type 0 = IsNumber in
    IfOk-weaker c.format.result _ _ (λ t e. subst P (sym e) (seconds_are_a_number (as_nanos c.args.duration) (omega arith))) (returns-clause-text c)
