-- Numbers in texts.
use Rattle.std.proofs.Common.{◌≡◌, ℕ, Bool, true, false, List, None, Result, Ok, Err, refl, arith}
use Rattle.std.proofs.lemmas.Grind.{common_steps}
use Rattle.std.proofs.lemmas.Bool.Decides.{nat_tests}
use Rattle.std.proofs.lemmas.Str.Parse.{IsNumeralModel, numerals_by_value, tells_all_ascii_digits}
use Rattle.std.specs.Str.{all_ascii_digits}
use Rattle.std.specs.Str.Parse.{ParsesUnsigned, digits_value, without_leading_plus}
use Rattle.std.specs.Result.{result_ok}
use Rattle.resetd_proxy.specs.Arguments.{count_in, if_passes, is_count}

digits : IsNumeralModel (λ ds. all_ascii_digits ds ≡ true) (digits_value 10)
digits = numerals_by_value _ tells_all_ascii_digits

-- the library reads a number of decimal digits
pub count_read : {E : Type 0} (text : List ℕ) (r : Result ℕ E) → ParsesUnsigned 64 10 text r → result_ok r ≡ count_in text
count_read text (Ok n) is = let plain = digits.from (without_leading_plus text) is.0.0.1 in grind (arith, common_steps, nat_tests, plain, is.0.0.0, is.0.1, is.1)
count_read text (Err e) is = go (is_count (without_leading_plus text)) refl
  where
    go : (b : Bool) → is_count (without_leading_plus text) ≡ b → None ≡ if_passes b (digits_value 10 (without_leading_plus text))
    go false same = refl
    go true same = absurd (is (grind (arith, common_steps, nat_tests, same, digits.to (without_leading_plus text))))
