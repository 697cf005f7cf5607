use Rattle.std.proofs.Common.{◌≡◌, ◌≢◌, ℕ, ◌<◌, ◌^◌, true, List, [], ◌∷◌, length, Result, Ok, Err, None, refl, sym, ◌∙◌, arith, get_or}
use Rattle.std.specs.Result.{result_ok}
use Rattle.std.proofs.lemmas.Str.Parse.{numerals_by_value, tells_all_ascii_digits, parse_plain}
use Rattle.std.proofs.lemmas.Str.Pattern.{starts_char}
use Rattle.std.proofs.lemmas.Bool.{false≢true}
use Rattle.std.proofs.lemmas.Grind.{common_steps}
use Rattle.std.specs.Str.{all_ascii_digits}
use Rattle.std.specs.Str.Parse.{digits_value}
use Rattle.std.specs.Result.{OkIff}
use Rattle.proxy_activation.specs.Passing.{number_of}
use Rattle.proxy_activation.proofs.environment.process_in.Goals as goal

-- what begins with a plus is no number
plus_refused : (word : List ℕ) → get_or word 0 0 ≡ 43 → number_of word ≡ None
unfolding number_of
plus_refused [] e = refl
plus_refused (c ∷ cs) e = let e' : c ≡ 43 = e in rw e' refl

-- what the library reads of a word that begins with no plus
number_read : {E : Type 0} (word : List ℕ) (r : Result ℕ E) → OkIff r ((all_ascii_digits word ≡ true) × (0 < length word) × (digits_value 10 word < 2 ^ 32)) (digits_value 10 word) → result_ok r ≡ number_of word
unfolding number_of
number_read word (Ok x) h = grind (arith, common_steps, h.0, h.1)
number_read word (Err e) h = grind (arith, common_steps, h)

pub returns-then-starts_with : goal.returns-then-starts_with
returns-then-starts_with c =
    let reports = starts_char 43 c.args.text.now c.starts_with.result c.starts_with.ensures.cases (omega arith) (omega arith) in
    sym (plus_refused c.args.text.now (reports.0 c.if-starts_with.true))

pub returns : goal.returns
returns c =
    let reports = starts_char 43 c.args.text.now c.starts_with.result c.starts_with.ensures.cases (omega arith) (omega arith) in
    let no_plus : get_or c.args.text.now 0 0 ≢ 43 = λ e. absurd (false≢true (sym c.if-starts_with.false ∙ reports.1 e)) in
    c.ok.ensures.value ∙ number_read c.args.text.now c.parse.result (parse_plain (numerals_by_value _ tells_all_ascii_digits) 32 c.args.text.now c.parse.result c.parse.ensures.value.0 no_plus)
