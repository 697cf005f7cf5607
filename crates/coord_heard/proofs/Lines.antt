-- A line of JSON is read as the value that it was written for, with the line feed after it.
use Rattle.std.proofs.Common.{◌≡◌, ◌≤◌, ◌<◌, ◌^◌, ℕ, Bool, true, false, List, [], ◌∷◌, ◌++◌, Some, option_and_then, option_map, decimal, if◌then◌else◌, refl, sym, ap, ap₂, ◌∙◌, arith, append_assoc, append-nil}
use Rattle.json.specs.Token as token
use Rattle.json.specs.Word.{ends_word}
use Rattle.json.specs.Lex.{Lexeme, comma, colon, string_token, lex, between, fresh, punctuate, tokens}
use Rattle.json.specs.Lex as lexeme
use Rattle.json.specs.Print.{escape, quoted}
use Rattle.json.specs.Tree.{json_tokens, depth, HasNumbers, ItemsHaveNumbers, MembersHaveNumbers}
use Rattle.json.specs.Json as json
use Rattle.json.proofs.Printed.Strings.{content-escape, lex-escape}
use Rattle.json.proofs.Printed.Numbers.{lex-number}
use Rattle.json.proofs.Printed.Decimals.{IsNumber-decimal}
use Rattle.json.proofs.Printed.Tokens.{tokens-print}
use Rattle.json.proofs.Printed.Trees.{ArePrintable-json_tokens, value-json_tokens}
use Rattle.serde_json.specs.Data.{Data, unsigned, negative, float, null, boolean, number, string, array, object, Items, no_items, item, Members, no_members, member}
use Rattle.serde_json.specs.Read.{of_json, of_items, max_depth, read}
use Rattle.serde_json.specs.Written.{comma_if, compact_text, items_text, members_text, outline, items_outline, members_outline}
use Rattle.serde_json.proofs.Texts.{print-outline}
use Rattle.serde_json.proofs.Numbers.{number_of-decimal}

-- values of strings and whole numbers of 64 bits alone
abbrev mutual
  pub IsPlain : Data → Type 0
  IsPlain null = ⊥
  IsPlain (boolean b) = ⊥
  IsPlain (number (unsigned n)) = n < 2 ^ 64
  IsPlain (number (negative z)) = ⊥
  IsPlain (number (float x)) = ⊥
  IsPlain (string s) = Unit {0}
  IsPlain (array ds) = ArePlain ds
  IsPlain (object ms) = HasPlain ms

  pub ArePlain : Items → Type 0
  ArePlain no_items = Unit {0}
  ArePlain (item d ds) = IsPlain d × ArePlain ds

  pub HasPlain : Members → Type 0
  HasPlain no_members = Unit {0}
  HasPlain (member k d ms) = IsPlain d × HasPlain ms

-- ---- its lexemes

abbrev commas : Bool → List Lexeme
commas later = if later then comma ∷ [] else []

abbrev mutual
  lexemes : Data → List Lexeme
  lexemes null = []
  lexemes (boolean b) = []
  lexemes (number (unsigned n)) = lexeme.token (token.number (decimal n)) ∷ []
  lexemes (number (negative z)) = []
  lexemes (number (float x)) = []
  lexemes (string s) = lexeme.token (token.string s) ∷ []
  lexemes (array ds) = lexeme.token token.begin_array ∷ of_each false ds
  lexemes (object ms) = lexeme.token token.begin_object ∷ of_members false ms

  of_each : Bool → Items → List Lexeme
  of_each later no_items = lexeme.token token.end_array ∷ []
  of_each later (item d ds) = commas later ++ (lexemes d ++ of_each true ds)

  of_members : Bool → Members → List Lexeme
  of_members later no_members = lexeme.token token.end_object ∷ []
  of_members later (member k d ms) = commas later ++ (lexeme.token (token.string k) ∷ colon ∷ (lexemes d ++ of_members true ms))

regrouped : {X : Type 0} (a b c r : List X) → (a ++ (b ++ c)) ++ r ≡ a ++ (b ++ (c ++ r))
regrouped a b c r = append_assoc a (b ++ c) r ∙ ap (λ l. a ++ l) (append_assoc b c r)

comma_lexed : (later : Bool) (r : List ℕ) → lex between (comma_if later ++ r) ≡ commas later ++ lex between r
unfolding lex
comma_lexed true r = refl
comma_lexed false r = refl

quoted_lexed : (s r : List ℕ) → lex between (quoted s ++ r) ≡ lexeme.token (token.string s) ∷ lex between r
unfolding lex
quoted_lexed s r =
    ap (λ l. lex between (34 ∷ l)) (append_assoc (escape s) (34 ∷ []) r)
    ∙ ap₂ (λ content rest. lexeme.token (string_token content) ∷ rest) (content-escape s r) (lex-escape s r)

-- the bytes after a value end it
each_ends : (ds : Items) (r : List ℕ) → ends_word (items_text true ds ++ r) ≡ true
each_ends no_items r = refl
each_ends (item d ds) r = refl

members_end : (ms : Members) (r : List ℕ) → ends_word (members_text true ms ++ r) ≡ true
members_end no_members r = refl
members_end (member k d ms) r = refl

named : (k : List ℕ) (v rest r : List ℕ) → (quoted k ++ 58 ∷ (v ++ rest)) ++ r ≡ quoted k ++ 58 ∷ (v ++ (rest ++ r))
named k v rest r = append_assoc (quoted k) (58 ∷ (v ++ rest)) r ∙ ap (λ l. quoted k ++ 58 ∷ l) (append_assoc v rest r)

mutual
  unfolding lex

  lexed : (d : Data) (r : List ℕ) → IsPlain d → ends_word r ≡ true → lex between (compact_text d ++ r) ≡ lexemes d ++ lex between r
  lexed null r is e = absurd is
  lexed (boolean b) r is e = absurd is
  lexed (number (unsigned n)) r is e = lex-number (decimal n) r (IsNumber-decimal n is) e
  lexed (number (negative z)) r is e = absurd is
  lexed (number (float x)) r is e = absurd is
  lexed (string s) r is e = quoted_lexed s r
  lexed (array ds) r is e = ap (λ l. lexeme.token token.begin_array ∷ l) (each_lexed false ds r is e)
  lexed (object ms) r is e = ap (λ l. lexeme.token token.begin_object ∷ l) (members_lexed false ms r is e)

  each_lexed : (later : Bool) (ds : Items) (r : List ℕ) → ArePlain ds → ends_word r ≡ true → lex between (items_text later ds ++ r) ≡ of_each later ds ++ lex between r
  each_lexed later no_items r is e = refl
  each_lexed later (item d ds) r is e =
      ap (lex between) (regrouped (comma_if later) (compact_text d) (items_text true ds) r)
      ∙ comma_lexed later (compact_text d ++ (items_text true ds ++ r))
      ∙ ap (λ l. commas later ++ l) (lexed d (items_text true ds ++ r) is.0 (each_ends ds r) ∙ ap (λ l. lexemes d ++ l) (each_lexed true ds r is.1 e))
      ∙ sym (regrouped (commas later) (lexemes d) (of_each true ds) (lex between r))

  members_lexed : (later : Bool) (ms : Members) (r : List ℕ) → HasPlain ms → ends_word r ≡ true → lex between (members_text later ms ++ r) ≡ of_members later ms ++ lex between r
  members_lexed later no_members r is e = refl
  members_lexed later (member k d ms) r is e =
      ap (lex between) (append_assoc (comma_if later) (quoted k ++ 58 ∷ (compact_text d ++ members_text true ms)) r ∙ ap (λ l. comma_if later ++ l) (named k (compact_text d) (members_text true ms) r))
      ∙ comma_lexed later (quoted k ++ 58 ∷ (compact_text d ++ (members_text true ms ++ r)))
      ∙ ap (λ l. commas later ++ l)
      (quoted_lexed k (58 ∷ (compact_text d ++ (members_text true ms ++ r)))
      ∙ ap (λ l. lexeme.token (token.string k) ∷ colon ∷ l)
      (lexed d (members_text true ms ++ r) is.0 (members_end ms r) ∙ ap (λ l. lexemes d ++ l) (members_lexed true ms r is.1 e) ∙ sym (append_assoc (lexemes d) (of_members true ms) (lex between r))))
      ∙ sym (append_assoc (commas later) (lexeme.token (token.string k) ∷ colon ∷ (lexemes d ++ of_members true ms)) (lex between r))

-- ---- its tokens

mutual
  numbers : (d : Data) → IsPlain d → HasNumbers (outline d)
  numbers null is = absurd is
  numbers (boolean b) is = absurd is
  numbers (number (unsigned n)) is = IsNumber-decimal n is
  numbers (number (negative z)) is = absurd is
  numbers (number (float x)) is = absurd is
  numbers (string s) is = tt
  numbers (array ds) is = each_number ds is
  numbers (object ms) is = member_numbers ms is

  each_number : (ds : Items) → ArePlain ds → ItemsHaveNumbers (items_outline ds)
  each_number no_items is = tt
  each_number (item d ds) is = (numbers d is.0, each_number ds is.1)

  member_numbers : (ms : Members) → HasPlain ms → MembersHaveNumbers (members_outline ms)
  member_numbers no_members is = tt
  member_numbers (member k d ms) is = (numbers d is.0, member_numbers ms is.1)

fed : (d : Data) → IsPlain d → lex between (compact_text d ++ 10 ∷ []) ≡ lex between (compact_text d)
unfolding lex
fed d is = lexed d (10 ∷ []) is refl ∙ sym (lexed d [] is refl) ∙ ap (lex between) (append-nil (compact_text d))

line_tokens : (d : Data) → IsPlain d → tokens (compact_text d ++ 10 ∷ []) ≡ json_tokens (outline d)
line_tokens d is = ap (punctuate fresh) (fed d is) ∙ ap tokens (sym (print-outline d)) ∙ tokens-print (json_tokens (outline d)) (ArePrintable-json_tokens (outline d) (numbers d is))

text_tokens : (d : Data) → IsPlain d → tokens (compact_text d) ≡ json_tokens (outline d)
text_tokens d is = ap tokens (sym (print-outline d)) ∙ tokens-print (json_tokens (outline d)) (ArePrintable-json_tokens (outline d) (numbers d is))

-- ---- its value

-- also if the members of an object are not sorted
pub text_read : (d : Data) → IsPlain d → depth (outline d) ≤ max_depth → read (compact_text d) ≡ of_json (outline d)
text_read d is shallow =
    ap (λ ts. option_and_then of_json (option_and_then (λ p. json.if_last p.0 p.1) (json.value max_depth ts))) (text_tokens d is ∙ sym (append-nil (json_tokens (outline d))))
    ∙ ap (λ o. option_and_then of_json (option_and_then (λ p. json.if_last p.0 p.1) o)) (value-json_tokens (outline d) max_depth [] shallow)

abbrev pub IsSame : Data → Type 0
IsSame d = of_json (outline d) ≡ Some d

pub line_read : (d : Data) → IsPlain d → depth (outline d) ≤ max_depth → IsSame d → read (compact_text d ++ 10 ∷ []) ≡ Some d
line_read d is shallow same =
    ap (λ ts. option_and_then of_json (option_and_then (λ p. json.if_last p.0 p.1) (json.value max_depth ts))) (line_tokens d is ∙ sym (append-nil (json_tokens (outline d))))
    ∙ ap (λ o. option_and_then of_json (option_and_then (λ p. json.if_last p.0 p.1) o)) (value-json_tokens (outline d) max_depth [] shallow)
    ∙ same

pub number_same : (n : ℕ) → n < 2 ^ 64 → IsSame (number (unsigned n))
number_same n is = ap (option_map number) (number_of-decimal n is)

abbrev pub AreSame : Items → Type 0
AreSame no_items = Unit {0}
AreSame (item d ds) = IsSame d × AreSame ds

each_same : (ds : Items) → AreSame ds → of_items (items_outline ds) ≡ Some ds
each_same no_items is = refl
each_same (item d ds) is = ap (option_and_then (λ e. option_map (item e) (of_items (items_outline ds)))) is.0 ∙ ap (option_map (item d)) (each_same ds is.1)

pub array_same : (ds : Items) → AreSame ds → IsSame (array ds)
array_same ds is = ap (option_map array) (each_same ds is)
