-- The scan of a header finds exactly the client that the header names.
use Rattle.std.proofs.Common.{◌≡◌, ◌≢◌, Bor, inl, inr, subst, ℕ, suc, ◌+◌, ◌-◌, ◌/◌, ◌%◌, ◌==◌, ◌&&◌, ◌||◌, not, ◌≤◌, nat_eq, nat_lt, if◌then◌else◌, List, [], ◌∷◌, ◌++◌, length, take, drop, Option, Some, None, option_and_then, Bool, true, false, refl, sym, ap, ◌∙◌, arith, length-append}
use Rattle.std.proofs.lemmas.Bool.{eqb-true}
use Rattle.std.proofs.lemmas.Bool.Decides.{Decides-eqb, eqb_tells, nat_tests}
use Rattle.std.proofs.lemmas.List.{length-take-le, take-append-drop}
use Rattle.std.proofs.lemmas.Slice.Eq.{bytes_eq-Decides, starts_is}
use Rattle.std.proofs.Math.Seq.{drop-append_seam}
use Rattle.std.specs.List.{starts_with}
use Rattle.std.specs.Option.{option_copied}
use Rattle.std.specs.Prelude.{IfNone}
use Rattle.std.specs.Str.{bytes_eq}
use Rattle.proxy_header.specs.Fields.{HasOne, length_in}
use Rattle.proxy_header.specs.Names.{is_common_name}
use Rattle.proxy_header.specs.Headers.{IsVerified, NamesClient, address_length, common_name_kind, proxy_command, signature, ssl_kind}
use Rattle.proxy_header.specs.Scanning.{if_common, is_verified, name_after, name_after_signature, name_in, only_value, ssl_name}
use Rattle.proxy_header.proofs.Scans.{one_is_only, only_is_one}

-- ---- tests and options

both : (a b : Bool) → (a && b) ≡ true → (a ≡ true) × (b ≡ true)
both true b is = (refl, is)
both false b is = absurd (cc)

is_not : (b : Bool) → not b ≡ true → b ≡ false
is_not true is = absurd (cc)
is_not false is = refl

passed : (b : Bool) (x : Option (List ℕ)) (name : List ℕ) → (if b then None else x) ≡ Some name → (b ≡ false) × (x ≡ Some name)
passed true x name is = absurd (cc)
passed false x name is = (refl, is)

chosen : (b : Bool) (x : Option (List ℕ)) (name : List ℕ) → (if b then x else None) ≡ Some name → (b ≡ true) × (x ≡ Some name)
chosen true x name is = (refl, is)
chosen false x name is = absurd (cc)

neither : (a b : Bool) → (a || b) ≡ false → (a ≡ false) × (b ≡ false)
neither true b is = absurd (cc)
neither false b is = (refl, is)

then_some : {A : Type 0} (o : Option A) (f : A → Option (List ℕ)) (name : List ℕ) → option_and_then f o ≡ Some name → (x : A) × (o ≡ Some x) × (f x ≡ Some name)
then_some None f name is = absurd (cc)
then_some (Some x) f name is = (x, refl, is)

not_zero : (n : ℕ) → (n == 0) ≡ false → n ≢ 0
not_zero n is = elim (eqb_tells n 0) [ inl h ↦ absurd (cc) | inr h ↦ h.1 ]

zero_not : (n : ℕ) → n ≢ 0 → (n == 0) ≡ false
zero_not n is = elim (eqb_tells n 0) [ inl h ↦ absurd (is h.1) | inr h ↦ h.0 ]

eqb-same : (a b : ℕ) → a ≡ b → (a == b) ≡ true
eqb-same a b is = elim (eqb_tells a b) [ inl h ↦ h.0 | inr h ↦ absurd (h.1 is) ]

-- ---- the SSL field

common_is : (name found : List ℕ) → if_common found ≡ Some name → (found ≡ name) × (is_common_name name ≡ true)
common_is name found is =
    let parts = chosen (is_common_name found) (Some found) name is in
    let same : found ≡ name = cc (parts.1) in
    (same, ap is_common_name (sym same) ∙ parts.0)

ssl_sound_long : (b0 b1 b2 b3 b4 : ℕ) (rest name : List ℕ) → ssl_name (b0 ∷ b1 ∷ b2 ∷ b3 ∷ b4 ∷ rest) ≡ Some name → IsVerified (b0 ∷ b1 ∷ b2 ∷ b3 ∷ b4 ∷ rest) name
ssl_sound_long b0 b1 b2 b3 b4 rest name is =
    let value = b0 ∷ b1 ∷ b2 ∷ b3 ∷ b4 ∷ rest in
    let verify = b1 ∷ b2 ∷ b3 ∷ b4 ∷ [] in
    let parts = passed (nat_lt (length value) 5 || not (is_verified b0 verify)) (option_and_then if_common (only_value common_name_kind rest None)) name is in
    let tests = neither (nat_lt (length value) 5) (not (is_verified b0 verify)) parts.0 in
    let verified : is_verified b0 verify ≡ true = elim (is_verified b0 verify) as (λ b. not b ≡ false → b ≡ true) [ true ↦ λ _. refl | false ↦ λ e. cc ] tests.1 in
    let all = both (b0 % 2 == 1 && not (b0 / 2 % 4 == 0)) (bytes_eq verify (0 ∷ 0 ∷ 0 ∷ 0 ∷ [])) verified in
    let bits = both (b0 % 2 == 1) (not (b0 / 2 % 4 == 0)) all.0 in
    let zeros : verify ≡ 0 ∷ 0 ∷ 0 ∷ 0 ∷ [] = (bytes_eq-Decides verify (0 ∷ 0 ∷ 0 ∷ 0 ∷ [])).0 all.1 in
    let found = then_some (only_value common_name_kind rest None) if_common name parts.1 in
    let common = common_is name found.0 found.2 in
    record {
      client = b0;
      fields = rest;
      value_is = cc;
      uses_tls = eqb-true (b0 % 2) 1 bits.0;
      has_certificate = not_zero (b0 / 2 % 4) (is_not (b0 / 2 % 4 == 0) bits.1);
      one_name = only_is_one common_name_kind rest name (found.1 ∙ ap Some common.0);
      name_is_common = common.1;
    }

ssl_sound : (value name : List ℕ) → ssl_name value ≡ Some name → IsVerified value name
ssl_sound [] name is = absurd (cc)
ssl_sound (a ∷ []) name is = absurd (cc)
ssl_sound (a ∷ b ∷ []) name is = absurd (cc)
ssl_sound (a ∷ b ∷ c ∷ []) name is = absurd (cc)
ssl_sound (a ∷ b ∷ c ∷ d ∷ []) name is = absurd (cc)
ssl_sound (b0 ∷ b1 ∷ b2 ∷ b3 ∷ b4 ∷ rest) name is = ssl_sound_long b0 b1 b2 b3 b4 rest name is

long_enough : (rest : List ℕ) → nat_lt (suc (suc (suc (suc (suc (length rest)))))) 5 ≡ false
long_enough rest = grind (arith, nat_tests)

ssl_complete : (value name : List ℕ) → IsVerified value name → ssl_name value ≡ Some name
ssl_complete value name v =
    let P : List ℕ → Type 0 = λ bs. ssl_name bs ≡ Some name in
    let tls : (v.client % 2 == 1) ≡ true = eqb-same (v.client % 2) 1 v.uses_tls in
    let certificate : (v.client / 2 % 4 == 0) ≡ false = zero_not (v.client / 2 % 4) v.has_certificate in
    let one : only_value common_name_kind v.fields None ≡ Some name = one_is_only common_name_kind v.fields name v.one_name in
    subst P (sym v.value_is) (rw (long_enough v.fields, tls, certificate, one, v.name_is_common) refl)

-- ---- the header

sound_after : (rest name : List ℕ) (addresses : ℕ) → name_after rest addresses ≡ Some name
    → (addresses ≤ length rest) × (ssl : List ℕ) × HasOne ssl_kind ssl (drop addresses rest) × IsVerified ssl name
sound_after rest name addresses is =
    let parts = passed (nat_lt (length rest) addresses) (option_and_then ssl_name (only_value ssl_kind (drop addresses rest) None)) name is in
    let found = then_some (only_value ssl_kind (drop addresses rest) None) ssl_name name parts.1 in
    (grind (arith, nat_tests, parts.0), found.0, only_is_one ssl_kind (drop addresses rest) found.0 found.1, ssl_sound found.0 name found.2)

sound_long : (header : List ℕ) (command family high low : ℕ) (rest name : List ℕ) → header ≡ signature ++ (command ∷ family ∷ high ∷ low ∷ rest)
    → name_after_signature (command ∷ family ∷ high ∷ low ∷ rest) ≡ Some name → NamesClient header name
sound_long header command family high low rest name whole is =
    let bytes = command ∷ family ∷ high ∷ low ∷ rest in
    let parts = passed (nat_lt (length bytes) 4) (if command == proxy_command && length_in high low == length rest then option_and_then (name_after rest) (address_length family) else None) name is in
    let right = chosen (command == proxy_command && length_in high low == length rest) (option_and_then (name_after rest) (address_length family)) name parts.1 in
    let tests = both (command == proxy_command) (length_in high low == length rest) right.0 in
    let found = then_some (address_length family) (name_after rest) name right.1 in
    let client = sound_after rest name found.0 found.2 in
    let proxy : command ≡ proxy_command = eqb-true command proxy_command tests.0 in
    let size : length_in high low ≡ length rest = eqb-true (length_in high low) (length rest) tests.1 in
    let split : take found.0 rest ++ drop found.0 rest ≡ rest = take-append-drop found.0 rest in
    let fits : found.0 ≤ length rest = client.0 in
    record {
      family = family;
      addresses = take found.0 rest;
      fields = drop found.0 rest;
      ssl = client.1;
      header_is = record {
        high = high;
        low = low;
        bytes_are = whole ∙ ap (λ c. signature ++ (c ∷ family ∷ high ∷ low ∷ rest)) proxy ∙ ap (λ r. signature ++ (proxy_command ∷ family ∷ high ∷ low ∷ r)) (sym split);
        length_is = ap length split ∙ sym size;
      };
      addresses_are = found.1 ∙ ap Some (sym (length-take-le found.0 rest fits));
      one_ssl = client.2;
      verified = client.3;
    }

sound_after_signature : (header bytes name : List ℕ) → header ≡ signature ++ bytes → name_after_signature bytes ≡ Some name → NamesClient header name
sound_after_signature header [] name whole is = absurd (cc)
sound_after_signature header (a ∷ []) name whole is = absurd (cc)
sound_after_signature header (a ∷ b ∷ []) name whole is = absurd (cc)
sound_after_signature header (a ∷ b ∷ c ∷ []) name whole is = absurd (cc)
sound_after_signature header (command ∷ family ∷ high ∷ low ∷ rest) name whole is = sound_long header command family high low rest name whole is

pub found_is_named : (header name : List ℕ) → name_in header ≡ Some name → NamesClient header name
found_is_named header name is =
    let parts = chosen (starts_with nat_eq header signature) (name_after_signature (drop 12 header)) name is in
    let whole : header ≡ signature ++ drop 12 header = (starts_is Decides-eqb header signature (starts_with nat_eq header signature) refl).0 parts.0 in
    sound_after_signature header (drop 12 header) name whole parts.1

complete_after : (addresses fields name ssl : List ℕ) → HasOne ssl_kind ssl fields → IsVerified ssl name → name_after (addresses ++ fields) (length addresses) ≡ Some name
complete_after addresses fields name ssl one verified =
    let sum : length (addresses ++ fields) ≡ length addresses + length fields = length-append addresses fields in
    let long : nat_lt (length (addresses ++ fields)) (length addresses) ≡ false = grind (arith, nat_tests) in
    let only : only_value ssl_kind fields None ≡ Some ssl = one_is_only ssl_kind fields ssl one in
    let rest : drop (length addresses) (addresses ++ fields) ≡ fields = drop-append_seam addresses fields in
    rw (long, rest, only) (ssl_complete ssl name verified)

long_four : (rest : List ℕ) → nat_lt (suc (suc (suc (suc (length rest))))) 4 ≡ false
long_four rest = grind (arith, nat_tests)

pub named_is_found : (header name : List ℕ) → NamesClient header name → name_in header ≡ Some name
named_is_found header name c =
    let rest = c.addresses ++ c.fields in
    let after = proxy_command ∷ c.family ∷ c.header_is.high ∷ c.header_is.low ∷ rest in
    let P : List ℕ → Type 0 = λ bs. name_in bs ≡ Some name in
    let size : (length_in c.header_is.high c.header_is.low == length rest) ≡ true = eqb-same _ _ (sym c.header_is.length_is) in
    let name_is : name_after rest (length c.addresses) ≡ Some name = complete_after c.addresses c.fields name c.ssl c.one_ssl c.verified in
    subst P (sym c.header_is.bytes_are)
    (rw (long_four rest, size, c.addresses_are) name_is)

-- a header in which no name is found names no client
pub none_is_named : (header : List ℕ) (found : Option (Bor (List ℕ))) → option_copied found ≡ name_in header → IfNone found ((name : List ℕ) → NamesClient header name → ⊥)
none_is_named header None is = λ name client. let other : None ≡ Some name = is ∙ named_is_found header name client in cc
none_is_named header (Some x) is = tt
