-- The value read from all of the bytes is the one that they encode.
use Rattle.std.proofs.Common.{◌≡◌, ◌↔◌, ℕ, Bool, true, false, cond, List, length, Result, Ok, Err, ap, subst, ◌∙◌, IfOk, arith}
use Rattle.coord_batch.specs.declared.fault.CodecFault.{CodecFault}
use Rattle.coord_batch.specs.declared.fault.Flaw.{Flaw}
use Rattle.coord_batch.specs.Facade.{AnswersDecoded, Format, bad_version, decoded, is_version, or_fault, whole}
use Rattle.coord_batch.proofs.Grammars.{IsBytes, IsGrammar, whole_found, whole_again}

-- the value that is read, in the one version that there is
read_in : {A : Type 0} (known : Bool) (n : ℕ) (read : Result A Flaw) (other : CodecFault) (x : A) → cond known (or_fault n read) (Err other) ≡ Ok x → (known ≡ true) × (read ≡ Ok x)
read_in known n read other x h1 = grind arith

-- in the version that there is, no fault is of the version
no_version : {A : Type 0} (n : ℕ) (read : Result A Flaw) → or_fault n read ≡ Err bad_version → ⊥
no_version n read h1 = grind arith

module _ {A : Type 0} (f : ℕ → Format A) (grammar : (v : ℕ) → IsGrammar (f v)) (version : ℕ) where
  decoded_found : (bytes : List ℕ) (x : A) → IsBytes bytes → decoded f version bytes ≡ Ok x → (is_version version ≡ true) × (f version).Fits x × (bytes ≡ (f version).text x)
  decoded_found bytes x fits e =
      let r = read_in (is_version version) (length bytes) (whole (f version) bytes) _ x e in
      let found = whole_found (f version) (grammar version) bytes x fits r.1 in
      (r.0, found.1, found.0)

  decoded_again : (x : A) → is_version version ≡ true → (f version).Fits x → decoded f version ((f version).text x) ≡ Ok x
  decoded_again x known fits =
      ap (λ (b : Bool). cond b (or_fault (length ((f version).text x)) (whole (f version) ((f version).text x))) (Err bad_version)) known ∙ ap (or_fault (length ((f version).text x))) (whole_again (f version) (grammar version) x fits)

  module _ {X : Type 0} (view : X → A) (bytes : List ℕ) where
    -- the bytes encode the value that was read
    pub answers_found : (result : Result X CodecFault) → IsBytes bytes → AnswersDecoded view result (decoded f version bytes) → IfOk result (λ v. (is_version version ≡ true) × (f version).Fits (view v) × (bytes ≡ (f version).text (view v)))
    answers_found (Ok v) fits answers = decoded_found bytes (view v) fits answers
    answers_found (Err e) fits answers = tt

    -- an encoding is read, unless memory runs out
    pub answers_only : (result : Result X CodecFault) (x : A) → is_version version ≡ true → (f version).Fits x → bytes ≡ (f version).text x → AnswersDecoded view result (decoded f version bytes) → AnswersDecoded view result (Ok x)
    answers_only result x known fits spelled answers = subst (AnswersDecoded view result) (ap (decoded f version) spelled ∙ decoded_again x known fits) answers

    -- BadVersion is returned exactly if the version is unknown
    pub version_distinguished : (result : Result X CodecFault) → (is_version version ≡ false → result ≡ Err bad_version) → AnswersDecoded view result (decoded f version bytes) → (result ≡ Err bad_version) ↔ (is_version version ≡ false)
    version_distinguished result other answers = grind (arith, no_version)
