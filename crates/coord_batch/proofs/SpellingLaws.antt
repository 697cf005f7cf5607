-- The bytes after an encoding don't change the value, and a truncated encoding is Short.
use Rattle.std.proofs.Common.{◌≡◌, ℕ, ◌-◌, Bool, true, false, cond, eqb, List, ◌∷◌, ◌++◌, length, Err, refl, ap, ◌∙◌, length-append, arith}
use Rattle.std.proofs.lemmas.Bool.Decides.{nat_tests}
use Rattle.coord_batch.specs.declared.fault.FaultKind.TheVariants.{Short, Extra}
use Rattle.coord_batch.specs.Facade.{bad_version, batch, decoded, fault_at, is_version, or_fault, pair, step}
use Rattle.coord_batch.specs.Format.{Format, ◌>>=◌, ended, whole}
use Rattle.coord_batch.specs.Laws.{BatchesArePrefixFree, BytesAfterBatchesAreExtra, CutBatchesAreShort, StepsArePrefixFree}
use Rattle.coord_batch.proofs.Batched.{batch_fits, step_fits}
use Rattle.coord_batch.proofs.Grammars.{IsGrammar, prefix_free}
use Rattle.coord_batch.proofs.StepGrammars.{batch_grammar, step_grammar}

-- ---- the laws of any grammar

module _ {A : Type 0} (f : ℕ → Format A) (grammar : (v : ℕ) → IsGrammar (f v)) (version : ℕ) (known : is_version version ≡ true) where
  -- bytes of a known version are read as what that version says
  decodes : (bytes : List ℕ) → decoded f version bytes ≡ or_fault (length bytes) (whole (f version) bytes)
  decodes bytes = ap (λ (b : Bool). cond b (or_fault (length bytes) (whole (f version) bytes)) (Err bad_version)) known

  -- the front of a spelling is Short
  pub cut_short : (x : A) (front rest : List ℕ) (b : ℕ) → (f version).Fits x → (f version).text x ≡ front ++ b ∷ rest → decoded f version front ≡ Err (fault_at Short (length front))
  cut_short x front rest b fits is = decodes front ∙ ap (λ r. or_fault (length front) (r >>= ended)) ((grammar version).cut x front rest b fits is)

  -- bytes after an encoding are Extra
  pub more_extra : (x : A) (rest : List ℕ) (b : ℕ) → (f version).Fits x → decoded f version ((f version).text x ++ b ∷ rest) ≡ Err (fault_at Extra (length ((f version).text x)))
  more_extra x rest b fits =
      let bytes = (f version).text x ++ b ∷ rest in
      let some : eqb (length (b ∷ rest)) 0 ≡ false = grind (arith, nat_tests) in
      let following : length bytes - length (b ∷ rest) ≡ length ((f version).text x) = omega (arith, length-append ((f version).text x) (b ∷ rest)) in
      decodes bytes ∙ ap (λ r. or_fault (length bytes) (r >>= ended)) ((grammar version).again x (b ∷ rest) fits) ∙ rw (some, following) refl

-- ---- the laws of steps and batches

pub steps_prefix_free : StepsArePrefixFree
steps_prefix_free version s t rest more first second same = prefix_free (step version) (step_grammar version) s t rest more (step_fits version s first) (step_fits version t second) same

pub batches_prefix_free : BatchesArePrefixFree
batches_prefix_free version m n ss ts rest more first second same = prefix_free (batch version) (batch_grammar version) (pair m ss) (pair n ts) rest more (batch_fits version m ss first) (batch_fits version n ts second) same

pub cut_batches_short : CutBatchesAreShort
cut_batches_short version first steps front rest b known range is = cut_short batch batch_grammar version known (pair first steps) front rest b (batch_fits version first steps range) is

pub more_batches_extra : BytesAfterBatchesAreExtra
more_batches_extra version first steps rest b known range = more_extra batch batch_grammar version known (pair first steps) rest b (batch_fits version first steps range)
