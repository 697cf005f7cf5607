-- Worked examples: encodings and faults, computed through the definitions.
use Rattle.std.specs.Prelude.{◌≡◌, ℕ, List, [], ◌∷◌, Ok, Err}
use Rattle.coord_types.specs.declared.messages.Msg.TheVariants as msg
use Rattle.coord_types.specs.declared.steps.Command.TheVariants.{Add}
use Rattle.coord_types.specs.declared.steps.Step.{Step}
use Rattle.coord_types.specs.declared.steps.Step.TheVariants.{Order, Take}
use Rattle.coord_batch.specs.declared.fault.FaultKind.TheVariants.{Short, BadByte, Extra, BadVersion}
use Rattle.coord_batch.specs.Batches.{pair}
use Rattle.coord_batch.specs.Decoding.{decoded, fault_at}
use Rattle.coord_batch.specs.Steps.{batch, step}

-- client 1's first order, which adds node 1 to group 1
abbrev first_order : Step
first_order = Order 1 1 (Add 1 1)

-- the 23 bytes that encode a batch with one order, followed by `rest`; the values at the offsets 7, 9, 11 and
-- 19 are parameters
abbrev first_bytes : ℕ → ℕ → ℕ → ℕ → List ℕ → List ℕ
first_bytes first count client number rest =
    0 ∷ 0 ∷ 0 ∷ 0 ∷ 0 ∷ 0 ∷ 0 ∷ first ∷ 0 ∷ count ∷ 0 ∷ client ∷ 0 ∷ 0 ∷ 0 ∷ 0 ∷ 0 ∷ 0 ∷ 0 ∷ number ∷ 0 ∷ 1 ∷ 1 ∷ rest

pub record WorkedBytes : Type 0 where
  pub spelled : (batch 1).text (pair 1 (first_order ∷ [])) ≡ first_bytes 1 1 1 1 []
  pub packet : (step 1).text (Take (record { from = 1; to = 2; inc = 3; number = 1; msg = msg.Abort 0 })) ≡ 1 ∷ 1 ∷ 2 ∷ 0 ∷ 0 ∷ 0 ∷ 0 ∷ 0 ∷ 0 ∷ 0 ∷ 3 ∷ 0 ∷ 0 ∷ 0 ∷ 0 ∷ 0 ∷ 0 ∷ 0 ∷ 1 ∷ 0 ∷ []
  pub distant : (step 2).text (Take (record { from = 1; to = 2; inc = 3; number = 1; msg = msg.Abort 258 })) ≡ 1 ∷ 1 ∷ 2 ∷ 0 ∷ 0 ∷ 0 ∷ 0 ∷ 0 ∷ 0 ∷ 0 ∷ 3 ∷ 0 ∷ 0 ∷ 0 ∷ 0 ∷ 0 ∷ 0 ∷ 0 ∷ 1 ∷ 0 ∷ 0 ∷ 0 ∷ 0 ∷ 0 ∷ 0 ∷ 0 ∷ 1 ∷ 2 ∷ []
  pub same_in_both : (batch 2).text (pair 1 (first_order ∷ [])) ≡ first_bytes 1 1 1 1 []
  pub read : decoded batch 1 (first_bytes 1 1 1 1 []) ≡ Ok (pair 1 (first_order ∷ []))
  pub first_zero : decoded batch 1 (first_bytes 0 1 1 1 []) ≡ Err (fault_at BadByte 0)
  pub no_steps : decoded batch 1 (first_bytes 1 0 1 1 []) ≡ Err (fault_at BadByte 8)
  pub two_steps : decoded batch 1 (first_bytes 1 2 1 1 []) ≡ Err (fault_at Short 23)
  pub client_17 : decoded batch 1 (first_bytes 1 1 17 1 []) ≡ Err (fault_at BadByte 11)
  pub number_zero : decoded batch 1 (first_bytes 1 1 1 0 []) ≡ Err (fault_at BadByte 12)
  pub one_more : decoded batch 1 (first_bytes 1 1 1 1 (0 ∷ [])) ≡ Err (fault_at Extra 23)
  pub version_3 : decoded batch 3 (first_bytes 1 1 1 1 []) ≡ Err (fault_at BadVersion 0)
