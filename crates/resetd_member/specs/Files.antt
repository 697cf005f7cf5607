-- Other uses of a start's file: what the file says in one boot of the machine, and the fence of the start.
use Rattle.std.specs.Prelude.{◌≡◌, ◌≤◌, ◌<◌, ◌⊎◌, ℕ, ◌+◌, ◌*◌, ◌^◌, List, [], Option, Some, None, Result, Ok, Err, String, string_bytes}
use Rattle.std.specs.declared.alloc.Global.{Global}
use Rattle.std.specs.declared.vec.Vec.{Vec}
use Rattle.std.specs.Option.{option_map}
use Rattle.std.specs.Str.{IsUtf8}
use Rattle.coord_kept.specs.Digest.{fence_tag}
use Rattle.coord_kept.specs.Start.{carried_in, loaded_text, seen, seen_in, start_text}
use Rattle.coord_kept.specs.declared.start.Start.{Start}
use Rattle.resetd_member.specs.declared.status.Fault.{Fault}
use Rattle.resetd_member.specs.declared.status.Fault.TheVariants.{OutOfMemory, BadStart, BadNumber, NoText}

-- `text` is the start that the file states in this boot, in the form that is valid in any boot
pub record IsCarriedText (node : ℕ) (file boot text : List ℕ) : Type 0 where
  pub start : Start
  pub read : carried_in boot node file ≡ Some (seen start)
  pub is : text ≡ start_text node start.begun (option_map (λ lines. lines.items) start.party) start.count

abbrev pub IsCarried : ℕ → List ℕ → List ℕ → Result (String Global) Fault → Type 0
IsCarried node file boot (Ok text) = IsCarriedText node file boot (string_bytes text)
IsCarried node file boot (Err OutOfMemory) = Unit {0}
IsCarried node file boot (Err BadStart) = carried_in boot node file ≡ None
IsCarried node file boot (Err NoText) = ¬ (IsUtf8 file × IsUtf8 boot)
IsCarried node file boot (Err _) = ⊥

abbrev pub IsLoaded : ℕ → ℕ → List ℕ → Result (String Global) Fault → Type 0
IsLoaded node epoch boot (Ok text) = string_bytes text ≡ loaded_text node epoch boot
IsLoaded node epoch boot (Err OutOfMemory) = Unit {0}
IsLoaded node epoch boot (Err NoText) = ¬ (IsUtf8 boot)
IsLoaded node epoch boot (Err _) = ⊥

-- ---- a start's fence

-- the values of a fence: a count and a tag
abbrev pub Brought : Type 0
Brought = ℕ × String Global

-- the count of a fence; for 1 to 2^40 settled steps, the counts of a later generation are greater than all counts of an earlier
-- one
abbrev pub fence_count : ℕ → ℕ → ℕ
fence_count generation settled = generation * 2 ^ 40 + settled

abbrev pub IsFenceBy : List ℕ → ℕ → Option (Vec (String Global) Global) → Option ℕ → Brought → Type 0
IsFenceBy word generation (Some first) (Some settled) fence = (fence.0 ≡ fence_count generation settled) × (string_bytes fence.1 ≡ fence_tag word (fence_count generation settled) first.items)
IsFenceBy word generation (Some first) None fence = (fence.0 ≡ 0) × (string_bytes fence.1 ≡ [])
IsFenceBy word generation None settled fence = (fence.0 ≡ 0) × (string_bytes fence.1 ≡ [])

-- the start's file states more settled steps than a world can have
abbrev pub IsTooMany : Option ℕ → Type 0
IsTooMany None = ⊥
IsTooMany (Some settled) = 2 ^ 40 < settled

abbrev pub IsFenceOf : Start → ℕ → List ℕ → Result Brought Fault → Type 0
IsFenceOf start generation word (Ok fence) = IsFenceBy word generation start.party start.count fence
IsFenceOf start generation word (Err OutOfMemory) = Unit {0}
IsFenceOf start generation word (Err BadStart) = IsTooMany start.count
IsFenceOf start generation word (Err _) = ⊥

pub record IsReadFence (node : ℕ) (file : List ℕ) (generation : ℕ) (word : List ℕ) (made : Result Brought Fault) : Type 0 where
  pub start : Start
  pub read : seen_in node file ≡ Some (seen start)
  pub is : IsFenceOf start generation word made

-- the fence of the file's start, or the reason why there is none
abbrev pub IsFenceFor : ℕ → List ℕ → ℕ → List ℕ → Result Brought Fault → Type 0
IsFenceFor node file generation word (Ok fence) = IsReadFence node file generation word (Ok fence)
IsFenceFor node file generation word (Err OutOfMemory) = Unit {0}
IsFenceFor node file generation word (Err BadStart) = (seen_in node file ≡ None) ⊎ IsReadFence node file generation word (Err BadStart)
IsFenceFor node file generation word (Err BadNumber) = 2 ^ 23 ≤ generation
IsFenceFor node file generation word (Err NoText) = ¬ (IsUtf8 file × IsUtf8 word)
IsFenceFor node file generation word (Err _) = ⊥
