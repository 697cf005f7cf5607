-- What bytes say, as far as they are read.
use Rattle.std.proofs.Common.{◌≡◌, ℕ, Bool, true, false, List, [], ◌++◌, take, Option, Some, None, Result, Err, cond, refl, subst, ap, ◌∙◌, IfSome}
use Rattle.std.proofs.lemmas.Str.{IsUtf8-from_is_utf8, is_utf8-from_IsUtf8}
use Rattle.std.specs.Option.{option_map}
use Rattle.std.specs.Str.{is_utf8, IsUtf8}
use Rattle.coord_config.specs.Reading.{reading}
use Rattle.coord_config.specs.Topology.{Content}
use Rattle.coord_config.specs.declared.fault.ConfigFault.{ConfigFault}
use Rattle.coord_config.specs.declared.fault.ConfigFault.TheVariants.{NotToml}
use Rattle.coord_commands.specs.Topology.{said_by}

neither : (b : Bool) (x : Result Content ConfigFault) → (b ≡ true → ⊥) → cond b x (Err NotToml) ≡ Err NotToml
neither true x h = absurd (h refl)
neither false x h = refl

pub no_text : (bytes : List ℕ) → (IsUtf8 bytes → ⊥) → said_by bytes ≡ Err NotToml
no_text bytes h = neither (is_utf8 bytes) (reading bytes) (λ e. h (IsUtf8-from_is_utf8 bytes e))

pub a_text : (bytes text : List ℕ) (answer : Result Content ConfigFault) → IsUtf8 bytes → text ≡ bytes → reading text ≡ answer → said_by bytes ≡ answer
a_text bytes text answer is same said =
    ap (λ b. cond b (reading bytes) (Err NotToml)) (is_utf8-from_IsUtf8 bytes is) ∙ subst (λ l. reading l ≡ answer) same said

-- what a reader has left, up to a limit
pub up_to : (left : Option (List ℕ)) (n : ℕ) (front old : List ℕ) → old ≡ [] → IfSome (option_map (take n) left) (λ bytes. front ≡ old ++ bytes) → IfSome left (λ bytes. front ≡ take n bytes)
up_to None n front old none is = tt
up_to (Some bytes) n front old none is = is ∙ ap (λ l. l ++ take n bytes) none

-- the predicate for the front
pub of_front : (left : Option (List ℕ)) (n : ℕ) (front : List ℕ) (P : List ℕ → Type 0) → IfSome left (λ bytes. front ≡ take n bytes) → P front → IfSome left (λ bytes. P (take n bytes))
of_front None n front P is here = tt
of_front (Some bytes) n front P is here = subst P is here
