-- Parties in a history that no start talked with only forbid more.
use Rattle.std.proofs.Common.{◌≡◌, ℕ, Bool, true, false, ◌==◌, ◌&&◌, ◌||◌, not, nat_lt, List, [], ◌∷◌, ◌++◌, Option, Some, None, refl, sym, arith, ◌⊎◌, inl, inr, if◌then◌else◌}
use Rattle.std.proofs.lemmas.Bool.Decides.{nat_tests}
use Rattle.coord_member.specs.declared.view.Entry.{Entry}
use Rattle.coord_member.specs.declared.view.Row.{Row}
use Rattle.coord_member.specs.declared.rule.Due.{Due}
use Rattle.coord_member.specs.declared.rule.Due.TheVariants.{Talk, Wait, Begin, Reset}
use Rattle.coord_member.specs.Rule.{due_of, is_begun, is_at, is_within, same_party, was_before}
use Rattle.coord_member.specs.Members.{MemberWorld, Look}
use Rattle.coord_member.specs.Cautious.{MoreOnlyForbids, due_with, happens_with}
use Rattle.coord_member.proofs.Holding.{Claim, Past, Holds, Rules, looks, looks_less}

-- ---- the due action

more_were : (now : List Entry) (more history : List (List Entry)) → was_before now history ≡ true → was_before now (more ++ history) ≡ true
more_were now [] history e = e
more_were now (p ∷ more) history e = of (same_party now p) (more_were now more history e)
  where
    of : (b : Bool) → was_before now (more ++ history) ≡ true → (b || was_before now (more ++ history)) ≡ true
    of true f = refl
    of false f = f

-- an epoch that is begun is confirmed
none_newer : (begun : Option ℕ) (row : Row) → is_begun begun row ≡ true → nat_lt row.confirmed row.epoch ≡ false
none_newer begun row e = of (row.epoch == row.confirmed) refl (is_at row.epoch begun) e
  where
    of : (b : Bool) → (row.epoch == row.confirmed) ≡ b → (c : Bool) → (b && c) ≡ true → nat_lt row.confirmed row.epoch ≡ false
    of true same c f = grind (arith, nat_tests, same)
    of false other c f = absurd (cc)

-- ---- what else is due

abbrev IsLess : Due → Type 0
IsLess d = (d ≡ Wait) ⊎ (d ≡ Reset)

asks_or_waits : (quiet : Bool) → IsLess (if quiet then Reset else Wait)
asks_or_waits true = inr refl
asks_or_waits false = inl refl

-- the parts of due_of, if a start has a party, and if it has none
abbrev due_by : Bool → Bool → Bool → Bool → Bool → Bool → Due
due_by newer begun through admitted quiet was =
    if newer && not was then Begin else (if begun && not through then Wait else (if begun && admitted then Talk else (if quiet then Reset else Wait)))

with_a_party : (newer begun through admitted quiet : Bool) → (begun ≡ true → newer ≡ false) → (due_by newer begun through admitted quiet true ≡ due_by newer begun through admitted quiet false) ⊎ IsLess (due_by newer begun through admitted quiet true)
with_a_party false begun through admitted quiet confirmed = inl refl
with_a_party true true through admitted quiet confirmed = absurd (let e = confirmed refl in cc)
with_a_party true false through admitted quiet confirmed = inr (asks_or_waits quiet)

without_one : (newer begun through quiet : Bool) → IsLess (due_by newer begun through (not true) quiet true)
without_one true true false quiet = inl refl
without_one true true true quiet = asks_or_waits quiet
without_one true false through quiet = asks_or_waits quiet
without_one false true false quiet = inl refl
without_one false true true quiet = asks_or_waits quiet
without_one false false through quiet = asks_or_waits quiet

forbids : (begun : Option ℕ) (party : Option (List Entry)) (row : Row) (now : List Entry) (was more : Bool) → (was ≡ true → more ≡ true) →
    (due_of begun party more row now ≡ due_of begun party was row now) ⊎ IsLess (due_of begun party more row now)
forbids begun party row now true true implies = inl refl
forbids begun party row now false false implies = inl refl
forbids begun party row now true false implies = absurd (let e = implies refl in cc)
forbids begun (Some party) row now false true implies = with_a_party (nat_lt row.confirmed row.epoch) (is_begun begun row) row.through (is_within now party) row.quiet (none_newer begun row)
forbids begun None row now false true implies = inr (without_one (nat_lt row.confirmed row.epoch) (is_begun begun row) row.through row.quiet)

pub more_only_forbids : MoreOnlyForbids
more_only_forbids more kept row now = forbids kept.begun kept.party row now (was_before now kept.history) (was_before now (more ++ kept.history)) (more_were now more kept.history)

-- ---- a look

pub looks_with : (c : Claim) (past later : Past) (w : MemberWorld) (i : ℕ) (row : Row) (now : List Entry) (more : List (List Entry)) → Holds c past w → Rules c past later w i row now → Holds c later (happens_with w more (Look i row now))
looks_with c past later w i row now more h rules =
    elim (more_only_forbids more (w.member i).kept row now) [
      | inl same ↦ looks c past later w i row now (due_with more (w.member i).kept row now) h rules (sym same)
      | inr less ↦ looks_less c past later w i row now (due_with more (w.member i).kept row now) h rules less
    ]
