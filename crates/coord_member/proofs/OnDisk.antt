-- The bytes left on the disk are enough.
use Rattle.std.proofs.Common.{◌≡◌, ◌==◌, ◌&&◌, not, nat_lt, ◌||◌, Bool, true, false, List, [], ◌∷◌, ◌++◌, Option, None, refl, sym, ap, ◌∙◌, inl, inr, if◌then◌else◌}
use Rattle.coord_member.specs.declared.view.Entry.{Entry}
use Rattle.coord_member.specs.declared.view.Row.{Row}
use Rattle.coord_member.specs.declared.rule.Due.{Due}
use Rattle.coord_member.specs.declared.rule.Due.TheVariants.{Talk, Wait, Begin, Reset}
use Rattle.coord_member.specs.Rule.{admits, due_of, same_party, was_before}
use Rattle.coord_member.specs.NoMix.{IsOneOf}
use Rattle.coord_member.specs.OnDisk.{LeftIsEnough}
use Rattle.coord_member.proofs.Holding.{found, one_before, one_of_both, same_parties}

not_both : (b : Bool) → b ≡ true → b ≡ false → ⊥
not_both true e f = absurd (cc)
not_both false e f = absurd (cc)

is_there : (now : List Entry) (history : List (List Entry)) → was_before now history ≡ true → IsOneOf now history
is_there now [] e = absurd (cc)
is_there now (party ∷ history) e = of (same_party now party) refl e (is_there now history)
  where
    of : (b : Bool) → same_party now party ≡ b → (b || was_before now history) ≡ true → (was_before now history ≡ true → IsOneOf now history) → IsOneOf now (party ∷ history)
    of true same f rest = inl (same_parties now party same)
    of false other f rest = inr (rest f)

-- parties that are there already add nothing
no_more : (now : List Entry) (xs ys : List (List Entry)) → ((party : List Entry) → IsOneOf party ys → IsOneOf party xs) → was_before now (xs ++ ys) ≡ was_before now xs
no_more now xs ys all = of (was_before now xs) (was_before now (xs ++ ys)) refl refl
  where
    of : (b c : Bool) → was_before now xs ≡ b → was_before now (xs ++ ys) ≡ c → c ≡ b
    of true true e f = refl
    of false false e f = refl
    of true false e f = absurd (not_both (was_before now (xs ++ ys)) (found now (xs ++ ys) (one_before now xs ys (is_there now xs e))) f)
    of false true e f =
        absurd (not_both (was_before now xs)
        (found now xs (elim (one_of_both now xs ys (is_there now (xs ++ ys) f)) [ inl first ↦ first | inr second ↦ all now second ]))
        e)

never : (b : Bool) → (b && false) ≡ false
never true = refl
never false = refl

abbrev due_where : Bool → Bool → Row → Bool → Due
due_where begun admitted row was =
    if nat_lt row.confirmed row.epoch && not was then Begin else (if begun && not row.through then Wait else (if begun && admitted then Talk else (if row.quiet then Reset else Wait)))

-- if nothing is begun, the party of a start does not count
nothing_begun : (party other : Option (List Entry)) (was : Bool) (row : Row) (now : List Entry) → due_of None party was row now ≡ due_of None other was row now
nothing_begun party other was row now =
    ap (λ b. due_where b (admits party was now) row was) (never (row.epoch == row.confirmed))
    ∙ sym (ap (λ b. due_where b (admits other was now) row was) (never (row.epoch == row.confirmed)))

pub left_is_enough : LeftIsEnough
left_is_enough kept read row now left =
    let was = no_more now read.history kept.history left.history in
    elim left.start [
      | inl none ↦
          inr (
          ap (λ b. due_of b read.party (was_before now read.history) row now) none
          ∙ nothing_begun read.party kept.party (was_before now read.history) row now
          ∙ ap (λ b. due_of None kept.party b row now) (sym was)
          )
      | inr same ↦
          inl (
          ap (λ b. due_of b read.party (was_before now read.history) row now) same.0
          ∙ ap (λ p. due_of kept.begun p (was_before now read.history) row now) same.1
          ∙ ap (λ b. due_of kept.begun kept.party b row now) (sym was)
          )
    ]
