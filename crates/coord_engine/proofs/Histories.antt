-- Each step of a token keeps the one history.
use Rattle.std.proofs.Common.{◌≡◌, ◌≢◌, ◌⊎◌, inl, inr, ⊎_elim, ℕ, zero, suc, List, [], ◌∷◌, ◌++◌, length, set, refl, sym, ap, subst, ◌∙◌, append-nil, append_assoc, arith}
use mathlib.Core.Option.{some, some-injective, some-ne-none}
use lib.ListN.{get_elem?}
use Rattle.atomic_table.proofs.Lists.{at_set, set_again}
use Rattle.atomic_table.specs.Table.{Allows, Joins, Me, Splits}
use Rattle.atomic_table.specs.Table.Act.{keeps}
use Rattle.coord_types.specs.declared.steps.Step.{Step}
use Rattle.coord_engine.specs.MonotoneLog.{Fits, KnowOneHistory, StartsWith, knows}
use Rattle.coord_engine.specs.declared.history.Known.{Known}

-- ---- beginnings of lists

pub all_of : (xs : List Step) → StartsWith xs xs
all_of xs = ([], sym (append-nil xs))

pub none_of : (xs : List Step) → StartsWith xs []
none_of xs = (xs, refl)

pub first_of_first : (a b c : List Step) → StartsWith b a → StartsWith c b → StartsWith c a
first_of_first a b c in_b in_c = (in_b.0 ++ in_c.0, in_c.1 ∙ ap (λ l. l ++ in_c.0) in_b.1 ∙ append_assoc a in_b.0 in_c.0)

-- ---- views

at_end : (views : List Known) (v w : Known) (j : ℕ) → get_elem? (views ++ v ∷ []) j ≡ some w → (get_elem? views j ≡ some w) ⊎ ((v ≡ w) × (j ≡ length views))
at_end [] v w zero e = inr (some-injective v w e, refl)
at_end [] v w (suc j) e = absurd (some-ne-none w (sym e))
at_end (x ∷ xs) v w zero e = inl e
at_end (x ∷ xs) v w (suc j) e = ⊎_elim (λ old. inl old) (λ new. inr (new.0, ap suc new.1)) (at_end xs v w j e)

some_there : (views : List Known) (j : ℕ) (v : Known) → get_elem? views j ≡ some v → length views ≢ 0
some_there [] j v e = absurd (some-ne-none v (sym e))
some_there (x ∷ xs) j v e = λ none. omega arith

-- where each other token fits, and so does this one's new view
set_fits : (history : List Step) (views : List Known) (token : ℕ) (w : Known) → ((j : ℕ) (u : Known) → j ≢ token → get_elem? views j ≡ some u → Fits history j u) → Fits history token w
    → (j : ℕ) (u : Known) → get_elem? (set views token w) j ≡ some u → Fits history j u
set_fits history views token w others mine j u e =
    ⊎_elim
    (λ (same : (j ≡ token) × (w ≡ u)). subst (λ v. Fits history j v) same.1 (subst (λ k. Fits history k w) (sym same.0) mine))
    (λ (other : (j ≢ token) × (get_elem? views j ≡ some u)). others j u other.0 other.1)
    (at_set views token j w u e)

-- ---- steps

pub writes : (slots token : ℕ) (me : Me (Unit {0}) Known) (steps : List Step) → token ≡ 0 → StartsWith steps me.0.read → Allows (λ table. KnowOneHistory table.views) slots token me 0 (λ n. n) (λ found after. after ≡ (knows steps me.0.returned, me.1))
writes slots token me steps first on table one homes at small =
    let mine = one.1 token me.0 at in
    let more : StartsWith steps one.0 = subst (StartsWith steps) (mine.whole first) on in
    let w = knows steps me.0.returned in (
      w,
      keeps,
      tt,
      (
        steps,
        set_fits steps table.views token w
            (λ j u other e.
            let fits = one.1 j u e in
            record { read = first_of_first u.read one.0 steps fits.read more; returned = first_of_first u.returned one.0 steps fits.returned more; whole = λ is_first. absurd (other (is_first ∙ sym first)) })
            (record { read = all_of steps; returned = first_of_first me.0.returned one.0 steps mine.returned more; whole = λ _. refl }),
      ),
      refl,
    )

pub compares : (slots token : ℕ) (me : Me (Unit {0}) Known) → token ≡ 0 → Allows (λ table. KnowOneHistory table.views) slots token me 0 (λ n. n) (λ found after. (after ≡ me) × StartsWith me.0.read me.0.returned)
compares slots token me first table one homes at small =
    let mine = one.1 token me.0 at in
    (me.0, keeps, tt, subst KnowOneHistory (sym (set_again table.views token me.0 at)) one, (refl, subst (λ read. StartsWith read me.0.returned) (sym (mine.whole first)) mine.returned))

pub splits : (token : ℕ) (v : Known) → Splits {S = Unit {0}} (λ table. KnowOneHistory table.views) token v v (knows v.read [])
splits token v table one at =
    rw (set_again table.views token v at) (
      one.0,
      λ j u e. ⊎_elim
          (λ old. one.1 j u old)
          (λ (new : (knows v.read [] ≡ u) × (j ≡ length table.views)). subst (Fits one.0 j) new.0 (record { read = (one.1 token v at).read; returned = none_of one.0; whole = λ is_first. absurd (some_there table.views token v at (sym new.1 ∙ is_first)) }))
          (at_end table.views (knows v.read []) u j e),
    )

pub reads : (slots token : ℕ) (me : Me (Unit {0}) Known) → Allows (λ table. KnowOneHistory table.views) slots token me 0 (λ n. n) (λ found after. StartsWith after.0.read me.0.read × StartsWith after.0.read me.0.returned × (after.1 ≡ me.1))
reads slots token me table one homes at small =
    let mine = one.1 token me.0 at in
    let w = knows one.0 me.0.returned in (
      w,
      keeps,
      tt,
      (one.0, set_fits one.0 table.views token w (λ j u _ e. one.1 j u e) (record { read = all_of one.0; returned = mine.returned; whole = λ _. refl })),
      (mine.read, mine.returned, refl),
    )

pub joins : (token : ℕ) (v : Known) (other : ℕ) (w : Known) (read : List Step) → w.read ≡ read → Joins {S = Unit {0}} (λ table. KnowOneHistory table.views) token v other w (knows v.read w.read) (knows read [])
joins token v other w read named table one at apart there =
    let mine = one.1 token v at in
    let returned = knows v.read w.read in
    let theirs : Fits one.0 other w = ⊎_elim (λ (same : (other ≡ token) × (returned ≡ w)). absurd (apart same.0)) (λ (is : (other ≢ token) × (get_elem? table.views other ≡ some w)). one.1 other w is.1) (at_set table.views token other returned w there) in
    let both : Fits one.0 token returned = record { read = mine.read; returned = theirs.read; whole = mine.whole } in (
      one.0,
      set_fits one.0 (set table.views token returned) other (knows read [])
          (λ j u _ e. set_fits one.0 table.views token returned (λ i x _ is. one.1 i x is) both j u e)
          (record { read = subst (StartsWith one.0) named theirs.read; returned = none_of one.0; whole = λ is_first. sym named ∙ theirs.whole is_first }),
    )
