-- The views of an honest coordinator rule out that a start is taken for one before it, also if files were lost.
use Rattle.std.proofs.Common.{◌≡◌, ℕ, ◌<◌, ◌≤◌, ◌==◌, true, false, List, Option, Some, None, refl, sym, ap, subst, ◌∙◌, arith, ◌⊎◌, inl, inr, if◌then◌else◌}
use Rattle.std.proofs.lemmas.Bool.Decides.{nat_tests}
use Rattle.coord_member.specs.declared.view.Entry.{Entry}
use Rattle.coord_member.specs.declared.view.Entry.TheVariants.{Node}
use Rattle.coord_member.specs.declared.view.Row.{Row}
use Rattle.coord_member.specs.Rule.{Kept, is_alone}
use Rattle.coord_member.specs.Members.{Talked}
use Rattle.coord_member.specs.NoMix.{IsOneOf}
use Rattle.coord_member.specs.Honest.{Shown, with_shown, IsLater, IsLinkOf, IsView}

-- a start that talked has its node's links of one life, and its epoch. In that life, if it goes on, no lower epoch was confirmed
-- since; and a start of the same epoch that has talked with nobody yet was begun in a later one
pub record IsOver (made : ℕ → Entry → ℕ) (last : Shown) (kept : Kept) (loading : Option ℕ) (t : Talked) : Type 0 where
  pub life : ℕ
  pub links : (link : Entry) → IsOneOf link t.party → IsLinkOf t.start.node link → made t.start.node link ≡ life
  pub own : IsOneOf (Node t.start.node t.start.epoch) t.party
  pub shown : (life < last.life) ⊎ ((life ≡ last.life) × (t.start.epoch ≤ last.confirmed))
  pub loads : loading ≡ Some t.start.epoch → life < last.life
  pub again : kept.begun ≡ Some t.start.epoch → kept.party ≡ None → life < last.life

-- ---- each event keeps the claim

-- the shown rows of a node, and of another one
pub shown_of : (last : ℕ → Shown) (i life : ℕ) (row : Row) → with_shown last i life row i ≡ record { life = life; confirmed = row.confirmed }
shown_of last i life row =
    elim (i == i) as (λ b. ((i == i) ≡ b) → (if b then (record { life = life; confirmed = row.confirmed }) else last i) ≡ record { life = life; confirmed = row.confirmed }) [
      | true ↦ λ e. refl
      | false ↦ λ e. absurd (grind (arith, nat_tests))
    ] refl

pub shown_of_others : (last : ℕ → Shown) (i life : ℕ) (row : Row) (j : ℕ) → (j ≡ i → ⊥) → with_shown last i life row j ≡ last j
shown_of_others last i life row j away =
    elim (j == i) as (λ b. ((j == i) ≡ b) → (if b then (record { life = life; confirmed = row.confirmed }) else last j) ≡ last j) [
      | true ↦ λ e. absurd (away (grind (arith, nat_tests)))
      | false ↦ λ e. refl
    ] refl

-- later views rule out at least as much
no_earlier : (last : Shown) (life : ℕ) (row : Row) → IsLater last life row → last.life ≤ life
no_earlier last life row (inl less) = omega (arith, less)
no_earlier last life row (inr same) = omega (arith, same.0)

still_shown : (last : Shown) (life : ℕ) (row : Row) (l epoch : ℕ) → IsLater last life row → (l < last.life) ⊎ ((l ≡ last.life) × (epoch ≤ last.confirmed)) → (l < life) ⊎ ((l ≡ life) × (epoch ≤ row.confirmed))
still_shown last life row l epoch later (inl less) = let le = no_earlier last life row later in inl (omega (arith, le, less))
still_shown last life row l epoch (inl less) (inr same) = inl (omega (arith, less, same.0))
still_shown last life row l epoch (inr stays) (inr same) = inr (omega (arith, stays.0, same.0), omega (arith, stays.1, same.1))

pub stays_over : (made : ℕ → Entry → ℕ) (last : Shown) (life : ℕ) (row : Row) (kept : Kept) (l : Option ℕ) (t : Talked) → IsLater last life row → IsOver made last kept l t → IsOver made (record { life = life; confirmed = row.confirmed }) kept l t
stays_over made last life row kept l t later is =
    let le = no_earlier last life row later in
    record {
      life = is.life;
      links = is.links;
      own = is.own;
      shown = still_shown last life row is.life t.start.epoch later is.shown;
      loads = λ e. let less = is.loads e in omega (arith, less, le);
      again = λ e f. let less = is.again e f in omega (arith, less, le);
    }

-- a member that begins an epoch that isn't confirmed begins none that a start of this life talked in
pub begun_over : (made : ℕ → Entry → ℕ) (last : Shown) (life : ℕ) (row : Row) (kept later_kept : Kept) (l : Option ℕ) (t : Talked) → IsLater last life row → row.confirmed < row.epoch → later_kept.begun ≡ None → IsOver made last kept l t →
    IsOver made (record { life = life; confirmed = row.confirmed }) later_kept (Some row.epoch) t
begun_over made last life row kept later_kept l t later unconfirmed none is =
    let shown = still_shown last life row is.life t.start.epoch later is.shown in
    record {
      life = is.life;
      links = is.links;
      own = is.own;
      shown = shown;
      loads = λ e.
          let same : row.epoch ≡ t.start.epoch = cc in
          elim shown [ inl less ↦ less | inr at ↦ absurd (omega (arith, unconfirmed, at.1, same)) ];
      again = λ e f. absurd (cc);
    }

-- of a node in one life, no second start talks first with a party that it is linked in
pub none_again : (made : ℕ → Entry → ℕ) (last : Shown) (i life : ℕ) (row : Row) (now : List Entry) (kept : Kept) (l : Option ℕ) (u : Talked) → IsLater last life row → IsView made i life row.epoch now → kept.begun ≡ Some row.epoch → kept.party ≡ None →
    is_alone now ≡ false → u.start.node ≡ i → now ≡ u.party → IsOver made last kept l u → ⊥
none_again made last i life row now kept l u later view begun party others node same is =
    elim view.linked [
      | inl link ↦
          let in_u : IsOneOf link.0 u.party = subst (λ ps. IsOneOf link.0 ps) same link.1 in
          let of_u : IsLinkOf u.start.node link.0 = subst (λ n. IsLinkOf n link.0) (sym node) link.2 in
          let lives : is.life ≡ life = sym (is.links link.0 in_u of_u) ∙ (ap (λ n. made n link.0) node ∙ view.links link.0 link.1 link.2) in
          let shown_u : IsOneOf (Node i u.start.epoch) now = subst (λ ps. IsOneOf (Node i u.start.epoch) ps) (sym same) (subst (λ n. IsOneOf (Node n u.start.epoch) u.party) node is.own) in
          let epochs : u.start.epoch ≡ row.epoch = view.one u.start.epoch shown_u in
          let less = is.again (begun ∙ ap Some (sym epochs)) party in
          let le = no_earlier last life row later in
          omega (arith, less, le, lives)
      | inr alone ↦ absurd (let e : is_alone now ≡ true = ap is_alone alone in cc)
    ]
