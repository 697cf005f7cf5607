-- The view of a world of a history is one that honest members need.
use Rattle.std.proofs.Common.{◌≡◌, ◌⊎◌, ℕ, ◌<◌, ◌≤◌, eqb, nat_lt, Bool, true, false, List, [], ◌∷◌, Option, Some, None, is_some, refl, sym, ap, subst, ◌∙◌, arith, inl, inr}
use Rattle.std.proofs.lemmas.Bool.Decides.{nat_tests}
use Rattle.coord_types.specs.Table.{has}
use Rattle.coord_link.specs.LaneMachine.{Lane}
use Rattle.coord_world.specs.Facade.{World, is_linked, lane_at, state}
use Rattle.coord_world.specs.laws.Trails.{IsSound}
use Rattle.coord_world.specs.laws.Waves.{IsPath}
use Rattle.coord_tables.proofs.LinkLanes.{lane-apart, lane-mirrored}
use Rattle.coord_member.specs.declared.view.Entry.{Entry}
use Rattle.coord_member.specs.declared.view.Entry.TheVariants.{Node, Link}
use Rattle.coord_member.specs.declared.view.Row.{Row}
use Rattle.coord_member.specs.Honest as honest
use Rattle.coord_member.specs.Honest.{IsView}
use Rattle.coord_member.specs.NoMix.{IsOneOf}
use Rattle.coord_look.specs.Shown.{AllDistinct, IsPartyOf, IsShownTo, IsWorldLink}
use Rattle.coord_following.specs.Histories.{Turn, IsHistory, life_at, world_at}
use Rattle.coord_following.proofs.Lives.{made_by, made_in_life, sound_at}

-- the life of a node in which a link was made
abbrev pub made : World → List Turn → ℕ → Entry → ℕ
made w turns u (Node n e) = 0
made w turns u (Link a b incarnation) = made_by w turns u incarnation

-- ---- the links of a node in a list

-- one of these is a link of node i, or none
link_in : (i : ℕ) (now : List Entry) → ((link : Entry) × IsOneOf link now × honest.IsLinkOf i link) ⊎ ((link : Entry) → IsOneOf link now → honest.IsLinkOf i link → ⊥)
link_in i [] = inr (λ link f g. f)
link_in i (Node n e ∷ now) =
    elim (link_in i now) [
      | inl found ↦ inl (found.0, inr found.1, found.2)
      | inr none ↦ inr (λ link f g. elim f [ inl same ↦ subst (honest.IsLinkOf i) same g | inr more ↦ none link more g ])
    ]
link_in i (Link a b incarnation ∷ now) = of (eqb a i) (eqb b i) refl refl (link_in i now)
  where
    of : (c d : Bool) → eqb a i ≡ c → eqb b i ≡ d → ((link : Entry) × IsOneOf link now × honest.IsLinkOf i link) ⊎ ((link : Entry) → IsOneOf link now → honest.IsLinkOf i link → ⊥) →
        ((link : Entry) × IsOneOf link (Link a b incarnation ∷ now) × honest.IsLinkOf i link) ⊎ ((link : Entry) → IsOneOf link (Link a b incarnation ∷ now) → honest.IsLinkOf i link → ⊥)
    of true d first second rest = inl (Link a b incarnation, inl refl, inl (grind (arith, nat_tests, first)))
    of false true first second rest = inl (Link a b incarnation, inl refl, inr (grind (arith, nat_tests, second)))
    of false false first second rest =
        elim rest [
          | inl found ↦ inl (found.0, inr found.1, found.2)
          | inr none ↦ inr (λ link f g. elim f [ inl same ↦ neither first second (subst (honest.IsLinkOf i) same g) | inr more ↦ none link more g ])
        ]
      where
        neither : eqb a i ≡ false → eqb b i ≡ false → (a ≡ i) ⊎ (b ≡ i) → ⊥
        neither f g (inl same) = grind (arith, nat_tests, f, same)
        neither f g (inr same) = grind (arith, nat_tests, g, same)

-- ---- a node that is linked with nobody

of_option : (o : Option Lane) → is_some o ≡ true → (l : Lane) × (o ≡ Some l)
of_option None e = absurd (cc)
of_option (Some l) e = (l, refl)

apart : (b : Bool) → b ≡ false → b ≡ true → ⊥
apart true e f = absurd (cc)
apart false e f = absurd (cc)

lesser : (i x : ℕ) → x ≤ i → (i ≡ x → ⊥) → x < i
lesser i x le apart = of (eqb i x) refl
  where
    of : (b : Bool) → eqb i x ≡ b → x < i
    of true same = absurd (apart (grind (arith, nat_tests, same)))
    of false other = grind (arith, nat_tests, other, le)

-- whoever is linked has a link in its party
linked_shown : (w : World) (i x : ℕ) (now : List Entry) → IsSound w → IsPartyOf w i now → is_linked w i x ≡ true → (link : Entry) × IsOneOf link now × honest.IsLinkOf i link
linked_shown w i x now sound party linked = of (nat_lt i x) refl
  where
    back : is_linked w x i ≡ true
    back = sym (lane-mirrored w.links i x) ∙ linked

    of : (b : Bool) → nat_lt i x ≡ b → (link : Entry) × IsOneOf link now × honest.IsLinkOf i link
    of true less =
        let lane = of_option (lane_at w.links i x) linked in
        (Link i x lane.0.inc, party.every_link i x lane.0.inc ([], refl) (record { turned = grind (arith, nat_tests, less); lane = lane.0; there = lane.1; made = refl }), inl refl)
    of false more =
        let lane = of_option (lane_at w.links x i) back in
        let less : x < i = lesser i x (grind (arith, nat_tests, more)) (λ same. apart (is_some (lane_at w.links i i)) (lane-apart w.links sound.in_range.turned i) (subst (λ n. is_some (lane_at w.links i n) ≡ true) (sym same) linked)) in
        (Link x i lane.0.inc, party.every_link x i lane.0.inc (x ∷ [], (linked, refl)) (record { turned = less; lane = lane.0; there = lane.1; made = refl }), inr refl)

-- a node without a link is connected with itself alone
itself_alone : (w : World) (i n : ℕ) (now : List Entry) → IsSound w → IsPartyOf w i now → ((link : Entry) → IsOneOf link now → honest.IsLinkOf i link → ⊥) → (path : List ℕ) → IsPath w i path n → i ≡ n
itself_alone w i n now sound party none [] same = same
itself_alone w i n now sound party none (x ∷ path) links = absurd (let link = linked_shown w i x now sound party links.0 in none link.0 link.1 link.2)

-- all elements of a list are this one, and it occurs once
only : {A : Type 0} (x : A) (xs : List A) → IsOneOf x xs → AllDistinct xs → ((y : A) → IsOneOf y xs → y ≡ x) → xs ≡ x ∷ []
only x [] in_xs once all = absurd in_xs
only x (y ∷ []) in_xs once all = ap (λ z. z ∷ []) (all y (inl refl))
only x (y ∷ z ∷ xs) in_xs once all = absurd (once.0 (inl (all y (inl refl) ∙ sym (all z (inr (inl refl))))))

shown_alone : (w : World) (i : ℕ) (now : List Entry) → IsSound w → has w.nodes i ≡ true → IsPartyOf w i now → ((link : Entry) → IsOneOf link now → honest.IsLinkOf i link → ⊥) → now ≡ Node i (state w i).epoch ∷ []
shown_alone w i now sound there party none = only (Node i (state w i).epoch) now (party.every_node i there ([], refl)) party.once each
  where
    each : (y : Entry) → IsOneOf y now → y ≡ Node i (state w i).epoch
    each (Node n e) in_now =
        let is = party.nodes n e in_now in
        let at = itself_alone w i n now sound party none is.1.0.0 is.1.0.1 in
        let epoch = is.1.1 in
        subst (λ m. Node m e ≡ Node i (state w i).epoch) at (ap (λ f. Node i f) (epoch ∙ ap (λ m. (state w m).epoch) (sym at)))
    each (Link a b incarnation) in_now =
        let is = party.links a b incarnation in_now in
        absurd (none (Link a b incarnation) in_now (inl (sym (itself_alone w i a now sound party none is.0.0 is.0.1))))

-- ---- the view

-- a link of node i that is shown, to whomever, is of its present life
pub link_made : (w : World) (k : ℕ) (turns : List Turn) (j i : ℕ) (now : List Entry) → IsSound w → IsHistory w turns → IsPartyOf (world_at w k turns) j now → (link : Entry) → IsOneOf link now → honest.IsLinkOf i link → made w turns i link ≡ life_at k turns i
link_made w k turns j i now sound history party (Node n e) in_now none = absurd none
link_made w k turns j i now sound history party (Link a b incarnation) in_now ends = of ends (party.links a b incarnation in_now).1
  where
    of : (a ≡ i) ⊎ (b ≡ i) → IsWorldLink (world_at w k turns) a b incarnation → made_by w turns i incarnation ≡ life_at k turns i
    of (inl first) is = subst (λ n. made_by w turns n incarnation ≡ life_at k turns n) first (subst (λ n. made_by w turns a n ≡ life_at k turns a) is.made (made_in_life w k turns a b is.lane sound history is.there))
    of (inr second) is =
        let links = (world_at w k turns).links in
        let back = of_option (lane_at links b a) (sym (lane-mirrored links a b) ∙ ap is_some is.there) in
        let same = (sound_at w k turns sound history).in_range.one_incarnation a b is.lane back.0 is.there back.1 in
        subst (λ n. made_by w turns n incarnation ≡ life_at k turns n) second (subst (λ n. made_by w turns b n ≡ life_at k turns b) (sym same ∙ is.made) (made_in_life w k turns b a back.0 sound history back.1))

pub view_of : (w : World) (k : ℕ) (turns : List Turn) (i : ℕ) (row : Row) (now : List Entry) → IsSound w → IsHistory w turns → IsShownTo (world_at w k turns) i row now → IsView (made w turns) i (life_at k turns i) row.epoch now
view_of w k turns i row now sound history is =
    let v = world_at w k turns in
    let sound_v = sound_at w k turns sound history in
    record {
      own = subst (λ e. IsOneOf (Node i e) now) (sym is.epoch) (is.party.every_node i is.there ([], refl));
      one = λ e in_now. (is.party.nodes i e in_now).1.1 ∙ sym is.epoch;
      links = λ link in_now of_i. link_made w k turns i i now sound history is.party link in_now of_i;
      linked = elim (link_in i now) [
        | inl found ↦ inl found
        | inr none ↦ inr (shown_alone v i now sound_v is.there is.party none ∙ ap (λ e. Node i e ∷ []) (sym is.epoch))
      ];
    }
