-- The rounds of a choice, line after line.
use Rattle.std.proofs.Common.{◌≡◌, ℕ, ◌+◌, ◌<◌, ◌==◌, ◌&&◌, ◌||◌, not, nat_lt, Bool, true, false, List, [], ◌∷◌, ◌++◌, length, drop, get_or, refl, sym, ap, ◌∙◌, arith, append_assoc, append-nil, cond}
use Rattle.std.specs.BTreeSet.{BTreeSet, contains}
use Rattle.std.specs.BTreeMap.{is_at}
use Rattle.std.specs.Cmp.{unsigned_tied}
use Rattle.std.specs.List.{list_any}
use Rattle.std.specs.Ordering.{eq_by_cmp, nat_cmp}
use Rattle.std.proofs.lemmas.List.{drop_more}
use Rattle.proxy_core.specs.declared.choice.Kind.{Kind}
use Rattle.proxy_core.specs.declared.choice.Kind.TheVariants.{Any}
use Rattle.proxy_core.specs.Pending.{Pending}
use Rattle.proxy_core.specs.Machine.{Round, first_round, is_among, is_begun, is_ready, joins, kind_after, led, may_fill, may_join, room_after, second_round, own_after, stay_after}

or_is : (a b : Bool) → cond a true b ≡ (a || b)
or_is true b = refl
or_is false b = refl

-- a set and a list of the same connections
abbrev pub AreSame : BTreeSet ℕ → List ℕ → Type 0
AreSame staying stay = (c : ℕ) → contains nat_cmp staying c ≡ is_among c stay

pub none_among : (staying : BTreeSet ℕ) → staying.keys ≡ [] → AreSame staying []
none_among staying none c = ap (λ ks. list_any (is_at (nat_cmp c)) ks) none

pub one_more : (staying later : BTreeSet ℕ) (k from : ℕ) (stay : List ℕ) → AreSame staying stay → k ≡ from
    → ((c : ℕ) → contains nat_cmp later c ≡ cond (eq_by_cmp nat_cmp k c) true (contains nat_cmp staying c)) → AreSame later (from ∷ stay)
one_more staying later k from stay same is updates c =
    updates c
    ∙ ap (λ b. cond b true (contains nat_cmp staying c)) (unsigned_tied k c)
    ∙ ap (λ x. cond (x == c) true (contains nat_cmp staying c)) is
    ∙ ap (λ b. cond (from == c) true b) (same c)
    ∙ or_is (from == c) (is_among c stay)

-- a set with one more key, or none
pub noted : (staying later : BTreeSet ℕ) (k : ℕ) → ((c : ℕ) → contains nat_cmp later c ≡ cond (eq_by_cmp nat_cmp k c) true (contains nat_cmp staying c))
    → (c : ℕ) → contains nat_cmp later c ≡ ((true && (k == c)) || contains nat_cmp staying c)
noted staying later k updates c = updates c ∙ ap (λ b. cond b true (contains nat_cmp staying c)) (unsigned_tied k c) ∙ or_is (k == c) (contains nat_cmp staying c)

-- ---- the first round

pub record FirstRound (counted : Bool) (waiting : List Pending) (picks : List Bool) (kind : Kind) (room : ℕ) (seen : BTreeSet ℕ) (i : ℕ) : Type 0 where
  pub stay : List ℕ
  pub same : AreSame seen stay
  pub picked : picks ++ (first_round counted kind room stay (drop i waiting)).picks ≡ (led counted waiting).picks
  pub of_kind : (first_round counted kind room stay (drop i waiting)).kind ≡ (led counted waiting).kind
  pub with_room : (first_round counted kind room stay (drop i waiting)).room ≡ (led counted waiting).room

pub first_begins : (counted : Bool) (waiting : List Pending) (picks : List Bool) (seen : BTreeSet ℕ) → picks ≡ [] → seen.keys ≡ [] → FirstRound counted waiting picks Any 256 seen 0
first_begins counted waiting picks seen none empty = record {
  stay = [];
  same = none_among seen empty;
  picked = ap (λ l. l ++ (led counted waiting).picks) none;
  of_kind = refl;
  with_room = refl;
}

pub first_goes_on : (counted : Bool) (waiting : List Pending) (picks picks' : List Bool) (kind kind' : Kind) (room room' : ℕ) (seen seen' : BTreeSet ℕ) (i k : ℕ) (a : Pending) (goes : Bool)
    → FirstRound counted waiting picks kind room seen i → i < length waiting → a ≡ get_or waiting i a
    → goes ≡ (nat_lt 0 room && (is_ready counted a && (joins kind a && not (contains nat_cmp seen a.from))))
    → kind' ≡ kind_after goes kind a → room' ≡ room_after goes room → k ≡ a.from
    → ((c : ℕ) → contains nat_cmp seen' c ≡ cond (eq_by_cmp nat_cmp k c) true (contains nat_cmp seen c))
    → picks' ≡ picks ++ goes ∷ []
    → FirstRound counted waiting picks' kind' room' seen' (i + 1)
first_goes_on counted waiting picks picks' kind kind' room room' seen seen' i k a goes h less next test kinds rooms from updates more =
    let j : Bool = may_join counted kind room h.stay a in
    let later : List Pending = drop (i + 1) waiting in
    let is : goes ≡ j = test ∙ ap (λ x. nat_lt 0 room && (is_ready counted a && (joins kind a && not x))) (h.same a.from) in
    let at : drop i waiting ≡ a ∷ later = drop_more waiting i a less ∙ sym (ap (λ x. x ∷ later) next) in
    let R : Round = first_round counted (kind_after j kind a) (room_after j room) (a.from ∷ h.stay) later in
    let new_kind : kind' ≡ kind_after j kind a = kinds ∙ ap (λ b. kind_after b kind a) is in
    let new_room : room' ≡ room_after j room = rooms ∙ ap (λ b. room_after b room) is in
    let to : first_round counted kind' room' (a.from ∷ h.stay) later ≡ R = ap (λ x. first_round counted x room' (a.from ∷ h.stay) later) new_kind ∙ ap (λ x. first_round counted (kind_after j kind a) x (a.from ∷ h.stay) later) new_room in
    record {
      stay = a.from ∷ h.stay;
      same = one_more seen seen' k a.from h.stay h.same from updates;
      picked =
          ap (λ l. l ++ (first_round counted kind' room' (a.from ∷ h.stay) later).picks) (more ∙ ap (λ b. picks ++ b ∷ []) is)
          ∙ ap (λ (x : Round). (picks ++ j ∷ []) ++ x.picks) to
          ∙ append_assoc picks (j ∷ []) R.picks
          ∙ sym (ap (λ l. picks ++ (first_round counted kind room h.stay l).picks) at)
          ∙ h.picked;
      of_kind = ap (λ (x : Round). x.kind) to ∙ sym (ap (λ l. (first_round counted kind room h.stay l).kind) at) ∙ h.of_kind;
      with_room = ap (λ (x : Round). x.room) to ∙ sym (ap (λ l. (first_round counted kind room h.stay l).room) at) ∙ h.with_room;
    }

abbrev pub round_of : List Bool → Kind → ℕ → Round
round_of picks kind room = record { picks = picks; kind = kind; room = room }

pub first_ends : (counted : Bool) (waiting : List Pending) (picks : List Bool) (kind : Kind) (room : ℕ) (seen : BTreeSet ℕ) (i : ℕ) → FirstRound counted waiting picks kind room seen i → drop i waiting ≡ []
    → round_of picks kind room ≡ led counted waiting
first_ends counted waiting picks kind room seen i h none =
    let p : picks ≡ (led counted waiting).picks = sym (append-nil picks) ∙ sym (ap (λ l. picks ++ (first_round counted kind room h.stay l).picks) none) ∙ h.picked in
    let k : kind ≡ (led counted waiting).kind = sym (ap (λ l. (first_round counted kind room h.stay l).kind) none) ∙ h.of_kind in
    let m : room ≡ (led counted waiting).room = sym (ap (λ l. (first_round counted kind room h.stay l).room) none) ∙ h.with_room in
    made picks (led counted waiting).picks kind (led counted waiting).kind room (led counted waiting).room p k m
  where
    made : (p p' : List Bool) (k k' : Kind) (m m' : ℕ) → p ≡ p' → k ≡ k' → m ≡ m' → round_of p k m ≡ round_of p' k' m'
    made p p' k k' m m' ps ks ms = cc (ps, ks, ms)

-- ---- the second round

pub record SecondRound (counted together : Bool) (waiting : List Pending) (kind : Kind) (start : ℕ) (leads picks : List Bool) (room : ℕ) (staying unnumbered : BTreeSet ℕ) (i : ℕ) : Type 0 where
  pub stay : List ℕ
  pub own : List ℕ
  pub same : AreSame staying stay
  pub same_own : AreSame unnumbered own
  pub picked : picks ++ second_round counted together kind room stay own (drop i leads) (drop i waiting) ≡ second_round counted together kind start [] [] leads waiting

pub second_begins : (counted together : Bool) (waiting : List Pending) (kind : Kind) (start : ℕ) (leads picks : List Bool) (staying unnumbered : BTreeSet ℕ) → picks ≡ [] → staying.keys ≡ [] → unnumbered.keys ≡ [] → SecondRound counted together waiting kind start leads picks start staying unnumbered 0
second_begins counted together waiting kind start leads picks staying unnumbered none empty empty_own = record {
  stay = [];
  own = [];
  same = none_among staying empty;
  same_own = none_among unnumbered empty_own;
  picked = ap (λ l. l ++ second_round counted together kind start [] [] leads waiting) none;
}

pub second_goes_on : (counted together : Bool) (waiting : List Pending) (kind : Kind) (start : ℕ) (leads picks picks' : List Bool) (room room' : ℕ) (staying staying' unnumbered unnumbered' : BTreeSet ℕ) (i : ℕ) (a : Pending) (lead goes : Bool)
    → SecondRound counted together waiting kind start leads picks room staying unnumbered i → i < length waiting → length leads ≡ length waiting → a ≡ get_or waiting i a → lead ≡ get_or leads i lead
    → goes ≡ (lead || (is_begun kind && ((nat_lt 0 room && (is_ready counted a && (joins kind a && not (contains nat_cmp staying a.from)))) && ((together && a.is_unnumbered) || not (contains nat_cmp unnumbered a.from)))))
    → room' ≡ room_after (not lead && goes) room
    → ((c : ℕ) → contains nat_cmp staying' c ≡ ((not goes && (a.from == c)) || contains nat_cmp staying c))
    → ((c : ℕ) → contains nat_cmp unnumbered' c ≡ (((goes && a.is_unnumbered) && (a.from == c)) || contains nat_cmp unnumbered c))
    → picks' ≡ picks ++ goes ∷ []
    → SecondRound counted together waiting kind start leads picks' room' staying' unnumbered' (i + 1)
second_goes_on counted together waiting kind start leads picks picks' room room' staying staying' unnumbered unnumbered' i a lead goes h less long next leading test rooms updates owns more =
    let j : Bool = may_fill counted together kind room h.stay h.own lead a in
    let later : List Pending = drop (i + 1) waiting in
    let others : List Bool = drop (i + 1) leads in
    let is : goes ≡ j =
    test
    ∙ ap (λ x. lead || (is_begun kind && ((nat_lt 0 room && (is_ready counted a && (joins kind a && not x))) && ((together && a.is_unnumbered) || not (contains nat_cmp unnumbered a.from))))) (h.same a.from)
    ∙ ap (λ x. lead || (is_begun kind && (may_join counted kind room h.stay a && ((together && a.is_unnumbered) || not x)))) (h.same_own a.from) in
    let at : drop i waiting ≡ a ∷ later = drop_more waiting i a less ∙ sym (ap (λ x. x ∷ later) next) in
    let short : i < length leads = omega (arith, less, long) in
    let at_lead : drop i leads ≡ lead ∷ others = drop_more leads i lead short ∙ sym (ap (λ x. x ∷ others) leading) in
    let new_room : room' ≡ room_after (not lead && j) room = rooms ∙ ap (λ b. room_after (not lead && b) room) is in
    record {
      stay = stay_after goes a h.stay;
      own = own_after goes a h.own;
      same = λ c. updates c ∙ ap (λ b. (not goes && (a.from == c)) || b) (h.same c) ∙ stays goes a h.stay c;
      same_own = λ c. owns c ∙ ap (λ b. ((goes && a.is_unnumbered) && (a.from == c)) || b) (h.same_own c) ∙ adds (goes && a.is_unnumbered) a h.own c;
      picked =
          ap (λ l. l ++ second_round counted together kind room' (stay_after goes a h.stay) (own_after goes a h.own) others later) (more ∙ ap (λ b. picks ++ b ∷ []) is)
          ∙ ap (λ b. (picks ++ j ∷ []) ++ second_round counted together kind room' (stay_after b a h.stay) (own_after b a h.own) others later) is
          ∙ ap (λ x. (picks ++ j ∷ []) ++ second_round counted together kind x (stay_after j a h.stay) (own_after j a h.own) others later) new_room
          ∙ append_assoc picks (j ∷ []) (second_round counted together kind (room_after (not lead && j) room) (stay_after j a h.stay) (own_after j a h.own) others later)
          ∙ sym (ap (λ l. picks ++ second_round counted together kind room h.stay h.own (drop i leads) l) at ∙ ap (λ l. picks ++ second_round counted together kind room h.stay h.own l (a ∷ later)) at_lead)
          ∙ h.picked;
    }
  where
    stays : (goes : Bool) (a : Pending) (stay : List ℕ) (c : ℕ) → ((not goes && (a.from == c)) || is_among c stay) ≡ is_among c (stay_after goes a stay)
    stays true a stay c = refl
    stays false a stay c = refl

    adds : (flies : Bool) (a : Pending) (own : List ℕ) (c : ℕ) → ((flies && (a.from == c)) || is_among c own) ≡ is_among c (cond flies (a.from ∷ own) own)
    adds true a own c = refl
    adds false a own c = refl

pub second_ends : (counted together : Bool) (waiting : List Pending) (kind : Kind) (start : ℕ) (leads picks : List Bool) (room : ℕ) (staying unnumbered : BTreeSet ℕ) (i : ℕ) → SecondRound counted together waiting kind start leads picks room staying unnumbered i
    → drop i waiting ≡ [] → picks ≡ second_round counted together kind start [] [] leads waiting
second_ends counted together waiting kind start leads picks room staying unnumbered i h none =
    sym (append-nil picks) ∙ sym (ap (λ l. picks ++ l) (empty (drop i leads))) ∙ sym (ap (λ l. picks ++ second_round counted together kind room h.stay h.own (drop i leads) l) none) ∙ h.picked
  where
    empty : (ps : List Bool) → second_round counted together kind room h.stay h.own ps [] ≡ []
    empty [] = refl
    empty (p ∷ ps) = refl
