-- No start hears of two starts of one member, if some keep their files, whatever is shown, and others may lose them.
use Rattle.std.proofs.Common.{◌≡◌, ℕ, suc, Bool, true, false, List, [], ◌∷◌, ◌++◌, Option, Some, None, refl, sym, ap, subst, ◌∙◌, arith, inl, inr, slice_get}
use Rattle.std.proofs.lemmas.Bool.Decides.{nat_tests}
use Rattle.coord_member.specs.declared.view.Entry.{Entry}
use Rattle.coord_member.specs.declared.view.Entry.TheVariants.{Node}
use Rattle.coord_member.specs.declared.view.Row.{Row}
use Rattle.coord_member.specs.Rule.{Kept, new_kept}
use Rattle.coord_member.specs.Members.{Talked, MemberWorld, new_world, Event, Look, Load, Crash, Forget, Lose, Send, Hear, happens, run}
use Rattle.coord_member.specs.NoMix.{IsOneOf, IsUnmixed, KeepsFiles, NoMix}
use Rattle.std.specs.List.{AllByRecursion}
use Rattle.coord_member.specs.Honest.{Shown, nothing_shown, with_shown, IsHonest, IsLater, IsLinkOf, IsView, NoMixHonest}
use Rattle.coord_member.specs.Fair.{IsFair, NoMixFair}
use Rattle.coord_member.specs.Cautious.{NoMixWithMore, happens_with, run_with}
use Rattle.coord_member.proofs.Holding.{Past, Lasts, Holds, Rules, crashed, got, drops, forgets, hears, loads, nothing_yet, one_before, one_more, past_at, sent}
use Rattle.coord_member.proofs.Unmixed.{by_party, unmixed}
use Rattle.coord_member.proofs.Cautious.{looks_with}
use Rattle.coord_member.proofs.Besides.{IsOver, begun_over, none_again, shown_of, shown_of_others, stays_over}

-- the party of a start is in its node's history, if the node keeps its files, and otherwise ruled out by the shown
-- view
abbrev by_files : Bool → (ℕ → Entry → ℕ) → Shown → Kept → Option ℕ → Talked → Type 0
by_files true made last kept loading t = IsOneOf t.party kept.history
by_files false made last kept loading t = IsOver made last kept loading t

abbrev is_fair : (ℕ → Bool) → (ℕ → Entry → ℕ) → (ℕ → Shown) → Past
is_fair keeps made last node kept loading t = by_files (keeps node) made (last node) kept loading t

silent_files : (b : Bool) (made : ℕ → Entry → ℕ) (last : Shown) (k : Kept) (l : Option ℕ) (t : Talked) → by_files b made last k l t → by_files b made last k None t
silent_files true made last k l t is = is
silent_files false made last k l t is = record { life = is.life; links = is.links; own = is.own; shown = is.shown; loads = λ e. absurd (cc); again = is.again }

forgets_files : (b : Bool) (made : ℕ → Entry → ℕ) (last : Shown) (k : Kept) (l : Option ℕ) (t : Talked) → by_files b made last k l t → by_files b made last (record k { begun = None }) None t
forgets_files true made last k l t is = is
forgets_files false made last k l t is = record { life = is.life; links = is.links; own = is.own; shown = is.shown; loads = λ e. absurd (cc); again = λ e f. absurd (cc) }

loads_files : (b : Bool) (made : ℕ → Entry → ℕ) (last : Shown) (k : Kept) (e : ℕ) (t : Talked) → by_files b made last k (Some e) t → by_files b made last (record k { begun = Some e }) None t
loads_files true made last k e t is = is
loads_files false made last k e t is = record { life = is.life; links = is.links; own = is.own; shown = is.shown; loads = λ f. absurd (cc); again = λ f g. is.loads f }

lasts : (keeps : ℕ → Bool) (made : ℕ → Entry → ℕ) (last : ℕ → Shown) → Lasts (is_fair keeps made last)
lasts keeps made last =
    record {
      silent = λ i k l t is. silent_files (keeps i) made (last i) k l t is;
      forgets = λ i k l t is. forgets_files (keeps i) made (last i) k l t is;
      loads = λ i k e t is. loads_files (keeps i) made (last i) k e t is;
    }

-- a look of one that keeps its files
rules_kept : (keeps : ℕ → Bool) (made : ℕ → Entry → ℕ) (last : ℕ → Shown) (w : MemberWorld) (i : ℕ) (row : Row) (now : List Entry) → Holds by_party (is_fair keeps made last) w → keeps i ≡ true → Rules by_party (is_fair keeps made last) (is_fair keeps made last) w i row now
rules_kept keeps made last w i row now h keep =
    let kept = (w.member i).kept in
    let before : (t : Talked) → IsOneOf t w.talked → t.start.node ≡ i → IsOneOf t.party kept.history =
    λ t in_t e. subst (λ b. by_files b made (last i) kept (w.member i).loading t) keep (past_at by_party (is_fair keeps made last) w i t h in_t e) in
    let at : (k : Kept) (l : Option ℕ) (t : Talked) → IsOneOf t.party k.history → by_files (keeps i) made (last i) k l t = λ k l t is. subst (λ b. by_files b made (last i) k l t) (sym keep) is in
    let talking : Kept = record kept { party = Some now; history = kept.history ++ (now ∷ []) } in
    record {
      others = λ j k l t away is. is;
      stays = λ t in_t e. past_at by_party (is_fair keeps made last) w i t h in_t e;
      begins = λ t in_t e unconfirmed. at (record kept { party = None; begun = None }) (Some row.epoch) t (before t in_t e);
      settles = λ t in_t e. at (record kept { party = Some now }) (w.member i).loading t (before t in_t e);
      talks = λ t in_t e. at talking (w.member i).loading t (one_before t.party kept.history (now ∷ []) (before t in_t e));
      first = λ s node epoch confirmed none. at talking (w.member i).loading (record { start = s; party = now }) (one_more now kept.history (now ∷ []) (inl refl));
      new = λ s u node epoch party begun others unheard in_u. (
        λ same. absurd (unheard (subst (λ p. IsOneOf p kept.history) (sym same.1) (before u in_u (sym same.0 ∙ node)))),
        λ same. absurd (unheard (subst (λ p. IsOneOf p kept.history) same.1 (before u in_u (same.0 ∙ node)))),
      );
    }

-- the rules hold for a member that may lose its files
rules_over : (keeps : ℕ → Bool) (made : ℕ → Entry → ℕ) (last : ℕ → Shown) (w : MemberWorld) (i life : ℕ) (row : Row) (now : List Entry) → Holds by_party (is_fair keeps made last) w → keeps i ≡ false → IsLater (last i) life row → IsView made i life row.epoch now →
    Rules by_party (is_fair keeps made last) (is_fair keeps made (with_shown last i life row)) w i row now
rules_over keeps made last w i life row now h loses later view =
    let kept = (w.member i).kept in
    let loading = (w.member i).loading in
    let talking : Kept = record kept { party = Some now; history = kept.history ++ (now ∷ []) } in
    let shown = shown_of last i life row in
    let before : (t : Talked) → IsOneOf t w.talked → t.start.node ≡ i → IsOver made (last i) kept loading t = λ t in_t e. subst (λ b. by_files b made (last i) kept loading t) loses (past_at by_party (is_fair keeps made last) w i t h in_t e) in
    let at : (k : Kept) (l : Option ℕ) (t : Talked) → IsOver made (record { life = life; confirmed = row.confirmed }) k l t → by_files (keeps i) made (with_shown last i life row i) k l t =
    λ k l t is. subst (λ b. by_files b made (with_shown last i life row i) k l t) (sym loses) (subst (λ s. IsOver made s k l t) (sym shown) is) in
    record {
      others = λ j k l t away is. subst (λ s. by_files (keeps j) made s k l t) (sym (shown_of_others last i life row j away)) is;
      stays = λ t in_t e. at kept loading t (stays_over made (last i) life row kept loading t later (before t in_t e));
      begins = λ t in_t e unconfirmed. at (record kept { party = None; begun = None }) (Some row.epoch) t (begun_over made (last i) life row kept (record kept { party = None; begun = None }) loading t later (grind (arith, nat_tests, unconfirmed)) refl (before t in_t e));
      settles = λ t in_t e.
          let is = stays_over made (last i) life row kept loading t later (before t in_t e) in
          at (record kept { party = Some now }) loading t (record { life = is.life; links = is.links; own = is.own; shown = is.shown; loads = is.loads; again = λ e f. absurd (cc) });
      talks = λ t in_t e.
          let is = stays_over made (last i) life row kept loading t later (before t in_t e) in
          at talking loading t (record { life = is.life; links = is.links; own = is.own; shown = is.shown; loads = is.loads; again = λ e f. absurd (cc) });
      first = λ s node epoch confirmed none.
          at talking loading (record { start = s; party = now })
          (record {
            life = life;
            links = λ link in_now of_s. ap (λ n. made n link) node ∙ view.links link in_now (subst (λ n. IsLinkOf n link) node of_s);
            own = subst (λ n. IsOneOf (Node n s.epoch) now) (sym node) (subst (λ e. IsOneOf (Node i e) now) (sym epoch) view.own);
            shown = inr (refl, omega (arith, epoch, confirmed));
            loads = λ e. absurd (cc);
            again = λ e f. absurd (cc);
          });
      new = λ s u node epoch party begun others unheard in_u.
          let none : u.start.node ≡ i → now ≡ u.party → ⊥ =
          λ e f. none_again made (last i) i life row now kept loading u later view begun party others e f (before u in_u e) in (
            λ same. absurd (none (sym same.0 ∙ node) same.1),
            λ same. absurd (none (same.0 ∙ node) (sym same.1)),
          );
    }

abbrev rest_of : (ℕ → List (List Entry)) → ℕ → List (List Entry)
rest_of more k = more (suc k)

runs : (keeps : ℕ → Bool) (made : ℕ → Entry → ℕ) (last : ℕ → Shown) (more : ℕ → List (List Entry)) (w : MemberWorld) (events : List Event) → IsFair keeps made last events → Holds by_party (is_fair keeps made last) w → IsUnmixed (run_with more w events)
runs keeps made last more w [] fair h = unmixed (is_fair keeps made last) w h
runs keeps made last more w (Look i row now ∷ events) (inl fair) h =
    let past = is_fair keeps made last in
    runs keeps made last (rest_of more) (happens_with w (more 0) (Look i row now)) events fair.1
    (looks_with by_party past past w i row now (more 0) h (rules_kept keeps made last w i row now h fair.0))
runs keeps made last more w (Look i row now ∷ events) (inr fair) h =
    let life = fair.1 in
    let next = with_shown last i life row in
    runs keeps made next (rest_of more) (happens_with w (more 0) (Look i row now)) events fair.4
    (looks_with by_party (is_fair keeps made last) (is_fair keeps made next) w i row now (more 0) h (rules_over keeps made last w i life row now h fair.0 fair.2 fair.3))
runs keeps made last more w (Load i ∷ events) fair h = runs keeps made last (rest_of more) (happens w (Load i)) events fair (loads by_party (is_fair keeps made last) w i (w.member i).loading (lasts keeps made last) h refl)
runs keeps made last more w (Crash i ∷ events) fair h = runs keeps made last (rest_of more) (happens w (Crash i)) events fair (crashed by_party (is_fair keeps made last) w i (lasts keeps made last) h)
runs keeps made last more w (Forget i ∷ events) fair h = runs keeps made last (rest_of more) (happens w (Forget i)) events fair (forgets by_party (is_fair keeps made last) w i (lasts keeps made last) h)
runs keeps made last more w (Lose i ∷ events) fair h =
    let kept = (w.member i).kept in
    let loading = (w.member i).loading in
    runs keeps made last (rest_of more) (happens w (Lose i)) events fair.1
    (drops by_party (is_fair keeps made last) (is_fair keeps made last) w i new_kept None h refl (λ e f. absurd (cc)) (λ j k l t away is. is)
    (λ t in_t e.
    let is : IsOver made (last i) kept loading t = subst (λ b. by_files b made (last i) kept loading t) fair.0 (past_at by_party (is_fair keeps made last) w i t h in_t e) in
    subst (λ b. by_files b made (last i) new_kept None t) (sym fair.0) (record { life = is.life; links = is.links; own = is.own; shown = is.shown; loads = λ e. absurd (cc); again = λ e f. absurd (cc) })))
runs keeps made last more w (Send i ∷ events) fair h = runs keeps made last (rest_of more) (happens w (Send i)) events fair (sent by_party (is_fair keeps made last) w i (w.member i).tag h refl)
runs keeps made last more w (Hear i k ∷ events) fair h = runs keeps made last (rest_of more) (happens w (Hear i k)) events fair (hears by_party (is_fair keeps made last) w i (slice_get w.messages k) h (λ m e. got w.messages k m e))

pub no_mix_with_more : NoMixWithMore
no_mix_with_more keeps made more events fair = runs keeps made nothing_shown more new_world events fair (nothing_yet by_party (is_fair keeps made nothing_shown))

-- ---- at most those that they talked with

same_event : (w : MemberWorld) (event : Event) → happens_with w [] event ≡ happens w event
same_event w (Look i row now) = refl
same_event w (Load i) = refl
same_event w (Crash i) = refl
same_event w (Forget i) = refl
same_event w (Lose i) = refl
same_event w (Send i) = refl
same_event w (Hear i k) = refl

same_run : (w : MemberWorld) (events : List Event) → run_with (λ k. []) w events ≡ run w events
same_run w [] = refl
same_run w (event ∷ events) = ap (λ v. run_with (λ k. []) v events) (same_event w event) ∙ same_run (happens w event) events

pub no_mix_fair : NoMixFair
no_mix_fair keeps made events fair = subst IsUnmixed (same_run new_world events) (no_mix_with_more keeps made (λ k. []) events fair)

-- ---- all keep them, or all may lose them

all_keep : (made : ℕ → Entry → ℕ) (last : ℕ → Shown) (events : List Event) → AllByRecursion KeepsFiles events → IsFair (λ i. true) made last events
all_keep made last [] keep = tt
all_keep made last (Look i row now ∷ events) keep = inl (refl, all_keep made last events keep.1)
all_keep made last (Load i ∷ events) keep = all_keep made last events keep.1
all_keep made last (Crash i ∷ events) keep = all_keep made last events keep.1
all_keep made last (Forget i ∷ events) keep = all_keep made last events keep.1
all_keep made last (Lose i ∷ events) keep = absurd keep.0
all_keep made last (Send i ∷ events) keep = all_keep made last events keep.1
all_keep made last (Hear i k ∷ events) keep = all_keep made last events keep.1

pub no_mix : NoMix
no_mix events keep = no_mix_fair (λ i. true) (λ n link. 0) events (all_keep (λ n link. 0) nothing_shown events keep)

none_keeps : (made : ℕ → Entry → ℕ) (last : ℕ → Shown) (events : List Event) → IsHonest made last events → IsFair (λ i. false) made last events
none_keeps made last [] honest = tt
none_keeps made last (Look i row now ∷ events) honest = inr (refl, honest.0, honest.1, honest.2, none_keeps made (with_shown last i honest.0 row) events honest.3)
none_keeps made last (Load i ∷ events) honest = none_keeps made last events honest
none_keeps made last (Crash i ∷ events) honest = none_keeps made last events honest
none_keeps made last (Forget i ∷ events) honest = none_keeps made last events honest
none_keeps made last (Lose i ∷ events) honest = (refl, none_keeps made last events honest)
none_keeps made last (Send i ∷ events) honest = none_keeps made last events honest
none_keeps made last (Hear i k ∷ events) honest = none_keeps made last events honest

pub no_mix_honest : NoMixHonest
no_mix_honest made events honest = no_mix_fair (λ i. false) made events (none_keeps made nothing_shown events honest)
