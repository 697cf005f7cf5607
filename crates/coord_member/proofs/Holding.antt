-- The invariant of all events of members, whatever rules out that two starts are taken for one.
use Rattle.std.proofs.Common.{◌≡◌, ◌≢◌, ℕ, zero, suc, ◌+◌, ◌<◌, ◌≤◌, ◌==◌, ◌&&◌, not, nat_lt, Bool, true, false, List, [], ◌∷◌, ◌++◌, Option, Some, None, refl, sym, ap, subst, ◌∙◌, arith, ◌⊎◌, inl, inr, if◌then◌else◌, unwrap_or, slice_get}
use Rattle.std.specs.List.{AllByRecursion}
use Rattle.std.proofs.lemmas.Bool.Decides.{nat_tests}
use Rattle.coord_member.specs.declared.view.Entry.{Entry}
use Rattle.coord_member.specs.declared.view.Entry.TheVariants.{Node, Link}
use Rattle.coord_member.specs.declared.view.Row.{Row}
use Rattle.coord_member.specs.declared.rule.Due.{Due}
use Rattle.coord_member.specs.declared.rule.Due.TheVariants.{Talk, Wait, Begin, Reset}
use Rattle.coord_member.specs.Rule.{Kept, new_kept, is_at, is_begun, admits, due, kept_for, history_with, begun_with, is_alone, run_of, without_work, same_entry, same_party, was_before}
use Rattle.coord_member.specs.Members.{Start, Member, Message, Talked, MemberWorld, idle, new_world, with_member, talked_by, member_for, looked, loaded, message_of, is_of_run, heard}
use Rattle.coord_member.specs.NoMix.{IsOneOf}

-- ---- lists

pub one_more : {A : Type 0} (x : A) (xs ys : List A) → IsOneOf x ys → IsOneOf x (xs ++ ys)
one_more x [] ys h = h
one_more x (a ∷ xs) ys h = inr (one_more x xs ys h)

pub one_of_both : {A : Type 0} (x : A) (xs ys : List A) → IsOneOf x (xs ++ ys) → IsOneOf x xs ⊎ IsOneOf x ys
one_of_both x [] ys h = inr h
one_of_both x (a ∷ xs) ys (inl e) = inl (inl e)
one_of_both x (a ∷ xs) ys (inr h) = elim (one_of_both x xs ys h) [ inl k ↦ inl (inr k) | inr k ↦ inr k ]

pub one_of_more : {A : Type 0} (x y : A) (ys : List A) → IsOneOf y ys → IsOneOf x (y ∷ ys) → IsOneOf x ys
one_of_more x y ys h (inl e) = subst (λ z. IsOneOf z ys) (sym e) h
one_of_more x y ys h (inr k) = k

pub all_of : {A : Type 0} (P : A → Type 0) (xs : List A) → ((x : A) → IsOneOf x xs → P x) → AllByRecursion P xs
all_of P [] f = tt
all_of P (x ∷ xs) f = (f x (inl refl), all_of P xs (λ y h. f y (inr h)))

pub got : {A : Type 0} (xs : List A) (k : ℕ) (x : A) → slice_get xs k ≡ Some x → IsOneOf x xs
got [] k x e = absurd (cc)
got (y ∷ ys) zero x e = inl (cc)
got (y ∷ ys) (suc k) x e = inr (got ys k x e)

same_entries : (x y : Entry) → same_entry x y ≡ true → x ≡ y
same_entries (Node n e) (Node m f) h = let a : n ≡ m = grind (arith, nat_tests) in let b : e ≡ f = grind (arith, nat_tests) in cc
same_entries (Link a b i) (Link c d j) h =
    let x : a ≡ c = grind (arith, nat_tests) in let y : b ≡ d = grind (arith, nat_tests) in let z : i ≡ j = grind (arith, nat_tests) in cc
same_entries (Node n e) (Link c d j) h = absurd (cc)
same_entries (Link a b i) (Node m f) h = absurd (cc)

pub same_parties : (xs ys : List Entry) → same_party xs ys ≡ true → xs ≡ ys
same_parties [] [] h = refl
same_parties [] (y ∷ ys) h = absurd (cc)
same_parties (x ∷ xs) [] h = absurd (cc)
same_parties (x ∷ xs) (y ∷ ys) h =
    let first : same_entry x y ≡ true = grind arith in
    let rest : same_party xs ys ≡ true = grind arith in
    let a = same_entries x y first in
    let b = same_parties xs ys rest in
    cc

same_entry_itself : (x : Entry) → same_entry x x ≡ true
same_entry_itself (Node n e) = grind (arith, nat_tests)
same_entry_itself (Link a b i) = grind (arith, nat_tests)

pub same_party_itself : (xs : List Entry) → same_party xs xs ≡ true
same_party_itself [] = refl
same_party_itself (x ∷ xs) = let a = same_entry_itself x in let b = same_party_itself xs in grind (arith, a, b)

-- each element of the history is found there
pub found : (now : List Entry) (history : List (List Entry)) → IsOneOf now history → was_before now history ≡ true
found now [] h = absurd h
found now (p ∷ ps) (inl e) = let a : same_party now p ≡ true = subst (λ q. same_party now q ≡ true) e (same_party_itself now) in grind (arith, a)
found now (p ∷ ps) (inr h) = let a = found now ps h in grind (arith, a)

pub one_before : {A : Type 0} (x : A) (xs ys : List A) → IsOneOf x xs → IsOneOf x (xs ++ ys)
one_before x [] ys h = absurd h
one_before x (a ∷ xs) ys (inl e) = inl e
one_before x (a ∷ xs) ys (inr h) = inr (one_before x xs ys h)

-- ---- what holds

-- the invariant of a member, if these have talked, and the next start has this number
pub record IsMember (talked : List Talked) (serial i : ℕ) (m : Member) : Type 0 where
  pub works : (s : Start) → m.work ≡ Some s → (s.node ≡ i) × (m.kept.begun ≡ Some s.epoch) × (s.serial < serial)
  pub begun : (e : ℕ) → m.kept.begun ≡ Some e → (s : Start) × (m.work ≡ Some s)
  pub loads : (e : ℕ) → m.loading ≡ Some e → (m.kept.begun ≡ None) × (m.kept.party ≡ None)
  pub named : (p : List Entry) → m.tag ≡ Some p → run_of m.kept.party ≡ Some p
  pub own : (p : List Entry) (s : Start) → run_of m.kept.party ≡ Some p → m.work ≡ Some s → IsOneOf (record { start = s; party = p }) talked
  pub causal_past : (p : List Entry) (s : Start) → run_of m.kept.party ≡ Some p → IsOneOf s m.causal_past → IsOneOf (record { start = s; party = p }) talked
  pub alone : (s : Start) → run_of m.kept.party ≡ None → IsOneOf s m.causal_past → m.work ≡ Some s
  pub fresh : (s : Start) (t : Talked) → run_of m.kept.party ≡ None → m.work ≡ Some s → IsOneOf t talked → t.start ≡ s → ⊥

-- the reason why, for a start that talked, its node (which keeps this, and loads for this epoch) does not go on as
-- another one that is taken for it
abbrev pub Past : Type 1
Past = (node : ℕ) → Kept → Option ℕ → Talked → Type 0

-- which starts that talked might be taken for one another, and the invariant of these
pub record Claim : Type 1 where
  pub same : Talked → Talked → Type 0
  pub alike : Talked → Talked → Type 0
  pub itself : (t : Talked) → alike t t

pub record Holds (c : Claim) (past : Past) (w : MemberWorld) : Type 0 where
  pub members : (i : ℕ) → IsMember w.talked w.serial i (w.member i)
  pub ruled : (t : Talked) → IsOneOf t w.talked → past t.start.node (w.member t.start.node).kept (w.member t.start.node).loading t
  pub serials : (t : Talked) → IsOneOf t w.talked → t.start.serial < w.serial
  pub messages : (m : Message) (s : Start) → IsOneOf m w.messages → IsOneOf s m.causal_past → IsOneOf (record { start = s; party = m.tag }) w.talked
  pub runs : (t u : Talked) → IsOneOf t w.talked → IsOneOf u w.talked → t.start ≡ u.start → t ≡ u
  pub starts : (t u : Talked) → IsOneOf t w.talked → IsOneOf u w.talked → c.same t u → c.alike t u

-- the actions of a member besides its looks leave everything ruled out
pub record Lasts (past : Past) : Type 0 where
  pub silent : (i : ℕ) (k : Kept) (l : Option ℕ) (t : Talked) → past i k l t → past i k None t
  pub forgets : (i : ℕ) (k : Kept) (l : Option ℕ) (t : Talked) → past i k l t → past i (without_work k) None t
  pub loads : (i : ℕ) (k : Kept) (e : ℕ) (t : Talked) → past i k (Some e) t → past i (begun_with k e) None t

-- what rules it out stays, for other nodes
abbrev pub StaysFor : (Past → Past → ℕ → Type 0)
StaysFor past later i = (j : ℕ) (k : Kept) (l : Option ℕ) (t : Talked) → (j ≡ i → ⊥) → past j k l t → later j k l t

-- ---- one member changes

-- member j, where member i becomes m
at_member : (P : Member → Type 0) (w : MemberWorld) (i j : ℕ) (m : Member) → (j ≡ i → P m) → (j ≢ i → P (w.member j)) → P (if j == i then m else w.member j)
at_member P w i j m same other =
    elim (j == i) as (λ b. ((j == i) ≡ b) → P (if b then m else w.member j)) [
      | true ↦ λ e. same (grind (arith, nat_tests))
      | false ↦ λ e. other (grind (arith, nat_tests))
    ] refl

-- what stays true of a member as more talk, other starts than its own new one
pub member_stays : (more talked : List Talked) (serial next i : ℕ) (m : Member) → serial ≤ next → ((s : Start) (t : Talked) → run_of m.kept.party ≡ None → m.work ≡ Some s → IsOneOf t more → t.start ≡ s → ⊥) → IsMember talked serial i m → IsMember (more ++ talked) next i m
member_stays more talked serial next i m le others is =
    record {
      works = λ s e. let known = is.works s e in (known.0, known.1, let less = known.2 in omega (arith, less, le));
      begun = is.begun;
      loads = is.loads;
      named = is.named;
      alone = is.alone;
      own = λ p s e f. one_more _ more talked (is.own p s e f);
      causal_past = λ p s e f. one_more _ more talked (is.causal_past p s e f);
      fresh = λ s t e f in_t same. elim (one_of_both t more talked in_t) [ inl k ↦ others s t e f k same | inr k ↦ is.fresh s t e f k same ];
    }

-- of some that talked first, all are of node i, and no other is taken for them
pub record IsNewOf (c : Claim) (w : MemberWorld) (i : ℕ) (more : List Talked) : Type 0 where
  pub node : (t : Talked) → IsOneOf t more → t.start.node ≡ i
  pub serial : (t : Talked) → IsOneOf t more → t.start.serial < w.serial
  pub one : (t u : Talked) → IsOneOf t more → IsOneOf u more → t ≡ u
  pub unlike : (t u : Talked) → IsOneOf t more → IsOneOf u w.talked → t.start ≡ u.start → ⊥
  pub new : (t u : Talked) → IsOneOf t more → IsOneOf u w.talked → c.same t u → c.alike t u
  pub old : (t u : Talked) → IsOneOf t w.talked → IsOneOf u more → c.same t u → c.alike t u

pub nobody_new : (c : Claim) (w : MemberWorld) (i : ℕ) → IsNewOf c w i []
nobody_new c w i = record { node = λ t f. absurd f; serial = λ t f. absurd f; one = λ t u f. absurd f; unlike = λ t u f. absurd f; new = λ t u f. absurd f; old = λ t u e f. absurd f }

pub replaced : (c : Claim) (past later : Past) (w : MemberWorld) (i : ℕ) (m : Member) (more : List Talked) → Holds c past w → IsMember (more ++ w.talked) w.serial i m → IsNewOf c w i more → StaysFor past later i →
    ((t : Talked) → IsOneOf t (more ++ w.talked) → t.start.node ≡ i → later i m.kept m.loading t) → Holds c later (with_member (record w { talked = more ++ w.talked }) i m)
replaced c past later w i m more h is new stays over =
    record {
      members = λ j.
          at_member (IsMember (more ++ w.talked) w.serial j) w i j m
          (λ e. subst (λ k. IsMember (more ++ w.talked) w.serial k m) (sym e) is)
          (λ away. member_stays more w.talked w.serial w.serial j (w.member j) (omega arith)
          (λ s t e f in_t same. away (sym ((h.members j).works s f).0 ∙ sym (ap (λ (s : Start). s.node) same) ∙ new.node t in_t))
          (h.members j));
      ruled = λ t in_t.
          at_member (λ n. later t.start.node n.kept n.loading t) w i t.start.node m
          (λ e. subst (λ n. later n m.kept m.loading t) (sym e) (over t in_t e))
          (λ away. elim (one_of_both t more w.talked in_t) [
            | inl k ↦ absurd (away (new.node t k))
            | inr k ↦ stays t.start.node (w.member t.start.node).kept (w.member t.start.node).loading t away (h.ruled t k)
          ]);
      serials = λ t in_t. elim (one_of_both t more w.talked in_t) [ inl k ↦ new.serial t k | inr k ↦ h.serials t k ];
      messages = λ n s in_n in_s. one_more _ more w.talked (h.messages n s in_n in_s);
      runs = λ t u in_t in_u e.
          elim (one_of_both t more w.talked in_t) [
            | inl k ↦ elim (one_of_both u more w.talked in_u) [ inl l ↦ new.one t u k l | inr l ↦ absurd (new.unlike t u k l e) ]
            | inr k ↦ elim (one_of_both u more w.talked in_u) [ inl l ↦ absurd (new.unlike u t l k (sym e)) | inr l ↦ h.runs t u k l e ]
          ];
      starts = λ t u in_t in_u e.
          elim (one_of_both t more w.talked in_t) [
            | inl k ↦ elim (one_of_both u more w.talked in_u) [ inl l ↦ subst (λ u. c.alike t u) (new.one t u k l) (c.itself t) | inr l ↦ new.new t u k l e ]
            | inr k ↦ elim (one_of_both u more w.talked in_u) [ inl l ↦ new.old t u k l e | inr l ↦ h.starts t u k l e ]
          ];
    }

-- at node i
pub past_at : (c : Claim) (past : Past) (w : MemberWorld) (i : ℕ) (t : Talked) → Holds c past w → IsOneOf t w.talked → t.start.node ≡ i → past i (w.member i).kept (w.member i).loading t
past_at c past w i t h in_t e = subst (λ n. past n (w.member n).kept (w.member n).loading t) e (h.ruled t in_t)

pub same_kept : (c : Claim) (past : Past) (w : MemberWorld) (i : ℕ) (m : Member) → Holds c past w → IsMember w.talked w.serial i m → m.kept ≡ (w.member i).kept → m.loading ≡ (w.member i).loading → Holds c past (with_member w i m)
same_kept c past w i m h is same loading =
    replaced c past past w i m [] h is (nobody_new c w i) (λ j k l t away is. is)
    (λ t in_t e. subst (λ l. past i m.kept l t) (sym loading) (subst (λ (k : Kept). past i k (w.member i).loading t) (sym same) (past_at c past w i t h in_t e)))

-- ---- a member falls silent, or reports what it has heard

pub crashed : (c : Claim) (past : Past) (w : MemberWorld) (i : ℕ) → Lasts past → Holds c past w → Holds c past (with_member w i (record (w.member i) { tag = None; loading = None }))
crashed c past w i lasts h =
    let is = h.members i in
    replaced c past past w i (record (w.member i) { tag = None; loading = None }) [] h
    (record { works = is.works; begun = is.begun; loads = λ e f. absurd (cc); named = λ p e. absurd (cc); own = is.own; causal_past = is.causal_past; alone = is.alone; fresh = is.fresh })
    (nobody_new c w i) (λ j k l t away is. is)
    (λ t in_t e. lasts.silent i (w.member i).kept (w.member i).loading t (past_at c past w i t h in_t e))

pub silent : (c : Claim) (past : Past) (w : MemberWorld) (i : ℕ) → Holds c past w → Holds c past (with_member w i (record (w.member i) { tag = None }))
silent c past w i h =
    let is = h.members i in
    same_kept c past w i (record (w.member i) { tag = None }) h
    (record { works = is.works; begun = is.begun; loads = is.loads; named = λ p e. absurd (cc); own = is.own; causal_past = is.causal_past; alone = is.alone; fresh = is.fresh }) refl refl

pub sent : (c : Claim) (past : Past) (w : MemberWorld) (i : ℕ) (tag : Option (List Entry)) → Holds c past w → (w.member i).tag ≡ tag → Holds c past (record w { messages = message_of tag (w.member i).causal_past ++ w.messages })
sent c past w i None h e = record { members = h.members; ruled = h.ruled; serials = h.serials; messages = h.messages; runs = h.runs; starts = h.starts }
sent c past w i (Some p) h e =
    record {
      members = h.members;
      ruled = h.ruled;
      serials = h.serials;
      runs = h.runs;
      starts = h.starts;
      messages = λ m s in_m in_s. sent_or_not m s in_m in_s;
    }
  where
    sent_or_not : (m : Message) (s : Start) → IsOneOf m (message_of (Some p) (w.member i).causal_past ++ w.messages) → IsOneOf s m.causal_past → IsOneOf (record { start = s; party = m.tag }) w.talked
    sent_or_not m s (inl same) in_s =
        let in_causal_past : IsOneOf s (w.member i).causal_past = subst (λ (n : Message). IsOneOf s n.causal_past) same in_s in
        let talked = (h.members i).causal_past p s ((h.members i).named p e) in_causal_past in
        subst (λ (n : Message). IsOneOf (record { start = s; party = n.tag }) w.talked) (sym same) talked
    sent_or_not m s (inr in_m) in_s = h.messages m s in_m in_s

-- ---- a message is heard

of_run : (own : Option (List Entry)) (tag : List Entry) → is_of_run own tag ≡ true → own ≡ Some tag
of_run None tag e = absurd (cc)
of_run (Some own) tag e = ap Some (same_parties own tag e)

-- a causal past grows by one of the same run
hearing : (c : Claim) (past : Past) (w : MemberWorld) (i : ℕ) (message : Message) → Holds c past w → IsOneOf message w.messages → (w.member i).tag ≡ Some message.tag → IsMember w.talked w.serial i (record (w.member i) { causal_past = message.causal_past ++ (w.member i).causal_past })
hearing c past w i message h in_m e =
    let is = h.members i in
    let party : run_of (w.member i).kept.party ≡ Some message.tag = is.named message.tag e in
    record {
      works = is.works;
      begun = is.begun;
      loads = is.loads;
      named = is.named;
      own = is.own;
      fresh = is.fresh;
      causal_past = λ p s f in_s.
          elim (one_of_both s message.causal_past (w.member i).causal_past in_s) [
            | inl k ↦ let same : message.tag ≡ p = cc in subst (λ q. IsOneOf (record { start = s; party = q }) w.talked) same (h.messages message s in_m k)
            | inr k ↦ is.causal_past p s f k
          ];
      alone = λ s f in_s. absurd (cc);
    }

pub hears : (c : Claim) (past : Past) (w : MemberWorld) (i : ℕ) (e : Option Message) → Holds c past w → ((m : Message) → e ≡ Some m → IsOneOf m w.messages) → Holds c past (with_member w i (heard (w.member i) e))
hears c past w i None h in_w = same_kept c past w i (w.member i) h (h.members i) refl refl
hears c past w i (Some message) h in_w =
    elim (is_of_run (w.member i).tag message.tag) as
    (λ b. (is_of_run (w.member i).tag message.tag ≡ b) → Holds c past (with_member w i (if b then record (w.member i) { causal_past = message.causal_past ++ (w.member i).causal_past } else (w.member i)))) [
      | true ↦ λ e. same_kept c past w i (record (w.member i) { causal_past = message.causal_past ++ (w.member i).causal_past }) h (hearing c past w i message h (in_w message refl) (of_run (w.member i).tag message.tag e)) refl refl
      | false ↦ λ e. same_kept c past w i (w.member i) h (h.members i) refl refl
    ] refl

-- ---- the common start is loaded

-- a start has had the last number
next_serial : (c : Claim) (past : Past) (w : MemberWorld) → Holds c past w → Holds c past (record w { serial = w.serial + 1 })
next_serial c past w h =
    record {
      members = λ i. member_stays [] w.talked w.serial (w.serial + 1) i (w.member i) (omega arith) (λ s t e f none same. none) (h.members i);
      ruled = h.ruled;
      serials = λ t in_t. let less = h.serials t in_t in omega (arith, less);
      messages = h.messages;
      runs = h.runs;
      starts = h.starts;
    }

pub loads : (c : Claim) (past : Past) (w : MemberWorld) (i : ℕ) (e : Option ℕ) → Lasts past → Holds c past w → (w.member i).loading ≡ e → Holds c past (loaded w i e)
loads c past w i None lasts h e = h
loads c past w i (Some epoch) lasts h e =
    let kept = (w.member i).kept in
    let known = (h.members i).loads epoch e in
    let start : Start = record { node = i; epoch = epoch; serial = w.serial } in
    let m : Member = record { kept = begun_with kept epoch; tag = None; loading = None; work = Some start; causal_past = start ∷ [] } in
    let is : IsMember w.talked (w.serial + 1) i m =
    record {
      works = λ s f. let same : start ≡ s = cc in subst (λ (s : Start). (s.node ≡ i) × (Some epoch ≡ Some s.epoch) × (s.serial < w.serial + 1)) same (refl, refl, omega arith);
      begun = λ n f. (start, refl);
      loads = λ n f. absurd (cc);
      named = λ p f. absurd (cc);
      own = λ p s f g. absurd (let none = ap run_of known.1 in cc);
      causal_past = λ p s f g. absurd (let none = ap run_of known.1 in cc);
      alone = λ s f in_s. elim in_s [ inl same ↦ ap Some (sym same) | inr none ↦ absurd none ];
      fresh = λ s t f g in_t same.
          let less = h.serials t in_t in
          let new : start ≡ s = cc in
          let at : t.start.serial ≡ w.serial = ap (λ (s : Start). s.serial) (same ∙ sym new) in
          absurd (omega (arith, less, at));
    } in
    let next : MemberWorld = record w { serial = w.serial + 1 } in
    replaced c past past next i m [] (next_serial c past w h) is (nobody_new c next i) (λ j k l t away is. is)
    (λ t in_t f. lasts.loads i kept epoch t (subst (λ l. past i kept l t) e (past_at c past w i t h in_t f)))

-- ---- a look

begins : (a b c q : Bool) → (if a then Begin else (if b then Wait else (if c then Talk else (if q then Reset else Wait)))) ≡ Begin → a ≡ true
begins true b c q e = refl
begins false true c q e = absurd (cc)
begins false false true q e = absurd (cc)
begins false false false true e = absurd (cc)
begins false false false false e = absurd (cc)

talks : (a b c q : Bool) → (if a then Begin else (if b then Wait else (if c then Talk else (if q then Reset else Wait)))) ≡ Talk → c ≡ true
talks true b c q e = absurd (cc)
talks false true c q e = absurd (cc)
talks false false true q e = refl
talks false false false true e = absurd (cc)
talks false false false false e = absurd (cc)

both : (a b : Bool) → (a && b) ≡ true → (a ≡ true) × (b ≡ true)
both true b e = (refl, e)
both false b e = absurd (cc)

at_epoch : (epoch : ℕ) (o : Option ℕ) → is_at epoch o ≡ true → o ≡ Some epoch
at_epoch epoch None e = absurd (cc)
at_epoch epoch (Some n) e = let same : n ≡ epoch = grind (arith, nat_tests) in ap Some same

not_true : (b : Bool) → not b ≡ true → b ≡ true → ⊥
not_true true e f = absurd (cc)
not_true false e f = absurd (cc)

-- a member that has nothing in hand
idle_is : (talked : List Talked) (serial i : ℕ) (kept : Kept) (loading : Option ℕ) → kept.begun ≡ None → ((e : ℕ) → loading ≡ Some e → kept.party ≡ None) →
    IsMember talked serial i (record { kept = kept; tag = None; loading = loading; work = None; causal_past = [] })
idle_is talked serial i kept loading none party =
    record { works = λ s e. absurd (cc); begun = λ n e. absurd (cc); loads = λ e f. (none, party e f); named = λ p e. absurd (cc); own = λ p s e f. absurd (cc); causal_past = λ p s e f. absurd f; alone = λ s e f. absurd f; fresh = λ s t e f. absurd (cc) }

-- a member has nothing in hand any more, and keeps this
pub drops : (c : Claim) (past later : Past) (w : MemberWorld) (i : ℕ) (kept : Kept) (loading : Option ℕ) → Holds c past w → kept.begun ≡ None → ((e : ℕ) → loading ≡ Some e → kept.party ≡ None) → StaysFor past later i →
    ((t : Talked) → IsOneOf t w.talked → t.start.node ≡ i → later i kept loading t) →
    Holds c later (with_member w i (record { kept = kept; tag = None; loading = loading; work = None; causal_past = [] }))
drops c past later w i kept loading h none party stays over =
    replaced c past later w i (record { kept = kept; tag = None; loading = loading; work = None; causal_past = [] }) [] h (idle_is w.talked w.serial i kept loading none party) (nobody_new c w i) stays over

-- a member loses its work, and nothing else
pub forgets : (c : Claim) (past : Past) (w : MemberWorld) (i : ℕ) → Lasts past → Holds c past w → Holds c past (with_member w i (idle (without_work (w.member i).kept)))
forgets c past w i lasts h =
    drops c past past w i (without_work (w.member i).kept) None h refl (λ e f. absurd (cc)) (λ j k l t away is. is)
    (λ t in_t e. lasts.forgets i (w.member i).kept (w.member i).loading t (past_at c past w i t h in_t e))

-- the requirements on the rules: for node i, to which these have been shown
pub record Rules (c : Claim) (past later : Past) (w : MemberWorld) (i : ℕ) (row : Row) (now : List Entry) : Type 0 where
  pub others : StaysFor past later i
  pub stays : (t : Talked) → IsOneOf t w.talked → t.start.node ≡ i → later i (w.member i).kept (w.member i).loading t
  -- a claim on a start stays true as the member begins
  pub begins : (t : Talked) → IsOneOf t w.talked → t.start.node ≡ i → nat_lt row.confirmed row.epoch ≡ true → later i (record (w.member i).kept { party = None; begun = None }) (Some row.epoch) t
  -- a claim on a start stays true as the member talks for the first time, alone
  pub settles : (t : Talked) → IsOneOf t w.talked → t.start.node ≡ i → later i (record (w.member i).kept { party = Some now }) (w.member i).loading t
  -- a claim on a start stays true as the member talks for the first time, with others
  pub talks : (t : Talked) → IsOneOf t w.talked → t.start.node ≡ i → later i (record (w.member i).kept { party = Some now; history = (w.member i).kept.history ++ (now ∷ []) }) (w.member i).loading t
  pub first : (s : Start) → s.node ≡ i → s.epoch ≡ row.epoch → row.epoch ≡ row.confirmed → (w.member i).loading ≡ None →
      later i (record (w.member i).kept { party = Some now; history = (w.member i).kept.history ++ (now ∷ []) }) (w.member i).loading (record { start = s; party = now })
  pub new : (s : Start) (u : Talked) → s.node ≡ i → s.epoch ≡ row.epoch → (w.member i).kept.party ≡ None → (w.member i).kept.begun ≡ Some row.epoch → is_alone now ≡ false → (IsOneOf now (w.member i).kept.history → ⊥) → IsOneOf u w.talked →
      (c.same (record { start = s; party = now }) u → c.alike (record { start = s; party = now }) u) × (c.same u (record { start = s; party = now }) → c.alike u (record { start = s; party = now }))

again : (c : Claim) (past : Past) (w : MemberWorld) (t : Talked) → Holds c past w → IsOneOf t w.talked → Holds c past (record w { talked = t ∷ w.talked })
again c past w t h in_t =
    record {
      members = λ i. member_stays (t ∷ []) w.talked w.serial w.serial i (w.member i) (omega arith)
          (λ s u e f in_u same. elim in_u [
            | inl k ↦ (h.members i).fresh s t e f in_t (subst (λ (u : Talked). u.start ≡ s) k same)
            | inr none ↦ none
          ])
          (h.members i);
      ruled = λ u in_u. h.ruled u (one_of_more u t w.talked in_t in_u);
      serials = λ u in_u. h.serials u (one_of_more u t w.talked in_t in_u);
      messages = λ m s in_m in_s. inr (h.messages m s in_m in_s);
      runs = λ u v in_u in_v e. h.runs u v (one_of_more u t w.talked in_t in_u) (one_of_more v t w.talked in_t in_v) e;
      starts = λ u v in_u in_v e. h.starts u v (one_of_more u t w.talked in_t in_u) (one_of_more v t w.talked in_t in_v) e;
    }

-- the stored values are unchanged, but the shown view may change
shown_more : (c : Claim) (past later : Past) (w : MemberWorld) (i : ℕ) (row : Row) (now : List Entry) → Holds c past w → Rules c past later w i row now → Holds c later w
shown_more c past later w i row now h rules =
    record {
      members = h.members;
      serials = h.serials;
      messages = h.messages;
      runs = h.runs;
      starts = h.starts;
      ruled = λ t in_t.
          elim (t.start.node == i) as (λ b. ((t.start.node == i) ≡ b) → later t.start.node (w.member t.start.node).kept (w.member t.start.node).loading t) [
            | true ↦ λ e. let same : t.start.node ≡ i = grind (arith, nat_tests) in subst (λ n. later n (w.member n).kept (w.member n).loading t) (sym same) (rules.stays t in_t same)
            | false ↦ λ e. rules.others t.start.node (w.member t.start.node).kept (w.member t.start.node).loading t (grind (arith, nat_tests)) (h.ruled t in_t)
          ] refl;
    }

not_loading : (o : Option ℕ) → ((e : ℕ) → o ≡ Some e → ⊥) → o ≡ None
not_loading None none = refl
not_loading (Some e) none = absurd (none e refl)

run_with_others : (p : List Entry) → is_alone p ≡ false → run_of (Some p) ≡ Some p
run_with_others p e = ap (λ b. if b then None else Some p) e

run_alone : (p : List Entry) → is_alone p ≡ true → run_of (Some p) ≡ None
run_alone p e = ap (λ b. if b then None else Some p) e

-- a start that works for the first time, alone
settles : (c : Claim) (past later : Past) (w : MemberWorld) (i : ℕ) (row : Row) (now : List Entry) → Holds c past w → Rules c past later w i row now → (w.member i).kept.party ≡ None → (w.member i).kept.begun ≡ Some row.epoch → is_alone now ≡ true →
    Holds c later (with_member w i (record (w.member i) { kept = record (w.member i).kept { party = Some now }; tag = None }))
settles c past later w i row now h rules party begun alone =
    let is = h.members i in
    let run = run_alone now alone in
    let before : run_of (w.member i).kept.party ≡ None = ap run_of party in
    replaced c past later w i (record (w.member i) { kept = record (w.member i).kept { party = Some now }; tag = None }) [] h
    (record {
      works = is.works;
      begun = is.begun;
      loads = λ e f. let none = (is.loads e f).0 in absurd (cc);
      named = λ p e. absurd (cc);
      own = λ p s e f. absurd (cc);
      causal_past = λ p s e in_s. absurd (cc);
      alone = λ s e in_s. is.alone s before in_s;
      fresh = λ s u e f in_u same. is.fresh s u before f in_u same;
    })
    (nobody_new c w i) rules.others rules.settles

-- a start that was alone at first works on
alone_still : (c : Claim) (past : Past) (w : MemberWorld) (i : ℕ) (q : List Entry) → Holds c past w → (w.member i).kept.party ≡ Some q → is_alone q ≡ true →
    Holds c past (with_member w i (record (w.member i) { kept = record (w.member i).kept { party = Some q }; tag = None }))
alone_still c past w i q h party alone =
    let is = h.members i in
    let run = run_alone q alone in
    let before : run_of (w.member i).kept.party ≡ None = ap run_of party ∙ run in
    same_kept c past w i (record (w.member i) { kept = record (w.member i).kept { party = Some q }; tag = None }) h
    (record {
      works = is.works;
      begun = is.begun;
      loads = λ e f. let none = (is.loads e f).1 in absurd (cc);
      named = λ p e. absurd (cc);
      own = λ p s e f. absurd (cc);
      causal_past = λ p s e in_s. absurd (cc);
      alone = λ s e in_s. is.alone s before in_s;
      fresh = λ s u e f in_u same. is.fresh s u before f in_u same;
    })
    (ap (λ q. record (w.member i).kept { party = q }) (sym party)) refl

-- a start that talks for the first time, with those that are shown
first_talk : (c : Claim) (past later : Past) (w : MemberWorld) (i : ℕ) (row : Row) (s : Start) (now : List Entry) → Holds c past w → Rules c past later w i row now → (w.member i).work ≡ Some s → (w.member i).kept.party ≡ None →
    (w.member i).kept.begun ≡ Some row.epoch → is_alone now ≡ false → (IsOneOf now (w.member i).kept.history → ⊥) → s.epoch ≡ row.epoch → row.epoch ≡ row.confirmed →
    Holds c later (with_member (record w { talked = record { start = s; party = now } ∷ w.talked }) i
    (record (w.member i) { kept = record (w.member i).kept { party = Some now; history = (w.member i).kept.history ++ (now ∷ []) }; tag = Some now }))
first_talk c past later w i row s now h rules work party begun others unheard epoch confirmed =
    let is = h.members i in
    let known = is.works s work in
    let run = run_with_others now others in
    let before : run_of (w.member i).kept.party ≡ None = ap run_of party in
    let t : Talked = record { start = s; party = now } in
    let kept : Kept = record (w.member i).kept { party = Some now; history = (w.member i).kept.history ++ (now ∷ []) } in
    let m : Member = record (w.member i) { kept = kept; tag = Some now } in
    replaced c past later w i m (t ∷ []) h
    (record {
      works = is.works;
      begun = is.begun;
      loads = λ e f. let none = (is.loads e f).0 in absurd (cc);
      named = λ p e. run ∙ e;
      own = λ p s' e f. inl (cc);
      causal_past = λ p s' e in_s. let f = is.alone s' before in_s in inl (cc);
      alone = λ s' e in_s. absurd (cc);
      fresh = λ s' u e. absurd (cc);
    })
    (record {
      node = λ u in_u. elim in_u [ inl e ↦ subst (λ (u : Talked). u.start.node ≡ i) (sym e) known.0 | inr none ↦ absurd none ];
      serial = λ u in_u. elim in_u [ inl e ↦ subst (λ (u : Talked). u.start.serial < w.serial) (sym e) known.2 | inr none ↦ absurd none ];
      one = λ u v in_u in_v. elim in_u [ inl e ↦ elim in_v [ inl f ↦ e ∙ sym f | inr none ↦ absurd none ] | inr none ↦ absurd none ];
      unlike = λ u v in_u in_v same. elim in_u [ inl e ↦ is.fresh s v before work in_v (sym same ∙ ap (λ (u : Talked). u.start) e) | inr none ↦ none ];
      new = λ u v in_u in_v. elim in_u [
        | inl e ↦ subst (λ u. c.same u v → c.alike u v) (sym e) (rules.new s v known.0 epoch party begun others unheard in_v).0
        | inr none ↦ absurd none
      ];
      old = λ u v in_u in_v. elim in_v [
        | inl e ↦ subst (λ v. c.same u v → c.alike u v) (sym e) (rules.new s u known.0 epoch party begun others unheard in_u).1
        | inr none ↦ absurd none
      ];
    })
    rules.others
    (λ u in_u e. elim in_u [
      | inl same ↦ subst (λ u. later i kept (w.member i).loading u) (sym same) (rules.first s known.0 epoch confirmed (not_loading (w.member i).loading (λ e f. let none = (is.loads e f).0 in cc)))
      | inr in_w ↦ rules.talks u in_w e
    ])

-- a start that talked before talks again
more_talk : (c : Claim) (past : Past) (w : MemberWorld) (i : ℕ) (s : Start) (p : List Entry) → Holds c past w → (w.member i).work ≡ Some s → (w.member i).kept.party ≡ Some p → is_alone p ≡ false →
    Holds c past (with_member (record w { talked = record { start = s; party = p } ∷ w.talked }) i (record (w.member i) { kept = record (w.member i).kept { party = Some p }; tag = Some p }))
more_talk c past w i s p h work party others =
    let is = h.members i in
    let t : Talked = record { start = s; party = p } in
    let m : Member = record (w.member i) { kept = record (w.member i).kept { party = Some p }; tag = Some p } in
    let v : MemberWorld = record w { talked = t ∷ w.talked } in
    let run = run_with_others p others in
    let own : run_of (w.member i).kept.party ≡ Some p = ap run_of party ∙ run in
    let before = again c past w t h (is.own p s own work) in
    let more = before.members i in
    same_kept c past v i m before
    (record {
      works = more.works;
      begun = more.begun;
      loads = λ e f. let none = (is.loads e f).1 in absurd (cc);
      named = λ q e. run ∙ e;
      own = λ q s' e f. more.own q s' (ap run_of party ∙ e) f;
      causal_past = λ q s' e in_s. more.causal_past q s' (ap run_of party ∙ e) in_s;
      alone = λ s' e in_s. absurd (cc);
      fresh = λ s' u e. absurd (cc);
    })
    (ap (λ q. record (w.member i).kept { party = q }) (sym party)) refl

-- what a talking member has, where its party was this
abbrev talking : Member → Option (List Entry) → List Entry → Member
talking m p now = record m { kept = record m.kept { party = Some (unwrap_or p now); history = history_with p m.kept.history now }; tag = run_of (Some (unwrap_or p now)) }

look_talks : (c : Claim) (past later : Past) (w : MemberWorld) (i : ℕ) (row : Row) (now : List Entry) (p : Option (List Entry)) → Holds c past w → Rules c past later w i row now → is_begun (w.member i).kept.begun row ≡ true → (w.member i).kept.party ≡ p →
    admits p (was_before now (w.member i).kept.history) now ≡ true → Holds c later (looked w i (talking (w.member i) p now))
look_talks c past later w i row now p h rules e party admitted =
    let is = h.members i in
    let kept = (w.member i).kept in
    let row_parts = both (row.epoch == row.confirmed) (is_at row.epoch kept.begun) e in
    let confirmed : row.epoch ≡ row.confirmed = let test = row_parts.0 in grind (arith, nat_tests, test) in
    let begun : kept.begun ≡ Some row.epoch = at_epoch row.epoch kept.begun row_parts.1 in
    let has = is.begun row.epoch begun in
    let epoch : has.0.epoch ≡ row.epoch = let own = (is.works has.0 has.1).1 in cc in
    subst (λ o. Holds c later (with_member (record w { talked = talked_by o (run_of (Some (unwrap_or p now))) ++ w.talked }) i (talking (w.member i) p now)))
    (sym has.1) (by_party p has.0 has.1 begun epoch confirmed party admitted)
  where
    first : (b : Bool) (s : Start) → (w.member i).work ≡ Some s → (w.member i).kept.begun ≡ Some row.epoch → s.epoch ≡ row.epoch → row.epoch ≡ row.confirmed → (w.member i).kept.party ≡ None → (IsOneOf now (w.member i).kept.history → ⊥) → is_alone now ≡ b →
        Holds c later (with_member (record w { talked = talked_by (Some s) (if b then None else Some now) ++ w.talked }) i
        (record (w.member i) { kept = record (w.member i).kept { party = Some now; history = if b then (w.member i).kept.history else (w.member i).kept.history ++ (now ∷ []) }; tag = if b then None else Some now }))
    first true s work begun epoch confirmed party unheard alone = settles c past later w i row now h rules party begun alone
    first false s work begun epoch confirmed party unheard others = first_talk c past later w i row s now h rules work party begun others unheard epoch confirmed

    more : (b : Bool) (s : Start) (q : List Entry) → (w.member i).work ≡ Some s → (w.member i).kept.party ≡ Some q → is_alone q ≡ b →
        Holds c later (with_member (record w { talked = talked_by (Some s) (if b then None else Some q) ++ w.talked }) i
        (record (w.member i) { kept = record (w.member i).kept { party = Some q }; tag = if b then None else Some q }))
    more true s q work party alone = alone_still c later w i q (shown_more c past later w i row now h rules) party alone
    more false s q work party others = more_talk c later w i s q (shown_more c past later w i row now h rules) work party others

    by_party : (p : Option (List Entry)) (s : Start) → (w.member i).work ≡ Some s → (w.member i).kept.begun ≡ Some row.epoch → s.epoch ≡ row.epoch → row.epoch ≡ row.confirmed → (w.member i).kept.party ≡ p → admits p (was_before now (w.member i).kept.history) now ≡ true →
        Holds c later (with_member (record w { talked = talked_by (Some s) (run_of (Some (unwrap_or p now))) ++ w.talked }) i (talking (w.member i) p now))
    by_party None s work begun epoch confirmed party admitted =
        first (is_alone now) s work begun epoch confirmed party (λ was. not_true (was_before now (w.member i).kept.history) admitted (found now (w.member i).kept.history was)) refl
    by_party (Some q) s work begun epoch confirmed party admitted = more (is_alone q) s q work party refl

nothing_said : (o : Option Start) → talked_by o None ≡ []
nothing_said None = refl
nothing_said (Some s) = refl

look_silent : (c : Claim) (past : Past) (w : MemberWorld) (i : ℕ) → Holds c past w → Holds c past (looked w i (record (w.member i) { tag = None }))
look_silent c past w i h = subst (λ more. Holds c past (with_member (record w { talked = more ++ w.talked }) i (record (w.member i) { tag = None }))) (sym (nothing_said (w.member i).work)) (silent c past w i h)

pub looks : (c : Claim) (past later : Past) (w : MemberWorld) (i : ℕ) (row : Row) (now : List Entry) (d : Due) → Holds c past w → Rules c past later w i row now → due (w.member i).kept row now ≡ d →
    Holds c later (looked w i (member_for (w.member i) (kept_for (w.member i).kept now d) row d))
looks c past later w i row now Talk h rules e =
    let kept = (w.member i).kept in
    let test = both (is_begun kept.begun row) (admits kept.party (was_before now kept.history) now) (talks (nat_lt row.confirmed row.epoch && not (was_before now kept.history)) (is_begun kept.begun row && not row.through) (is_begun kept.begun row && admits kept.party (was_before now kept.history) now) row.quiet e) in
    look_talks c past later w i row now kept.party h rules test.0 refl test.1
looks c past later w i row now Wait h rules e = look_silent c later w i (shown_more c past later w i row now h rules)
looks c past later w i row now Reset h rules e = look_silent c later w i (shown_more c past later w i row now h rules)
looks c past later w i row now Begin h rules e =
    let kept = (w.member i).kept in
    let new = (both (nat_lt row.confirmed row.epoch) (not (was_before now kept.history)) (begins (nat_lt row.confirmed row.epoch && not (was_before now kept.history)) (is_begun kept.begun row && not row.through) (is_begun kept.begun row && admits kept.party (was_before now kept.history) now) row.quiet e)).0 in
    drops c past later w i (record kept { party = None; begun = None }) (Some row.epoch) h refl (λ e f. refl) rules.others (λ t in_t f. rules.begins t in_t f new)

-- a look by which a member waits or asks for a reset, whatever else it might have done
pub looks_less : (c : Claim) (past later : Past) (w : MemberWorld) (i : ℕ) (row : Row) (now : List Entry) (d : Due) → Holds c past w → Rules c past later w i row now → (d ≡ Wait) ⊎ (d ≡ Reset) →
    Holds c later (looked w i (member_for (w.member i) (kept_for (w.member i).kept now d) row d))
looks_less c past later w i row now d h rules less = elim less [ inl waits ↦ at_wait waits | inr asks ↦ at_reset asks ]
  where
    silently : Holds c later (looked w i (record (w.member i) { tag = None }))
    silently = look_silent c later w i (shown_more c past later w i row now h rules)

    at_wait : d ≡ Wait → Holds c later (looked w i (member_for (w.member i) (kept_for (w.member i).kept now d) row d))
    at_wait is = subst (λ d. Holds c later (looked w i (member_for (w.member i) (kept_for (w.member i).kept now d) row d))) (sym is) silently

    at_reset : d ≡ Reset → Holds c later (looked w i (member_for (w.member i) (kept_for (w.member i).kept now d) row d))
    at_reset is = subst (λ d. Holds c later (looked w i (member_for (w.member i) (kept_for (w.member i).kept now d) row d))) (sym is) silently

-- ---- at first

pub nothing_yet : (c : Claim) (past : Past) → Holds c past new_world
nothing_yet c past =
    record {
      members = λ i. idle_is [] 0 i new_kept None refl (λ e f. absurd (cc));
      ruled = λ t f. absurd f;
      serials = λ t f. absurd f;
      messages = λ m s f g. absurd f;
      runs = λ t u f. absurd f;
      starts = λ t u f g e. absurd f;
    }
