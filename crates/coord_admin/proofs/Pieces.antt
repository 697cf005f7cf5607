-- A piece of the input: its lines have replies, or await them.
use Rattle.std.proofs.Common.{◌≡◌, ℕ, true, false, List, [], ◌∷◌, ◌++◌, Some, Ok, inl, refl, sym, ap, ◌∙◌, subst, append_assoc, append-nil}
use Rattle.coord_lines.specs.Lines.{Line, lines_on}
use Rattle.coord_admin.specs.declared.request.Request.{Request}
use Rattle.coord_admin.specs.declared.answer.Answer.{Answer}
use Rattle.coord_admin.specs.declared.answer.Answer.TheVariants.{Closed}
use Rattle.coord_admin.specs.Replies.{reply_line, reply_lines}
use Rattle.coord_admin.specs.Stream.{is_closed, AllGet, BreaksOff, Closes, Gets, GoesOn, WritesPart}
use Rattle.coord_admin.specs.Requests.{asked_by}
use Rattle.coord_admin.specs.Together.{AwaitReplies, is_order}
use Rattle.coord_admin.proofs.Waiting.{await-on}
use Rattle.coord_admin.proofs.Stream.{InTurn, all-append, all-one, breaks-following, closes-returned, lines_on-some, text-following, returned-on}

module _ {D P : Type 0} (answers : D → Request → Answer → D → Type 0) (posts : D → Request → P → D → Type 0) where
  await-none : (d : D) (posted : List P) → posted ≡ [] → AwaitReplies posts d [] posted d
  await-none d posted e = rw e ([], tt, refl)

  -- no line has come
  pub goes-none : (d : D) (posted : List P) → posted ≡ [] → GoesOn answers posts d [] [] posted d
  goes-none d posted e = ([], [], d, refl, refl, await-none d posted e)

  -- the lines await their replies
  pub goes-waiting : (d e : D) (lines : List Line) (posted : List P) → AwaitReplies posts d lines posted e → GoesOn answers posts d lines [] posted e
  goes-waiting d e lines posted h = ([], lines, d, refl, refl, h)

  -- one more was posted
  pub goes-posted : (d e h : D) (lines : List Line) (line : Line) (returned : List Answer) (posted later : List P) (r : Request) (p : P) → GoesOn answers posts d lines returned posted e → asked_by line ≡ Ok r → is_order r ≡ true → posts e r p h → later ≡ posted ++ p ∷ [] → GoesOn answers posts d (lines ++ line ∷ []) returned later h
  goes-posted d e h lines line returned posted later r p g asks order put more = (
    g.0,
    g.1 ++ line ∷ [],
    g.2,
    ap (λ l. l ++ line ∷ []) g.3 ∙ append_assoc g.0 g.1 (line ∷ []),
    g.4,
    rw more (await-on posts g.2 e h g.1 posted line r p g.5 asks order put),
  )

  -- all have their replies
  pub goes-answered : (d e : D) (lines : List Line) (returned : List Answer) (posted : List P) → AllGet answers d lines returned e → posted ≡ [] → GoesOn answers posts d lines returned posted e
  goes-answered d e lines returned posted h none = (lines, [], e, sym (append-nil lines), h, await-none e posted none)

  pub goes-returned : (d f e : D) (lines : List Line) (line : Line) (returned : List Answer) (a : Answer) (posted : List P) → AllGet answers d lines returned f → Gets answers f line a e → is_closed a ≡ false → posted ≡ [] → GoesOn answers posts d (lines ++ line ∷ []) (returned ++ a ∷ []) posted e
  goes-returned d f e lines line returned a posted h gets goes_on none = goes-answered d e (lines ++ line ∷ []) (returned ++ a ∷ []) posted (all-one answers d f e lines returned line a h gets goes_on) none

  -- those that waited go on, with others
  pub goes-on : (d e h : D) (lines next : List Line) (returned more : List Answer) (posted later : List P) → (g : GoesOn answers posts d lines returned posted e) → GoesOn answers posts g.2 next more later h → GoesOn answers posts d (g.0 ++ next) (returned ++ more) later h
  goes-on d e h lines next returned more posted later g n =
      (g.0 ++ n.0, n.1, n.2, ap (λ l. g.0 ++ l) n.3 ∙ sym (append_assoc g.0 n.0 n.1), all-append answers g.0 n.0 returned more d g.2 n.2 g.4 n.4, n.5)

  -- one more line came
  pub goes-further : (d e h : D) (lines : List Line) (line : Line) (returned more : List Answer) (posted later : List P) → (g : GoesOn answers posts d lines returned posted e) → GoesOn answers posts g.2 (g.1 ++ line ∷ []) more later h → GoesOn answers posts d (lines ++ line ∷ []) (returned ++ more) later h
  goes-further d e h lines line returned more posted later g n =
      rw (ap (λ l. l ++ line ∷ []) g.3 ∙ append_assoc g.0 g.1 (line ∷ [])) (goes-on d e h lines (g.1 ++ line ∷ []) returned more posted later g n)

  -- those that waited have their replies
  pub goes-all : (d e h : D) (lines : List Line) (returned more : List Answer) (posted : List P) → (g : GoesOn answers posts d lines returned posted e) → AllGet answers g.2 g.1 more h → AllGet answers d lines (returned ++ more) h
  goes-all d e h lines returned more posted g k = rw g.3 (all-append answers g.0 g.1 returned more d g.2 h g.4 k)

  -- those that waited do not all have their replies
  pub goes-broken : (d e h : D) (lines left : List Line) (returned : List Answer) (posted : List P) (text : List ℕ) → (g : GoesOn answers posts d lines returned posted e) → BreaksOff answers g.2 (g.1 ++ left) text h → BreaksOff answers d (lines ++ left) (reply_lines returned ++ text) h
  goes-broken d e h lines left returned posted text g k = breaks-following answers d g.2 h (lines ++ left) (g.1 ++ left) g.0 returned text g.4 (ap (λ l. l ++ left) g.3 ∙ append_assoc g.0 g.1 left) k

  -- those that waited have their replies, and the next line has closed the desk
  pub goes-closed : (d e f h : D) (all lines : List Line) (line : Line) (following : List ℕ) (returned more : List Answer) (posted : List P) → (g : GoesOn answers posts d lines returned posted e) → all ≡ lines ++ line ∷ lines_on (Some []) following → AllGet answers g.2 g.1 more f → Gets answers f line Closed h
      → Closes answers d all (reply_lines returned ++ (reply_lines more ++ reply_line Closed)) h
  goes-closed d e f h all lines line following returned more posted g same k gets =
      let other = lines_on-some (Some []) following in (
        returned ++ more,
        line,
        other.0,
        other.1,
        f,
        (lines, same ∙ ap (λ l. lines ++ line ∷ l) other.2, goes-all d e f lines returned more posted g k),
        gets,
        text-following answers returned more (reply_line Closed) (reply_lines more ++ reply_line Closed) refl,
      )

module _ {D P : Type 0} (answers : D → Request → Answer → D → Type 0) (posts : D → Request → P → D → Type 0) {C : Type 0} (exchanged : C → List ℕ → List ℕ → C → Type 0) (turn : InTurn exchanged) where
  pub piece-broken : (d e h : D) (a b c : C) (all lines left : List Line) (returned : List Answer) (posted : List P) → (g : GoesOn answers posts d lines returned posted e) → exchanged a [] (reply_lines returned) b → all ≡ lines ++ left
      → (text : List ℕ) × exchanged b [] text c × BreaksOff answers g.2 (g.1 ++ left) text h → (text : List ℕ) × exchanged a [] text c × BreaksOff answers d all text h
  piece-broken d e h a b c all lines left returned posted g written same w = (
    reply_lines returned ++ w.0,
    returned-on exchanged turn a b c [] (reply_lines returned) w.0 written w.1,
    rw same (goes-broken answers posts d e h lines left returned posted w.0 g w.2),
  )

  pub piece-closed : (d e h : D) (a b c : C) (all lines : List Line) (line : Line) (following : List ℕ) (returned : List Answer) (posted : List P) → (g : GoesOn answers posts d lines returned posted e) → exchanged a [] (reply_lines returned) b → all ≡ lines ++ line ∷ lines_on (Some []) following
      → (more : List Answer) × (f : D) × AllGet answers g.2 g.1 more f × Gets answers f line Closed h × exchanged b [] (reply_lines more ++ reply_line Closed) c → (text : List ℕ) × exchanged a [] text c × Closes answers d all text h
  piece-closed d e h a b c all lines line following returned posted g written same w = (
    reply_lines returned ++ (reply_lines w.0 ++ reply_line Closed),
    returned-on exchanged turn a b c [] (reply_lines returned) (reply_lines w.0 ++ reply_line Closed) written w.4,
    goes-closed answers posts d e w.1 h all lines line following returned w.0 posted g same w.2 w.3,
  )

  -- the reply to a line after those that have theirs was not written whole
  pub line-broken : (d f e : D) (a b c : C) (lines : List Line) (line : Line) (returned : List Answer) → AllGet answers d lines returned f → exchanged a [] (reply_lines returned) b → (x : Answer) × Gets answers f line x e × WritesPart exchanged b c (reply_line x)
      → (text : List ℕ) × exchanged a [] text c × ((left : List Line) → BreaksOff answers d (lines ++ line ∷ left) text e)
  line-broken d f e a b c lines line returned h written w = (
    reply_lines returned ++ w.2.0,
    returned-on exchanged turn a b c [] (reply_lines returned) w.2.0 written w.2.1,
    λ left. (returned, line, [], left, f, e, w.0, [], w.2.0, (lines, refl, h), inl w.1, refl, inl refl, w.2.2, refl),
  )

  -- a line after those that have their replies has closed the desk
  pub line-closed : (f e : D) (a b c : C) (line : Line) (returned : List Answer) (x : Answer) → is_closed x ≡ true → Gets answers f line x e → exchanged a [] (reply_lines returned) b → exchanged b [] (reply_line x) c → Gets answers f line Closed e × exchanged a [] (reply_lines returned ++ reply_line Closed) c
  line-closed f e a b c line returned x closed gets written now =
      let same = closes-returned x closed in (
        subst (λ y. Gets answers f line y e) same gets,
        returned-on exchanged turn a b c [] (reply_lines returned) (reply_line Closed) written (subst (λ y. exchanged b [] (reply_line y) c) same now),
      )
