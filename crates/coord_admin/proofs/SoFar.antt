-- The input read so far: its lines have replies or await them; and the effect of more input.
use Rattle.std.proofs.Common.{◌≡◌, ℕ, List, [], ◌++◌, Result, Err, IsErrAnd, sym, ap, ◌∙◌, take, append_assoc, append-nil}
use Rattle.std.proofs.lemmas.Result.{err_from_is_err_and}
use Rattle.coord_lines.specs.Lines.{Line, lines_of, lines_on}
use Rattle.coord_admin.specs.declared.request.Request.{Request}
use Rattle.coord_admin.specs.declared.answer.Answer.{Answer}
use Rattle.coord_admin.specs.Replies.{reply_lines}
use Rattle.coord_admin.specs.declared.fault.ServeFault.{ServeFault}
use Rattle.coord_admin.specs.declared.fault.ServeFault.TheVariants.{Write}
use Rattle.coord_admin.specs.declared.session.Ended.{Ended}
use Rattle.coord_admin.specs.Stream.{AllGet, BreaksOff, Closes, GoesOn, Served}
use Rattle.coord_admin.specs.Together.{AwaitReplies}
use Rattle.coord_admin.proofs.Pieces.{goes-all, goes-broken, goes-on}
use Rattle.coord_admin.proofs.Stream.{InTurn, breaks-following, closes-following, heard-on, no-more, still, returned-all, returned-on}

module _ {D P : Type 0} (answers : D → Request → Answer → D → Type 0) (posts : D → Request → P → D → Type 0) {C : Type 0} (exchanged : C → List ℕ → List ℕ → C → Type 0) where
  -- the complete lines of the input have replies, or were posted and await them
  abbrev pub SoFar : D → C → List ℕ → Line → List P → D → C → Type 0
  SoFar d a seen line posted e b =
      (lines : List Line) × (returned : List Answer) × GoesOn answers posts d lines returned posted e × exchanged a seen (reply_lines returned) b × ((more : List ℕ) → lines_of (seen ++ more) ≡ lines ++ lines_on line more)

  -- each of them has its reply
  abbrev pub AllSoFar : D → C → List ℕ → Line → D → C → Type 0
  AllSoFar d a seen line e b =
      (lines : List Line) × (returned : List Answer) × AllGet answers d lines returned e × exchanged a seen (reply_lines returned) b × ((more : List ℕ) → lines_of (seen ++ more) ≡ lines ++ lines_on line more)

  -- a reply was not written whole
  pub served-in-part : (d h : D) (a c : C) (seen : List ℕ) (r : Result Ended ServeFault) → IsErrAnd r (λ fault. fault ≡ Write) → (text : List ℕ) × exchanged a seen text c × BreaksOff answers d (lines_of seen) text h → (seen : List ℕ) × (text : List ℕ) × exchanged a seen text c × Served answers d seen text r h
  served-in-part d h a c seen r failed w =
      let fault = err_from_is_err_and r failed in
      (seen, w.0, w.1, rw (fault.1 ∙ ap Err fault.2) w.2)

  module _ (turn : InTurn exchanged) where
    -- a read brought nothing
    pub so-far-no-more : (d e : D) (a b c : C) (seen bytes : List ℕ) (count : ℕ) (line : Line) (posted : List P) → SoFar d a seen line posted e b → exchanged b (take count bytes) [] c → count ≡ 0 → SoFar d a seen line posted e c
    so-far-no-more d e a b c seen bytes count line posted s nothing none = (s.0, s.1, s.2, no-more exchanged turn a b c seen bytes (reply_lines s.1) count s.3 nothing none, s.4)

    -- a read brought nothing or failed, and nothing was written
    pub so-far-still : (d e : D) (a b c : C) (seen : List ℕ) (line : Line) (posted : List P) → SoFar d a seen line posted e b → exchanged b [] [] c → SoFar d a seen line posted e c
    so-far-still d e a b c seen line posted s nothing = (s.0, s.1, s.2, still exchanged turn a b c seen (reply_lines s.1) s.3 nothing, s.4)

    -- what waited has replies, or waits on
    pub so-far-some : (d e h : D) (a b c : C) (seen : List ℕ) (line : Line) (posted later : List P) → SoFar d a seen line posted e b
        → ((d : D) (lines : List Line) → AwaitReplies posts d lines posted e → (returned : List Answer) × GoesOn answers posts d lines returned later h × exchanged b [] (reply_lines returned) c) → SoFar d a seen line later h c
    so-far-some d e h a b c seen line posted later s now =
        let g = s.2 in
        let n = now g.2 g.1 g.5 in (
          g.0 ++ g.1,
          s.1 ++ n.0,
          goes-on answers posts d e h s.0 g.1 s.1 n.0 posted later g n.1,
          returned-all exchanged turn a b c seen s.1 n.0 s.3 n.2,
          λ more. s.4 more ∙ ap (λ l. l ++ lines_on line more) g.3,
        )

    -- what waited has replies
    pub so-far-all : (d e h : D) (a b c : C) (seen : List ℕ) (line : Line) (posted : List P) → SoFar d a seen line posted e b
        → ((d : D) (lines : List Line) → AwaitReplies posts d lines posted e → (returned : List Answer) × AllGet answers d lines returned h × exchanged b [] (reply_lines returned) c) → AllSoFar d a seen line h c
    so-far-all d e h a b c seen line posted s now =
        let g = s.2 in
        let n = now g.2 g.1 g.5 in
        (s.0, s.1 ++ n.0, goes-all answers posts d e h s.0 s.1 n.0 posted g n.1, returned-all exchanged turn a b c seen s.1 n.0 s.3 n.2, s.4)

    -- the replies to the lines that waited were not written whole
    pub so-far-broken : (d e h : D) (a b c : C) (seen : List ℕ) (line : Line) (posted : List P) → SoFar d a seen line posted e b
        → ((d : D) (lines : List Line) → AwaitReplies posts d lines posted e → (part : List ℕ) × exchanged b [] part c × ((left : List Line) → BreaksOff answers d (lines ++ left) part h)) → (text : List ℕ) × exchanged a seen text c × BreaksOff answers d (lines_of seen) text h
    so-far-broken d e h a b c seen line posted s now =
        let g = s.2 in
        let n = now g.2 g.1 g.5 in
        let rest = lines_on line [] in (
          reply_lines s.1 ++ n.0,
          returned-on exchanged turn a b c seen (reply_lines s.1) n.0 s.3 n.1,
          rw (ap lines_of (sym (append-nil seen)) ∙ s.4 []) (goes-broken answers posts d e h s.0 rest s.1 posted n.0 g (n.2 rest)),
        )

    -- the lines of the input, with one more piece
    lines-with : (d e : D) (a b : C) (seen bytes_read more : List ℕ) (line : Line) (posted : List P) → (s : SoFar d a seen line posted e b) → lines_of (seen ++ (bytes_read ++ more)) ≡ s.2.0 ++ (s.2.1 ++ lines_on line (bytes_read ++ more))
    lines-with d e a b seen bytes_read more line posted s = s.4 (bytes_read ++ more) ∙ ap (λ l. l ++ lines_on line (bytes_read ++ more)) s.2.3 ∙ append_assoc s.2.0 s.2.1 (lines_on line (bytes_read ++ more))

    lines-with-all : (d e : D) (a b : C) (seen bytes_read : List ℕ) (line : Line) (posted : List P) → (s : SoFar d a seen line posted e b) → lines_of (seen ++ bytes_read) ≡ s.2.0 ++ (s.2.1 ++ lines_on line bytes_read)
    lines-with-all d e a b seen bytes_read line posted s = s.4 bytes_read ∙ ap (λ l. l ++ lines_on line bytes_read) s.2.3 ∙ append_assoc s.2.0 s.2.1 (lines_on line bytes_read)

    -- a piece came, and its lines have replies or await them too
    pub so-far-more : (d e h : D) (a b c f : C) (seen bytes_read : List ℕ) (line next : Line) (posted later : List P) → SoFar d a seen line posted e b → exchanged b bytes_read [] c
        → ((d : D) (waiting : List Line) → AwaitReplies posts d waiting posted e → (lines : List Line) × (returned : List Answer) × GoesOn answers posts d lines returned later h × exchanged c [] (reply_lines returned) f × ((more : List ℕ) → waiting ++ lines_on line (bytes_read ++ more) ≡ lines ++ lines_on next more))
        → SoFar d a (seen ++ bytes_read) next later h f
    so-far-more d e h a b c f seen bytes_read line next posted later s heard now =
        let g = s.2 in
        let n = now g.2 g.1 g.5 in (
          g.0 ++ n.0,
          s.1 ++ n.1,
          goes-on answers posts d e h s.0 n.0 s.1 n.1 posted later g n.2,
          returned-all exchanged turn a c f (seen ++ bytes_read) s.1 n.1 (heard-on exchanged turn a b c seen bytes_read (reply_lines s.1) s.3 heard) n.3,
          λ more. ap lines_of (append_assoc seen bytes_read more) ∙ lines-with d e a b seen bytes_read more line posted s ∙ ap (λ l. g.0 ++ l) (n.4 more) ∙ sym (append_assoc g.0 n.0 (lines_on next more)),
        )

    -- one of its lines has closed the desk
    pub so-far-closed : (d e h : D) (a b c f : C) (seen bytes_read : List ℕ) (line : Line) (posted : List P) → SoFar d a seen line posted e b → exchanged b bytes_read [] c
        → ((d : D) (waiting : List Line) → AwaitReplies posts d waiting posted e → (text : List ℕ) × exchanged c [] text f × Closes answers d (waiting ++ lines_on line bytes_read) text h) → (text : List ℕ) × exchanged a (seen ++ bytes_read) text f × Closes answers d (lines_of (seen ++ bytes_read)) text h
    so-far-closed d e h a b c f seen bytes_read line posted s heard now =
        let g = s.2 in
        let n = now g.2 g.1 g.5 in (
          reply_lines s.1 ++ n.0,
          returned-on exchanged turn a c f (seen ++ bytes_read) (reply_lines s.1) n.0 (heard-on exchanged turn a b c seen bytes_read (reply_lines s.1) s.3 heard) n.1,
          closes-following answers d g.2 h (lines_of (seen ++ bytes_read)) (g.1 ++ lines_on line bytes_read) g.0 s.1 n.0 g.4 (lines-with-all d e a b seen bytes_read line posted s) n.2,
        )

    -- the reply to one of the lines that were read was not written whole
    pub so-far-cut : (d e h : D) (a b c f : C) (seen bytes_read : List ℕ) (line : Line) (posted : List P) → SoFar d a seen line posted e b → exchanged b bytes_read [] c
        → ((d : D) (waiting : List Line) → AwaitReplies posts d waiting posted e → (text : List ℕ) × exchanged c [] text f × BreaksOff answers d (waiting ++ lines_on line bytes_read) text h) → (text : List ℕ) × exchanged a (seen ++ bytes_read) text f × BreaksOff answers d (lines_of (seen ++ bytes_read)) text h
    so-far-cut d e h a b c f seen bytes_read line posted s heard now =
        let g = s.2 in
        let n = now g.2 g.1 g.5 in (
          reply_lines s.1 ++ n.0,
          returned-on exchanged turn a c f (seen ++ bytes_read) (reply_lines s.1) n.0 (heard-on exchanged turn a b c seen bytes_read (reply_lines s.1) s.3 heard) n.1,
          breaks-following answers d g.2 h (lines_of (seen ++ bytes_read)) (g.1 ++ lines_on line bytes_read) g.0 s.1 n.0 g.4 (lines-with-all d e a b seen bytes_read line posted s) n.2,
        )
