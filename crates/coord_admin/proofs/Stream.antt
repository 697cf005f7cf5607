-- The served part of a stream, when more is read.
use Rattle.std.proofs.Common.{◌≡◌, ◌≢◌, ◌⊎◌, ℕ, ◌<◌, ◌≤◌, Bool, true, false, List, [], ◌∷◌, ◌++◌, length, map, Some, Result, Ok, Err, IfOk, String, Global, string_bytes, refl, sym, ap, ◌∙◌, subst, append_assoc, append-nil, arith, take, drop, suc, get_or, ◌+◌, inl, inr}
use Rattle.std.specs.List.{slice_split}
use Rattle.std.proofs.Math.Seq.{take-suc}
use Rattle.std.proofs.lemmas.Grind.{common_steps}
use Rattle.std.proofs.lemmas.List.{take-append-drop}
use Rattle.std.proofs.lemmas.List.Splits.{length-slice_split}
use Rattle.coord_lines.specs.Lines.{Line, IsWithin, is_line_feed, line_of, lines_of, extended, going_on, lines_on, before_line_feed, after_line_feed}
use Rattle.coord_lines.specs.Written.{IsFirstPart}
use Rattle.coord_lines.proofs.LinesOn.{lines_on-ended, extended-nothing}
use Rattle.coord_types.specs.declared.refusals.Refusal.{Refusal}
use Rattle.coord_types.specs.declared.steps.Reply.{Reply}
use Rattle.coord_admin.specs.declared.request.Request.{Request}
use Rattle.coord_admin.specs.declared.answer.Answer.{Answer}
use Rattle.coord_admin.specs.declared.answer.Answer.TheVariants.{Closed, Faulted}
use Rattle.coord_admin.specs.declared.fault.LineFault.{LineFault}
use Rattle.coord_admin.specs.declared.fault.LineFault.TheVariants.{Unfinished, OutOfMemory}
use Rattle.coord_admin.specs.Requests.{asked_by}
use Rattle.coord_admin.specs.Replies.{made_bytes, order_answer, reply_line, reply_lines}
use Rattle.coord_admin.specs.Together.{AllAnswered, ArePosted, AskFor}
use Rattle.coord_admin.specs.Stream.{is_closed, takes_memory, AreWritten, IsText, MayAnswer, last_answers, IsWritten, WritesPart, Gets, GetsAtLast, AllGet, Reaches, Finishes, Closes, Stops, BreaksOff}

-- ---- lists

pub reply_lines-append : (xs ys : List Answer) → reply_lines (xs ++ ys) ≡ reply_lines xs ++ reply_lines ys
reply_lines-append [] ys = refl
reply_lines-append (x ∷ xs) ys = ap (λ l. reply_line x ++ l) (reply_lines-append xs ys) ∙ sym (append_assoc (reply_line x) (reply_lines xs) (reply_lines ys))

pub reply_lines-one : (xs : List Answer) (x : Answer) → reply_lines xs ++ reply_line x ≡ reply_lines (xs ++ x ∷ [])
reply_lines-one xs x = ap (λ l. reply_lines xs ++ l) (sym (append-nil (reply_line x))) ∙ sym (reply_lines-append xs (x ∷ []))

some_line : (line : Line) (parts : List (List ℕ)) → 0 < length parts → (next : Line) × (left : List Line) × (going_on line parts ≡ next ∷ left)
some_line line [] h = absurd (omega arith)
some_line line (part ∷ parts) h = (extended line part, map line_of parts, refl)

-- a text has at least one line
pub lines_on-some : (line : Line) (text : List ℕ) → (next : Line) × (left : List Line) × (lines_on line text ≡ next ∷ left)
lines_on-some line text = some_line line (slice_split is_line_feed text) (omega (arith, length-slice_split is_line_feed text))

-- a first part of two texts is one of the first, or goes on into the second
pub first_part_of_two : (part xs ys : List ℕ) → IsFirstPart part (xs ++ ys) → IsFirstPart part xs ⊎ ((more : List ℕ) × (part ≡ xs ++ more) × IsFirstPart more ys)
first_part_of_two [] xs ys h = inl (xs, refl)
first_part_of_two (p ∷ part) [] ys h = inr (p ∷ part, refl, h)
first_part_of_two (p ∷ part) (x ∷ xs) ys h = by (first_part_of_two part xs ys (h.0, tails))
  where
    tails : xs ++ ys ≡ part ++ h.0
    tails = let e = h.1 in cc

    heads : x ≡ p
    heads = let e = h.1 in cc

    by : IsFirstPart part xs ⊎ ((more : List ℕ) × (part ≡ xs ++ more) × IsFirstPart more ys) → IsFirstPart (p ∷ part) (x ∷ xs) ⊎ ((more : List ℕ) × (p ∷ part ≡ x ∷ xs ++ more) × IsFirstPart more ys)
    by (inl part_of) = inl (part_of.0, let e = part_of.1 in let f = heads in cc)
    by (inr on) = inr (on.0, (let e = on.1 in let f = heads in cc), on.2)

-- ---- the text of an answer

-- one more is written
pub written-on : (answers returned : List Answer) (answer a : Answer) → AreWritten answers returned → IsWritten answer a → AreWritten (answers ++ answer ∷ []) (returned ++ a ∷ [])
written-on [] [] answer a w one = (one, tt)
written-on [] (t ∷ returned) answer a w one = absurd w
written-on (x ∷ answers) [] answer a w one = absurd w
written-on (x ∷ answers) (t ∷ returned) answer a w one = (w.0, written-on answers returned answer a w.1 one)

-- the next one of them is written
pub written-next : (answers returned : List Answer) (answer a : Answer) (i : ℕ) → i < length answers → answer ≡ get_or answers i answer → AreWritten (take i answers) returned → IsWritten answer a → AreWritten (take (i + 1) answers) (returned ++ a ∷ [])
written-next answers returned answer a i below is w one =
    let next : i + 1 ≡ suc i = omega arith in
    let more : take (i + 1) answers ≡ take i answers ++ answer ∷ [] = ap (λ n. take n answers) next ∙ take-suc answers i answer below ∙ ap (λ x. take i answers ++ x ∷ []) (sym is) in
    rw more (written-on (take i answers) returned answer a w one)

-- all of them
pub all-taken : (answers : List Answer) (i : ℕ) → length answers ≤ i → take i answers ≡ answers
all-taken answers i over = grind (arith, common_steps)

-- each may be written itself
as_they_are : (answers : List Answer) → AreWritten answers answers
as_they_are [] = tt
as_they_are (x ∷ answers) = (inl refl, as_they_are answers)

pub written-rest : (answers returned rest : List Answer) → AreWritten answers returned → AreWritten (answers ++ rest) (returned ++ rest)
written-rest [] [] rest w = as_they_are rest
written-rest [] (t ∷ returned) rest w = absurd w
written-rest (x ∷ answers) [] rest w = absurd w
written-rest (x ∷ answers) (t ∷ returned) rest w = (w.0, written-rest answers returned rest w.1)

-- a text that is to be written, with one more line, of which a part was written
pub text-on : (returned : List Answer) (a : Answer) (out more text later line : List ℕ) → reply_lines returned ≡ out ++ text → line ≡ reply_line a → text ++ line ≡ more ++ later → reply_lines (returned ++ a ∷ []) ≡ (out ++ more) ++ later
text-on returned a out more text later line so_far is cut =
    sym (reply_lines-one returned a)
    ∙ ap (λ l. l ++ reply_line a) so_far
    ∙ append_assoc out text (reply_line a)
    ∙ ap (λ l. out ++ (text ++ l)) (sym is)
    ∙ ap (λ l. out ++ l) cut
    ∙ sym (append_assoc out more later)

-- the rest of a text was not written whole
pub part-at_end : (returned : List Answer) (out part text : List ℕ) → reply_lines returned ≡ out ++ text → IsFirstPart part text → IsFirstPart (out ++ part) (reply_lines returned)
part-at_end returned out part text so_far p = (p.0, so_far ∙ ap (λ l. out ++ l) p.1 ∙ sym (append_assoc out part p.0))

-- a text with one more line was not written whole; how much of the others was written is unknown
pub part-within : (answers returned : List Answer) (a : Answer) (out part text line : List ℕ) (i : ℕ) → AreWritten (take (i + 1) answers) (returned ++ a ∷ []) → reply_lines returned ≡ out ++ text → line ≡ reply_line a → IsFirstPart part (text ++ line)
    → (all : List Answer) × AreWritten answers all × IsFirstPart (out ++ part) (reply_lines all)
part-within answers returned a out part text line i w so_far is p =
    let others = drop (i + 1) answers in (
      (returned ++ a ∷ []) ++ others,
      subst (λ l. AreWritten l ((returned ++ a ∷ []) ++ others)) (take-append-drop (i + 1) answers) (written-rest (take (i + 1) answers) (returned ++ a ∷ []) others w),
      (
        p.0 ++ reply_lines others,
        reply_lines-append (returned ++ a ∷ []) others
            ∙ ap (λ l. l ++ reply_lines others) (text-on returned a out part text p.0 line so_far is p.1)
            ∙ append_assoc (out ++ part) p.0 (reply_lines others),
      ),
    )

-- an order closes no desk
order-open : (x : Result Reply Refusal) → is_closed (order_answer x) ≡ false
order-open x = grind arith

stays_open : (answer : Answer) → takes_memory answer ≡ true → is_closed answer ≡ false
stays_open answer h1 = grind arith

pub closed-returned : (answer returned : Answer) → IsWritten answer returned → is_closed returned ≡ is_closed answer
closed-returned answer returned (inl same) = ap is_closed same
closed-returned answer returned (inr h) = ap is_closed h.0 ∙ sym (stays_open answer h.1)

pub closes-returned : (returned : Answer) → is_closed returned ≡ true → returned ≡ Closed
closes-returned returned h1 = grind arith

module _ {D : Type 0} (answers : D → Request → Answer → D → Type 0) where
  -- a fault that was found is that of the line, or there was no memory
  pub gets-fault : (d : D) (line : Line) (fault : LineFault) (r : Result Request LineFault) → r ≡ Err fault → (r ≢ Err OutOfMemory → r ≡ asked_by line) → (r ≡ Err OutOfMemory → IsText line) → Gets answers d line (Faulted fault) d
  gets-fault d line fault r e reads memory = grind arith

  -- what a line asks for was answered, or its fault is the answer
  pub gets-asked : (d e : D) (line : Line) (r : Result Request LineFault) (a : Answer) → (r ≢ Err OutOfMemory → r ≡ asked_by line) → (r ≡ Err OutOfMemory → IsText line) → MayAnswer answers d r a e → Gets answers d line a e
  gets-asked d e line (Ok q) a reads memory h = inl (rw (sym (reads (λ k. absurd cc))) h)
  gets-asked d e line (Err f) a reads memory h = rw h.1 (rw h.0 (gets-fault d line f (Err f) refl reads memory))

  pub gets-returned : (d e : D) (line : Line) (answer returned : Answer) → Gets answers d line answer e → IsWritten answer returned → Gets answers d line returned e
  gets-returned d e line answer returned h1 h2 = grind arith

  -- the text of each answer
  pub all-returned : (d e : D) (lines : List Line) (answered returned : List Answer) → AllGet answers d lines answered e → AreWritten answered returned → AllGet answers d lines returned e
  all-returned d e [] [] [] h w = h
  all-returned d e [] [] (t ∷ returned) h w = absurd w
  all-returned d e [] (a ∷ answered) returned h w = absurd h
  all-returned d e (line ∷ lines) [] returned h w = absurd h
  all-returned d e (line ∷ lines) (a ∷ answered) [] h w = absurd w
  all-returned d e (line ∷ lines) (a ∷ answered) (t ∷ returned) h w = (h.0, gets-returned d h.0 line a t h.1 w.0, closed-returned a t w.0 ∙ h.2, all-returned h.0 e lines answered returned h.3 w.1)

  -- the lines of orders that were answered
  pub all-ordered : (d e : D) (lines : List Line) (orders : List Request) (results : List (Result Reply Refusal)) → AskFor lines orders → AllAnswered answers d orders (map order_answer results) e → AllGet answers d lines (map order_answer results) e
  all-ordered d e [] [] [] asks h = h
  all-ordered d e [] [] (x ∷ results) asks h = absurd h
  all-ordered d e [] (r ∷ orders) results asks h = absurd asks
  all-ordered d e (line ∷ lines) [] results asks h = absurd asks
  all-ordered d e (line ∷ lines) (r ∷ orders) [] asks h = absurd h
  all-ordered d e (line ∷ lines) (r ∷ orders) (x ∷ results) asks h =
      (h.0, inl (rw asks.0 h.1), order-open x, all-ordered h.0 e lines orders results asks.2 h.2)

  -- ---- lines after lines

  pub all-append : (xs ys : List Line) (xas yas : List Answer) (d f e : D) → AllGet answers d xs xas f → AllGet answers f ys yas e → AllGet answers d (xs ++ ys) (xas ++ yas) e
  all-append [] ys [] yas d f e h k = rw (sym h) k
  all-append [] ys (a ∷ xas) yas d f e h k = absurd h
  all-append (x ∷ xs) ys [] yas d f e h k = absurd h
  all-append (x ∷ xs) ys (a ∷ xas) yas d f e h k = (h.0, h.1, h.2, all-append xs ys xas yas h.0 f e h.3 k)

  pub reaches-following : (d f e : D) (lines later done left : List Line) (returned more : List Answer) → AllGet answers d done returned f → lines ≡ done ++ later → Reaches answers f later more left e → Reaches answers d lines (returned ++ more) left e
  reaches-following d f e lines later done left returned more h same r =
      (done ++ r.0, same ∙ ap (λ l. done ++ l) r.1 ∙ sym (append_assoc done r.0 left), all-append done r.0 returned more d f e h r.2)

  pub text-following : (returned more : List Answer) (rest text : List ℕ) → text ≡ reply_lines more ++ rest → reply_lines returned ++ text ≡ reply_lines (returned ++ more) ++ rest
  text-following returned more rest text e =
      ap (λ l. reply_lines returned ++ l) e ∙ sym (append_assoc (reply_lines returned) (reply_lines more) rest) ∙ ap (λ l. l ++ rest) (sym (reply_lines-append returned more))

  pub closes-following : (d f e : D) (lines later done : List Line) (returned : List Answer) (text : List ℕ) → AllGet answers d done returned f → lines ≡ done ++ later → Closes answers f later text e → Closes answers d lines (reply_lines returned ++ text) e
  closes-following d f e lines later done returned text h same c =
      (returned ++ c.0, c.1, c.2, c.3, c.4, reaches-following d f c.4 lines later done _ returned c.0 h same c.5, c.6, text-following returned c.0 _ text c.7)

  pub breaks-following : (d f e : D) (lines later done : List Line) (returned : List Answer) (text : List ℕ) → AllGet answers d done returned f → lines ≡ done ++ later → BreaksOff answers f later text e → BreaksOff answers d lines (reply_lines returned ++ text) e
  breaks-following d f e lines later done returned text h same c =
      (returned ++ c.0, c.1, c.2, c.3, c.4, c.5, c.6, c.7, c.8, reaches-following d f c.4 lines later done _ returned c.0 h same c.9, c.10, c.11, c.12, c.13, text-following returned c.0 _ text c.14)

  -- ---- orders that were posted together

  ask-tail : (line : Line) (lines : List Line) (orders : List Request) → AskFor (line ∷ lines) orders → (rest : List Request) × AskFor lines rest
  ask-tail line lines [] asks = absurd asks
  ask-tail line lines (r ∷ orders) asks = (orders, asks.2)

  posted-tail : (line : Line) (lines : List Line) → ArePosted (line ∷ lines) → ArePosted lines
  posted-tail line lines posted = (omega (arith, posted.0), ask-tail line lines posted.1.0 posted.1.1)

  -- the first of two lines breaks off
  breaks-first : (d f e : D) (line : Line) (lines left : List Line) (a : Answer) (returned : List Answer) (part : List ℕ) → ((lines ≡ []) ⊎ ArePosted (line ∷ lines)) → Gets answers d line a f → AllGet answers f lines returned e → IsFirstPart part (reply_line a) → BreaksOff answers d (line ∷ lines ++ left) part e
  breaks-first d f e line lines left a returned part posted gets all is_part = ([], line, lines, left, d, f, a, returned, part, ([], refl, refl), inl gets, all, posted, is_part, refl)

  -- a first part of the replies to lines that were posted together was written
  pub breaks-among : (d e : D) (line : Line) (lines left : List Line) (returned : List Answer) (part : List ℕ) → ArePosted (line ∷ lines) → AllGet answers d (line ∷ lines) returned e → IsFirstPart part (reply_lines returned) → BreaksOff answers d (line ∷ lines ++ left) part e
  breaks-among d e line lines left [] part posted h is_part = absurd h
  breaks-among d e line [] left (a ∷ []) part posted h is_part = breaks-first d h.0 e line [] left a [] part (inl refl) h.1 h.3 (is_part.0, sym (append-nil (reply_line a)) ∙ is_part.1)
  breaks-among d e line [] left (a ∷ b ∷ returned) part posted h is_part = absurd h.3
  breaks-among d e line (next ∷ lines) left (a ∷ returned) part posted h is_part =
      by (λ more more_part. breaks-among h.0 e next lines left returned more (posted-tail line (next ∷ lines) posted) h.3 more_part) (first_part_of_two part (reply_line a) (reply_lines returned) is_part)
    where
      by : ((more : List ℕ) → IsFirstPart more (reply_lines returned) → BreaksOff answers h.0 (next ∷ lines ++ left) more e) → IsFirstPart part (reply_line a) ⊎ ((more : List ℕ) × (part ≡ reply_line a ++ more) × IsFirstPart more (reply_lines returned)) → BreaksOff answers d (line ∷ next ∷ lines ++ left) part e
      by later (inl first) = breaks-first d h.0 e line (next ∷ lines) left a returned part (inr posted) h.1 h.3 first
      by later (inr on) =
          rw (sym (ap (λ l. l ++ on.0) (append-nil (reply_line a)) ∙ sym on.1))
          (breaks-following d h.0 e (line ∷ next ∷ lines ++ left) (next ∷ lines ++ left) (line ∷ []) (a ∷ []) on.0 (h.0, h.1, h.2, refl) refl (later on.0 on.2))

  -- ---- one more line

  -- a line that ended, and those after it
  pub line_ended : (line : Line) (piece more following : List ℕ) (whole : Line) → Some following ≡ after_line_feed piece → whole ≡ extended line (before_line_feed piece) → lines_on line (piece ++ more) ≡ whole ∷ lines_on (Some []) (following ++ more)
  line_ended line piece more following whole e f = lines_on-ended line piece more following (sym e) ∙ ap (λ l. l ∷ lines_on (Some []) (following ++ more)) (sym f)

  pub all-one : (d f e : D) (done : List Line) (returned : List Answer) (line : Line) (a : Answer) → AllGet answers d done returned f → Gets answers f line a e → is_closed a ≡ false → AllGet answers d (done ++ line ∷ []) (returned ++ a ∷ []) e
  all-one d f e done returned line a h gets goes_on = all-append done (line ∷ []) returned (a ∷ []) d f e h (e, gets, goes_on, refl)

  -- ---- a text that was read so far

  -- each line that ended has its reply
  pub stops-at : (d e : D) (seen : List ℕ) (line : Line) (done : List Line) (returned : List Answer) → AllGet answers d done returned e → ((more : List ℕ) → lines_of (seen ++ more) ≡ done ++ lines_on line more) → Stops answers d (lines_of seen) (reply_lines returned) e
  stops-at d e seen line done returned h lines = (returned, extended line [], (done, ap lines_of (sym (append-nil seen)) ∙ lines [], h), refl)

  pub last_line : (seen : List ℕ) (line : Line) (done : List Line) → IsWithin line → ((more : List ℕ) → lines_of (seen ++ more) ≡ done ++ lines_on line more) → lines_of seen ≡ done ++ line ∷ []
  last_line seen line done within lines = ap lines_of (sym (append-nil seen)) ∙ lines [] ∙ ap (λ l. done ++ l ∷ []) (extended-nothing line within)

  -- the input has ended
  pub finishes-at : (d e : D) (seen : List ℕ) (line : Line) (done : List Line) (returned : List Answer) → IsWithin line → AllGet answers d done returned e → ((more : List ℕ) → lines_of (seen ++ more) ≡ done ++ lines_on line more)
      → Finishes answers d (lines_of seen) (reply_lines returned ++ reply_lines (last_answers line)) e
  finishes-at d e seen line done returned within h lines = (returned, line, (done, last_line seen line done within lines, h), refl)

module _ {D : Type 0} (answers : D → Request → Answer → D → Type 0) {C : Type 0} (exchanged : C → List ℕ → List ℕ → C → Type 0) where
  -- the text of a written answer
  pub returned-whole : (d e : D) (line : Line) (answer : Answer) (a b : C) (closed : Bool) → closed ≡ is_closed answer → Gets answers d line answer e → (returned : Answer) × IsWritten answer returned × exchanged a [] (reply_line returned) b
      → (returned : Answer) × (closed ≡ is_closed returned) × Gets answers d line returned e × exchanged a [] (reply_line returned) b
  returned-whole d e line answer a b closed is h w = (w.0, is ∙ sym (closed-returned answer w.0 w.1), gets-returned answers d e line answer w.0 h w.1, w.2)

  pub returned-part : (d e : D) (line : Line) (answer : Answer) (a b : C) → Gets answers d line answer e → (returned : Answer) × IsWritten answer returned × WritesPart exchanged a b (reply_line returned)
      → (returned : Answer) × Gets answers d line returned e × WritesPart exchanged a b (reply_line returned)
  returned-part d e line answer a b h w = (w.0, gets-returned answers d e line answer w.0 h w.1, w.2)

-- exchanges in turn add up
abbrev pub InTurn : {C : Type 0} → (C → List ℕ → List ℕ → C → Type 0) → Type 0
InTurn {C} exchanged = (a b c : C) (bytes_read more bytes_written later : List ℕ) → exchanged a bytes_read bytes_written b → exchanged b more later c → exchanged a (bytes_read ++ more) (bytes_written ++ later) c

module _ {C : Type 0} (exchanged : C → List ℕ → List ℕ → C → Type 0) (turn : InTurn exchanged) where
  -- more goes out
  pub returned-on : (a b c : C) (bytes_read bytes_written text : List ℕ) → exchanged a bytes_read bytes_written b → exchanged b [] text c → exchanged a bytes_read (bytes_written ++ text) c
  returned-on a b c bytes_read bytes_written text first second = rw (sym (append-nil bytes_read)) (turn a b c bytes_read [] bytes_written text first second)

  -- more comes in
  pub heard-on : (a b c : C) (bytes_read more bytes_written : List ℕ) → exchanged a bytes_read bytes_written b → exchanged b more [] c → exchanged a (bytes_read ++ more) bytes_written c
  heard-on a b c bytes_read more bytes_written first second = rw (sym (append-nil bytes_written)) (turn a b c bytes_read more bytes_written [] first second)

  -- nothing more comes in
  pub still : (a b c : C) (bytes_read bytes_written : List ℕ) → exchanged a bytes_read bytes_written b → exchanged b [] [] c → exchanged a bytes_read bytes_written c
  still a b c bytes_read bytes_written first second = rw (sym (append-nil bytes_read)) (heard-on a b c bytes_read [] bytes_written first second)

  -- a read that gave no byte
  pub no-more : (a b c : C) (bytes_read bytes bytes_written : List ℕ) (count : ℕ) → exchanged a bytes_read bytes_written b → exchanged b (take count bytes) [] c → count ≡ 0 → exchanged a bytes_read bytes_written c
  no-more a b c bytes_read bytes bytes_written count first second e = grind (arith, still)

  -- one more reply
  pub returned-one : (a b c : C) (returned : List Answer) (x : Answer) → exchanged a [] (reply_lines returned) b → exchanged b [] (reply_line x) c → exchanged a [] (reply_lines (returned ++ x ∷ [])) c
  returned-one a b c returned x first second = rw (sym (reply_lines-one returned x)) (turn a b c [] [] (reply_lines returned) (reply_line x) first second)

  -- more replies
  pub returned-all : (a b c : C) (bytes_read : List ℕ) (returned more : List Answer) → exchanged a bytes_read (reply_lines returned) b → exchanged b [] (reply_lines more) c → exchanged a bytes_read (reply_lines (returned ++ more)) c
  returned-all a b c bytes_read returned more first second = rw (reply_lines-append returned more) (returned-on a b c bytes_read (reply_lines returned) (reply_lines more) first second)

module _ {D : Type 0} (answers : D → Request → Answer → D → Type 0) {C : Type 0} (exchanged : C → List ℕ → List ℕ → C → Type 0) (turn : InTurn exchanged) where
  -- the reply to the next line was not written whole
  broken-at : (d f e : D) (a b c : C) (bytes_read : List ℕ) (lines done left : List Line) (line : Line) (returned : List Answer) → AllGet answers d done returned f → exchanged a bytes_read (reply_lines returned) b → lines ≡ done ++ line ∷ left
      → (x : Answer) × GetsAtLast answers f line x e × WritesPart exchanged b c (reply_line x) → (text : List ℕ) × exchanged a bytes_read text c × BreaksOff answers d lines text e
  broken-at d f e a b c bytes_read lines done left line returned h written same w =
      (reply_lines returned ++ w.2.0, returned-on exchanged turn a b c bytes_read (reply_lines returned) w.2.0 written w.2.1, (returned, line, [], left, f, e, w.0, [], w.2.0, (done, same, h), w.1, refl, inl refl, w.2.2, refl))

  -- the stream has ended, but that could not be written
  pub broken-end : (d e : D) (a b c : C) (bytes_read seen : List ℕ) (line : Line) (done : List Line) (returned : List Answer) → IsWithin line → AllGet answers d done returned e → exchanged a bytes_read (reply_lines returned) b
      → ((more : List ℕ) → lines_of (seen ++ more) ≡ done ++ lines_on line more) → WritesPart exchanged b c (reply_line (Faulted Unfinished)) → (text : List ℕ) × exchanged a bytes_read text c × BreaksOff answers d (lines_of seen) text e
  broken-end d e a b c bytes_read seen line done returned within h written lines part =
      broken-at d e e a b c bytes_read (lines_of seen) done [] line returned h written (last_line answers seen line done within lines) (Faulted Unfinished, inr (refl, refl), part)

-- ---- the text of an answer, as a line

pub returned-made : {E : Type 0} (answer is : Answer) (r : Result (String Global) E) (bytes : List ℕ) → answer ≡ is → takes_memory is ≡ true → IfOk r (λ text. string_bytes text ≡ reply_line is) → bytes ≡ made_bytes r → (returned : Answer) × IsWritten answer returned × (bytes ≡ reply_line returned)
returned-made answer is (Ok text) bytes same takes h e = (is, inl (sym same), e ∙ h)
returned-made answer is (Err x) bytes same takes h e = (Faulted OutOfMemory, inr (refl, ap takes_memory same ∙ takes), e)

pub returned-fixed : (answer is : Answer) (bytes : List ℕ) → answer ≡ is → bytes ≡ reply_line is → (returned : Answer) × IsWritten answer returned × (bytes ≡ reply_line returned)
returned-fixed answer is bytes same e = (is, inl (sym same), e)
