-- All that the desk of an instance replied or showed follows from its history, in order.
use Rattle.std.proofs.Common.{◌≡◌, ℕ, zero, suc, ◌+◌, ◌≤◌, List, [], ◌∷◌, ◌++◌, map, Some, None, Result, Ok, Err, length, slice_get, take, refl, sym, ap, ◌∙◌, subst, inl, inr, append-nil, append_assoc, arith}
use Rattle.std.specs.List.{AllByRecursion}
use Rattle.std.proofs.lemmas.Grind.{flat_map-append}
use Rattle.std.proofs.lemmas.List.{map-append}
use Rattle.coord_types.specs.declared.refusals.Refusal.{Refusal}
use Rattle.coord_types.specs.declared.refusals.Refusal.TheVariants as refusal
use Rattle.coord_types.specs.declared.steps.Command.{Command}
use Rattle.coord_types.specs.declared.steps.Reply.{Reply}
use Rattle.coord_types.specs.declared.steps.Step.{Step}
use Rattle.coord_types.specs.declared.steps.Step.TheVariants as step
use Rattle.coord_lines.specs.Lines.{Line, lines_of}
use Rattle.coord_view.specs.Shown.{Shown, shown}
use Rattle.coord_world.specs.Facade.{World, fold, next, reply}
use Rattle.coord_world.proofs.Facade.{fold_counts}
use Rattle.coord_ledger.specs.declared.ticket.Note.{Note}
use Rattle.coord_ledger.specs.Facade.{Claim, IsCollectable, IsGranted, Log, accepted_count, settled_steps, settled_world}
use Rattle.coord_engine.proofs.Histories.{all_of, first_of_first}
use Rattle.coord_engine.specs.Facade.{Basis, StartsWith, engine_verdict}
use Rattle.coord_admin.specs.Connections.{AllServed, Connection, Talk}
use Rattle.coord_admin.specs.Replies.{order_answer, refused, reply_line, reply_lines, resend_answer, show_answer}
use Rattle.coord_admin.specs.Requests.{asked_by}
use Rattle.coord_admin.specs.Stream.{AllGet, FindsNoMemory, Gets, GetsAtLast, MayAnswer, Served, last_answers}
use Rattle.coord_admin.specs.declared.answer.Answer.{Answer}
use Rattle.coord_admin.specs.declared.answer.Answer.TheVariants as answer
use Rattle.coord_admin.specs.declared.fault.LineFault.{LineFault}
use Rattle.coord_admin.specs.declared.fault.LineFault.TheVariants.{Unfinished}
use Rattle.coord_admin.specs.declared.fault.ServeFault.{ServeFault}
use Rattle.coord_admin.specs.declared.fault.ServeFault.TheVariants as serve
use Rattle.coord_admin.specs.declared.request.Request.{Request}
use Rattle.coord_admin.specs.declared.request.Request.TheVariants as request
use Rattle.coord_admin.specs.declared.session.Ended.{Ended}
use Rattle.coord_admin.specs.declared.session.Ended.TheVariants as ended
use Rattle.coord_server.proofs.Returned.{claim_of, noted}
use Rattle.coord_server.specs.EngineDesk.{AnswersOrder, DeskAnswers, DeskKeeps, DeskState, ShowsTo}
use Rattle.coord_server.specs.Ending.{new_desk}
use Rattle.coord_server.specs.InOrder.{AllInOrder, BearOut, GoOn, IsBorneOut, IsOwnReply, Returned, AnsweredInOrder, WritesInOrder}

-- ---- one answer after the other

more_on : (first : List Step) (returned : List Returned) (now last : List Step) → GoOn first returned now → StartsWith last now → GoOn first returned last
more_on first [] now last is on = first_of_first first now last is on
more_on first (t ∷ returned) now last is on = (is.0, more_on t.after returned now last is.1 on)

and_one : (first : List Step) (returned : List Returned) (now last : List Step) (t : Returned) → GoOn first returned now → StartsWith t.after now → StartsWith last t.after → GoOn first (returned ++ t ∷ []) last
and_one first [] now last t is by on = (first_of_first first now t.after is by, on)
and_one first (q ∷ returned) now last t is by on = (is.0, and_one q.after returned now last t is.1 by on)

both : {A : Type 0} (P : A → Type 0) (xs ys : List A) → AllByRecursion P xs → AllByRecursion P ys → AllByRecursion P (xs ++ ys)
both P [] ys is also = also
both P (x ∷ xs) ys is also = (is.0, both P xs ys is.1 also)

abbrev line_of : Returned → Line
line_of t = t.line

abbrev answer_of : Returned → Answer
answer_of t = t.answer

-- ---- a desk whose answers are borne out by what it reads

module _ {D : Type 0} (answers : D → Request → Answer → D → Type 0) (base : World) (reads : D → List Step) (bears : (d e : D) (r : Request) (a : Answer) → answers d r a e → StartsWith (reads e) (reads d) × BearOut base (reads e) (Ok r) a) where
  same : (d e : D) → e ≡ d → StartsWith (reads e) (reads d)
  same d e is = subst (λ x. StartsWith (reads x) (reads d)) (sym is) (all_of (reads d))

  may : (d e : D) (asked : Result Request LineFault) (a : Answer) → MayAnswer answers d asked a e → StartsWith (reads e) (reads d) × BearOut base (reads e) asked a
  may d e (Ok r) a is = bears d e r a is
  may d e (Err f) a is = (same d e is.1, subst (λ (x : Answer). BearOut base (reads e) (Err f) x) (sym is.0) tt)

  no_memory : (d e : D) (line : Line) → FindsNoMemory answers d line e → StartsWith (reads e) (reads d)
  no_memory d e line (inl is) = same d e is.1
  no_memory d e line (inr is) = (may d e (asked_by line) is.0 is.2).0

  gets : (d e : D) (line : Line) (a : Answer) → Gets answers d line a e → StartsWith (reads e) (reads d) × BearOut base (reads e) (asked_by line) a
  gets d e line a (inl is) = may d e (asked_by line) a is
  gets d e line a (inr is) = (no_memory d e line is.1, subst (λ (x : Answer). BearOut base (reads e) (asked_by line) x) (sym is.0) tt)

  gets_at_last : (d e : D) (line : Line) (a : Answer) → GetsAtLast answers d line a e → StartsWith (reads e) (reads d) × BearOut base (reads e) (asked_by line) a
  gets_at_last d e line a (inl is) = gets d e line a is
  gets_at_last d e line a (inr is) = (same d e is.1, subst (λ (x : Answer). BearOut base (reads e) (asked_by line) x) (sym is.0) tt)

  -- the answers to some lines
  record Answered (d : D) (lines : List Line) (returned : List Answer) (e : D) : Type 0 where
    all : List Returned
    lines_are : map line_of all ≡ lines
    answers_are : map answer_of all ≡ returned
    go_on : GoOn (reads d) all (reads e)
    borne_out : AllByRecursion (IsBorneOut base) all

  all_get : (d e : D) (lines : List Line) (returned : List Answer) → AllGet answers d lines returned e → Answered d lines returned e
  all_get d e [] [] is = record { all = []; lines_are = refl; answers_are = refl; go_on = same d e is; borne_out = tt }
  all_get d e [] (a ∷ returned) is = absurd is
  all_get d e (line ∷ lines) [] is = absurd is
  all_get d e (line ∷ lines) (a ∷ returned) is =
      let first = gets d is.0 line a is.1 in
      let later = all_get is.0 e lines returned is.3 in
      record {
        all = record { line = line; answer = a; after = reads is.0 } ∷ later.all;
        lines_are = ap (λ l. line ∷ l) later.lines_are;
        answers_are = ap (λ l. a ∷ l) later.answers_are;
        go_on = (first.0, later.go_on);
        borne_out = (first.1, later.borne_out);
      }

  -- whole lines, and the rest of what was read
  whole : (d e : D) (read text : List ℕ) (done left : List Line) (returned : List Answer) → lines_of read ≡ done ++ left → text ≡ reply_lines returned → Answered d done returned e → WritesInOrder base (reads d) (record { bytes_read = read; bytes_written = text }) (reads e)
  whole d e read text done left returned lines is by = record {
    returned = by.all;
    torn = [];
    left = left;
    lines = lines ∙ ap (λ l. l ++ left) (sym by.lines_are ∙ ap (map line_of) (sym (append-nil by.all)));
    go_on = subst (λ l. GoOn (reads d) l (reads e)) (sym (append-nil by.all)) by.go_on;
    borne_out = subst (AllByRecursion (IsBorneOut base)) (sym (append-nil by.all)) by.borne_out;
    part = [];
    broken = inl (refl, refl);
    text_is = is ∙ ap reply_lines (sym by.answers_are) ∙ sym (append-nil (reply_lines (map answer_of by.all)));
  }

  -- and one more answer
  one_more : (d f e : D) (done : List Line) (returned : List Answer) (line : Line) (a : Answer) → Answered d done returned f → StartsWith (reads e) (reads f) → BearOut base (reads e) (asked_by line) a → Answered d (done ++ line ∷ []) (returned ++ a ∷ []) e
  one_more d f e done returned line a by on bear =
      let t : Returned = record { line = line; answer = a; after = reads e } in
      record {
        all = by.all ++ t ∷ [];
        lines_are = map-append line_of by.all (t ∷ []) ∙ ap (λ l. l ++ line ∷ []) by.lines_are;
        answers_are = map-append answer_of by.all (t ∷ []) ∙ ap (λ l. l ++ a ∷ []) by.answers_are;
        go_on = and_one (reads d) by.all (reads f) (reads e) t by.go_on on (all_of (reads e));
        borne_out = both (IsBorneOut base) by.all (t ∷ []) by.borne_out (bear, tt);
      }

  finished : (d e : D) (read text : List ℕ) (done : List Line) (last : Line) (returned : List Answer) → lines_of read ≡ done ++ last ∷ [] → text ≡ reply_lines returned ++ reply_lines (last_answers last) → Answered d done returned e → WritesInOrder base (reads d) (record { bytes_read = read; bytes_written = text }) (reads e)
  finished d e read text done (Some []) returned lines is by = whole d e read text done (Some [] ∷ []) returned lines (is ∙ append-nil (reply_lines returned)) by
  finished d e read text done None returned lines is by =
      whole d e read text (done ++ None ∷ []) [] (returned ++ answer.Faulted Unfinished ∷ []) (lines ∙ sym (append-nil (done ++ None ∷ []))) (is ∙ sym (flat_map-append reply_line returned (answer.Faulted Unfinished ∷ []))) (one_more d e e done returned None (answer.Faulted Unfinished) by (all_of (reads e)) tt)
  finished d e read text done (Some (x ∷ xs)) returned lines is by =
      whole d e read text (done ++ Some (x ∷ xs) ∷ []) [] (returned ++ answer.Faulted Unfinished ∷ []) (lines ∙ sym (append-nil (done ++ Some (x ∷ xs) ∷ []))) (is ∙ sym (flat_map-append reply_line returned (answer.Faulted Unfinished ∷ []))) (one_more d e e done returned (Some (x ∷ xs)) (answer.Faulted Unfinished) by (all_of (reads e)) tt)

  served : (d e : D) (read text : List ℕ) (how : Result Ended ServeFault) → Served answers d read text how e → WritesInOrder base (reads d) (record { bytes_read = read; bytes_written = text }) (reads e)
  served d e read text (Ok ended.Input) (returned, last, reaches, is) = finished d e read text reaches.0 last returned reaches.1 is (all_get d e reaches.0 returned reaches.2)
  served d e read text (Ok ended.Closed) (returned, line, after, left, f, reaches, last, is) =
      let on = gets f e line answer.Closed last in
      whole d e read text (reaches.0 ++ line ∷ []) (after ∷ left) (returned ++ answer.Closed ∷ []) (reaches.1 ∙ sym (append_assoc reaches.0 (line ∷ []) (after ∷ left)))
      (is ∙ ap (λ l. reply_lines returned ++ l) (sym (append-nil (reply_line answer.Closed))) ∙ sym (flat_map-append reply_line returned (answer.Closed ∷ [])))
      (one_more d f e reaches.0 returned line answer.Closed (all_get d f reaches.0 returned reaches.2) on.0 tt)
  served d e read text (Ok ended.Cut) (returned, last, reaches, is) = whole d e read text reaches.0 (last ∷ []) returned reaches.1 is (all_get d e reaches.0 returned reaches.2)
  served d e read text (Err serve.Read) (returned, last, reaches, is) = whole d e read text reaches.0 (last ∷ []) returned reaches.1 is (all_get d e reaches.0 returned reaches.2)
  served d e read text (Err serve.Turns) ((returned, last, reaches, is), many) = whole d e read text reaches.0 (last ∷ []) returned reaches.1 is (all_get d e reaches.0 returned reaches.2)
  served d e read text (Err serve.Write) (returned, line, following, left, f, g, a, unreturned, part, reaches, last, rest, posted, first, is) =
      let by = all_get d f reaches.0 returned reaches.2 in
      let here = gets_at_last f g line a last in
      let after = all_get g e following unreturned rest in
      let t : Returned = record { line = line; answer = a; after = reads g } in
      let on : StartsWith (reads e) (reads g) = leads (reads g) after.all (reads e) after.go_on in
      record {
        returned = by.all;
        torn = t ∷ [];
        left = following ++ left;
        lines = reaches.1 ∙ sym (ap (λ l. l ++ (following ++ left)) (map-append line_of by.all (t ∷ []) ∙ ap (λ l. l ++ line ∷ []) by.lines_are) ∙ append_assoc reaches.0 (line ∷ []) (following ++ left));
        go_on = and_one (reads d) by.all (reads f) (reads e) t by.go_on here.0 on;
        borne_out = both (IsBorneOut base) by.all (t ∷ []) by.borne_out (here.1, tt);
        part = part;
        broken = inr (t, refl, first);
        text_is = is ∙ ap (λ l. reply_lines l ++ part) (sym by.answers_are);
      }
    where
      leads : (first : List Step) (returned : List Returned) (last : List Step) → GoOn first returned last → StartsWith last first
      leads first [] last on = on
      leads first (q ∷ qs) last on = first_of_first first q.after last on.0 (leads q.after qs last on.1)
  served d e read text (Err serve.OutOfMemory) (nothing, none, is) =
      whole d e read text [] (lines_of read) [] refl none (record { all = []; lines_are = refl; answers_are = refl; go_on = same d e is; borne_out = tt })

  module _ (keeps : D → ℕ → Type 0) (most : ℕ) where
    all_served : (d e : D) (cs : List Connection) → AllServed answers keeps most d cs e → AllInOrder base (reads d) cs (reads e)
    all_served d e [] is = same d e is
    all_served d e (c ∷ cs) is = (reads is.0, served d is.0 c.talk.bytes_read c.talk.bytes_written c.ended is.1.1, all_served is.0 e cs is.3)

pub earlier_on : (first now : List Step) (returned : List Returned) (last : List Step) → StartsWith now first → GoOn now returned last → GoOn first returned last
earlier_on first now [] last by on = first_of_first first now last by on
earlier_on first now (t ∷ returned) last by on = (first_of_first first now t.after by on.0, on.1)

pub from_earlier : (base : World) (first now : List Step) (talk : Talk) (last : List Step) → StartsWith now first → WritesInOrder base now talk last → WritesInOrder base first talk last
from_earlier base first now talk last by w = record { returned = w.returned; torn = w.torn; left = w.left; lines = w.lines; go_on = earlier_on first now (w.returned ++ w.torn) last by w.go_on; borne_out = w.borne_out; part = w.part; broken = w.broken; text_is = w.text_is }

and_last : (base : World) (first : List Step) (cs : List Connection) (now last : List Step) (c : Connection) → AllInOrder base first cs now → WritesInOrder base now c.talk last → AllInOrder base first (cs ++ c ∷ []) last
and_last base first [] now last c is also = (last, from_earlier base first now c.talk last is also, all_of last)
and_last base first (q ∷ cs) now last c is also = (is.0, is.1, and_last base is.0 cs now last c is.2 also)

-- ---- the desk over an engine

refused_is : (base : World) (steps : List Step) (asked : Result Request LineFault) (r : Refusal) → BearOut base steps asked (refused r)
refused_is base steps asked refusal.Stopped = tt
refused_is base steps asked refusal.OutOfMemory = tt
refused_is base steps asked refusal.Exhausted = tt
refused_is base steps asked refusal.OutOfTurn = tt
refused_is base steps asked refusal.NumberReused = tt
refused_is base steps asked refusal.UnknownNode = tt
refused_is base steps asked refusal.NodeExists = tt
refused_is base steps asked refusal.HasLinks = tt
refused_is base steps asked refusal.SameNode = tt
refused_is base steps asked refusal.OtherGroup = tt
refused_is base steps asked refusal.LinkExists = tt
refused_is base steps asked refusal.NoLink = tt
refused_is base steps asked refusal.DegreeFull = tt
refused_is base steps asked refusal.LinksFull = tt
refused_is base steps asked refusal.BadEpoch = tt
refused_is base steps asked refusal.Old = tt
refused_is base steps asked refusal.Early = tt
refused_is base steps asked refusal.Differs = tt
refused_is base steps asked refusal.NotReleased = tt
refused_is base steps asked refusal.PendingFull = tt
refused_is base steps asked (refusal.Behind settled) = tt
refused_is base steps asked refusal.Stranger = tt

-- a step with this reply is among the first ones if its number is
in_first : (n place : ℕ) (w : World) (trail : List Step) (s : Step) (r : Reply) → slice_get trail place ≡ Some s → reply (fold w (take place trail)) s ≡ r → r.step ≤ w.count + n → (slice_get (take n trail) place ≡ Some s) × (reply (fold w (take place (take n trail))) s ≡ r)
in_first n place w [] s r there is le = absurd cc
in_first zero place w (x ∷ trail) s r there is le =
    let number : (fold w (take place (x ∷ trail))).count + 1 ≡ r.step = ap (λ (q : Reply). q.step) is in
    let count : (fold w (take place (x ∷ trail))).count ≡ w.count + length (take place (x ∷ trail)) = fold_counts w (take place (x ∷ trail)) in
    absurd (omega (arith, number, count, le))
in_first (suc n) zero w (x ∷ trail) s r there is le = (there, is)
in_first (suc n) (suc place) w (x ∷ trail) s r there is le = in_first n place (next w x) trail s r there is (omega (arith, le))

own_reply : (log : Log) (base : World) (now : List Step) (s : Step) (r : Reply) → log.base ≡ base → settled_steps log ≡ now → IsCollectable log (record { step = r.step; what = s; kind = r.kind }) → IsOwnReply base now s r
own_reply log base now s r same read is = subst (λ (w : World). IsOwnReply w now s r) same (subst (λ steps. IsOwnReply log.base steps s r) read (granted is.granted))
  where
    granted : IsGranted log (record { step = r.step; what = s; kind = r.kind }) → IsOwnReply log.base (settled_steps log) s r
    granted (inl at) = let here = in_first log.settled at.place log.base log.trail s r at.there at.answered is.settled in inl (at.place, here.0, here.1)
    granted (inr kept) = inr kept

abbrev bearing : {D : Type 0} → Basis D → List Step → List Step → Result Request LineFault → Answer → Type 0
bearing b read now asked a = StartsWith now read × BearOut b.base now asked a

order_bears : {D : Type 0} (b : Basis D) (client number : ℕ) (command : Command) (result : Result Reply Refusal) (before after : List Note) (read now : List Step) → AnswersOrder b (step.Order client number command) result before after read now → bearing b read now (Ok (request.Order client number command)) (order_answer result)
order_bears b client number command (Ok r) before after read now (claim, accepted, returned) =
    let s = step.Order client number command in
    let at = returned.at in
    let note = noted s (engine_verdict accepted.state s) (record { ledger = accepted.state.ledger; notes = before }) (record { ledger = accepted.so.0; notes = after }) claim accepted.so.1 in
    let is = subst (λ (c : Claim). IsCollectable at.state.ledger.log c) (claim_of s r claim at.so.0.0 note.0) at.so.0.1 in
    (returned.begins, own_reply at.state.ledger.log b.base now s r at.held.grown.same_base at.so.1 is)
order_bears b client number command (Err why) before after read now (inl is) = (subst (λ l. StartsWith l read) (sym is.1) (all_of read), refused_is b.base now (Ok (request.Order client number command)) why)
order_bears b client number command (Err why) before after read now (inr is) = (is.2.begins, refused_is b.base now (Ok (request.Order client number command)) why)

show_bears : {D : Type 0} (b : Basis D) (result : Result Shown Refusal) (n m : ℕ) (read now : List Step) → ShowsTo b result n m read now → bearing b read now (Ok request.Show) (show_answer result)
show_bears b (Ok view) n m read now returned =
    let at = returned.at in
    let log = at.state.ledger.log in
    let here : settled_world log ≡ fold b.base now = ap (λ (w : World). fold w (settled_steps log)) at.held.grown.same_base ∙ ap (fold b.base) at.so.1 in
    (returned.begins, (accepted_count log, at.so.0.2 ∙ ap (shown (accepted_count log)) here))
show_bears b (Err why) n m read now returned = (returned.0.begins, refused_is b.base now (Ok request.Show) why)

resend_bears : (base : World) (steps : List Step) (result : Result ℕ Refusal) → BearOut base steps (Ok request.Resend) (resend_answer result)
resend_bears base steps (Ok k) = tt
resend_bears base steps (Err why) = refused_is base steps (Ok request.Resend) why

desk_bears : {D P : Type 0} (b : Basis D) (d e : DeskState P) (r : Request) (a : Answer) → DeskAnswers b d r a e → bearing b d.read e.read (Ok r) a
desk_bears b d e (request.Order client number command) a is = subst (bearing b d.read e.read (Ok (request.Order client number command))) (sym is.1) (order_bears b client number command is.0 d.notes e.notes d.read e.read is.2)
desk_bears b d e request.Show a is = subst (bearing b d.read e.read (Ok request.Show)) (sym is.1) (show_bears b is.0 d.seen e.seen d.read e.read is.2)
desk_bears b d e request.Resend a is = (subst (λ l. StartsWith l d.read) (sym is.5) (all_of d.read), subst (BearOut b.base e.read (Ok request.Resend)) (sym is.1) (resend_bears b.base e.read is.0))
desk_bears {D} {P} b d e request.Close a is = (subst (λ (x : DeskState P). StartsWith x.read d.read) (sym is.1) (all_of d.read), subst (BearOut b.base e.read (Ok request.Close)) (sym is.0) tt)

pub answered_in_order : (D P : Type 0) {V : Type 0} (talked : V → List Talk → V → Type 0) → AnsweredInOrder D P talked
answered_in_order D P talked b most port v w desk =
    let bears = desk_bears {D = D} {P = P} b in
    let reads = λ (x : DeskState P). x.read in (
      λ is. all_served (DeskAnswers b) b.base reads bears (DeskKeeps b) most (new_desk port) desk is.0 is.2,
      λ is.
          let first = all_served (DeskAnswers b) b.base reads bears (DeskKeeps b) most (new_desk port) is.2 is.0 is.4 in
          let last = served (DeskAnswers b) b.base reads bears is.2 desk is.1.talk.bytes_read is.1.talk.bytes_written is.1.ended is.5.1 in
          and_last b.base [] is.0 is.2.read desk.read is.1 first last,
    )
