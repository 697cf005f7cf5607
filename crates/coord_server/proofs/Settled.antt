-- All that the desk of an instance replied or showed is settled.
use Rattle.std.proofs.Common.{◌≡◌, ◌⊎◌, ℕ, ◌≤◌, List, [], ◌∷◌, ◌++◌, Some, None, Result, Ok, Err, length, take, refl, sym, ap, ◌∙◌, subst, inl, inr, append-nil, arith}
use Rattle.std.specs.List.{AllByRecursion}
use Rattle.std.proofs.lemmas.Grind.{flat_map-append}
use Rattle.std.proofs.lemmas.List.{length-take-le}
use Rattle.coord_types.specs.declared.refusals.Refusal.{Refusal}
use Rattle.coord_types.specs.declared.refusals.Refusal.TheVariants as refusal
use Rattle.coord_types.specs.declared.steps.Reply.{Reply}
use Rattle.coord_types.specs.declared.steps.Step.{Step}
use Rattle.coord_lines.specs.Lines.{Line}
use Rattle.coord_lines.specs.Written.{IsFirstPart}
use Rattle.coord_view.specs.Shown.{Shown}
use Rattle.coord_world.proofs.Facade.{fold_counts}
use Rattle.coord_ledger.specs.Facade.{Log, settled_count, settled_world}
use Rattle.coord_engine.specs.Facade.{Basis}
use Rattle.coord_admin.specs.Connections.{AllServed, Connection, Talk}
use Rattle.coord_admin.specs.Replies.{order_answer, refused, reply_line, reply_lines, resend_answer, show_answer}
use Rattle.coord_admin.specs.Requests.{asked_by}
use Rattle.coord_admin.specs.Stream.{AllGet, FindsNoMemory, Gets, GetsAtLast, MayAnswer, Served, last_answers}
use Rattle.coord_admin.specs.declared.answer.Answer.{Answer}
use Rattle.coord_admin.specs.declared.answer.Answer.TheVariants as answer
use Rattle.coord_admin.specs.declared.fault.LineFault.{LineFault}
use Rattle.coord_admin.specs.declared.fault.ServeFault.{ServeFault}
use Rattle.coord_admin.specs.declared.fault.ServeFault.TheVariants as serve
use Rattle.coord_admin.specs.declared.request.Request.{Request}
use Rattle.coord_admin.specs.declared.request.Request.TheVariants as request
use Rattle.coord_admin.specs.declared.session.Ended.{Ended}
use Rattle.coord_admin.specs.declared.session.Ended.TheVariants as ended
use Rattle.coord_server.specs.EngineDesk.{DeskAnswers, DeskKeeps, DeskState, ShowsTo, seen_after}
use Rattle.coord_server.specs.Ending.{new_desk}
use Rattle.coord_server.specs.Returned.{AllWriteUpTo, AnswersUpTo, ReturnedIsSettled, WritesUpTo}

-- ---- which steps an answer names

further : (n m : ℕ) (a : Answer) → n ≤ m → AnswersUpTo n a → AnswersUpTo m a
further n m (answer.Replied r) le is = omega (arith, le, is)
further n m (answer.Shown v) le is = omega (arith, le, is)
further n m (answer.Refused r) le is = tt
further n m (answer.Resent k) le is = tt
further n m answer.Closed le is = tt
further n m (answer.Faulted f) le is = tt

all_further : (n m : ℕ) (returned : List Answer) → n ≤ m → AllByRecursion (AnswersUpTo n) returned → AllByRecursion (AnswersUpTo m) returned
all_further n m [] le is = tt
all_further n m (a ∷ returned) le is = (further n m a le is.0, all_further n m returned le is.1)

all_both : (n : ℕ) (returned more : List Answer) → AllByRecursion (AnswersUpTo n) returned → AllByRecursion (AnswersUpTo n) more → AllByRecursion (AnswersUpTo n) (returned ++ more)
all_both n [] more is also = also
all_both n (a ∷ returned) more is also = (is.0, all_both n returned more is.1 also)

-- ---- which steps a text names

text_further : (n m : ℕ) (text : List ℕ) → n ≤ m → WritesUpTo n text → WritesUpTo m text
text_further n m text le is = record { returned = is.returned; up_to = all_further n m is.returned le is.up_to; part = is.part; broken = broken is.part is.broken; text_is = is.text_is }
  where
    broken : (part : List ℕ) → (part ≡ []) ⊎ ((last : Answer) × AnswersUpTo n last × IsFirstPart part (reply_line last)) → (part ≡ []) ⊎ ((last : Answer) × AnswersUpTo m last × IsFirstPart part (reply_line last))
    broken part (inl none) = inl none
    broken part (inr at) = inr (at.0, further n m at.0 le at.1, at.2)

-- whole lines
lines_distinguish : (n : ℕ) (returned : List Answer) (text : List ℕ) → AllByRecursion (AnswersUpTo n) returned → text ≡ reply_lines returned → WritesUpTo n text
lines_distinguish n returned text all is = record { returned = returned; up_to = all; part = []; broken = inl refl; text_is = is ∙ sym (append-nil (reply_lines returned)) }

-- and those after them
more_return_ : (n : ℕ) (returned more : List Answer) (text : List ℕ) → AllByRecursion (AnswersUpTo n) returned → AllByRecursion (AnswersUpTo n) more → text ≡ reply_lines returned ++ reply_lines more → WritesUpTo n text
more_return_ n returned more text all also is = lines_distinguish n (returned ++ more) text (all_both n returned more all also) (is ∙ sym (flat_map-append reply_line returned more))

says_last : (n : ℕ) (line : Line) → AllByRecursion (AnswersUpTo n) (last_answers line)
says_last n None = (tt, tt)
says_last n (Some []) = tt
says_last n (Some (x ∷ xs)) = (tt, tt)

-- a desk that had seen n answers so, and then has seen m
abbrev Goes : ℕ → Answer → ℕ → Type 0
Goes n a m = (n ≤ m) × AnswersUpTo m a

-- ---- a desk that has seen all that it answers

module _ {D : Type 0} (answers : D → Request → Answer → D → Type 0) (seen : D → ℕ) (sees : (d e : D) (r : Request) (a : Answer) → answers d r a e → Goes (seen d) a (seen e)) where
  same : (d e : D) → e ≡ d → seen d ≤ seen e
  same d e is = omega (arith, ap seen is)

  may : (d e : D) (asked : Result Request LineFault) (a : Answer) → MayAnswer answers d asked a e → Goes (seen d) a (seen e)
  may d e (Ok r) a is = sees d e r a is
  may d e (Err f) a is = subst (λ (x : Answer). Goes (seen d) x (seen e)) (sym is.0) (same d e is.1, tt)

  no_memory : (d e : D) (line : Line) → FindsNoMemory answers d line e → seen d ≤ seen e
  no_memory d e line (inl is) = same d e is.1
  no_memory d e line (inr is) = (may d e (asked_by line) is.0 is.2).0

  gets : (d e : D) (line : Line) (a : Answer) → Gets answers d line a e → Goes (seen d) a (seen e)
  gets d e line a (inl is) = may d e (asked_by line) a is
  gets d e line a (inr is) = subst (λ (x : Answer). Goes (seen d) x (seen e)) (sym is.0) (no_memory d e line is.1, tt)

  gets_at_last : (d e : D) (line : Line) (a : Answer) → GetsAtLast answers d line a e → Goes (seen d) a (seen e)
  gets_at_last d e line a (inl is) = gets d e line a is
  gets_at_last d e line a (inr is) = subst (λ (x : Answer). Goes (seen d) x (seen e)) (sym is.0) (same d e is.1, tt)

  all_get : (d e : D) (lines : List Line) (returned : List Answer) → AllGet answers d lines returned e → (seen d ≤ seen e) × AllByRecursion (AnswersUpTo (seen e)) returned
  all_get d e [] [] is = (same d e is, tt)
  all_get d e [] (a ∷ returned) is = absurd is
  all_get d e (line ∷ lines) [] is = absurd is
  all_get d e (line ∷ lines) (a ∷ returned) is =
      let first = gets d is.0 line a is.1 in
      let later = all_get is.0 e lines returned is.3 in
      (omega (arith, first.0, later.0), (further (seen is.0) (seen e) a later.0 first.1, later.1))

  served : (d e : D) (read text : List ℕ) (how : Result Ended ServeFault) → Served answers d read text how e → (seen d ≤ seen e) × WritesUpTo (seen e) text
  served d e read text (Ok ended.Input) (returned, last, reaches, is) =
      let all = all_get d e reaches.0 returned reaches.2 in
      (all.0, more_return_ (seen e) returned (last_answers last) text all.1 (says_last (seen e) last) is)
  served d e read text (Ok ended.Closed) (returned, line, next, left, f, reaches, last, is) =
      let all = all_get d f reaches.0 returned reaches.2 in
      let on = (gets f e line answer.Closed last).0 in (
        omega (arith, all.0, on),
        more_return_ (seen e) returned (answer.Closed ∷ []) text (all_further (seen f) (seen e) returned on all.1) (tt, tt) (is ∙ ap (λ l. reply_lines returned ++ l) (sym (append-nil (reply_line answer.Closed)))),
      )
  served d e read text (Ok ended.Cut) (returned, last, reaches, is) =
      let all = all_get d e reaches.0 returned reaches.2 in
      (all.0, lines_distinguish (seen e) returned text all.1 is)
  served d e read text (Err serve.Read) (returned, last, reaches, is) =
      let all = all_get d e reaches.0 returned reaches.2 in
      (all.0, lines_distinguish (seen e) returned text all.1 is)
  served d e read text (Err serve.Turns) ((returned, last, reaches, is), many) =
      let all = all_get d e reaches.0 returned reaches.2 in
      (all.0, lines_distinguish (seen e) returned text all.1 is)
  served d e read text (Err serve.Write) (returned, line, following, left, f, g, a, unreturned, part, reaches, last, rest, posted, first, is) =
      let all = all_get d f reaches.0 returned reaches.2 in
      let here = gets_at_last f g line a last in
      let on = (all_get g e following unreturned rest).0 in
      let le : seen f ≤ seen e = omega (arith, here.0, on) in (
        omega (arith, all.0, le),
        record { returned = returned; up_to = all_further (seen f) (seen e) returned le all.1; part = part; broken = inr (a, further (seen g) (seen e) a on here.1, first); text_is = is },
      )
  served d e read text (Err serve.OutOfMemory) (nothing, none, is) = (same d e is, lines_distinguish (seen e) [] text tt none)

  module _ (keeps : D → ℕ → Type 0) (most : ℕ) where
    all_served : (d e : D) (cs : List Connection) → AllServed answers keeps most d cs e → (seen d ≤ seen e) × AllWriteUpTo (seen e) cs
    all_served d e [] is = (same d e is, tt)
    all_served d e (c ∷ cs) is =
        let first = served d is.0 c.talk.bytes_read c.talk.bytes_written c.ended is.1.1 in
        let later = all_served is.0 e cs is.3 in
        (omega (arith, first.0, later.0), (text_further (seen is.0) (seen e) c.talk.bytes_written later.0 first.1, later.1))

all_write_further : (n m : ℕ) (cs : List Connection) → n ≤ m → AllWriteUpTo n cs → AllWriteUpTo m cs
all_write_further n m [] le is = tt
all_write_further n m (c ∷ cs) le is = (text_further n m c.talk.bytes_written le is.0, all_write_further n m cs le is.1)

and_last : (n : ℕ) (cs : List Connection) (last : Connection) → AllWriteUpTo n cs → WritesUpTo n last.talk.bytes_written → AllWriteUpTo n (cs ++ last ∷ [])
and_last n [] last is also = (also, tt)
and_last n (c ∷ cs) last is also = (is.0, and_last n cs last is.1 also)

-- ---- the desk over an engine

refused_answers_up_to : (n : ℕ) (r : Refusal) → AnswersUpTo n (refused r)
refused_answers_up_to n refusal.Stopped = tt
refused_answers_up_to n refusal.OutOfMemory = tt
refused_answers_up_to n refusal.Exhausted = tt
refused_answers_up_to n refusal.OutOfTurn = tt
refused_answers_up_to n refusal.NumberReused = tt
refused_answers_up_to n refusal.UnknownNode = tt
refused_answers_up_to n refusal.NodeExists = tt
refused_answers_up_to n refusal.HasLinks = tt
refused_answers_up_to n refusal.SameNode = tt
refused_answers_up_to n refusal.OtherGroup = tt
refused_answers_up_to n refusal.LinkExists = tt
refused_answers_up_to n refusal.NoLink = tt
refused_answers_up_to n refusal.DegreeFull = tt
refused_answers_up_to n refusal.LinksFull = tt
refused_answers_up_to n refusal.BadEpoch = tt
refused_answers_up_to n refusal.Old = tt
refused_answers_up_to n refusal.Early = tt
refused_answers_up_to n refusal.Differs = tt
refused_answers_up_to n refusal.NotReleased = tt
refused_answers_up_to n refusal.PendingFull = tt
refused_answers_up_to n (refusal.Behind settled) = tt
refused_answers_up_to n refusal.Stranger = tt

order_goes : (result : Result Reply Refusal) (n m : ℕ) → m ≡ seen_after result n → Goes n (order_answer result) m
order_goes (Ok r) n m is = (omega (arith, is), omega (arith, is))
order_goes (Err r) n m is = (omega (arith, is), refused_answers_up_to m r)

-- the settled world has as many steps as are settled
world_counts : (log : Log) → log.settled ≤ length log.trail → (settled_world log).count ≡ settled_count log
world_counts log within = omega (arith, fold_counts log.base (take log.settled log.trail), length-take-le log.settled log.trail within)

show_goes : {D : Type 0} (b : Basis D) (result : Result Shown Refusal) (n m : ℕ) (read now : List Step) → ShowsTo b result n m read now → Goes n (show_answer result) m
show_goes b (Ok view) n m read now returned =
    let is = returned.at in
    let log = is.state.ledger.log in
    let counted : view.settled ≡ (settled_world log).count = ap (λ (v : Shown). v.settled) is.so.0.2 in
    (omega (arith, is.so.0.1, is.so.0.3), omega (arith, is.so.0.3, counted, world_counts log is.held.log.within))
show_goes b (Err r) n m read now is = (omega (arith, is.1), refused_answers_up_to m r)

resend_answers : (n : ℕ) (result : Result ℕ Refusal) → AnswersUpTo n (resend_answer result)
resend_answers n (Ok k) = tt
resend_answers n (Err r) = refused_answers_up_to n r

desk_goes : {D P : Type 0} (b : Basis D) (d e : DeskState P) (r : Request) (a : Answer) → DeskAnswers b d r a e → Goes d.seen a e.seen
desk_goes b d e (request.Order client number command) a is = subst (λ (x : Answer). Goes d.seen x e.seen) (sym is.1) (order_goes is.0 d.seen e.seen is.3)
desk_goes b d e request.Show a is = subst (λ (x : Answer). Goes d.seen x e.seen) (sym is.1) (show_goes b is.0 d.seen e.seen d.read e.read is.2)
desk_goes b d e request.Resend a is = subst (λ (x : Answer). Goes d.seen x e.seen) (sym is.1) (omega (arith, is.4), resend_answers e.seen is.0)
desk_goes {D} {P} b d e request.Close a is = subst (λ (x : Answer). Goes d.seen x e.seen) (sym is.0) (omega (arith, ap (λ (x : DeskState P). x.seen) is.1), tt)

pub returned_is_settled : (D P : Type 0) {V : Type 0} (talked : V → List Talk → V → Type 0) → ReturnedIsSettled D P talked
returned_is_settled D P talked b most port v w desk left history =
    let sees = desk_goes {D = D} {P = P} b in
    let saw = λ (x : DeskState P). x.seen in (
      λ is. all_write_further desk.seen left.settled is.0 history.seen (all_served (DeskAnswers b) saw sees (DeskKeeps b) most (new_desk port) desk is.0 is.2).1,
      λ is.
          let first = all_served (DeskAnswers b) saw sees (DeskKeeps b) most (new_desk port) is.2 is.0 is.4 in
          let last = served (DeskAnswers b) saw sees is.2 desk is.1.talk.bytes_read is.1.talk.bytes_written is.1.ended is.5.1 in
          let le : is.2.seen ≤ left.settled = omega (arith, last.0, history.seen) in
          and_last left.settled is.0 is.1 (all_write_further is.2.seen left.settled is.0 le first.1) (text_further desk.seen left.settled is.1.talk.bytes_written history.seen last.1),
    )
