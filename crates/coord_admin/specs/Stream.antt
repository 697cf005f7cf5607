-- The output of `serve`: for each line of the input, in order, one reply that the desk may give.
use Rattle.std.specs.Prelude.{◌≡◌, ◌⊎◌, ℕ, ◌≤◌, Bool, true, false, List, [], ◌∷◌, ◌++◌, length, IsSome, IfSome, Some, Result, Ok, Err}
use Rattle.std.specs.Str.{IsUtf8}
use Rattle.coord_lines.specs.Lines.{Line, lines_of}
use Rattle.coord_lines.specs.declared.limits.TheConstants.{MOST_READS}
use Rattle.coord_lines.specs.Written.{IsFirstPart}
use Rattle.coord_admin.specs.declared.request.Request.{Request}
use Rattle.coord_admin.specs.declared.answer.Answer.{Answer}
use Rattle.coord_admin.specs.declared.answer.Answer.TheVariants.{Closed, Faulted}
use Rattle.coord_admin.specs.declared.fault.LineFault.{LineFault}
use Rattle.coord_admin.specs.declared.fault.LineFault.TheVariants.{Unfinished, OutOfMemory}
use Rattle.coord_admin.specs.declared.fault.ServeFault.{ServeFault}
use Rattle.coord_admin.specs.declared.fault.ServeFault.TheVariants as serve
use Rattle.coord_admin.specs.declared.session.Ended.{Ended}
use Rattle.coord_admin.specs.declared.session.Ended.TheVariants as ended
use Rattle.coord_admin.specs.Requests.{asked_by}
use Rattle.coord_admin.specs.Replies.{reply_line, reply_lines}
use Rattle.coord_admin.specs.Together.{ArePosted, AwaitReplies}

abbrev pub is_closed : Answer → Bool
is_closed Closed = true
is_closed a = false

-- whether making the reply line needs memory; the reply to a close and the reply for a fault need none
abbrev pub takes_memory : Answer → Bool
takes_memory Closed = false
takes_memory (Faulted f) = false
takes_memory a = true

-- the answer to the last line, which has no line feed: none if the line is empty
abbrev pub last_answers : Line → List Answer
last_answers (Some []) = []
last_answers line = Faulted Unfinished ∷ []

-- A prefix of this text was written to the connection, and nothing else was read or written.
abbrev pub WritesPart : {C : Type 0} → (C → List ℕ → List ℕ → C → Type 0) → C → C → List ℕ → Type 0
WritesPart exchanged old new text = (part : List ℕ) × exchanged old [] part new × IsFirstPart part text

-- whether a line has a byte
abbrev pub has_begun : Line → Bool
has_begun (Some []) = false
has_begun line = true

-- The returned reply is the answer, or the fault `OutOfMemory` if the answer's line could not be made.
abbrev pub IsWritten : Answer → Answer → Type 0
IsWritten answer returned = (returned ≡ answer) ⊎ ((returned ≡ Faulted OutOfMemory) × (takes_memory answer ≡ true))

-- Each returned reply is the answer at the same place, or the fault `OutOfMemory` if that answer's line
-- could not be made.
abbrev pub AreWritten : List Answer → List Answer → Type 0
AreWritten [] [] = Unit {0}
AreWritten (answer ∷ answers) (a ∷ returned) = IsWritten answer a × AreWritten answers returned
AreWritten answers returned = ⊥

-- a line within the limit that is valid UTF-8
abbrev pub IsText : Line → Type 0
IsText line = IsSome line × IfSome line IsUtf8

-- `answers d r a e`: the desk d may give the answer a to the request r, and then is in the state e
module _ {D : Type 0} (answers : D → Request → Answer → D → Type 0) where
  -- The answer to a line. If the line has a fault, the fault is the answer, and the desk gets no request.
  abbrev pub MayAnswer : D → Result Request LineFault → Answer → D → Type 0
  MayAnswer d (Ok r) a e = answers d r a e
  MayAnswer d (Err f) a e = (a ≡ Faulted f) × (e ≡ d)

  abbrev pub AnswersLine : D → Line → Answer → D → Type 0
  AnswersLine d line a e = MayAnswer d (asked_by line) a e

  -- Memory ran out while the line was read, or while the reply to it was made.
  abbrev pub FindsNoMemory : D → Line → D → Type 0
  FindsNoMemory d line e = (IsText line × (e ≡ d)) ⊎ ((a : Answer) × (takes_memory a ≡ true) × AnswersLine d line a e)

  -- The reply to a line is its answer, or the fault `OutOfMemory`.
  abbrev pub Gets : D → Line → Answer → D → Type 0
  Gets d line a e = AnswersLine d line a e ⊎ ((a ≡ Faulted OutOfMemory) × FindsNoMemory d line e)

  -- Each of these lines got its reply, in order, and none of them closed the desk.
  abbrev pub AllGet : D → List Line → List Answer → D → Type 0
  AllGet d [] [] e = e ≡ d
  AllGet d (line ∷ lines) (a ∷ returned) e = (f : D) × Gets d line a f × (is_closed a ≡ false) × AllGet f lines returned e
  AllGet d lines returned e = ⊥

  -- The first lines got these replies. The other lines are posted orders that have no reply yet.
  abbrev pub GoesOn : {P : Type 0} → (D → Request → P → D → Type 0) → D → List Line → List Answer → List P → D → Type 0
  GoesOn posts d lines returned posted e = (done : List Line) × (waiting : List Line) × (f : D) × (lines ≡ done ++ waiting) × AllGet d done returned f × AwaitReplies posts f waiting posted e

  -- The first lines got these replies, and the other lines are left.
  abbrev pub Reaches : D → List Line → List Answer → List Line → D → Type 0
  Reaches d lines returned left e = (done : List Line) × (lines ≡ done ++ left) × AllGet d done returned e

  -- The input has ended, and each line has its reply.
  abbrev pub Finishes : D → List Line → List ℕ → D → Type 0
  Finishes d lines text e = (returned : List Answer) × (last : Line) × Reaches d lines returned (last ∷ []) e × (text ≡ reply_lines returned ++ reply_lines (last_answers last))

  -- A complete line has closed the desk. The lines after it are not answered.
  abbrev pub Closes : D → List Line → List ℕ → D → Type 0
  Closes d lines text e =
      (returned : List Answer) × (line : Line) × (next : Line) × (left : List Line) × (f : D)
      × Reaches d lines returned (line ∷ next ∷ left) f × Gets f line Closed e × (text ≡ reply_lines returned ++ reply_line Closed)

  -- The server read nothing more, and each complete line has its reply.
  abbrev pub Stops : D → List Line → List ℕ → D → Type 0
  Stops d lines text e = (returned : List Answer) × (last : Line) × Reaches d lines returned (last ∷ []) e × (text ≡ reply_lines returned)

  -- The line gets this reply. A last line without a line feed may get the fault `Unfinished`.
  abbrev pub GetsAtLast : D → Line → Answer → D → Type 0
  GetsAtLast d line a e = Gets d line a e ⊎ ((a ≡ Faulted Unfinished) × (e ≡ d))

  -- The reply to a line was not written completely. If the line was one of several orders that were posted
  -- together, the orders after it were carried out too, and their replies were dropped.
  abbrev pub BreaksOff : D → List Line → List ℕ → D → Type 0
  BreaksOff d lines text e =
      (returned : List Answer) × (line : Line) × (following : List Line) × (left : List Line) × (f : D) × (g : D) × (a : Answer) × (unreturned : List Answer) × (part : List ℕ)
      × Reaches d lines returned (line ∷ following ++ left) f × GetsAtLast f line a g × AllGet g following unreturned e × ((following ≡ []) ⊎ ArePosted (line ∷ following))
      × IsFirstPart part (reply_line a) × (text ≡ reply_lines returned ++ part)

  -- The bytes written for the input that was read, and the state of the desk afterwards.
  abbrev pub Served : D → List ℕ → List ℕ → Result Ended ServeFault → D → Type 0
  Served d seen text (Ok ended.Input) e = Finishes d (lines_of seen) text e
  Served d seen text (Ok ended.Closed) e = Closes d (lines_of seen) text e
  Served d seen text (Ok ended.Cut) e = Stops d (lines_of seen) text e
  Served d seen text (Err serve.Read) e = Stops d (lines_of seen) text e
  Served d seen text (Err serve.Turns) e = Stops d (lines_of seen) text e × (MOST_READS ≤ length seen)
  Served d seen text (Err serve.Write) e = BreaksOff d (lines_of seen) text e
  Served d seen text (Err serve.OutOfMemory) e = (seen ≡ []) × (text ≡ []) × (e ≡ d)
