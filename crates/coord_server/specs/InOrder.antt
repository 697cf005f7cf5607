-- The answers of an instance follow from its history: each answer follows from the first n settled steps, for some n that never
-- decreases.
use Rattle.std.specs.List.{AllByRecursion}
use Rattle.std.specs.Prelude.{◌≡◌, ◌⊎◌, ℕ, List, [], ◌∷◌, ◌++◌, Result, Ok, Some, map, slice_get, take}
use Rattle.coord_types.specs.declared.steps.Reply.{Reply}
use Rattle.coord_types.specs.declared.steps.Step.{Step}
use Rattle.coord_types.specs.declared.steps.Step.TheVariants as step
use Rattle.coord_lines.specs.Lines.{Line, lines_of}
use Rattle.coord_lines.specs.Written.{IsFirstPart}
use Rattle.coord_view.specs.Shown.{Shown, shown}
use Rattle.coord_world.specs.Facade.{World, fold, reply}
use Rattle.coord_ledger.specs.Facade.{IsKeptBy}
use Rattle.coord_engine.specs.Facade.{Basis, StartsWith}
use Rattle.coord_admin.specs.Connections.{Connection, Talk}
use Rattle.coord_admin.specs.Replies.{reply_line, reply_lines}
use Rattle.coord_admin.specs.Requests.{asked_by}
use Rattle.coord_admin.specs.declared.answer.Answer.{Answer}
use Rattle.coord_admin.specs.declared.answer.Answer.TheVariants as answer
use Rattle.coord_admin.specs.declared.fault.LineFault.{LineFault}
use Rattle.coord_admin.specs.declared.request.Request.{Request}
use Rattle.coord_admin.specs.declared.request.Request.TheVariants as request
use Rattle.coord_server.specs.EngineDesk.{DeskState}
use Rattle.coord_server.specs.Ending.{IsClosed, ServedWhileOpen}

-- an answer to a line, and the steps of the instance from which the answer follows
pub record Returned : Type 0 where
  pub line : Line
  pub answer : Answer
  pub after : List Step

-- The reply is the order's own: the order is among these steps and got this reply there, or the world before them kept this reply
-- for the order.
abbrev pub IsOwnReply : World → List Step → Step → Reply → Type 0
IsOwnReply base steps s r =
    ((place : ℕ) × (slice_get steps place ≡ Some s) × (reply (fold base (take place steps)) s ≡ r))
    ⊎ IsKeptBy base (record { step = r.step; what = s; kind = r.kind })

-- Only an order gets a reply, and the reply is the order's own.
abbrev pub RepliesTo : World → List Step → Reply → Result Request LineFault → Type 0
RepliesTo base steps r (Ok (request.Order client number command)) = IsOwnReply base steps (step.Order client number command) r
RepliesTo base steps r asked = ⊥

-- A request for a view gets the view of the world after these steps.
abbrev pub ShowsAfter : World → List Step → Shown → Result Request LineFault → Type 0
ShowsAfter base steps view (Ok request.Show) = (accepted : ℕ) × (view ≡ shown accepted (fold base steps))
ShowsAfter base steps view asked = ⊥

-- The answer to this request follows from these steps over the world `base`.
abbrev pub BearOut : World → List Step → Result Request LineFault → Answer → Type 0
BearOut base steps asked (answer.Replied r) = RepliesTo base steps r asked
BearOut base steps asked (answer.Shown view) = ShowsAfter base steps view asked
BearOut base steps asked (answer.Refused r) = Unit {0}
BearOut base steps asked (answer.Resent n) = Unit {0}
BearOut base steps asked answer.Closed = Unit {0}
BearOut base steps asked (answer.Faulted f) = Unit {0}

abbrev pub IsBorneOut : World → Returned → Type 0
IsBorneOut base t = BearOut base t.after (asked_by t.line) t.answer

-- The steps of each answer extend the steps of the previous answer. The steps of the first answer extend `first`, and `last`
-- extends the steps of the last answer.
abbrev pub GoOn : List Step → List Returned → List Step → Type 0
GoOn first [] last = StartsWith last first
GoOn first (t ∷ returned) last = StartsWith t.after first × GoOn t.after returned last

-- The output of a connection is the answers to a prefix of its input lines, in order, and possibly the beginning of
-- the next answer. Each answer follows from a list of steps that extends `first` and the list of the previous answer.
pub record WritesInOrder (base : World) (first : List Step) (talk : Talk) (last : List Step) : Type 0 where
  pub returned : List Returned
  pub torn : List Returned
  pub left : List Line
  pub lines : lines_of talk.bytes_read ≡ map (λ t. t.line) (returned ++ torn) ++ left
  pub go_on : GoOn first (returned ++ torn) last
  pub borne_out : AllByRecursion (IsBorneOut base) (returned ++ torn)
  pub part : List ℕ
  pub broken : ((torn ≡ []) × (part ≡ [])) ⊎ ((t : Returned) × (torn ≡ t ∷ []) × IsFirstPart part (reply_line t.answer))
  pub text_is : talk.bytes_written ≡ reply_lines (map (λ t. t.answer) returned) ++ part

-- The outputs of these connections, one after another, are in order as in `WritesInOrder`.
abbrev pub AllInOrder : World → List Step → List Connection → List Step → Type 0
AllInOrder base first [] last = StartsWith last first
AllInOrder base first (c ∷ cs) last = (now : List Step) × WritesInOrder base first c.talk now × AllInOrder base now cs last

-- Everything that an instance's desk replied or showed over its connections is in order as in `AllInOrder`, and follows from the
-- settled steps that the desk has read. This holds whether or not a caller closed the desk.
abbrev pub AnsweredInOrder : Type 0 → Type 0 → {V : Type 0} → (V → List Talk → V → Type 0) → Type 0
AnsweredInOrder D P {V} talked =
    (b : Basis D) (most : ℕ) (port : P) (v w : V) (desk : DeskState P)
    → ((served : ServedWhileOpen b talked most port v w desk) → AllInOrder b.base [] served.0 desk.read)
    × ((served : IsClosed b talked most port v w desk) → AllInOrder b.base [] (served.0 ++ served.1 ∷ []) desk.read)
