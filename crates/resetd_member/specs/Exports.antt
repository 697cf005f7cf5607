-- The results that the functions for C return.
use Rattle.std.specs.Prelude.{◌≡◌, ◌≢◌, ℕ, List, Option, Some, None, Result, Ok, Err, if◌then◌else◌, String, string_bytes}
use Rattle.std.specs.declared.alloc.Global.{Global}
use Rattle.std.specs.Str.{IsUtf8}
use Rattle.coord_kept.specs.Start.{start_text}
use Rattle.resetd_member.specs.declared.exports.Work.{Work}
use Rattle.resetd_member.specs.declared.judge.Judged.{Judged}
use Rattle.resetd_member.specs.declared.order.Order.{Order}
use Rattle.resetd_member.specs.declared.order.Orders.{Orders}
use Rattle.resetd_member.specs.declared.orders.Heard.{Heard}
use Rattle.resetd_member.specs.declared.status.Fault.{Fault}
use Rattle.resetd_member.specs.declared.status.Fault.TheVariants.{OutOfMemory, NoText}
use Rattle.resetd_member.specs.Files.{Brought, IsCarried, IsFenceFor, IsLoaded}
use Rattle.resetd_member.specs.Judgement.{IsGivenTo, IsTagged}
use Rattle.resetd_member.specs.Orders.{heard_in, line_for, written_down}
use Rattle.resetd_member.specs.Status.{IsGiven, status_of}

abbrev pub work_of : Work → Option ℕ
work_of work = if work.is_there then Some work.epoch else None

abbrev pub IsReported : {X : Type 0} → Result X Fault → X → ℕ → Type 0
IsReported (Ok x) reported status = (status ≡ 0) × (reported ≡ x)
IsReported (Err fault) reported status = status ≡ status_of fault

pub record IsJudgedAs (show : List ℕ) (node : ℕ) (file history : List ℕ) (work : Option ℕ) (room : List ℕ) (judged : Judged) (status : ℕ) : Type 0 where
  pub made : Result Judged Fault
  pub is : IsGivenTo show node file history work room made
  pub reported : IsReported made judged status

abbrev pub IsStartText : ℕ → ℕ → Result (String Global) Fault → Type 0
IsStartText node epoch (Ok text) = string_bytes text ≡ start_text node (Some epoch) None None
IsStartText node epoch (Err fault) = fault ≡ OutOfMemory

pub record IsBegunGiven (node epoch : ℕ) (room : List ℕ) (size status : ℕ) : Type 0 where
  pub made : Result (String Global) Fault
  pub is : IsStartText node epoch made
  pub given : IsGiven made room size status

pub record IsLoadedGiven (node epoch : ℕ) (boot room : List ℕ) (size status : ℕ) : Type 0 where
  pub made : Result (String Global) Fault
  pub is : IsLoaded node epoch boot made
  pub given : IsGiven made room size status

pub record IsCarriedGiven (node : ℕ) (file boot room : List ℕ) (size status : ℕ) : Type 0 where
  pub made : Result (String Global) Fault
  pub is : IsCarried node file boot made
  pub given : IsGiven made room size status

abbrev pub IsReportedFence : Result Brought Fault → ℕ → List ℕ → ℕ → ℕ → Type 0
IsReportedFence (Ok fence) count room size status = (count ≡ fence.0) × IsGiven (Ok fence.1) room size status
IsReportedFence (Err fault) count room size status = status ≡ status_of fault

pub record IsFenceGiven (node : ℕ) (file : List ℕ) (generation : ℕ) (word : List ℕ) (count : ℕ) (room : List ℕ) (size status : ℕ) : Type 0 where
  pub made : Result Brought Fault
  pub is : IsFenceFor node file generation word made
  pub reported : IsReportedFence made count room size status

pub record IsTagGiven (show : List ℕ) (node : ℕ) (file word room : List ℕ) (size status : ℕ) : Type 0 where
  pub made : Result (String Global) Fault
  pub is : IsTagged show node file word made
  pub given : IsGiven made room size status

-- the status and the order book of a call that records an order; if the order was not recorded, the book is unchanged
abbrev pub IsKeptAs : Orders → Result Orders Fault → Orders → ℕ → Type 0
IsKeptAs old (Ok written) new status = (status ≡ 0) × (new ≡ written)
IsKeptAs old (Err fault) new status = (status ≡ status_of fault) × (new ≡ old)

abbrev pub IsWrittenAs : Orders → Order → Orders → ℕ → Type 0
IsWrittenAs old order new status = IsKeptAs old (written_down old order) new status

abbrev pub IsLineOf : Orders → ℕ → Result (String Global) Fault → Type 0
IsLineOf orders client (Ok text) = line_for orders client ≡ Ok (string_bytes text)
IsLineOf orders client (Err fault) = fault ≢ OutOfMemory → line_for orders client ≡ Err fault

pub record IsLineGiven (orders : Orders) (client : ℕ) (room : List ℕ) (size status : ℕ) : Type 0 where
  pub made : Result (String Global) Fault
  pub is : IsLineOf orders client made
  pub given : IsGiven made room size status

abbrev pub IsHeardBy : Orders → List ℕ → Result Heard Fault → Type 0
IsHeardBy orders line (Ok heard) = heard_in orders line ≡ Ok heard
IsHeardBy orders line (Err OutOfMemory) = Unit {0}
IsHeardBy orders line (Err NoText) = ¬ (IsUtf8 line)
IsHeardBy orders line (Err fault) = heard_in orders line ≡ Err fault

abbrev pub IsHeardWith : Orders → Result Heard Fault → Orders → ℕ → ℕ → Type 0
IsHeardWith old (Ok heard) new meaning status = (status ≡ 0) × (new ≡ heard.orders) × (meaning ≡ heard.meaning)
IsHeardWith old (Err fault) new meaning status = (status ≡ status_of fault) × (new ≡ old)

pub record IsHeardAs (old : Orders) (line : List ℕ) (new : Orders) (meaning status : ℕ) : Type 0 where
  pub made : Result Heard Fault
  pub is : IsHeardBy old line made
  pub heard : IsHeardWith old made new meaning status
