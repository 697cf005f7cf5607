-- What a view says about a reset that names an epoch.
use Rattle.std.specs.Prelude.{◌≡◌, ℕ, ◌==◌, not, Bool, true, false, List, Option, Some, None, Result, Ok, Err, find, if◌then◌else◌}
use Rattle.std.specs.List.{list_all}
use Rattle.std.specs.Str.{is_utf8}
use Rattle.coord_types.specs.declared.messages.Mode.{Mode}
use Rattle.coord_types.specs.declared.messages.Mode.TheVariants.{Ready, Abort, Converge}
use Rattle.coord_types.specs.declared.refusals.Refusal.TheVariants.{UnknownNode, BadEpoch}
use Rattle.coord_view.specs.declared.view.NodeView.{NodeView}
use Rattle.coord_view.specs.Shown.{Shown}
use Rattle.coord_wire.specs.ShowLine.{shown_in}
use Rattle.coord_wire.specs.declared.answer_line.ReadFault.{ReadFault}
use Rattle.proxy_access.specs.declared.resets.Judged.{Judged}
use Rattle.proxy_access.specs.declared.resets.Judged.TheVariants.{Goes, Waits, Joined, Refused}
use Rattle.proxy_request.specs.declared.request.Request.{Request}
use Rattle.proxy_request.specs.declared.request.Request.TheVariants.{ResetAt}

abbrev pub is_of : ℕ → NodeView → Bool
is_of node row = row.node == node

abbrev pub is_ready_mode : Mode → Bool
is_ready_mode Ready = true
is_ready_mode Abort = false
is_ready_mode Converge = false

-- the node takes part in no reset
abbrev pub is_outside : NodeView → Bool
is_outside row = is_ready_mode row.mode

-- what becomes of a reset of a node that names an epoch. It is refused if the view has no such node, or if the node has another
-- epoch. It joins a reset in progress at the node. It waits while a reset is in progress only elsewhere. Otherwise it goes
abbrev pub judged_of : Shown → ℕ → Option NodeView → Judged
judged_of v epoch None = Refused UnknownNode
judged_of v epoch (Some row) =
    if not (row.epoch == epoch) then Refused BadEpoch
    else (if not (is_outside row) then Joined v.settled
    else (if list_all is_outside v.nodes then Goes else Waits))

abbrev pub judged_by : Shown → ℕ → ℕ → Judged
judged_by v node epoch = judged_of v epoch (find (is_of node) v.nodes)

-- a text that is not a view decides nothing, so the reset waits
abbrev pub judged_if : Result Shown ReadFault → ℕ → ℕ → Judged
judged_if (Ok v) node epoch = judged_by v node epoch
judged_if (Err fault) node epoch = Waits

abbrev pub judged_in : List ℕ → ℕ → ℕ → Judged
judged_in text node epoch = judged_if (shown_in text) node epoch

abbrev pub judged_from : List ℕ → ℕ → ℕ → Judged
judged_from line node epoch = if is_utf8 line then judged_in line node epoch else Waits

abbrev pub goes : Judged → Bool
goes Goes = true
goes j = false

-- ---- the rule for the proxy's core

abbrev pub names_epoch : Request → Bool
names_epoch (ResetAt node epoch) = true
names_epoch r = false

-- in the view, the node of the reset has the epoch that the reset names, and no reset is in progress
abbrev pub permits : List ℕ → Request → Bool
permits view (ResetAt node epoch) = goes (judged_from view node epoch)
permits view r = false
