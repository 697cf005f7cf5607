-- The printed names and numbers.
use Rattle.std.specs.Prelude.{ℕ, List, ◌++◌, codes}
use Rattle.std.specs.Fmt.{decimal}
use Rattle.coord_types.specs.declared.messages.Mode.{Mode}
use Rattle.coord_types.specs.declared.messages.Mode.TheVariants as mode
use Rattle.coord_types.specs.declared.messages.Msg.{Msg}
use Rattle.coord_types.specs.declared.messages.Msg.TheVariants as msg
use Rattle.coord_types.specs.declared.steps.Kind.{Kind}
use Rattle.coord_types.specs.declared.steps.Kind.TheVariants.{Done, Started, Finished, Joined, Taken, Cleared}
use Rattle.coord_types.specs.declared.refusals.Refusal.{Refusal}
use Rattle.coord_types.specs.declared.refusals.Refusal.TheVariants.{Stopped, OutOfMemory, Exhausted, OutOfTurn, NumberReused, UnknownNode, NodeExists, HasLinks, SameNode, OtherGroup, LinkExists, NoLink, DegreeFull, LinksFull, BadEpoch, Old, Early, Differs, NotReleased, PendingFull, Behind, Stranger}

abbrev pub mode_name : Mode → List ℕ
mode_name mode.Ready = codes "ready"
mode_name mode.Abort = codes "abort"
mode_name mode.Converge = codes "converge"

abbrev pub msg_name : Msg → List ℕ
msg_name (msg.Abort k) = codes "abort"
msg_name msg.Ack = codes "ack"
msg_name msg.Ready = codes "ready"

abbrev pub kind_name : Kind → List ℕ
kind_name Done = codes "done"
kind_name Started = codes "started"
kind_name Finished = codes "finished"
kind_name Joined = codes "joined"
kind_name Taken = codes "taken"
kind_name Cleared = codes "cleared"

abbrev pub refusal_number : Refusal → ℕ
refusal_number Stopped = 1
refusal_number OutOfMemory = 2
refusal_number Exhausted = 3
refusal_number OutOfTurn = 4
refusal_number NumberReused = 5
refusal_number UnknownNode = 6
refusal_number NodeExists = 7
refusal_number HasLinks = 8
refusal_number SameNode = 9
refusal_number OtherGroup = 10
refusal_number LinkExists = 11
refusal_number NoLink = 12
refusal_number DegreeFull = 13
refusal_number LinksFull = 14
refusal_number BadEpoch = 15
refusal_number Old = 16
refusal_number Early = 17
refusal_number Differs = 18
refusal_number NotReleased = 19
refusal_number PendingFull = 20
refusal_number (Behind settled) = 21
refusal_number Stranger = 22

abbrev pub refusal_name : Refusal → List ℕ
refusal_name Stopped = codes "Stopped"
refusal_name OutOfMemory = codes "OutOfMemory"
refusal_name Exhausted = codes "Exhausted"
refusal_name OutOfTurn = codes "OutOfTurn"
refusal_name NumberReused = codes "NumberReused"
refusal_name UnknownNode = codes "UnknownNode"
refusal_name NodeExists = codes "NodeExists"
refusal_name HasLinks = codes "HasLinks"
refusal_name SameNode = codes "SameNode"
refusal_name OtherGroup = codes "OtherGroup"
refusal_name LinkExists = codes "LinkExists"
refusal_name NoLink = codes "NoLink"
refusal_name DegreeFull = codes "DegreeFull"
refusal_name LinksFull = codes "LinksFull"
refusal_name BadEpoch = codes "BadEpoch"
refusal_name Old = codes "Old"
refusal_name Early = codes "Early"
refusal_name Differs = codes "Differs"
refusal_name NotReleased = codes "NotReleased"
refusal_name PendingFull = codes "PendingFull"
refusal_name (Behind settled) = codes "Behind"
refusal_name Stranger = codes "Stranger"

-- the refusal's number and name, for example "16 Old"
abbrev pub refusal_text : Refusal → List ℕ
refusal_text refusal = decimal (refusal_number refusal) ++ codes " " ++ refusal_name refusal
