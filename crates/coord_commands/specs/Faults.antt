-- The names of faults, their printed lines, and their exit statuses.
use Rattle.std.specs.Prelude.{ℕ, List, ◌++◌, codes, decimal, Result, Ok, Err}
use Rattle.coord_types.specs.Names.{refusal_text}
use Rattle.coord_config.specs.Faults.{fault_name as topology_name}
use Rattle.coord_config.specs.declared.fault.ConfigFault.TheVariants as of_topology
use Rattle.coord_store.specs.Faults.{store_name}
use Rattle.coord_store.specs.declared.faults.CommitFault.{CommitFault}
use Rattle.coord_store.specs.declared.faults.CommitFault.TheVariants as of_commit
use Rattle.coord_store.specs.declared.faults.StoreFault.TheVariants as of_store
use Rattle.coord_engine.specs.Closing.{fault_name as close_name}
use Rattle.coord_server.specs.declared.fault.ServerFault.{ServerFault}
use Rattle.coord_server.specs.declared.fault.ServerFault.TheVariants as of_server
use Rattle.coord_drill.specs.declared.fault.Fault.{Fault as DrillFault}
use Rattle.coord_drill.specs.declared.fault.Fault.TheVariants as of_drill
use Rattle.coord_commands.specs.declared.fault.Fault.{Fault}
use Rattle.coord_commands.specs.declared.fault.Fault.TheVariants.{Usage, Read, Write, Socket, TooManyReads, OutOfMemory, Topology, Store, Refused, NotClosed}

-- The text of a fault. The text of a refusal includes its number. The text for a store that is not quiet
-- includes the number of the node that is in a reset.
abbrev pub fault_text : Fault → List ℕ
fault_text Usage = codes "Usage"
fault_text Read = codes "Read"
fault_text Write = codes "Write"
fault_text Socket = codes "Socket"
fault_text TooManyReads = codes "Turns"
fault_text OutOfMemory = codes "OutOfMemory"
fault_text (Topology fault) = topology_name fault
fault_text (Store (of_store.NotQuiet node)) = codes "NotQuiet " ++ decimal node
fault_text (Store fault) = store_name fault
fault_text (Refused refusal) = refusal_text refusal
fault_text (NotClosed fault) = close_name fault

-- the printed line of a fault
abbrev pub fault_line : Fault → List ℕ
fault_line fault = codes "resetd: " ++ (fault_text fault ++ codes "\n")

abbrev pub fault_status : Fault → ℕ
fault_status Usage = 2
fault_status Read = 3
fault_status Write = 3
fault_status Socket = 3
fault_status TooManyReads = 3
fault_status OutOfMemory = 4
fault_status (Topology of_topology.OutOfMemory) = 4
fault_status (Topology fault) = 1
fault_status (Store of_store.OutOfMemory) = 4
fault_status (Store of_store.Device) = 3
fault_status (Store fault) = 1
fault_status (Refused refusal) = 1
fault_status (NotClosed fault) = 1

abbrev pub status_of : {A : Type 0} → Result A Fault → ℕ
status_of (Ok x) = 0
status_of (Err fault) = fault_status fault

abbrev pub fault_of_drill : DrillFault → Fault
fault_of_drill of_drill.Read = Read
fault_of_drill of_drill.Write = Write
fault_of_drill of_drill.TooManyReads = TooManyReads
fault_of_drill (of_drill.Store fault) = Store fault
fault_of_drill of_drill.OutOfMemory = OutOfMemory

abbrev pub fault_of_server : ServerFault → Fault
fault_of_server of_server.OutOfMemory = OutOfMemory
fault_of_server of_server.NotBegun = OutOfMemory
fault_of_server of_server.Socket = Socket
fault_of_server of_server.Device = Store of_store.Device
fault_of_server of_server.Write = Write
fault_of_server (of_server.NotClosed fault) = NotClosed fault

-- the fault that a command reports for a failed commit: memory ran out, or the device fails or has failed
-- before
abbrev pub fault_of_commit : CommitFault → Fault
fault_of_commit of_commit.OutOfMemory = OutOfMemory
fault_of_commit fault = Store of_store.Device
