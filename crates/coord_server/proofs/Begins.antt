-- With what a desk begins to serve.
use Rattle.std.proofs.Common.{◌≡◌, ℕ, List, [], None, Some}
use Rattle.coord_admin.specs.Connections.{Talk}
use Rattle.coord_engine.specs.Facade.{Basis}
use Rattle.coord_server.specs.EngineDesk.{DeskState}
use Rattle.coord_server.specs.Ending.{EndsUnopened, ServesInstance, new_desk}
use Rattle.coord_server.specs.declared.fault.ServerFault.TheVariants as fault
use Rattle.coord_server.specs.declared.instance_end.InstanceEnd.{InstanceEnd}
use Rattle.coord_server.specs.declared.instance_end.InstanceEnd.TheVariants.{Resting, Unfollowed, Unprinted, Ended}

-- a desk without notes, which has seen and read nothing, is a new one
pub begins : {P : Type 0} (d : DeskState P) → d.notes ≡ [] → d.seen ≡ 0 → d.read ≡ [] → d ≡ new_desk d.port
begins d notes seen read = λ i. record { notes = notes i; seen = seen i; read = read i; port = d.port }

-- an output that was not opened ends an instance in which nobody was served
pub ends_unopened : {D : Type 0} (b : Basis D) {V : Type 0} (talked : V → List Talk → V → Type 0) (failed : V → V → Type 0) (most : ℕ) {P : Type 0} (v : V) (desk : DeskState P) (left : InstanceEnd) → EndsUnopened failed v left → talked v [] v → desk ≡ new_desk desk.port
    → ServesInstance b talked failed most desk.port v v desk left
ends_unopened b talked failed most v desk Resting is nobody new = absurd is
ends_unopened b talked failed most v desk Unfollowed is nobody new = absurd is
ends_unopened b talked failed most v desk Unprinted is nobody new = (nobody, new)
ends_unopened b talked failed most v desk (Ended None) is nobody new = absurd is
ends_unopened b talked failed most v desk (Ended (Some fault.OutOfMemory)) is nobody new = absurd is
ends_unopened b talked failed most v desk (Ended (Some fault.NotBegun)) is nobody new = absurd is
ends_unopened b talked failed most v desk (Ended (Some fault.Socket)) is nobody new = (v, ([], nobody, new), is)
ends_unopened b talked failed most v desk (Ended (Some fault.Device)) is nobody new = absurd is
ends_unopened b talked failed most v desk (Ended (Some fault.Write)) is nobody new = absurd is
ends_unopened b talked failed most v desk (Ended (Some (fault.NotClosed why))) is nobody new = absurd is
