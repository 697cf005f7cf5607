-- Members that look at a running server.
use Rattle.std.specs.Prelude.{◌≡◌, ℕ, ◌==◌, ◌≤◌, List, [], ◌∷◌, ◌++◌, Option, Some, find, if◌then◌else◌, slice_get}
use Rattle.coord_disk.specs.Model.DiskModel.{DiskModel}
use Rattle.coord_types.specs.declared.steps.Step.{Step}
use Rattle.coord_store.specs.Kept.{Kept}
use Rattle.coord_view.specs.Shown.{Shown}
use Rattle.coord_view.specs.declared.view.NodeView.{NodeView}
use Rattle.coord_world.specs.Facade.{World}
use Rattle.coord_member.specs.Members as member
use Rattle.coord_member.specs.NoMix.{IsUnmixed}
use Rattle.coord_member.specs.declared.view.Entry.{Entry}
use Rattle.coord_member.specs.declared.view.Row.{Row}
use Rattle.coord_look.specs.Reading.{IsReadOf, is_of}
use Rattle.coord_admin.specs.Connections.{Connection, Talk}
use Rattle.coord_admin.specs.declared.answer.Answer.TheVariants as answer
use Rattle.coord_engine.specs.Facade.{first_settled}
use Rattle.coord_server.specs.InOrder.{AllInOrder, Returned}
use Rattle.coord_server.specs.Instances.{all_steps}
use Rattle.coord_server.specs.Printed.{PrinterState}
use Rattle.coord_server.specs.RunReturned.{AnswersFromOneHistory}
use Rattle.coord_server.specs.ServerRun.{ServerRun}
use Rattle.coord_server.specs.declared.server_end.ServerEnd.{ServerEnd}

-- all answers over these connections, in the order in which they were written
abbrev pub returned_over : (world : World) (first : List Step) (connections : List Connection) (last : List Step) → AllInOrder world first connections last → List Returned
returned_over world first [] last is = []
returned_over world first (c ∷ connections) last is = (is.1.returned ++ is.1.torn) ++ returned_over world is.0 connections last is.2

-- In a view, the member of a node reads the node's row, and the party of the nodes connected with it.
pub record IsLookAt (view : Shown) (node : ℕ) (row : Row) (party : List Entry) : Type 0 where
  pub own : NodeView
  pub there : find (is_of node) view.nodes ≡ Some own
  pub read : IsReadOf view node own row party

-- Each look reads one of these answers, and never an answer before the one that the same member read last.
-- Everything else is arbitrary: files may be lost, and messages may arrive late, repeatedly or never.
abbrev pub AreReadIn : List Returned → (ℕ → ℕ) → List member.Event → Type 0
AreReadIn returned last [] = Unit {0}
AreReadIn returned last (member.Look i row now ∷ looks) =
    (place : ℕ) × ((last i ≤ place) × ((t : Returned) × ((slice_get returned place ≡ Some t) × ((view : Shown) × ((t.answer ≡ answer.Shown view) × (IsLookAt view i row now × AreReadIn returned (λ j. if j == i then place else last j) looks))))))
AreReadIn returned last (_ ∷ looks) = AreReadIn returned last looks

-- A server ran. Members that begin with nothing, follow the rule, and look at the views that the server
-- showed over all its connections, mix no runs, even if they lose their files at any point.
abbrev pub NoMixOverAServer : {D V W : Type 0} → DiskModel D → (V → List Talk → V → Type 0) → (V → V → Type 0) → (W → Option (List ℕ)) → (List Step → ℕ → ℕ → ℕ → Type 0) → Type 0
NoMixOverAServer {D} {V} {W} model talked failed contents gives =
    (most : ℕ) (store : Kept D) (v : V) (printer : PrinterState W) (ended : ServerEnd D V W) → (run : ServerRun model talked failed most contents gives store v printer ended)
    → let settled = first_settled store.world (all_steps run.instances) ended.closed.settled in
    (is : AnswersFromOneHistory talked failed store.world settled v run.instances)
    × ((looks : List member.Event) → AreReadIn (returned_over store.world [] is.connections settled is.returned) (λ i. 0) looks → IsUnmixed (member.run member.new_world looks))
