-- The number of signals that a server prints between two moments at which every node of a part is Ready.
use Rattle.std.specs.Prelude.{◌≡◌, ℕ, ◌+◌, ◌≤◌, ◌==◌, ◌&&◌, Bool, true, List, ◌++◌, Option, length, count_by, nat_le, nat_lt}
use Rattle.coord_disk.specs.Model.DiskModel.{DiskModel}
use Rattle.coord_types.specs.declared.steps.Step.{Step}
use Rattle.coord_store.specs.Kept.{Kept}
use Rattle.coord_world.specs.Facade.{fold}
use Rattle.coord_world.specs.laws.Between.{BoundSignals, IsReadyAgain, IsReadyApart}
use Rattle.coord_world.specs.laws.Drops.{most_signals}
use Rattle.coord_admin.specs.Connections.{Talk}
use Rattle.coord_engine.specs.Facade.{GivesSignal, first_settled}
use Rattle.coord_server.specs.Lines.{nothing_since}
use Rattle.coord_server.specs.Instances.{all_steps}
use Rattle.coord_server.specs.Printed.{PrinterState}
use Rattle.coord_server.specs.ServerRun.{ServerRun}
use Rattle.coord_server.specs.Signals.{StepSignal}
use Rattle.coord_server.specs.declared.server_end.ServerEnd.{ServerEnd}

-- whether this is a signal of node v by a step after step a, up to step b
abbrev pub is_printed_within : ℕ → ℕ → ℕ → StepSignal → Bool
is_printed_within a b v s = (nat_lt a s.step && nat_le s.step b) && (s.node == v)

-- The signals that a server printed, in all its instances, keep both bounds of `BoundSignals` between two moments of its settled
-- steps. In particular, for the steps in between it printed at most as many signals of a linked node of the part as resets were
-- started in the part.
abbrev pub PrintedBetween : {D V W : Type 0} → DiskModel D → (V → List Talk → V → Type 0) → (V → V → Type 0) → (W → Option (List ℕ)) → Type 0
PrintedBetween {D} {V} {W} model talked failed contents =
    (most : ℕ) (store : Kept D) (callers : V) (printer : PrinterState W) (ended : ServerEnd D V W) (run : ServerRun model talked failed most contents (GivesSignal store.world) store callers printer ended) →
    printer.last ≡ nothing_since store.world.count → (earlier between rest : List Step) (part : ℕ → Bool) →
    first_settled store.world (all_steps run.instances) ended.closed.settled ≡ earlier ++ (between ++ rest) → IsReadyAgain store.world earlier between part →
    BoundSignals (fold store.world earlier) between part (λ v. count_by (is_printed_within (store.world.count + length earlier) (store.world.count + length earlier + length between) v) run.printed.signals)

-- The bound if nodes and links come and go, as long as no link joins the part with the rest. For the steps in between, the server
-- printed at most as many signals of a node of the part as resets were started and links dropped in the part, plus the node's own
-- resets that were answered Finished.
abbrev pub PrintedWithDrops : {D V W : Type 0} → DiskModel D → (V → List Talk → V → Type 0) → (V → V → Type 0) → (W → Option (List ℕ)) → Type 0
PrintedWithDrops {D} {V} {W} model talked failed contents =
    (most : ℕ) (store : Kept D) (callers : V) (printer : PrinterState W) (ended : ServerEnd D V W) (run : ServerRun model talked failed most contents (GivesSignal store.world) store callers printer ended) →
    printer.last ≡ nothing_since store.world.count → (earlier between rest : List Step) (part : ℕ → Bool) →
    first_settled store.world (all_steps run.instances) ended.closed.settled ≡ earlier ++ (between ++ rest) → IsReadyApart store.world earlier between part → (v : ℕ) → part v ≡ true →
    count_by (is_printed_within (store.world.count + length earlier) (store.world.count + length earlier + length between) v) run.printed.signals ≤ most_signals (fold store.world earlier) between part v
