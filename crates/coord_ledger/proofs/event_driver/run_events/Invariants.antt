use Rattle.std.proofs.Common.{◌≡◌, ℕ, ◌+◌, ◌≤◌, length, take, vec_capacity, vec_len}
use Rattle.coord_ledger.specs.Facade.{HasFailed, disk_held, failed_until}
use Rattle.coord_ledger.proofs.runs.SoFar.{LoopInvariant}
use Rattle.coord_ledger.proofs.event_driver.run_events.Given as goal

abbrev pub invariant-loop-at : goal.invariant-loop-at
invariant-loop-at g l = record {
  so_far : LoopInvariant {D = g.row.D.Denot} g.D.Disk.model g.D.CrashDisk.crashes l.fn.ledger l.events l.at l.answers.items l.held;
  room : vec_len l.answers + length l.events ≤ vec_capacity l.answers + l.at;
  many : length l.answers.items ≡ l.at;
  failed : (n : ℕ) → HasFailed g.D.Disk.model.failures l.fn.ledger.disk n → HasFailed g.D.Disk.model.failures (disk_held l.held.driver) (n + failed_until (take l.at l.events) l.answers.items);
}
