use Rattle.std.proofs.Common.{◌≡◌, ◌+◌, ◌≤◌, true, length, take, vec_capacity, vec_len}
use Rattle.coord_disk.specs.Model.Present.{whole}
use Rattle.coord_starts.specs.Runs.{HasRun}
use Rattle.coord_starts.proofs.starts.run_starts.Given as goal

abbrev pub invariant-loop-task : goal.invariant-loop-task
invariant-loop-task g l = record {
  model : g.D.Disk.model.keeps_model l.left ≡ g.D.Disk.model.keeps_model l.fn.disk;
  run : g.D.Disk.model.keeps_model l.left ≡ true → HasRun l.fn.version (take l.task-index l.tasks) l.outcomes.items (g.D.Disk.model.present l.left).read;
  cut : g.D.Disk.model.keeps_model l.left ≡ true → g.D.Disk.model.present l.left ≡ whole (g.D.Disk.model.present l.left).read;
  room : vec_len l.outcomes + length l.tasks ≤ vec_capacity l.outcomes + l.task-index;
}
