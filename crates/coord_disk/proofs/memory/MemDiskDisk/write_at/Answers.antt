use Rattle.std.proofs.Common.{refl}
use Rattle.coord_disk.specs.Disks.Memory.{past_of, present_of}
use Rattle.coord_disk.proofs.Overwritten.{wrote}
use Rattle.coord_disk.proofs.Replays.{adds_time}
use Rattle.coord_disk.proofs.memory.MemDiskDisk.write_at.Goals as goal

pub returns-in-Ok-clause-call : goal.returns-in-Ok-clause-call
returns-in-Ok-clause-call c =
    let written = c.in-Ok.ensures.ok.present in
    record {
      model = refl;
      time = λ _. adds_time (past_of c.args.self.now) (past_of c.record_write.new.self) _ c.in-Ok.ensures.ok;
      change = λ _. record {
        written = written;
        crash = rw written (wrote c.args.at c.args.bytes.now (present_of c.args.self.now));
      };
    }
