use Rattle.std.proofs.Common.{arith}
use Rattle.coord_store.proofs.Holding.{either_is_only, ends_within, on_refusal, only_is_either, only_then_either, only_twice}
use Rattle.coord_store.proofs.writing.write.Goals as goal

-- if the body fits
pub returns-then-fits-clause-ends : goal.returns-then-fits-clause-ends
returns-then-fits-clause-ends g c = ends_within g.D.Disk.model 4 8 _ _ _ (omega arith) c.append.ensures.ends

-- after a checkpoint

pub returns-in-Ok-clause-follows : goal.returns-in-Ok-clause-follows
returns-in-Ok-clause-follows g c steps holds takes =
    let checkpoint = c.in-Ok.ensures.follows c.args.world.now holds in
    let appended = c.append-in-Ok.ensures.follows c.args.world.now steps checkpoint.done takes in
    record {
      any_moment = only_then_either g.D.Disk.model _ _ _ _ _ (either_is_only g.D.Disk.model _ _ _ checkpoint.any_moment) appended.any_moment;
      done = appended.done;
    }

pub returns-in-Ok-clause-stays : goal.returns-in-Ok-clause-stays
returns-in-Ok-clause-stays g c holds =
    let checkpoint = c.in-Ok.ensures.follows c.args.world.now holds in
    let appended = c.append-in-Ok.ensures.stays c.args.world.now checkpoint.done in
    record {
      any_moment = on_refusal c.append-in-Ok.result (λ leaves. only_twice g.D.Disk.model _ _ _ _ (either_is_only g.D.Disk.model _ _ _ checkpoint.any_moment) leaves) appended.any_moment;
      held = appended.held;
    }

-- if the checkpoint is refused
pub returns-in-Err-clause-follows : goal.returns-in-Err-clause-follows
returns-in-Err-clause-follows g c steps holds takes = record {
  any_moment = only_is_either g.D.Disk.model _ _ _ _ (either_is_only g.D.Disk.model _ _ _ (c.in-Err.ensures.follows c.args.world.now holds).any_moment);
  done = tt;
}

pub returns-in-Err-clause-stays : goal.returns-in-Err-clause-stays
returns-in-Err-clause-stays g c holds = c.in-Err.ensures.stays c.args.world.now holds

pub returns-in-Err-clause-ends : goal.returns-in-Err-clause-ends
returns-in-Err-clause-ends g c = ends_within g.D.Disk.model 4 8 _ _ _ (omega arith) c.in-Err.ensures.ends
