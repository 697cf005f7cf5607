-- The comparison's answer is the one of the test that computes, since both decide equality.
use Rattle.std.specs.Bool.{one_answer}
use Rattle.coord_world.specs.code.SameWorlds.{same_world, same_world_decides}
use Rattle.coord_world.proofs.world.WorldPartialEq.eq.Goals as goal

pub returns-clause-value : goal.returns-clause-value
returns-clause-value c =
    one_answer c.is_same.result (same_world c.args.self.now c.args.other.now)
    (λ e. cc (c.is_same.ensures.0 e), λ same. c.is_same.ensures.1 (cc same))
    (same_world_decides c.args.self.now c.args.other.now)
