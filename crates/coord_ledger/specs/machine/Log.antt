-- The steps accepted since a base world, with the number of settled steps and the number of steps in doubt.
use Rattle.std.specs.Prelude.{ℕ, ◌+◌, ◌-◌, Bool, List, [], ◌∷◌, ◌++◌, length, map, take, drop, Option, Some, None, is_some}
use Rattle.coord_types.specs.declared.steps.Kind.{Kind}
use Rattle.coord_types.specs.declared.steps.Step.{Step}
use Rattle.coord_world.specs.Facade.{World, fold, outs}

pub record Log : Type 0 where
  pub base : World
  pub trail : List Step  -- the accepted steps since the base
  pub settled : ℕ  -- the number of settled steps
  pub doubt : Option ℕ  -- after a stop: the number of steps in doubt, which follow the settled steps; either all of them are on disk, or none is

-- the kinds of the replies to these steps
abbrev pub kinds_of : World → List Step → List Kind
kinds_of w steps = map (λ r. r.reply.kind) (outs w steps)

-- the world after the first n steps
abbrev pub world_after : Log → ℕ → World
world_after log n = fold log.base (take n log.trail)

-- the world after all accepted steps
abbrev pub front_world : Log → World
front_world log = fold log.base log.trail

-- the world after the settled steps
abbrev pub settled_world : Log → World
settled_world log = world_after log log.settled

abbrev pub accepted_count : Log → ℕ
accepted_count log = log.base.count + length log.trail

abbrev pub settled_count : Log → ℕ
settled_count log = log.base.count + log.settled

-- the settled steps
abbrev pub settled_steps : Log → List Step
settled_steps log = take log.settled log.trail

-- the accepted steps that are not settled
abbrev pub pending : Log → List Step
pending log = drop log.settled log.trail

abbrev pub has_stopped : Log → Bool
has_stopped log = is_some log.doubt

-- a log without steps, over this world
abbrev pub log_over : World → Log
log_over w = record { base = w; trail = []; settled = 0; doubt = None }

-- the log after one more step is accepted
abbrev pub with_step : Log → Step → Log
with_step log s = record log { trail = log.trail ++ s ∷ [] }

-- the log after the next b steps are settled
abbrev pub with_settled : Log → ℕ → Log
with_settled log b = record log { settled = log.settled + b }

-- the log after a stop: it is unknown whether the next b steps are on disk
abbrev pub with_doubt : Log → ℕ → Log
with_doubt log b = record log { doubt = Some b }

-- the log that has only the first n steps, all settled and none in doubt
abbrev pub cut_to : Log → ℕ → Log
cut_to log n = record { base = log.base; trail = take n log.trail; settled = n; doubt = None }

-- the same log, but with the world after its first n steps as its base
abbrev pub rebased : Log → ℕ → Log
rebased log n = record log { base = world_after log n; trail = drop n log.trail; settled = log.settled - n }
