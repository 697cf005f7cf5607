use Rattle.std.proofs.Common.{[], ◌∷◌, ◌++◌, ◌+◌, take, inr, sym, ◌∙◌, subst, arith}
use Rattle.std.proofs.lemmas.List.{take_all}
use Rattle.coord_store.proofs.Freshness.{take-push}
use Rattle.coord_world.specs.Facade.{no_world}
use Rattle.coord_starts.specs.Runs.{HasRun}
use Rattle.coord_starts.specs.Starts.{left_by}
use Rattle.coord_starts.proofs.OneHistory.{starts_are_one}
use Rattle.coord_starts.proofs.Runs.{run_on}
use Rattle.coord_starts.proofs.starts.run_starts.Goals as goal

pub returns-in-Err-start-clause-fault : goal.returns-in-Err-start-clause-fault
returns-in-Err-start-clause-fault g c k =
    let now = c.loop-task.invariant.model ∙ k in
    let run = c.loop-task.invariant.run now in
    inr (c.in-Err-start.ensures.fault (left_by (no_world c.args.version) run.starts) now run.left)

pub loop-task-preserved : goal.loop-task-preserved
loop-task-preserved g c =
    let m = g.D.Disk.model in
    let version = c.args.version in
    let tasks = c.args.tasks.now in
    let i = c.loop-task.task-index in
    let t = c.task-item.result in
    let o = c.in-Ok-start.outcome in
    let outcomes = c.loop-task.outcomes.items in
    let bytes = (m.present c.loop-task.left).read in
    let next = (m.present c.in-Ok-start.next).read in
    record {
      model = c.in-Ok-start.ensures.model ∙ c.loop-task.invariant.model;
      run = λ k.
          let now = sym c.in-Ok-start.ensures.model ∙ k in
          let run = c.loop-task.invariant.run now in
          let once = c.in-Ok-start.ensures.once (left_by (no_world version) run.starts) now run.left in
          subst (λ os. HasRun version (take (i + 1) tasks) os next) (sym c.push_reserved.ensures.items)
          (subst (λ ts. HasRun version ts (outcomes ++ o ∷ []) next) (sym (take-push tasks i t c.loop-task-test.true c.task-item.is)) (run_on version (take i tasks) outcomes bytes next t o run once));
      cut = λ k. c.in-Ok-start.ensures.cut (sym c.in-Ok-start.ensures.model ∙ k);
      room = omega (arith, c.loop-task.invariant.room, c.push_reserved.ensures.len, c.push_reserved.ensures.capacity);
    }

pub returns-clause-one : goal.returns-clause-one
returns-clause-one g c k =
    let bytes = (g.D.Disk.model.present c.loop-task.left).read in
    let run = subst (λ ts. HasRun c.args.version ts c.loop-task.outcomes.items bytes) (take_all c.loop-task.task-index c.args.tasks.now (omega (arith, c.loop-task-test.false))) (c.loop-task.invariant.run (c.loop-task.invariant.model ∙ k)) in
    record { run = run; one = starts_are_one c.args.version run.starts c.requires.0 c.requires.1 run.may }
