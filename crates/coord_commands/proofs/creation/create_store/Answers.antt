use Rattle.std.proofs.Common.{inr, arith, ap, sym, ◌∙◌, subst}
use Rattle.coord_config.specs.Topology.{content}
use Rattle.coord_store.specs.Facade.{HasHalves, Recovered}
use Rattle.coord_commands.proofs.Made.{in_commit, in_creation, made_halves, no_step}
use Rattle.coord_commands.proofs.OneClient.{each_numbered}
use Rattle.coord_commands.specs.Founding.{commands}
use Rattle.coord_commands.proofs.creation.create_store.Goals as goal

pub commit-requires-clause-numbered : goal.commit-requires-clause-numbered
commit-requires-clause-numbered g c =
    rw (c.deref.ensures.value ∙ c.in-Ok-founding_steps.ensures.steps)
    (each_numbered 1 (commands (content c.args.topology.now)) (omega arith))

-- ---- the halves

pub returns-then-is_empty-clause-halves : goal.returns-then-is_empty-clause-halves
returns-then-is_empty-clause-halves g c k = made_halves c.args.topology.now.half 2 (g.D.Disk.model.present c.in-Ok.store.disk) c.in-Ok.ensures.half_size (c.in-Ok.ensures.bytes k)

pub returns-in-Ok-commit-clause-halves : goal.returns-in-Ok-commit-clause-halves
returns-in-Ok-commit-clause-halves g c k =
    c.in-Ok-commit.ensures.commits.changes.halves (c.in-Ok.ensures.runs.model ∙ k) c.in-Ok.ensures.going c.args.topology.now.half
    (made_halves c.args.topology.now.half 2 (g.D.Disk.model.present c.in-Ok.store.disk) c.in-Ok.ensures.half_size (c.in-Ok.ensures.bytes k))

-- ---- what out of memory leaves

pub returns-in-Err-clause-memory : goal.returns-in-Err-clause-memory
returns-in-Err-clause-memory g c k is = no_step g.D.Disk.model c.args.topology.now.half c.args.disk c.in-Err.disk (c.in-Err.ensures.memory k (in_creation c.in-Err.fault is))

pub returns-in-Err-founding_steps-clause-memory : goal.returns-in-Err-founding_steps-clause-memory
returns-in-Err-founding_steps-clause-memory g c k is =
    let m = g.D.Disk.model in
    let keeps = c.in-Ok.ensures.runs.model ∙ k in
    let half = c.args.topology.now.half in
    let halves = made_halves half 2 (m.present c.in-Ok.store.disk) c.in-Ok.ensures.half_size (c.in-Ok.ensures.bytes k) in
    inr (
      subst (Recovered (m.present c.into_disk.result).read) c.in-Ok.ensures.world (c.into_disk.ensures.reopens keeps c.in-Ok.ensures.going),
      subst (λ d. HasHalves half (m.present d).read) (sym c.into_disk.ensures.disk) halves,
    )

pub returns-clause-memory : goal.returns-clause-memory
returns-clause-memory g c k is =
    let m = g.D.Disk.model in
    let half = c.args.topology.now.half in
    let keeps = c.in-Ok.ensures.runs.model ∙ k in
    let commits = c.in-Err-commit.ensures.commits in
    let other = in_commit c.in-Err-commit.fault c.from.result c.from.ensures is in
    let none = commits.unchanged other ∙ c.in-Ok.ensures.going in
    let world = commits.changes.same_world ∙ c.in-Ok.ensures.world in
    let halves = commits.changes.halves keeps c.in-Ok.ensures.going half (made_halves half 2 (m.present c.in-Ok.store.disk) c.in-Ok.ensures.half_size (c.in-Ok.ensures.bytes k)) other in
    inr (
      subst (Recovered (m.present c.into_disk-in-Err-commit.result).read) world (c.into_disk-in-Err-commit.ensures.reopens (commits.runs.model ∙ keeps) none),
      subst (λ d. HasHalves half (m.present d).read) (sym c.into_disk-in-Err-commit.ensures.disk) halves,
    )

-- an order was refused: the store was made without any step

pub returns-in-Err-founding_steps-clause-left_empty : goal.returns-in-Err-founding_steps-clause-left_empty
returns-in-Err-founding_steps-clause-left_empty g c reason k is =
    let m = g.D.Disk.model in
    let keeps = c.in-Ok.ensures.runs.model ∙ k in (
      c.in-Ok.ensures.empty k,
      record {
        bytes = ap m.present c.into_disk.ensures.disk ∙ c.in-Ok.ensures.bytes k;
        half = c.in-Ok.ensures.half_size;
        gives = subst (Recovered (m.present c.into_disk.result).read) c.in-Ok.ensures.world (c.into_disk.ensures.reopens keeps c.in-Ok.ensures.going);
      },
    )
