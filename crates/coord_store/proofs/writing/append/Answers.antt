use Rattle.std.proofs.Common.{ap, ◌∙◌}
use Rattle.coord_journal.specs.Text.{with_batch}
use Rattle.coord_world.specs.Facade.{fold}
use Rattle.coord_store.specs.Facade.{commit_fault_of}
use Rattle.coord_store.proofs.Holding.{follows_done, follows_refused, gives-push, stays_by}
use Rattle.coord_store.proofs.writing.append.Goals as goal

pub returns-in-Ok-clause-follows : goal.returns-in-Ok-clause-follows
returns-in-Ok-clause-follows g c w steps holds takes =
    let body = c.args.body.now in
    follows_done g.D.Disk.model _ _ (with_batch holds.content body) w (fold w steps) holds _ _ (gives-push holds.content w body steps holds.gives takes) (c.in-Ok.ensures.writes holds.content holds.ready)

pub returns-in-Err-clause-follows : goal.returns-in-Err-clause-follows
returns-in-Err-clause-follows g c w steps holds takes =
    let body = c.args.body.now in
    follows_refused g.D.Disk.model _ _ (with_batch holds.content body) w (fold w steps) holds c.in-Err.fault c.fault_of.result (gives-push holds.content w body steps holds.gives takes) (c.in-Err.ensures.writes holds.content holds.ready)

pub returns-in-Err-clause-stays : goal.returns-in-Err-clause-stays
returns-in-Err-clause-stays g c w holds =
    stays_by g.D.Disk.model g.met.D.Disk.laws c.args.journal.now c.append.new.self w c.fault_of.result holds (λ other. c.in-Err.ensures.answers.unchanged (λ e. other (c.fault_of.ensures ∙ ap commit_fault_of e)))
