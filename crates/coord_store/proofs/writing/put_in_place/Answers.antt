use Rattle.std.proofs.Common.{◌∙◌, ap}
use Rattle.coord_journal.specs.Text.{without_batch}
use Rattle.coord_store.specs.Facade.{commit_fault_of}
use Rattle.coord_store.proofs.Holding.{begun, follows_done, follows_refused, only_is_either, snapshot_gives, stays_by}
use Rattle.coord_store.proofs.writing.put_in_place.Goals as goal

pub returns-in-Err-clause-follows : goal.returns-in-Err-clause-follows
returns-in-Err-clause-follows g c w holds = record { any_moment = only_is_either g.D.Disk.model _ _ _ _ (begun g.D.Disk.model g.met.D.Disk.laws c.args.journal.now w holds); done = tt }

pub returns-in-Err-clause-stays : goal.returns-in-Err-clause-stays
returns-in-Err-clause-stays g c w holds = record { any_moment = λ _. begun g.D.Disk.model g.met.D.Disk.laws c.args.journal.now w holds; held = λ _. holds }

pub returns-in-Ok-replace-clause-follows : goal.returns-in-Ok-replace-clause-follows
returns-in-Ok-replace-clause-follows g c w holds =
    let gives = snapshot_gives c.number.result c.deref.result.now c.args.other.now (c.number.ensures.value ∙ c.version.ensures) c.lemma_in_range.ensures c.requires.legal (c.deref.ensures.value ∙ c.in-Ok.ensures.spelled) in
    follows_done g.D.Disk.model _ _ (without_batch c.number.result c.deref.result.now) w c.args.other.now holds _ _ gives (c.in-Ok-replace.ensures.writes holds.content holds.ready)

pub returns-clause-follows : goal.returns-clause-follows
returns-clause-follows g c w holds =
    let gives = snapshot_gives c.number.result c.deref.result.now c.args.other.now (c.number.ensures.value ∙ c.version.ensures) c.lemma_in_range.ensures c.requires.legal (c.deref.ensures.value ∙ c.in-Ok.ensures.spelled) in
    follows_refused g.D.Disk.model _ _ (without_batch c.number.result c.deref.result.now) w c.args.other.now holds c.in-Err-replace.fault c.fault_of.result gives (c.in-Err-replace.ensures.writes holds.content holds.ready)

pub returns-clause-stays : goal.returns-clause-stays
returns-clause-stays g c w holds =
    stays_by g.D.Disk.model g.met.D.Disk.laws c.args.journal.now c.replace.new.self w c.fault_of.result holds (λ other. c.in-Err-replace.ensures.answers.unchanged (λ e. other (c.fault_of.ensures ∙ ap commit_fault_of e)))
