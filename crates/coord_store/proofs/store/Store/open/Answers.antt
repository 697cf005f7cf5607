use Rattle.std.proofs.Common.{◌∙◌, inl, inr}
use Rattle.coord_journal.specs.Contents.{content_of}
use Rattle.coord_store.proofs.Exclusion.{recovered_is_opened, recovered_is_one, content_refused}
use Rattle.coord_store.proofs.store.Store.open.Goals as goal

-- the journal of the disk is refused

pub returns-in-Err-clause-fault : goal.returns-in-Err-clause-fault
returns-in-Err-clause-fault g c k = inr (inl (c.in-Err.fault, c.fault_of.ensures, c.in-Err.ensures.fault k))

pub returns-in-Err-clause-only : goal.returns-in-Err-clause-only
returns-in-Err-clause-only g c w k recovered =
    recovered_is_opened (g.D.Disk.model.present c.args.disk).read w c.fault_of.result recovered (inr (inl (c.in-Err.fault, c.fault_of.ensures, c.in-Err.ensures.fault k)))

pub returns-in-Ok-read_contents-clause-only : goal.returns-in-Ok-read_contents-clause-only
returns-in-Ok-read_contents-clause-only g c w k recovered =
    let read = (g.D.Disk.model.present c.args.disk).read in
    c.over.ensures.world ∙ recovered_is_one read c.in-Ok-read_contents.world w (record { content = content_of c.in-Ok.opened.1; text = c.in-Ok.ensures.text k; gives = c.in-Ok-read_contents.ensures.gives }) recovered

-- what the journal holds is refused

pub returns-clause-fault : goal.returns-clause-fault
returns-clause-fault g c k =
    content_refused (g.D.Disk.model.present c.args.disk).read (content_of c.in-Ok.opened.1) c.in-Err-read_contents.fault (c.in-Ok.ensures.text k) c.in-Err-read_contents.ensures.refused

pub returns-clause-only : goal.returns-clause-only
returns-clause-only g c w k recovered =
    let read = (g.D.Disk.model.present c.args.disk).read in
    recovered_is_opened read w c.in-Err-read_contents.fault recovered (content_refused read (content_of c.in-Ok.opened.1) c.in-Err-read_contents.fault (c.in-Ok.ensures.text k) c.in-Err-read_contents.ensures.refused)
