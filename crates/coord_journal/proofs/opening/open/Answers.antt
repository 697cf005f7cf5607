use Rattle.std.proofs.Common.{◌∙◌, sym}
use Rattle.coord_journal.proofs.opening.open.Goals as goal

pub returns-in-Ok-read_text-clause-only : goal.returns-in-Ok-read_text-clause-only
returns-in-Ok-read_text-clause-only g c content k text =
    c.in-Ok-read_text.ensures.only content (rw (c.deref.ensures.value ∙ c.in-Ok.ensures.bytes k) text)

pub returns-in-Err-read_text-clause-fault : goal.returns-in-Err-read_text-clause-fault
returns-in-Err-read_text-clause-fault g c k =
    rw (sym (c.deref.ensures.value ∙ c.in-Ok.ensures.bytes k)) c.in-Err-read_text.ensures.fault
