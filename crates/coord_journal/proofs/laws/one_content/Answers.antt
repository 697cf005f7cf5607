use Rattle.coord_journal.proofs.Texts.{text_same}
use Rattle.coord_journal.proofs.laws.one_content.Goals as goal

pub returns : goal.returns
returns c bytes one other here there = text_same bytes one other here there
