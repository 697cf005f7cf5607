use Rattle.std.proofs.Common.{sym, ◌∙◌}
use Rattle.std.proofs.lemmas.Option.{same_Some}
use Rattle.coord_config.proofs.BlankTexts.{parse_document-blank}
use Rattle.coord_config.proofs.reading.read_topology.Goals as goal

pub returns-clause-not_blank : goal.returns-clause-not_blank
returns-clause-not_blank c = λ refused blank.
    c.values_of.ensures.memory refused (same_Some _ _ (sym c.in-Ok.ensures.ok ∙ parse_document-blank c.args.text.now blank))
