use Rattle.std.proofs.Common.{refl}
use Rattle.std.specs.Fmt.{digits}
use Rattle.coord_drill.specs.Grammar.{number_of, number, node, group, client, distance, messages, commands, order_fields, data_fields, receipt_fields, version_fields, other_requests, request_of, spelled}
use Rattle.coord_drill.proofs.laws.worked_lines.Goals as goal

pub returns : goal.returns
unfolding digits number_of number node group client distance messages commands order_fields data_fields receipt_fields version_fields other_requests request_of spelled
returns c = (
  (refl, refl),
  (refl, refl),
  (refl, refl),
  (refl, refl),
  (refl, refl),
  (refl, refl),
  (refl, refl),
  (refl, refl),
  (refl, refl),
  (refl, refl),
  (refl, refl),
  (refl, refl),
  (refl, refl),
  (refl, refl),
  (refl, refl),
  (refl, refl),
  (refl, refl),
  (refl, refl),
  (refl, refl),
)
