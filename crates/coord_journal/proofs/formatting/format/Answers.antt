use Rattle.std.proofs.Common.{◌≡◌, ap, arith}
use Rattle.std.proofs.lemmas.Grind.{common_steps}
use Rattle.coord_disk.specs.Model.Present.{whole}
use Rattle.coord_journal.specs.Text.{formatted}
use Rattle.coord_journal.proofs.Texts.{formatted_text}
use Rattle.coord_journal.proofs.formatting.format.Goals as goal

pub returns-clause-text : goal.returns-clause-text
returns-clause-text g c k =
    let is : g.D.Disk.model.present c.write_synced.new.disk ≡ whole (formatted c.args.half_size c.args.version c.args.snapshot.now) = grind (arith, common_steps) in
    formatted_text c.args.half_size c.args.version c.args.snapshot.now (g.D.Disk.model.present c.write_synced.new.disk).read (record { smallest = omega arith; greatest = omega arith }) c.requires (ap (λ p. p.read) is)
