use Rattle.std.proofs.Common.{◌∙◌}
use Rattle.coord_disk.specs.Model.Present.{Torn}
use Rattle.coord_disk.proofs.MomentLemmas.{started, goes_on}
use Rattle.coord_disk.proofs.TornWrites.{torn, untouched}
use Rattle.coord_journal.proofs.synced.write_synced.Goals as goal

pub returns-in_err-write_at-clause-any_moment : goal.returns-in_err-write_at-clause-any_moment
returns-in_err-write_at-clause-any_moment g c bytes k is =
    let m = g.D.Disk.model in
    let P = Torn bytes c.args.at c.args.new.now in
    let start = started m g.met.D.Disk.laws c.args.disk.now P k (untouched bytes c.args.new.now c.args.at _ is) in
    goes_on m c.args.disk.now c.args.disk.now c.write_at.new.self P start (c.write_at.ensures.call.time k) (torn bytes c.args.new.now c.args.at _ _ is (c.write_at.ensures.call.change k).crash)

pub returns-clause-any_moment : goal.returns-clause-any_moment
returns-clause-any_moment g c bytes k is =
    let m = g.D.Disk.model in
    let P = Torn bytes c.args.at c.args.new.now in
    let start = started m g.met.D.Disk.laws c.args.disk.now P k (untouched bytes c.args.new.now c.args.at _ is) in
    let leaves = torn bytes c.args.new.now c.args.at _ _ is (c.write_at.ensures.call.change k).crash in
    let wrote = goes_on m c.args.disk.now c.args.disk.now c.write_at.new.self P start (c.write_at.ensures.call.time k) leaves in
    let k1 = c.write_at.ensures.call.model ∙ k in
    goes_on m c.args.disk.now c.write_at.new.self c.sync.new.self P wrote (c.sync.ensures.call.time k1) (λ f now. leaves f ((c.sync.ensures.call.change k1).crash f now))
