use Rattle.std.proofs.Common.{◌≡◌, Err, OnOk, rules, subst, sym}
use Rattle.std.specs.Result.{IfErr}
use Rattle.coord_config.specs.Topology.{content}
use Rattle.coord_commands.proofs.Endings.{cut_last}
use Rattle.coord_commands.proofs.Judged.{refused_file, refused_store, said_of}
use Rattle.coord_commands.specs.Folders.{reads}
use Rattle.coord_commands.specs.Making.{IsFounded, IsOfMaking, RefusesStore, begun}
use Rattle.coord_commands.specs.Printed.{created_line}
use Rattle.coord_commands.proofs.making.init_at.Goals as goal

-- the topology file cannot be read, or is refused
pub returns-in_err-topology-clause-fault : goal.returns-in_err-topology-clause-fault
returns-in_err-topology-clause-fault g c =
    let file = g.F.Folder.says c.args.folder.now c.args.topology.now in
    let same = reads (g.F.Folder.holds c.args.folder.now c.args.file.now) in
    let fault = c.in_err-topology.field-0.0 in
    let returned : c.from_residual.result ≡ Err fault = search rules in
    rw returned
    (refused_file file _ same c.topology_from.result fault c.in-Ok.ensures c.in_err-topology.was c.topology_from.ensures.named c.topology_from.ensures.refused)

-- the store of the disk is not made
pub returns-in_err-count-clause-fault : goal.returns-in_err-count-clause-fault
returns-in_err-count-clause-fault g c =
    let file = g.F.Folder.says c.args.folder.now c.args.topology.now in
    let before = reads (g.F.Folder.holds c.args.folder.now c.args.file.now) in
    let after = reads (g.F.Folder.holds c.make-made.new.folder c.args.file.now) in
    let topology = c.in_ok-topology.topology in
    let fault = c.in_err-count.field-0.0 in
    let is : RefusesStore before after (content topology) fault = subst (λ r. IfErr r (RefusesStore before after (content topology))) c.in_err-count.was c.make-made.ensures.fault in
    let returned : c.from_residual-in_err-count.result ≡ Err fault = search rules in
    subst (λ r. IfErr r (IsOfMaking file before after)) (sym returned)
    (refused_store file _ before after c.topology_from.result topology fault c.in-Ok.ensures c.in_ok-topology.was c.topology_from.ensures.ok is)

pub returns-clause-cut : goal.returns-clause-cut
returns-clause-cut g c =
    let file = g.F.Folder.says c.args.folder.now c.args.topology.now in
    let before = reads (g.F.Folder.holds c.args.folder.now c.args.file.now) in
    let after = reads (g.F.Folder.holds c.make-made.new.folder c.args.file.now) in
    let topology = content c.in_ok-topology.topology in
    let said = said_of file _ c.topology_from.result c.in_ok-topology.topology c.in-Ok.ensures c.in_ok-topology.was c.topology_from.ensures.ok in
    let made : IsFounded topology (begun topology) before after = subst (λ r. OnOk r (IsFounded topology (begun topology) before after)) c.in_ok-count.was c.make-made.ensures.made in
    let counted : c.deref.result.now ≡ created_line (begun topology).count = search rules in
    cut_last _ c.print.result _ _ c.deref.result.now (record { topology = topology; said = said; is_made = made; counted = counted }) c.print.ensures.err c.print.ensures.fault
