use Rattle.std.proofs.Common.{◌≡◌, Err, subst, IfErr}
use Rattle.coord_commands.proofs.SaidBytes.{of_front}
use Rattle.coord_commands.specs.Topology.{said_by}
use Rattle.coord_commands.specs.declared.fault.Fault.TheVariants.{Topology}
use Rattle.coord_commands.specs.declared.topology.TheConstants.{MOST_BYTES}
use Rattle.coord_commands.proofs.topology.topology_from.Goals as goal

pub returns-clause-refused : goal.returns-clause-refused
returns-clause-refused g c reason wanted =
    of_front (g.R.Read.remaining c.args.reader) MOST_BYTES c.in_ok-bytes.bytes.items
    (λ l. IfErr c.topology_of.result (λ fault. fault ≡ Topology reason → said_by l ≡ Err reason))
    c.in_ok-bytes.ensures.bytes
    (subst (λ l. IfErr c.topology_of.result (λ fault. fault ≡ Topology reason → said_by l ≡ Err reason)) c.deref.ensures.value (c.topology_of.ensures.refused reason wanted))
