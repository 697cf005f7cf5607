use Rattle.std.proofs.Common.{◌≡◌, ◌≢◌, ◌∙◌, Err, ap, rules, subst}
use Rattle.coord_config.specs.declared.fault.ConfigFault.{ConfigFault}
use Rattle.coord_config.specs.Reading.{reading}
use Rattle.coord_config.specs.declared.fault.ConfigFault.TheVariants.{NotToml, OutOfMemory}
use Rattle.coord_commands.proofs.SaidBytes.{a_text, no_text}
use Rattle.coord_commands.specs.declared.fault.Fault.TheVariants.{Topology}
use Rattle.coord_commands.proofs.topology.topology_of.Goals as goal

pub returns-in_err-read_topology-in-Ok-clause-refused : goal.returns-in_err-read_topology-in-Ok-clause-refused
returns-in_err-read_topology-in-Ok-clause-refused c reason wanted =
    let fault : ConfigFault = c.in_err-read_topology-in-Ok.field-0.0 in
    let text = c.in-Ok.ensures.cases in
    let returned : c.from_residual.result ≡ Err (Topology fault) = search rules in
    rw returned (λ answered. let same : fault ≡ reason = cc in
    a_text c.args.bytes.now c.in-Ok.text.now (Err reason) text.1 text.0
    (subst (λ f. f ≢ OutOfMemory → reading c.in-Ok.text.now ≡ Err f) same c.in_err-read_topology-in-Ok.ensures.refused wanted))

pub returns-in_ok-read_topology-in-Ok-clause-ok : goal.returns-in_ok-read_topology-in-Ok-clause-ok
returns-in_ok-read_topology-in-Ok-clause-ok c =
    let text = c.in-Ok.ensures.cases in
    a_text c.args.bytes.now c.in-Ok.text.now _ text.1 text.0 c.in_ok-read_topology-in-Ok.ensures.ok

pub returns-in-Err-clause-refused : goal.returns-in-Err-clause-refused
returns-in-Err-clause-refused c reason wanted answered =
    let same : NotToml ≡ reason = cc in no_text c.args.bytes.now c.in-Err.ensures.cases.0 ∙ ap (λ f. Err f) same
