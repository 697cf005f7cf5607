use Rattle.std.proofs.Common.{◌≡◌, true, ◌∙◌, ap, sym, subst}
use Rattle.coord_config.specs.Topology.{content}
use Rattle.coord_store.specs.Facade.{HasHalves, Recovered}
use Rattle.coord_commands.specs.Making.{begun}
use Rattle.coord_commands.proofs.Made.{made_known, refused_known}
use Rattle.coord_commands.proofs.making.make_on.Goals as goal

pub returns-in-Ok-clause-made : goal.returns-in-Ok-clause-made
returns-in-Ok-clause-made g c =
    let m = g.D.Disk.model in
    let back = c.into_disk.ensures.disk in
    let topology = content c.args.topology.now in
    made_known (m.keeps_model c.args.disk) (m.keeps_model c.into_disk.result) (m.present c.args.disk) (m.present c.into_disk.result) topology (begun topology) c.in-Ok.ensures.empty
    (λ k.
    let keeps : m.keeps_model c.in-Ok.store.disk ≡ true = subst (λ d. m.keeps_model d ≡ true) back k in
    record {
      gives = subst (Recovered (m.present c.into_disk.result).read) c.in-Ok.ensures.world (c.into_disk.ensures.reopens keeps c.in-Ok.ensures.going);
      halves = subst (λ d. HasHalves topology.half (m.present d).read) (sym back) (c.in-Ok.ensures.halves (sym c.in-Ok.ensures.model ∙ keeps));
    })

pub returns-in-Err-clause-fault : goal.returns-in-Err-clause-fault
returns-in-Err-clause-fault g c =
    let m = g.D.Disk.model in
    let of = c.in-Err.ensures in
    refused_known (m.keeps_model c.args.disk) (m.keeps_model c.in-Err.disk) (m.present c.args.disk) (m.present c.in-Err.disk) (content c.args.topology.now) c.in-Err.fault (λ k. sym of.model ∙ k)
    (λ k some other. ap (λ p. p.read) (of.taken k some other).same) (λ k is. ap (λ p. p.read) (of.unchanged k is).same) of.fault of.memory of.refused (λ reason k is. of.left_empty reason k is) of.named
