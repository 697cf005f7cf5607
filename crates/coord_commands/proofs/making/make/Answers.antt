use Rattle.coord_config.specs.Topology.{content}
use Rattle.coord_commands.specs.Making.{begun}
use Rattle.coord_commands.proofs.Made.{made_named, refused_named}
use Rattle.coord_commands.proofs.making.make.Goals as goal

pub returns-clause-made : goal.returns-clause-made
returns-clause-made g c =
    let topology = content c.args.topology.now in
    made_named c.make_on-made.result.0 topology (begun topology) _ _ _ _ c.in_ok-disk.ensures.taken c.close.ensures c.make_on-made.ensures.made

pub returns-clause-fault : goal.returns-clause-fault
returns-clause-fault g c = refused_named c.make_on-made.result.0 (content c.args.topology.now) _ _ _ _ c.in_ok-disk.ensures.taken c.close.ensures c.make_on-made.ensures.fault
