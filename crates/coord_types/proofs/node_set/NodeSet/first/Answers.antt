use Rattle.std.proofs.Common.{ap, ◌∙◌, arith}
use Rattle.coord_types.specs.NodeSet as set
use Rattle.coord_types.proofs.Masks.{first-nodes_of}
use Rattle.coord_types.proofs.node_set.NodeSet.first.Goals as goal

pub returns : goal.returns
returns c = first-nodes_of c.self.inside.bits c.new.result (omega arith) c.new.ensures.within c.new.ensures.value ∙ ap set.first c.self.view_is
