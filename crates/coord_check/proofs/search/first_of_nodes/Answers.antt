-- Place by place.
use Rattle.std.proofs.Common.{sym, ap, ◌∙◌, arith}
use Rattle.coord_check.specs.Faults.{first, node_faults}
use Rattle.coord_check.proofs.Faults.{passed, met, all_passed}
use Rattle.coord_check.proofs.search.first_of_nodes.Goals as goal

pub returns-in-Some : goal.returns-in-Some
returns-in-Some c =
    sym (met (node_faults c.args.world.now) c.loop-number.number c.in-Some.fault (omega arith) (ap (λ u. first (node_faults c.args.world.now u)) (sym c.in_ok-id.ensures.value) ∙ sym c.in-Some.ensures)) ∙ c.loop-number.invariant

pub loop-number-preserved : goal.loop-number-preserved
loop-number-preserved c =
    passed (node_faults c.args.world.now) c.loop-number.number (omega arith) (ap (λ u. first (node_faults c.args.world.now u)) (sym c.in_ok-id.ensures.value) ∙ sym c.fault_of_node.ensures ∙ c.in_default.is) ∙ c.loop-number.invariant

pub returns : goal.returns
returns c = sym (all_passed (node_faults c.args.world.now) c.loop-number.number (omega arith)) ∙ c.loop-number.invariant
