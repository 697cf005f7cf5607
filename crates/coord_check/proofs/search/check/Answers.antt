-- A world without a fault is legal, and the first fault fails at the reported place.
use Rattle.std.proofs.Common.{◌≡◌, Some, sym, ◌∙◌}
use Rattle.std.specs.List.{flat_map}
use Rattle.coord_world.specs.protocol.NumberedWorld.{World}
use Rattle.coord_check.specs.Faults.{faults, first, node_faults, faults_from, nodes_from}
use Rattle.coord_check.specs.declared.violation.Violation.{Violation}
use Rattle.coord_check.proofs.Faults.{first_fails, first_here, first_further}
use Rattle.coord_check.proofs.LegalWithoutFaults.{clear_or_not}
use Rattle.coord_check.proofs.search.check.Goals as goal

-- the first fault of a node
of_nodes : (w : World) (v : Violation) → first (flat_map (node_faults w) (nodes_from 1)) ≡ Some v → Some v ≡ first (faults w)
of_nodes w v is = sym (first_here (flat_map (node_faults w) (nodes_from 1)) (flat_map (faults_from w) (nodes_from 1)) v is)

pub returns-in-Some-clause-legal : goal.returns-in-Some-clause-legal
returns-in-Some-clause-legal c = clear_or_not c.args.world.now c.lemma_in_range.ensures (Some c.in-Some.fault) (of_nodes c.args.world.now c.in-Some.fault (sym c.in-Some.ensures))

pub returns-in-Some-clause-named : goal.returns-in-Some-clause-named
returns-in-Some-clause-named c = first_fails c.args.world.now c.lemma_in_range.ensures (Some c.in-Some.fault) (of_nodes c.args.world.now c.in-Some.fault (sym c.in-Some.ensures))

pub returns-clause-legal : goal.returns-clause-legal
returns-clause-legal c =
    clear_or_not c.args.world.now c.lemma_in_range.ensures c.first_of_links.result
    (c.first_of_links.ensures ∙ sym (first_further (flat_map (node_faults c.args.world.now) (nodes_from 1)) (flat_map (faults_from c.args.world.now) (nodes_from 1)) (sym c.first_of_nodes.ensures ∙ c.in_default.is)))

pub returns-clause-named : goal.returns-clause-named
returns-clause-named c =
    first_fails c.args.world.now c.lemma_in_range.ensures c.first_of_links.result
    (c.first_of_links.ensures ∙ sym (first_further (flat_map (node_faults c.args.world.now) (nodes_from 1)) (flat_map (faults_from c.args.world.now) (nodes_from 1)) (sym c.first_of_nodes.ensures ∙ c.in_default.is)))
