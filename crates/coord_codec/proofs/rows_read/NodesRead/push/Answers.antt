use Rattle.std.proofs.Common.{sym, ◌∙◌, arith}
use Rattle.coord_world.specs.declared.rows.parts.NodeRow.{NodeRow}
use Rattle.coord_codec.proofs.RowsRead.{last_push, group_noted}
use Rattle.coord_codec.proofs.rows_read.NodesRead.push.Goals as goal

pub invariant_of-self-2-clause-last_row : goal.invariant_of-self-2-clause-last_row
invariant_of-self-2-clause-last_row c = rw c.in_ok-push.ensures.items (c.number-self.ensures.value ∙ sym (last_push (λ (r : NodeRow). r.id) 0 c.args.self.now.rows.items c.args.row))

pub invariant_of-self-2-clause-grouped : goal.invariant_of-self-2-clause-grouped
invariant_of-self-2-clause-grouped c = λ u low high. rw c.in_ok-push.ensures.items
    (group_noted c.args.self.now.groups c.args.self.now.rows.items c.args.row c.number-self.ensures.least (omega arith) (omega arith) c.args.self.now.grouped c.note_group.new.groups
    (rw c.place_of.ensures at c.note_group.ensures.first) (rw c.place_of.ensures at c.note_group.ensures.later) u low high)
