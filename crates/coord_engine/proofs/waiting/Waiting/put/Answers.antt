use Rattle.std.proofs.Common.{rules, ◌≡◌, sym, ap, ◌∙◌, subst}
use Rattle.indexmap.specs.IndexMap.{insert_entry}
use Rattle.std.specs.Map.{values_of}
use Rattle.coord_engine.specs.Waiting.{with_packet}
use Rattle.coord_engine.specs.code.Slots.{is_same_slot, slot_of, SlotsMatch}
use Rattle.coord_engine.proofs.Puts.{match_put, values_put}
use Rattle.coord_engine.proofs.waiting.Waiting.put.Goals as goal

pub invariant_of-self-2 : goal.invariant_of-self-2
invariant_of-self-2 c =
    let e : c.insert.new.self.entries ≡ insert_entry is_same_slot c.self.inside.packets.entries (slot_of c.args.packet) c.args.packet = search rules in
    subst SlotsMatch (sym e) (match_put _ c.args.packet c.self.invariant)

pub returns-clause-put : goal.returns-clause-put
returns-clause-put c =
    let e : c.insert.new.self.entries ≡ insert_entry is_same_slot c.self.inside.packets.entries (slot_of c.args.packet) c.args.packet = search rules in
    ap values_of e ∙ values_put _ c.args.packet c.self.invariant ∙ ap (λ l. with_packet l c.args.packet) c.self.view_is
