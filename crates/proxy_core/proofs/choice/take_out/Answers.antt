use Rattle.std.proofs.Common.{rules, ◌+◌, ◌++◌, drop, ap, ◌∙◌}
use Rattle.proxy_core.specs.Machine.{left, picked}
use Rattle.proxy_core.proofs.Parts.{pick_goes, pick_leaves, stay_goes, stay_leaves}
use Rattle.proxy_core.proofs.choice.take_out.Goals as goal
use Rattle.proxy_core.proofs.choice.take_out.Goals.{in-Some+then-picks-i, in-Some+else-picks-i, in_default}

pub loop-i-preserved : goal.loop-i-preserved
loop-i-preserved c =
    let P = c.args.picks.now in
    let i = c.loop-i.i in
    let rest = c.pop_front.new.self.items in
    elim c.match-pop_front.branch [
      | in-Some+then-picks-i w ↦ record {
        out = ap (λ q. q.items ++ picked (drop (i + 1) P) rest) w.flight-is
            ∙ ap (λ l. l ++ picked (drop (i + 1) P) rest) w.push_back_reserved.ensures.items
            ∙ pick_goes P i w.in-Some.pending c.loop-i.waiting.items rest c.loop-i.flight.items _ c.loop-i-test.true w.if-picks-i.true w.in-Some.ensures.items c.loop-i.invariant.out;
        stays = ap (λ q. q.items ++ left (drop (i + 1) P) rest) w.kept-is
            ∙ pick_leaves P i w.in-Some.pending c.loop-i.waiting.items rest c.loop-i.kept.items _ c.loop-i-test.true w.if-picks-i.true w.in-Some.ensures.items c.loop-i.invariant.stays;
        rest = search rules;
        few_out = search rules;
        few_kept = search rules;
        room_out = search rules;
        room_kept = search rules;
      }
      | in-Some+else-picks-i w ↦ record {
        out = ap (λ q. q.items ++ picked (drop (i + 1) P) rest) w.flight-is
            ∙ stay_goes P i w.in-Some.pending c.loop-i.waiting.items rest c.loop-i.flight.items _ c.loop-i-test.true w.if-picks-i.false w.in-Some.ensures.items c.loop-i.invariant.out;
        stays = ap (λ q. q.items ++ left (drop (i + 1) P) rest) w.kept-is
            ∙ ap (λ l. l ++ left (drop (i + 1) P) rest) w.push_back_reserved-else-picks-i.ensures.items
            ∙ stay_leaves P i w.in-Some.pending c.loop-i.waiting.items rest c.loop-i.kept.items _ c.loop-i-test.true w.if-picks-i.false w.in-Some.ensures.items c.loop-i.invariant.stays;
        rest = search rules;
        few_out = search rules;
        few_kept = search rules;
        room_out = search rules;
        room_kept = search rules;
      }
      | in_default w ↦ search rules
    ]
