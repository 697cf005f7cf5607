use Rattle.std.proofs.Common.{◌≡◌, ◌-◌, ◌+◌, ◌++◌, arith, length, take, drop, sym, ap, ◌∙◌}
use Rattle.std.proofs.Math.Seq.{take-add}
use Rattle.std.proofs.lemmas.Grind.{common_steps}
use Rattle.std.proofs.KnownBytes.{Appends-trans, Appends-kept}
use Rattle.proxy_streams.proofs.outbox.write_part.Goals as goal
use Rattle.proxy_streams.proofs.outbox.write_part.Goals.{in-Ok, in-Err+in-Interrupted}

pub loop-preserved : goal.loop-preserved
loop-preserved g c =
    let inv = c.loop.invariant in
    let text = c.args.text.now in
    elim c.match-write.branch [
      | in-Ok w ↦
          let sent = c.loop.sent in
          let count = w.in-Ok.count in
          let whole : take (length text - sent) (drop sent text) ≡ drop sent text = grind (arith, common_steps) in
          let more : take sent text ++ take count (take (length text - sent) (drop sent text)) ≡ take (sent + count) text =
          ap (λ l. take sent text ++ take count l) whole ∙ sym (take-add sent count text) in
          rw w.sent-is (grind (arith, common_steps), rw (sym more) (Appends-trans _ _ _ _ _ inv.1 w.in-Ok.ensures.bytes))
      | in-Err+in-Interrupted w ↦ rw w.sent-is (inv.0, Appends-kept _ _ _ _ inv.1 w.in-Err.ensures.bytes)
    ]
