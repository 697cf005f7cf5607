use Rattle.std.proofs.Common.{arith, ◌++◌, take, drop, sym, ap, ◌∙◌, append_assoc, take-append-drop}
use Rattle.std.proofs.lemmas.Grind.{common_steps}
use Rattle.std.proofs.KnownBytes.{Appends-trans, Appends-kept}
use Rattle.coord_lines.proofs.writing.write_whole.Goals as goal
use Rattle.coord_lines.proofs.writing.write_whole.Goals.{in-Ok, in-Err+else-ne}

pub loop-preserved : goal.loop-preserved
loop-preserved g c =
    let inv = c.loop.invariant in
    elim c.match-write.branch [
      | in-Ok w ↦
          let rest = c.loop.rest.now in
          let count = w.in-Ok.count in (
            inv.0 ++ take count rest,
            Appends-trans _ _ _ _ _ inv.1 w.in-Ok.ensures.bytes,
            inv.2 ∙ ap (λ l. inv.0 ++ l) (sym (take-append-drop count rest)) ∙ sym (append_assoc inv.0 (take count rest) (drop count rest)) ∙ ap (λ l. inv.0 ++ take count rest ++ l) (rw w.rest-is (grind (arith, common_steps))),
          )
      | in-Err+else-ne w ↦ rw w.rest-is (inv.0, Appends-kept _ _ _ _ inv.1 w.in-Err.ensures.bytes, inv.2)
    ]
