use Rattle.std.proofs.Common.{arith, ◌++◌, take, drop, sym, ap, ◌∙◌, append_assoc, take-append-drop}
use Rattle.std.proofs.lemmas.Grind.{common_steps}
use Rattle.std.proofs.KnownBytes.{Appends-trans}
use Rattle.coord_drill.proofs.writing.write_text.Goals as goal

pub loop-preserved : goal.loop-preserved
loop-preserved g c =
    let inv = c.loop.invariant in
    let rest = c.loop.rest.now in
    let count = c.in_ok-count.count in (
      inv.0 ++ take count rest,
      Appends-trans _ _ _ _ _ inv.1 c.in_ok-count.ensures.bytes,
      inv.2 ∙ ap (λ l. inv.0 ++ l) (sym (take-append-drop count rest)) ∙ sym (append_assoc inv.0 (take count rest) (drop count rest)) ∙ ap (λ l. inv.0 ++ take count rest ++ l) (grind (arith, common_steps)),
    )
