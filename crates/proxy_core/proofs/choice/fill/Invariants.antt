use Rattle.proxy_core.proofs.Chosen.{SecondRound}
use Rattle.proxy_core.proofs.choice.fill.Given as goal

abbrev pub invariant-loop-i : goal.invariant-loop-i
invariant-loop-i l = SecondRound l.is_counted l.is_together l.waiting.items l.first-inside.kind l.first-inside.room l.first-inside.picks.items l.picks.items l.room l.staying l.unnumbered l.i
