use Rattle.proxy_core.proofs.Chosen.{FirstRound}
use Rattle.proxy_core.proofs.choice.lead.Given as goal

abbrev pub invariant-loop-i : goal.invariant-loop-i
invariant-loop-i l = FirstRound l.is_counted l.waiting.items l.picks.items l.kind l.room l.seen l.i
