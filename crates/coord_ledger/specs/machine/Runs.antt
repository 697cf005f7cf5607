-- Runs: lists of events, with an answer to each.
use Rattle.std.specs.Prelude.{List, [], ◌∷◌}
use Rattle.coord_ledger.specs.declared.events.Answer.{Answer}
use Rattle.coord_ledger.specs.declared.events.Event.{Event}
use Rattle.coord_ledger.specs.machine.After.{after}
use Rattle.coord_ledger.specs.machine.Answers.{IsOneOf, answers}
use Rattle.coord_ledger.specs.machine.Machine.{Machine}

-- Each event got a possible answer.
abbrev pub Answered : Machine → List Event → List Answer → Type 0
Answered s [] [] = Unit {0}
Answered s [] (a ∷ given) = ⊥
Answered s (e ∷ es) [] = ⊥
Answered s (e ∷ es) (a ∷ given) = IsOneOf a (answers s e) × Answered (after s e a) es given

-- the machine after a run with these answers
abbrev pub run : Machine → List Event → List Answer → Machine
run s [] given = s
run s (e ∷ es) [] = s
run s (e ∷ es) (a ∷ given) = run (after s e a) es given
