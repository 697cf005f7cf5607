-- Members that see the settled worlds of a ledger, which may crash.
use Rattle.std.specs.Prelude.{ℕ, zero, suc, ◌==◌, ◌≤◌, List, [], ◌∷◌, if◌then◌else◌}
use Rattle.std.specs.List.{AllByRecursion}
use Rattle.coord_world.specs.Facade.{World}
use Rattle.coord_world.specs.laws.Trails.{IsSound}
use Rattle.coord_member.specs.Members as member
use Rattle.coord_member.specs.NoMix.{IsUnmixed}
use Rattle.coord_look.specs.Shown.{IsShownTo}
use Rattle.coord_ledger.specs.declared.events.Answer.{Answer}
use Rattle.coord_ledger.specs.declared.events.Event.{Event}
use Rattle.coord_ledger.specs.machine.After.{after}
use Rattle.coord_ledger.specs.machine.Consistent.{EventInRange}
use Rattle.coord_ledger.specs.machine.Log.{settled_world}
use Rattle.coord_ledger.specs.machine.Machine.{Machine, adopted}
use Rattle.coord_ledger.specs.machine.Runs.{Answered}

-- the ledger after the first t events, if it gave these answers to them
abbrev pub machine_at : Machine → ℕ → List Event → List Answer → Machine
machine_at s zero events given = s
machine_at s (suc t) [] given = s
machine_at s (suc t) (e ∷ events) [] = s
machine_at s (suc t) (e ∷ events) (a ∷ given) = machine_at (after s e a) t events given

-- each look sees the settled world of some moment, at or after the moment that the same member's previous look saw
abbrev pub AreShownBy : Machine → List Event → List Answer → (ℕ → ℕ) → List member.Event → Type 0
AreShownBy s events given last [] = Unit {0}
AreShownBy s events given last (member.Look i row now ∷ looks) =
    (t : ℕ) × ((last i ≤ t) × (IsShownTo (settled_world (machine_at s t events given).log) i row now × AreShownBy s events given (λ j. if j == i then t else last j) looks))
AreShownBy s events given last (_ ∷ looks) = AreShownBy s events given last looks

-- Members that see a ledger's settled worlds, begin with empty files and follow the rule mix no runs, even if they lose their
-- files at any moment. The ledger was just created with a sound world; it may receive any events, give any possible answers and
-- crash at any moment.
abbrev pub NoMixOverALedger : Type 0
NoMixOverALedger = (w : World) (events : List Event) (given : List Answer) (looks : List member.Event) → IsSound w → AllByRecursion EventInRange events → Answered (adopted w) events given →
    AreShownBy (adopted w) events given (λ i. 0) looks → IsUnmixed (member.run member.new_world looks)
