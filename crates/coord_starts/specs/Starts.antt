-- The starts of a store: what happens between one opening of the store and the next.
--
-- In a start, the store is opened, and then either a ledger over it receives events, or the store is migrated
-- to version 2. The start ends when its process ends or the power is cut. The next start opens what the disk
-- has then: the world after as many steps as a crash may keep. A start that is cut off during a commit is
-- modelled as a start in which the device failed during that commit: both keep all steps of that commit, or
-- none of them.
use Rattle.std.specs.Prelude.{◌≡◌, ℕ, List, [], ◌∷◌, ◌++◌, map, take}
use Rattle.std.specs.List.{AllByRecursion}
use Rattle.coord_types.specs.declared.steps.Reply.{Reply}
use Rattle.coord_world.specs.Facade.{World}
use Rattle.coord_ledger.specs.declared.events.Answer.{Answer}
use Rattle.coord_ledger.specs.declared.events.Event.{Event}
use Rattle.coord_ledger.specs.declared.release.Release.{Release}
use Rattle.coord_ledger.specs.machine.Answers.{IsOneOf, kept}
use Rattle.coord_ledger.specs.machine.Consistent.{EventInRange}
use Rattle.coord_ledger.specs.machine.Machine.{Machine, adopted}
use Rattle.coord_ledger.specs.machine.Runs.{Answered, run}
use Rattle.coord_following.specs.Histories.{Turn, Takes, IsTurn, Raises as raising}
use Rattle.coord_starts.specs.Returned.{led}

pub data Start : Type 0 where
  -- a ledger receives these events and gives these answers; then the first n steps of its trail are kept
  Serves : List Event → List Answer → ℕ → Start
  -- the store is migrated to version 2
  Raises : Start

-- the ledger's machine at the end of a start that serves
abbrev pub at_end : World → List Event → List Answer → Machine
at_end w events given = run (adopted w) events given

-- each event has a possible answer, and a crash at the end may keep the first n steps
pub record MayServe (w : World) (events : List Event) (given : List Answer) (n : ℕ) : Type 0 where
  pub named : AllByRecursion EventInRange events
  pub answered : Answered (adopted w) events given
  pub kept : IsOneOf n (kept (at_end w events given))

-- the starts that are possible from this world
abbrev pub IsStart : World → Start → Type 0
IsStart w (Serves events given n) = MayServe w events given n
IsStart w Raises = IsTurn w raising

-- the turns that a start adds to the store's history: the kept steps, or the migration
abbrev pub turns_in : World → Start → List Turn
turns_in w (Serves events given n) = map Takes (take n (at_end w events given).log.trail)
turns_in w Raises = raising ∷ []

-- each start begins with the world that the previous one left
abbrev pub AreStarts : World → List Start → Type 0
AreStarts w [] = Unit {0}
AreStarts w (s ∷ starts) = IsStart w s × AreStarts (led w (turns_in w s)) starts

-- the whole history of the store: the turns of all starts
abbrev pub turns_of : World → List Start → List Turn
turns_of w [] = []
turns_of w (s ∷ starts) = turns_in w s ++ turns_of (led w (turns_in w s)) starts

-- the world that the last start left
abbrev pub left_by : World → List Start → World
left_by w [] = w
left_by w (s ∷ starts) = left_by (led w (turns_in w s)) starts

-- ---- replies

abbrev pub replied_in : World → Start → List Reply
replied_in w (Serves events given n) = (at_end w events given).replied
replied_in w Raises = []

abbrev pub released_in : World → Start → List Release
released_in w (Serves events given n) = (at_end w events given).released
released_in w Raises = []

-- all replies that were collected, in all starts
abbrev pub replied_of : World → List Start → List Reply
replied_of w [] = []
replied_of w (s ∷ starts) = replied_in w s ++ replied_of (led w (turns_in w s)) starts

-- all releases, in all starts
abbrev pub released_of : World → List Start → List Release
released_of w [] = []
released_of w (s ∷ starts) = released_in w s ++ released_of (led w (turns_in w s)) starts
