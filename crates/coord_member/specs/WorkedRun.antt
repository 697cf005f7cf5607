-- Two worked runs. In the first, two members talk. Then the second member loses its files, and its node is removed and added
-- again, so it begins its epoch 1 twice. In the second, a store is restored, so a member sees a party that it has already talked
-- with.
use Rattle.std.specs.Prelude.{◌≡◌, ℕ, ◌==◌, ◌&&◌, List, [], ◌∷◌, ◌++◌, Some, None, true, false, if◌then◌else◌}
use Rattle.coord_member.specs.declared.view.Entry.{Entry}
use Rattle.coord_member.specs.declared.view.Entry.TheVariants.{Node, Link}
use Rattle.coord_member.specs.declared.view.Row.{Row}
use Rattle.coord_member.specs.declared.rule.Due.TheVariants.{Reset}
use Rattle.coord_member.specs.Rule.{due}
use Rattle.coord_member.specs.Members.{Event, Look, Load, Crash, Lose, Send, Hear, new_world, run}
use Rattle.coord_member.specs.Honest.{IsHonest, nothing_shown}

-- the life in which a link was made: node 2's link with incarnation 9 belongs to its second life
abbrev pub life_of : ℕ → Entry → ℕ
life_of n (Node m e) = 0
life_of n (Link a b incarnation) = if (n == 2) && (incarnation == 9) then 1 else 0

abbrev pub begins : ℕ → Row
begins e = record { epoch = e; confirmed = 0; through = false; quiet = true }

abbrev pub talks : ℕ → Row
talks e = record { epoch = e; confirmed = e; through = true; quiet = true }

abbrev pub before : List Entry
before = Node 1 1 ∷ Node 2 1 ∷ Link 1 2 7 ∷ []

abbrev pub following : List Entry
following = Node 1 2 ∷ Node 2 1 ∷ Link 1 2 9 ∷ []

abbrev pub worked : List Event
worked =
    Look 1 (begins 1) before ∷ Load 1 ∷ Look 2 (begins 1) before ∷ Crash 2 ∷ Look 2 (begins 1) before ∷ Load 2
    ∷ Look 1 (talks 1) before ∷ Look 2 (talks 1) before ∷ Send 2 ∷ Hear 1 0
    ∷ Lose 2 ∷ Look 2 (begins 1) following ∷ Load 2 ∷ Look 1 (record { epoch = 2; confirmed = 1; through = false; quiet = true }) following ∷ Load 1
    -- the old message is rejected, and the new one is heard
    ∷ Look 1 (talks 2) following ∷ Look 2 (talks 1) following ∷ Send 2 ∷ Hear 1 1 ∷ Hear 1 0 ∷ []

-- a store is restored: member 1 sees a party that it has already talked with
abbrev pub talked_once : List Event
talked_once = Look 1 (begins 1) before ∷ Load 1 ∷ Look 1 (talks 1) before ∷ []

abbrev pub put_back : List Event
put_back = talked_once ++ (Look 1 (begins 1) following ∷ Load 1 ∷ Look 1 (talks 1) before ∷ [])

pub record WorkedRun : Type 0 where
  pub honest : IsHonest life_of nothing_shown worked
  pub heard :
      ((run new_world worked).member 1).causal_past
      ≡ record { node = 2; epoch = 1; serial = 2 } ∷ record { node = 1; epoch = 2; serial = 3 } ∷ []
  pub tag : ((run new_world worked).member 1).tag ≡ Some following
  -- the member talks once in the run of the first party, and later in the run of another party
  pub once : ((run new_world talked_once).member 1).tag ≡ Some before
  pub refused : ((run new_world put_back).member 1).tag ≡ None
  pub asks : due ((run new_world put_back).member 1).kept (talks 1) before ≡ Reset
  pub again : ((run new_world (put_back ++ (Look 1 (begins 2) following ∷ Load 1 ∷ Look 1 (talks 2) following ∷ []))).member 1).tag ≡ Some following
