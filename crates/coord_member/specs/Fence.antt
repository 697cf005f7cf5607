-- The fences of starts, and the gate of a resource that starts of several runs use.
--
-- A start may be paused at any moment, and its requests may arrive late. So each request to a resource carries the
-- fence of its start, and the gate of the resource remembers which fences it has accepted.
use Rattle.std.specs.Prelude.{◌≡◌, ℕ, ◌<◌, ◌⊎◌, ◌&&◌, ◌||◌, nat_lt, Bool, true, false, List, [], ◌∷◌, if◌then◌else◌}
use Rattle.std.specs.List.{AllByRecursion}
use Rattle.std.specs.Str.{bytes_eq}
use Rattle.coord_member.specs.declared.fence.Gate.{Gate}

-- ---- the gate

-- the gate of a resource that has accepted no fence
abbrev pub new_gate : Gate
new_gate = record { floor = 0; count = 0 }

-- whether the gate accepts a fence with this count. For the run that was accepted last (`is_own`), the count must be greater than
-- the counts of all other runs. For another run, it must be greater than all accepted counts
abbrev pub admits : Gate → Bool → ℕ → Bool
admits gate is_own count = nat_lt gate.count count || (is_own && nat_lt gate.floor count)

-- the gate after it accepts a fence with this count
abbrev pub passed : Gate → Bool → ℕ → Gate
passed gate is_own count = record { floor = if is_own then gate.floor else gate.count; count = if nat_lt gate.count count then count else gate.count }

-- ---- a resource

-- the fence of a start: the number of settled steps in the view that fixed its party, and the tag that names its run
pub record Fence : Type 0 where
  pub count : ℕ
  pub tag : List ℕ

pub record Resource : Type 0 where
  pub gate : Gate
  pub tag : List ℕ  -- the tag of the fence that was accepted last

abbrev pub new_resource : Resource
new_resource = record { gate = new_gate; tag = [] }

abbrev pub is_own : Resource → Fence → Bool
is_own r f = bytes_eq r.tag f.tag

abbrev pub accepts : Resource → Fence → Bool
accepts r f = admits r.gate (is_own r f) f.count

abbrev pub held_by : Bool → Resource → Fence → Resource
held_by own r f = record { gate = passed r.gate own f.count; tag = f.tag }

-- the resource after one fence is presented, and after several; a rejected fence changes nothing
abbrev pub after_fence : Resource → Fence → Resource
after_fence r f = if accepts r f then held_by (is_own r f) r f else r

abbrev pub after_fences : Resource → List Fence → Resource
after_fences r [] = r
after_fences r (f ∷ fences) = after_fences (after_fence r f) fences

-- ---- laws that hold for all fences, in any order, late or repeated

-- after a fence is accepted, fences of other runs are accepted only with greater counts
abbrev pub LaterIsGreater : Type 0
LaterIsGreater = (r : Resource) (g f : Fence) (between : List Fence) → accepts r g ≡ true → accepts (after_fences (after_fence r g) between) f ≡ true → (f.tag ≡ g.tag) ⊎ (g.count < f.count)

-- once a resource has accepted a start and then a start of another run, it never accepts the first start again
abbrev pub NoStartReturns : Type 0
NoStartReturns =
    (r : Resource) (f g : Fence) (between later : List Fence) → (f.tag ≡ g.tag → ⊥) → accepts r f ≡ true → accepts (after_fences (after_fence r f) between) g ≡ true →
    accepts (after_fences (after_fence (after_fences (after_fence r f) between) g) later) f ≡ false

-- fence g is of the same run as f, or has a lesser count
abbrev pub IsNoNewer : Fence → Fence → Type 0
IsNoNewer f g = (g.tag ≡ f.tag) ⊎ (g.count < f.count)

-- a fence with a positive count that is greater than the counts of all other runs is accepted whenever it arrives
abbrev pub NewestIsAccepted : Type 0
NewestIsAccepted = (f : Fence) (fences : List Fence) → 0 < f.count → AllByRecursion (IsNoNewer f) fences → accepts (after_fences new_resource fences) f ≡ true
