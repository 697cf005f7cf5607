-- Rules that decide by the number of the call: a fuse, a blip and a tear.
use Rattle.std.specs.Prelude.{◌≡◌, ℕ, zero, suc, ◌-◌, Bool, true, false, ◌==◌, Option, Some, None}
use Rattle.coord_disk.specs.declared.failing.Call.{Call}
use Rattle.coord_disk.specs.declared.rules.Blip.{Blip}
use Rattle.coord_disk.specs.declared.rules.Fuse.{Fuse}
use Rattle.coord_disk.specs.declared.rules.Tear.{Tear}

-- ---- a fuse, which passes some calls and fails all later ones

-- a fuse that passes this many calls
abbrev pub fuse_of : ℕ → Fuse
fuse_of passes = record { left = passes }

-- the fuse fails a call if it has no calls left to pass
abbrev pub FuseSays : Fuse → Call → Bool → Fuse → Type 0
FuseSays old call fails new = (fails ≡ (old.left == 0)) × (new.left ≡ old.left - 1)

-- ---- a blip, which fails one call

-- a blip that passes this many calls, fails the next one, and passes all later ones
abbrev pub blip_at : ℕ → Blip
blip_at fails = record { left = Some fails }

-- whether the next call is the one that fails
abbrev pub is_due : Option ℕ → Bool
is_due None = false
is_due (Some zero) = true
is_due (Some (suc n)) = false

-- the number of calls to pass before the failing call, after one more call; None once the failing call was made
abbrev pub one_less : Option ℕ → Option ℕ
one_less None = None
one_less (Some zero) = None
one_less (Some (suc n)) = Some n

abbrev pub BlipSays : Blip → Call → Bool → Blip → Type 0
BlipSays old call fails new = (fails ≡ is_due old.left) × (new.left ≡ one_less old.left)

-- ---- a tear: it fails one call, and if that is a write, tears it

-- a tear that passes `fails` calls and fails the next one; of a failed write, the first `kept` bytes are written
abbrev pub tear_at : ℕ → ℕ → Tear
tear_at fails kept = record { blip = blip_at fails; kept = kept }

abbrev pub TearSays : Tear → Call → Bool → Tear → Type 0
TearSays old call fails new = BlipSays old.blip call fails new.blip × (new.kept ≡ old.kept)

-- the number of bytes that a failing write still writes
abbrev pub torn_by : Tear → Option ℕ
torn_by tear = Some tear.kept
