-- The server's address that is tried next, and the pause before the attempt.
use Rattle.std.specs.Prelude.{ℕ, ◌+◌, ◌*◌, min, if◌then◌else◌, nat_lt}

-- the index that follows this one among `count` addresses; the first index follows the last
abbrev pub following : ℕ → ℕ → ℕ
following count index = if nat_lt (index + 1) count then index + 1 else 0

-- the pause after this one, in milliseconds: twice as long, but at most a second
abbrev pub longer : ℕ → ℕ
longer pause = min (pause * 2) 1000
