-- The maximum size of a legal world, in bytes.
use Rattle.std.specs.Prelude.{ℕ, ◌+◌, ◌*◌}
use Rattle.coord_types.specs.declared.limits.TheConstants.{MAX_CLIENTS, MAX_LINKS, MAX_NODES}

-- 13,515 bytes: the step count and the three numbers of rows, 36 bytes for each node, 84 for each link with 2 Aborts
-- each way, and 28 for each client
abbrev pub most_world_bytes : ℕ
most_world_bytes = 11 + MAX_NODES * 36 + MAX_LINKS * 84 + MAX_CLIENTS * 28
