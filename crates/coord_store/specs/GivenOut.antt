-- The packets named by the steps of a batch that the settled world (the world before the batch) has already
-- sent.
use Rattle.std.specs.Prelude.{ℕ, zero, suc, Bool, true, List, [], ◌∷◌, if◌then◌else◌}
use Rattle.coord_types.specs.declared.steps.Step.{Step}
use Rattle.coord_types.specs.declared.steps.Step.TheVariants.{Order, Take, Clear}
use Rattle.coord_world.specs.Facade.{World, has_receipted, has_sent, lane}

-- whether a settled world has sent the packet that a step names; true for an order, which names no packet
abbrev pub has_given_out : World → Step → Bool
has_given_out settled (Order c n x) = true
has_given_out settled (Take p) = has_sent (lane settled p.from p.to p.inc) p.number
has_given_out settled (Clear p) = has_receipted (lane settled p.from p.to p.inc) p.number

-- the number of steps before the first step that names a packet that the settled world has not sent
abbrev pub how_many_out : World → List Step → ℕ
how_many_out settled [] = zero
how_many_out settled (s ∷ steps) = if has_given_out settled s then suc (how_many_out settled steps) else zero
