-- The outputs that are released once the first steps of a trail are settled, and the laws of releases.
use Rattle.std.specs.Prelude.{◌≡◌, ◌≢◌, ◌⊎◌, ◌↔◌, ℕ, ◌+◌, ◌≤◌, true, List, Some, Ok, Err, take, drop, flat_map, All, Contains}
use Rattle.coord_types.specs.declared.outputs.Output.{Output}
use Rattle.coord_types.specs.declared.outputs.Output.TheVariants.{Receipted, Sent}
use Rattle.coord_types.specs.declared.packets.DataPacket.{DataPacket}
use Rattle.coord_types.specs.declared.packets.ReceiptPacket.{ReceiptPacket}
use Rattle.coord_types.specs.declared.refusals.Refusal.TheVariants.{NotReleased}
use Rattle.coord_types.specs.declared.steps.Step.{Step}
use Rattle.coord_types.specs.declared.steps.Step.TheVariants.{Order, Take, Clear}
use Rattle.coord_link.specs.LaneMachine.{Lane, judged_take, judged_clear}
use Rattle.coord_world.specs.protocol.Acceptance.{IsFresh, accepts, has_receipted, has_sent, lane}
use Rattle.coord_world.specs.protocol.Next.{fold}
use Rattle.coord_world.specs.protocol.NumberedWorld.{World}
use Rattle.coord_world.specs.protocol.Outputs.{again, outs}
use Rattle.coord_world.specs.laws.Trails.{IsTrail}

-- the outputs of these steps, except their replies
abbrev pub outputs_of : World → List Step → List Output
outputs_of base steps = flat_map (λ r. r.outputs) (outs base steps)

-- an output is released once these steps are settled: one of them sent it, or it is in the base's resend list
abbrev pub IsReleased : World → List Step → Output → Type 0
IsReleased base settled o = Contains (outputs_of base settled) o ⊎ Contains (again base) o

-- the front world would take this data packet if it was released
abbrev pub IsTakeable : World → DataPacket → Type 0
IsTakeable front p = (l : Lane) × ((lane front p.from p.to p.inc ≡ Some l) × (judged_take l p.number p.msg ≡ Ok tt))

-- the front world would clear a front by this receipt if it was released
abbrev pub IsClearable : World → ReceiptPacket → Type 0
IsClearable front p = (l : Lane) × ((lane front p.from p.to p.inc ≡ Some l) × (judged_clear l p.number ≡ Ok tt))

-- for each packet that the front world would take, the settled world shows whether the packet was released
pub record HoldsReleased (front settled : World) (IsOut : Output → Type 0) : Type 0 where
  pub packets : (p : DataPacket) → IsTakeable front p → (has_sent (lane settled p.from p.to p.inc) p.number ≡ true) ↔ IsOut (Sent p)
  pub receipts : (p : ReceiptPacket) → IsClearable front p → (has_receipted (lane settled p.from p.to p.inc) p.number ≡ true) ↔ IsOut (Receipted p)

-- the release law: a packet that the front world would take is accepted if and only if it was released
abbrev pub ReleaseLaw : Type 0
ReleaseLaw = (base : World) (trail : List Step) (d : ℕ) → IsTrail base trail → HoldsReleased (fold base trail) (fold base (take d trail)) (IsReleased base (take d trail))

-- the packet that a step names, if any, was released
abbrev pub NamesReleased : (Output → Type 0) → Step → Type 0
NamesReleased IsOut (Order c n x) = Unit {0}
NamesReleased IsOut (Take p) = IsOut (Sent p)
NamesReleased IsOut (Clear p) = IsOut (Receipted p)

-- the release law for verdicts: a step that the front world accepts over itself is accepted over the settled world if and only if
-- the packet that the step names was released
abbrev pub FreshWhereReleased : Type 0
FreshWhereReleased = (base : World) (trail : List Step) (d : ℕ) (s : Step) → IsTrail base trail → IsFresh (fold base trail) (fold base trail) s →
    IsFresh (fold base trail) (fold base (take d trail)) s ↔ NamesReleased (IsReleased base (take d trail)) s

-- a release stays: if a step is not refused as NotReleased, it gets the same verdict after more steps are settled
abbrev pub ReleaseStays : Type 0
ReleaseStays = (base : World) (trail : List Step) (d e : ℕ) (s : Step) → IsTrail base trail → d ≤ e → accepts (fold base trail) (fold base (take d trail)) s ≢ Err NotReleased →
    accepts (fold base trail) (fold base (take e trail)) s ≡ accepts (fold base trail) (fold base (take d trail)) s

-- the resend law: every packet in the resend list of the settled world is released
abbrev pub ResendLaw : Type 0
ResendLaw = (base : World) (trail : List Step) (d : ℕ) → IsTrail base trail → All (IsReleased base (take d trail)) (again (fold base (take d trail)))

-- a released packet stays released as more steps are settled
abbrev pub ReleasedGrows : Type 0
ReleasedGrows = (base : World) (trail : List Step) (d e : ℕ) (o : Output) → d ≤ e → IsReleased base (take d trail) o → IsReleased base (take e trail) o

-- a packet that is released when a world of the trail is taken as the base of the later steps is also released from the trail's
-- own base
abbrev pub ReleasedFromBase : Type 0
ReleasedFromBase = (base : World) (trail : List Step) (n d : ℕ) (o : Output) → IsTrail base trail → IsReleased (fold base (take n trail)) (take d (drop n trail)) o → IsReleased base (take (n + d) trail) o
