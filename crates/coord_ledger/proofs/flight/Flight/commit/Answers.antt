use Rattle.std.proofs.Common.{◌≡◌, ◌+◌, ◌≤◌, ℕ, List, Option, None, length, true, sym, ap, ◌∙◌, subst}
use Rattle.coord_disk.specs.Model.DiskModel.{DiskModel}
use Rattle.coord_journal.specs.Text.{HasPlaceIn, IsTextIn}
use Rattle.coord_store.specs.Facade.{IsBody, Kept}
use Rattle.coord_ledger.specs.Facade.{Mark, New, Step}
use Rattle.coord_world.specs.protocol.NumberedWorld.{World}
use Rattle.coord_ledger.specs.code.Holding.{IsFlight, carried_torn, carried_world}
use Rattle.coord_ledger.specs.ledger.State.{FlightState}
use Rattle.coord_ledger.proofs.follows.IsOut.{flight_of}
use Rattle.coord_ledger.proofs.flight.Flight.commit.Goals as goal

-- the statement of the store's commit about its disk when a body fits holds for a new flight's disk
where_it_fits : {D : Type 0} (model : DiskModel D) (Says : ℕ → D → Type 0) (first : ℕ) (steps items : List Step) (world : World) (next : Option World) (mark : Mark) (kept : Kept D) (f : FlightState D) → flight_of first steps world mark kept ≡ f → mark ≡ New → IsFlight steps world next mark kept → items ≡ steps
    → ((half : ℕ) (body : List ℕ) → model.keeps_model kept.disk ≡ true → kept.torn ≡ None → IsBody kept.world body items → HasPlaceIn half (length body) (model.present kept.disk).read → Says half kept.disk)
    → (half : ℕ) (body : List ℕ) → model.keeps_model f.disk ≡ true → f.mark ≡ New → IsBody f.world body f.steps → HasPlaceIn half (length body) (model.present f.disk).read → Says half f.disk
where_it_fits {D} model Says first steps items world next mark kept f seen new is same says =
    let none = is.torn_is ∙ ap (λ m. carried_torn m world steps) new in
    let here = is.world_is ∙ ap (λ m. carried_world m world steps) new in
    rw (sym seen)
    (λ half body k _ spells place. says half body k none (rw here (subst (IsBody world body) (sym same) spells)) place)

pub returns-in-Ok-clause-calls_where_it_fits : goal.returns-in-Ok-clause-calls_where_it_fits
returns-in-Ok-clause-calls_where_it_fits g c =
    where_it_fits g.D.Disk.model (λ _ d. g.D.Disk.model.clock c.commit_to.new.self.disk ≤ g.D.Disk.model.clock d + 4) _ _ _ _ _ _ _ _ c.self.view_is c.in-New.is c.self.invariant c.deref.ensures.value (λ half body k none spells place. c.commit_to.ensures.commits.calls_where_it_fits half (record { keeps = k; going = none; body = body; spells = spells; place = place }))

pub returns-in-Ok-clause-half_where_it_fits : goal.returns-in-Ok-clause-half_where_it_fits
returns-in-Ok-clause-half_where_it_fits g c =
    where_it_fits g.D.Disk.model (λ half _. IsTextIn half (g.D.Disk.model.present c.commit_to.new.self.disk).read) _ _ _ _ _ _ _ _ c.self.view_is c.in-New.is c.self.invariant c.deref.ensures.value (λ half body k none spells place. c.in-Ok.ensures.commits.half_where_it_fits half (record { keeps = k; going = none; body = body; spells = spells; place = place }))

pub returns-in-Err-Device-clause-calls_where_it_fits : goal.returns-in-Err-Device-clause-calls_where_it_fits
returns-in-Err-Device-clause-calls_where_it_fits g c =
    where_it_fits g.D.Disk.model (λ _ d. g.D.Disk.model.clock c.commit_to.new.self.disk ≤ g.D.Disk.model.clock d + 4) _ _ _ _ _ _ _ _ c.self.view_is c.in-New.is c.self.invariant c.deref.ensures.value (λ half body k none spells place. c.commit_to.ensures.commits.calls_where_it_fits half (record { keeps = k; going = none; body = body; spells = spells; place = place }))

pub returns-in-Err-clause-calls_where_it_fits : goal.returns-in-Err-clause-calls_where_it_fits
returns-in-Err-clause-calls_where_it_fits g c =
    where_it_fits g.D.Disk.model (λ _ d. g.D.Disk.model.clock c.commit_to.new.self.disk ≤ g.D.Disk.model.clock d + 4) _ _ _ _ _ _ _ _ c.self.view_is c.in-New.is c.self.invariant c.deref.ensures.value (λ half body k none spells place. c.commit_to.ensures.commits.calls_where_it_fits half (record { keeps = k; going = none; body = body; spells = spells; place = place }))
