use Rattle.std.proofs.Common.{◌++◌, length, subst, sym, take, ap, ◌∙◌}
use Rattle.coord_engine.proofs.Histories.{all_of}
use Rattle.coord_engine.proofs.Past.{ended}
use Rattle.coord_engine.proofs.Releasing.{begins_after, after_both, released_back}
use Rattle.coord_engine.specs.Facade.{Beginning, HasReadSettled, StartsWith}
use Rattle.coord_ledger.specs.Facade.{settled_steps}
use Rattle.coord_engine.proofs.guarded.Guarded.end.Goals as goal

pub take_back-requires-clause-here : goal.take_back-requires-clause-here
take_back-requires-clause-here g c = c.requires.here ∙ sym (ap (λ (b : Beginning). b.history) c.self.invariant.9)

pub take_back-requires-clause-theirs : goal.take_back-requires-clause-theirs
take_back-requires-clause-theirs g c = ap (λ (b : Beginning). b.history) c.flight.invariant.read_them ∙ sym (ap (λ (b : Beginning). b.history) c.self.invariant.9)

pub write_settled-requires-clause-on : goal.write_settled-requires-clause-on
write_settled-requires-clause-on g c =
    let inv = c.self.invariant in
    let flew = c.flight.invariant in
    let is = c.in-Ok.ensures in
    let back = c.take_back.ensures in
    let l = c.self.inside.ledger in
    let settled = settled_steps l.log in
    let begins = begins_after g.L.Origin.history g.L.Origin.earlier settled flew.settled c.self.inside.writer c.take_back.new.self c.flight.inside.reader inv.9 back.same flew.read_them back.begins in
    let e = ended g.D.Disk.model g.L.Origin.disk g.L.Origin.base l c.end_flush.new.self c.flight.inside.flight settled flew.settled inv.4 inv.7 flew.flies (all_of settled) begins is.own is.taken in
    let later = settled_steps c.end_flush.new.self.log in
    subst (λ (b : Beginning). StartsWith (g.L.Origin.earlier ++ later) b.steps) (sym (back.same ∙ inv.9)) (after_both g.L.Origin.earlier later settled e.grown)

pub new-released-requires : goal.new-released-requires
new-released-requires g c =
    let is = c.in-Ok.ensures in
    let later = settled_steps c.end_flush.new.self.log in
    let has_read = subst (λ (b : Beginning). HasReadSettled b.history g.L.Origin.earlier later c.write_settled.new.writer) (c.take_back.ensures.same ∙ c.self.invariant.9) c.write_settled.ensures in
    released_back g.L.Origin.history g.L.Origin.earlier g.L.Origin.base c.self.inside.ledger c.end_flush.new.self c.flight.inside.flight c.in-Ok.releases c.reader.result c.self.invariant.4 is.own is.taken is.released (c.reader.ensures.read ∙ has_read)

pub invariant_of-self : goal.invariant_of-self
invariant_of-self g c =
    let inv = c.self.invariant in
    let flew = c.flight.invariant in
    let is = c.in-Ok.ensures in
    let back = c.take_back.ensures in
    let l = c.self.inside.ledger in
    let settled = settled_steps l.log in
    let begins = begins_after g.L.Origin.history g.L.Origin.earlier settled flew.settled c.self.inside.writer c.take_back.new.self c.flight.inside.reader inv.9 back.same flew.read_them back.begins in
    let e = ended g.D.Disk.model g.L.Origin.disk g.L.Origin.base l c.end_flush.new.self c.flight.inside.flight settled flew.settled inv.4 inv.7 flew.flies (all_of settled) begins is.own is.taken in
    let later = settled_steps c.end_flush.new.self.log in
    let has_read = subst (λ (b : Beginning). HasReadSettled b.history g.L.Origin.earlier later c.write_settled.new.writer) (back.same ∙ inv.9) c.write_settled.ensures in
    (inv.0, inv.1, inv.2, ap length e.trail ∙ inv.3, e.base_is ∙ inv.4, inv.5, ap (take c.self.inside.start) e.trail ∙ inv.6, e.home, e.along, c.reader.ensures.same ∙ has_read)
