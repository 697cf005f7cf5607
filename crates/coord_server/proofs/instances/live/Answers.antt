use Rattle.std.proofs.Common.{[], ◌++◌, ap, inl, refl, subst, sym, ◌∙◌}
use Rattle.coord_engine.specs.Facade.{Beginning, first_settled}
use Rattle.coord_engine.specs.declared.closed.Closed.{Closed}
use Rattle.coord_engine.specs.State.{based_on}
use Rattle.coord_server.specs.Moments.{KeepsAlong}
use Rattle.coord_server.specs.Signals.{MaySignal}
use Rattle.coord_server.specs.Instances.{MayGoOn}
use Rattle.coord_server.proofs.Ends.{cause_at_last, last_instance}
use Rattle.coord_server.proofs.Moments.{ends_along, rested_on, may_print_on}
use Rattle.coord_server.proofs.instances.live.Goals as goal

pub loop-init : goal.loop-init
loop-init g c = (tt, tt, c.requires.history, ap (λ (b : Beginning). b.history) c.requires.new, ([], (refl, refl), inl (refl, refl), ap (λ (b : Beginning). b.steps) c.requires.new))

pub loop-preserved : goal.loop-preserved
loop-preserved g c =
    let m = g.D.Disk.model in
    let next = c.in-Ok.ensures.next in
    let on = c.in-Ok.ensures.goes_on in
    let instance = c.serve_instance-instance in
    let written = c.in-Ok.ensures.writer ∙ instance.ensures.written in
    let rested = rested_on m g.C.Callers.talked g.C.Callers.failed c.args.setting.now.instance_steps c.args.start.over.value c.loop.start.over.value _ c.args.callers c.loop.callers _ instance.result c.loop.writer.steps _ c.loop.invariant.4 (ap (λ (b : Beginning). b.steps) written) instance.ensures.instance instance.ensures.along on.2 next.0 next.2 next.3 on.0 on.1 in
    (tt, tt, next.1, ap (λ (b : Beginning). b.history) written ∙ c.loop.invariant.3, rested)

pub returns-in-Err-clause-lived : goal.returns-in-Err-clause-lived
returns-in-Err-clause-lived g c =
    let m = g.D.Disk.model in
    let instance = c.serve_instance-instance in
    let last = c.in-Err.ensures.last in
    let over = c.loop.start.over.value in
    let ended = last_instance (based_on m over.world []) g.C.Callers.talked g.C.Callers.failed c.args.setting.now.instance_steps c.loop.callers instance.result c.in-Err.last _ instance.ensures.instance last.0 last.2 last.3 in
    let along = subst (λ (k : Closed g.row.D.Denot). KeepsAlong m over k.trail.items k.store) (sym last.0) instance.ensures.along in
    let written = ap (λ (b : Beginning). b.steps) (last.1 ∙ instance.ensures.written) ∙ ap (λ (k : Closed g.row.D.Denot). c.loop.writer.steps ++ first_settled k.base k.trail.items k.settled) (sym last.0) in
    ends_along m g.C.Callers.talked g.C.Callers.failed c.args.setting.now.instance_steps c.args.start.over.value over c.args.callers c.loop.callers c.in-Err.last c.loop.writer.steps c.loop.invariant.4 written ended along

pub returns-in-Err-clause-same : goal.returns-in-Err-clause-same
returns-in-Err-clause-same g c = ap (λ (b : Beginning). b.history) (c.in-Err.ensures.last.1 ∙ c.serve_instance-instance.ensures.written) ∙ c.loop.invariant.3

pub serve_instance-instance-requires-clause-may_print : goal.serve_instance-instance-requires-clause-may_print
serve_instance-instance-requires-clause-may_print g c =
    let history = g.O.SignalSource.history in
    let rested = c.loop.invariant.4 in
    let may_print = may_print_on g.D.Disk.model (MaySignal history g.O.SignalSource.gives) history c.loop.writer.history c.args.start.over.value c.loop.start.over.value _ c.loop.writer.steps c.requires.may_print c.loop.invariant.3 rested.2 rested.3 in
    λ _ _. may_print

pub returns-in-Err-clause-last : goal.returns-in-Err-clause-last
returns-in-Err-clause-last g c =
    let last = c.in-Err.ensures.last in
    λ rests. subst (λ (k : Closed g.row.D.Denot). ¬ MayGoOn c.args.setting.now.instance_steps k) (sym last.0) (cause_at_last c.serve_instance-instance.result.left c.in-Err.last.left _ last.3 rests)
