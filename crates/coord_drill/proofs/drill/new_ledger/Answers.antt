use Rattle.std.proofs.Common.{◌+◌, refl, ap, ◌∙◌, sym, subst, arith, inl}
use Rattle.std.proofs.lemmas.Result.{IfErr-weaker, IfOk-weaker}
use Rattle.coord_store.specs.declared.faults.StoreFault.TheVariants.{OutOfMemory}
use Rattle.coord_ledger.specs.Facade.{ledger_over}
use Rattle.coord_drill.specs.Facade.{NotMade, failed_by}
use Rattle.coord_drill.proofs.does.Crashes.{reported_failures}
use Rattle.coord_drill.proofs.drill.new_ledger.Goals as goal

pub returns-in-Ok-clause-made : goal.returns-in-Ok-clause-made
returns-in-Ok-clause-made g c =
    let store = c.in-Ok.store in
    IfOk-weaker c.adopt.result _ _ (λ ledger is. record { begun = store.disk; is = is ∙ ap (λ w. ledger_over w store.disk) c.in-Ok.ensures.world; keeps = c.in-Ok.ensures.runs.model; unfailed = omega (arith, c.in-Ok.ensures.runs.failures); made = c.in-Ok.ensures.bytes }) c.adopt.ensures.adopted

pub returns-in-Ok-clause-not_made : goal.returns-in-Ok-clause-not_made
returns-in-Ok-clause-not_made g c on =
    let same = c.in-Ok.ensures.runs.failures in
    IfErr-weaker c.adopt.result _ _ (λ refused is. subst (NotMade g.D.Disk.model c.args.disk) (sym is) (record { why = OutOfMemory; fault_is = refl; refusal = tt; untouched = λ taken. let no : ⊥ = cc in absurd no; failed = omega (arith, same) })) c.adopt.ensures.lost

pub returns-in-Err-clause-not_made : goal.returns-in-Err-clause-not_made
returns-in-Err-clause-not_made g c on =
    record { why = c.in-Err.fault; fault_is = c.into.ensures; refusal = c.in-Err.ensures.fault on; untouched = λ taken. c.in-Err.ensures.unchanged on (inl taken); failed = c.in-Err.ensures.runs.failures ∙ ap (λ n. g.D.Disk.model.failures c.args.disk + n) (sym (ap failed_by c.into.ensures ∙ reported_failures c.in-Err.fault)) }
