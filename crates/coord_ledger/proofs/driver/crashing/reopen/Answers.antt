use Rattle.std.proofs.Common.{◌≡◌, ◌+◌, ◌∙◌, true, Some, Result, Ok, Err, IfErr, sym, ap, subst, arith}
use Rattle.std.proofs.lemmas.Result.{IfErr-weaker, IfOk-weaker, MatchResult-from_both}
use Rattle.std.specs.Option.{option_map}
use Rattle.coord_disk.proofs.TornWrites.{whole_image}
use Rattle.coord_disk.specs.Model.Present.{IsImage, Present}
use Rattle.coord_store.specs.Refused.{failed_in as failed_in_opening}
use Rattle.coord_ledger.specs.Facade.{IsReopenFault, LedgerState, failed_in_run}
use Rattle.coord_ledger.specs.ledger.Driver.{IsOpenedOnce}
use Rattle.coord_ledger.proofs.driver.crashing.reopen.Goals as goal

both : {T E : Type 0} (r : Result T E) (P Q : E → Type 0) → IfErr r P → IfErr r Q → IfErr r (λ e. P e × Q e)
both (Ok x) P Q p q = tt
both (Err e) P Q p q = (p, q)

pub returns-in-Err-clause-cause : goal.returns-in-Err-clause-cause
returns-in-Err-clause-cause g c = (
  c.in-Err.ensures.named,
  λ on. record { image = (g.D.Disk.model.present c.crash.result).read; allowed = c.crash.ensures.leaves.image on; refused = c.in-Err.ensures.fault (c.crash.ensures.leaves.model ∙ on) },
)

pub returns-in-Err-clause-failures : goal.returns-in-Err-clause-failures
returns-in-Err-clause-failures g c = c.in-Err.ensures.runs.failures ∙ ap (λ n. n + failed_in_opening c.in-Err.fault) c.crash.ensures.leaves.failures

pub returns-clause-cause : goal.returns-clause-cause
returns-clause-cause g c =
    let read = (g.D.Disk.model.present c.crash.result).read in
    let opened : g.D.Disk.model.keeps_model c.args.disk ≡ true → IsOpenedOnce (g.D.Disk.model.present c.args.disk) (g.D.Disk.model.present c.in-Ok.store.disk) = λ on.
    let same : (g.D.Disk.model.present c.in-Ok.store.disk).read ≡ read = ap (λ (p : Present). p.read) (c.in-Ok.ensures.bytes (c.crash.ensures.leaves.model ∙ on)) in
    record {
      allowed = subst (IsImage (g.D.Disk.model.present c.args.disk)) (sym same) (c.crash.ensures.leaves.image on);
      world = c.in-Ok.store.world;
      recovered = rw same (c.in-Ok.ensures.world (c.crash.ensures.leaves.model ∙ on));
    } in
    IfErr-weaker c.adopt.result _ _ (λ refused is.
    subst (IsReopenFault (g.D.Disk.model.keeps_model c.args.disk) (g.D.Disk.model.present c.args.disk) (g.D.Disk.model.present refused.1)) (sym is.0)
    (rw is.1 opened))
    (both c.adopt.result _ _ c.adopt.ensures.memory c.adopt.ensures.back)

pub returns-clause-failures : goal.returns-clause-failures
returns-clause-failures g c =
    let opening : g.D.Disk.model.failures c.in-Ok.store.disk ≡ g.D.Disk.model.failures c.crash.result + 0 = c.in-Ok.ensures.runs.failures in
    let same : g.D.Disk.model.failures c.in-Ok.store.disk ≡ g.D.Disk.model.failures c.args.disk = omega (arith, opening, c.crash.ensures.leaves.failures) in
    MatchResult-from_both c.adopt.result _ _
    (IfOk-weaker c.adopt.result _ _ (λ ledger is. ap (λ (l : LedgerState g.row.D.Denot). option_map g.D.Disk.model.failures l.disk) is ∙ ap Some same) c.adopt.ensures.adopted)
    (IfErr-weaker c.adopt.result _ _ (λ refused is.
    let lost : g.D.Disk.model.failures refused.1 ≡ g.D.Disk.model.failures c.args.disk = ap g.D.Disk.model.failures is.1 ∙ same in
    let none : failed_in_run refused.0 ≡ 0 = ap failed_in_run is.0 in
    omega (arith, lost, none))
    (both c.adopt.result _ _ c.adopt.ensures.memory c.adopt.ensures.back))

pub returns-clause-lost : goal.returns-clause-lost
returns-clause-lost g c =
    IfErr-weaker c.adopt.result _ _ (λ refused is on. rw is (record {
      taken = c.crash.result;
      crash = c.crash.ensures.crashes;
      image = c.crash.ensures.leaves.image on;
      synced = c.crash.ensures.leaves.synced on;
      opening = c.in-Ok.ensures.any_moment (c.crash.ensures.leaves.model ∙ on);
      each = λ bytes here. subst (IsImage (g.D.Disk.model.present c.args.disk)) (sym (whole_image (g.D.Disk.model.present c.crash.result).read (g.D.Disk.model.present c.crash.result) (c.crash.ensures.leaves.synced on) bytes here)) (c.crash.ensures.leaves.image on);
    })) c.adopt.ensures.back

pub returns-clause-opened : goal.returns-clause-opened
returns-clause-opened g c =
    IfOk-weaker c.adopt.result _ _ (λ ledger is. record {
      world = c.in-Ok.store.world;
      disk = c.in-Ok.store.disk;
      is = is;
      same_model = c.in-Ok.ensures.runs.model ∙ c.crash.ensures.leaves.model;
      from = λ on. record { image = (g.D.Disk.model.present c.crash.result).read; allowed = c.crash.ensures.leaves.image on; recovered = c.in-Ok.ensures.world (c.crash.ensures.leaves.model ∙ on) };
      moments = λ on. record {
        taken = c.crash.result;
        crash = c.crash.ensures.crashes;
        image = c.crash.ensures.leaves.image on;
        synced = c.crash.ensures.leaves.synced on;
        opening = c.in-Ok.ensures.any_moment (c.crash.ensures.leaves.model ∙ on);
        each = λ bytes here. subst (IsImage (g.D.Disk.model.present c.args.disk)) (sym (whole_image (g.D.Disk.model.present c.crash.result).read (g.D.Disk.model.present c.crash.result) (c.crash.ensures.leaves.synced on) bytes here)) (c.crash.ensures.leaves.image on);
      };
    }) c.adopt.ensures.adopted
