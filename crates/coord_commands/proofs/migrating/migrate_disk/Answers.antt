use Rattle.std.proofs.Common.{◌≡◌, ⊎_elim, ◌+◌, ◌∙◌, List, ℕ, true, inl, inr, ap, sym, subst, arith, string_bytes}
use Rattle.coord_disk.proofs.MomentLemmas.{and_then, weaker}
use Rattle.coord_disk.specs.Model.Present.{IsImage, Present}
use Rattle.coord_store.specs.Facade.{Kept, Recovered, has_stopped, risen}
use Rattle.coord_world.specs.protocol.NumberedWorld.{World}
use Rattle.coord_commands.specs.Migrating.{IsEitherVersion, failures_in_migration}
use Rattle.coord_commands.proofs.Raising.{either_of, fault_of, going_on, if_both, if_present, line_of, not_opened}
use Rattle.coord_commands.proofs.migrating.migrate_disk.Goals as goal

pub returns-in-Ok-clause-line : goal.returns-in-Ok-clause-line
returns-in-Ok-clause-line g c =
    let store = c.in-Ok.store in
    let raised = c.migrate_store-line.new.store in
    let back = c.into_disk.ensures.disk in
    let reads : raised ≡ store → g.D.Disk.model.keeps_model c.args.disk ≡ true → (g.D.Disk.model.present c.into_disk.result).read ≡ (g.D.Disk.model.present c.args.disk).read =
    λ same keeps. ap (λ (d : g.row.D.Denot). (g.D.Disk.model.present d).read) (back ∙ ap (λ (s : Kept g.row.D.Denot). s.disk) same) ∙ ap (λ (p : Present). p.read) (c.in-Ok.ensures.bytes keeps) in
    line_of string_bytes c.migrate_store-line.result _ _ store.world raised.world raised.torn c.migrate_store-line.ensures.line c.migrate_store-line.ensures.world c.migrate_store-line.ensures.going
    (λ world going. record {
      given = if_present _ _ _ c.in-Ok.ensures.world;
      raised = if_present _ _ _ (λ keeps. subst (λ (w : World). Recovered (g.D.Disk.model.present c.into_disk.result).read w) world (c.into_disk.ensures.reopens (subst (λ d. g.D.Disk.model.keeps_model d ≡ true) back keeps) going));
      again = λ two. if_both (g.D.Disk.model.keeps_model c.args.disk) (g.D.Disk.model.keeps_model c.into_disk.result) (g.D.Disk.model.present c.args.disk) (g.D.Disk.model.present c.into_disk.result)
          (λ (old new : Present). new.read ≡ old.read) (λ keeps _. reads (c.migrate_store-line.ensures.again two) keeps);
    })

pub returns-in-Ok-clause-fault : goal.returns-in-Ok-clause-fault
returns-in-Ok-clause-fault g c =
    let store = c.in-Ok.store in
    let raised = c.migrate_store-line.new.store in
    let back = c.into_disk.ensures.disk in
    let reads : raised ≡ store → g.D.Disk.model.keeps_model c.args.disk ≡ true → (g.D.Disk.model.present c.into_disk.result).read ≡ (g.D.Disk.model.present c.args.disk).read =
    λ same keeps. ap (λ (d : g.row.D.Denot). (g.D.Disk.model.present d).read) (back ∙ ap (λ (s : Kept g.row.D.Denot). s.disk) same) ∙ ap (λ (p : Present). p.read) (c.in-Ok.ensures.bytes keeps) in
    let not_stopped : has_stopped store ≡ true → ⊥ = λ is. going_on store c.in-Ok.ensures.going is in
    fault_of c.migrate_store-line.result _ _ store.world c.migrate_store-line.ensures.fault c.migrate_store-line.ensures.unchanged c.migrate_store-line.ensures.torn
    (λ is. not_stopped (c.migrate_store-line.ensures.stopped is)) (if_present _ _ _ c.in-Ok.ensures.world)
    (λ same. if_both (g.D.Disk.model.keeps_model c.args.disk) (g.D.Disk.model.keeps_model c.into_disk.result) (g.D.Disk.model.present c.args.disk) (g.D.Disk.model.present c.into_disk.result)
    (λ (old new : Present). new.read ≡ old.read) (λ keeps _. reads same keeps))
    (λ torn. if_both (g.D.Disk.model.keeps_model c.args.disk) (g.D.Disk.model.keeps_model c.into_disk.result) (g.D.Disk.model.present c.args.disk) (g.D.Disk.model.present c.into_disk.result)
    (λ (old new : Present). (image : List ℕ) → IsImage new image → IsEitherVersion old image)
    (λ keeps kept image is. inr (
      store.world,
      c.in-Ok.ensures.world keeps,
      either_of raised store.world (risen store.world) image torn.0 torn.1
          (c.lemma_images_give_world.ensures.images (rw (sym back) kept) image (rw (sym back) is)),
    )))

-- at each moment, and how often the device has failed
pub returns-in-Ok-clause-raises : goal.returns-in-Ok-clause-raises
returns-in-Ok-clause-raises g c =
    let store = c.in-Ok.store in
    let raised = c.migrate_store-line.new.store in
    let back = c.into_disk.ensures.disk in
    record {
      any_moment = λ keeps.
          let opening = c.in-Ok.ensures.any_moment keeps in
          let raising = c.migrate_store-line.ensures.any_moment (c.in-Ok.ensures.runs.model ∙ keeps) c.in-Ok.ensures.going in
          rw back
          (weaker g.D.Disk.model c.args.disk raised.disk _ _ (and_then g.D.Disk.model c.args.disk store.disk raised.disk _ _ opening raising)
          (λ image either. ⊎_elim (λ was. inl was) (λ gives. inr (store.world, c.in-Ok.ensures.world keeps, gives)) either));
      failures =
          let opening : g.D.Disk.model.failures store.disk ≡ g.D.Disk.model.failures c.args.disk + 0 = c.in-Ok.ensures.runs.failures in
          let counted : g.D.Disk.model.failures c.into_disk.result ≡ g.D.Disk.model.failures store.disk + failures_in_migration c.migrate_store-line.result = ap g.D.Disk.model.failures back ∙ c.migrate_store-line.ensures.failures in
          omega (arith, opening, counted);
    }

pub returns-in-Err-clause-raises : goal.returns-in-Err-clause-raises
returns-in-Err-clause-raises g c = record {
  any_moment = λ keeps. weaker g.D.Disk.model c.args.disk c.in-Err.disk _ _ (c.in-Err.ensures.any_moment keeps) (λ image was. inl was);
  failures = c.in-Err.ensures.runs.failures;
}

pub returns-in-Err-clause-fault : goal.returns-in-Err-clause-fault
returns-in-Err-clause-fault g c =
    let old = c.args.disk in
    let new = c.in-Err.disk in
    not_opened _ _ c.in-Err.fault c.in-Err.ensures.named (if_present _ _ _ c.in-Err.ensures.fault)
    (λ other. if_both (g.D.Disk.model.keeps_model old) (g.D.Disk.model.keeps_model new) (g.D.Disk.model.present old) (g.D.Disk.model.present new) (λ (old new : Present). new.read ≡ old.read)
    (λ keeps _. ap (λ (p : Present). p.read) (c.in-Err.ensures.unchanged keeps other)))
    (if_both (g.D.Disk.model.keeps_model old) (g.D.Disk.model.keeps_model new) (g.D.Disk.model.present old) (g.D.Disk.model.present new) (λ (old new : Present). (image : List ℕ) → IsImage new image → IsEitherVersion old image)
    (λ keeps kept image is.
    let adds = c.in-Err.ensures.any_moment keeps in
    inl (adds.each image (g.met.D.Disk.laws.counts_now new (g.D.Disk.model.clock old) image kept adds.later is))))
