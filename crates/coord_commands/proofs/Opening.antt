-- What is known of the bytes of a disk.
use Rattle.std.proofs.Common.{◌≡◌, ◌≢◌, ◌⊎◌, ℕ, ◌+◌, Bool, true, false, List, Option, Some, None, Ok, Err, IfSome, inl, inr, refl, sym, ap, ◌∙◌, subst, arith, if◌then◌else◌}
use Rattle.std.proofs.KnownBytes.{Keeps-refl}
use Rattle.std.specs.Io.KnownBytes.{Keeps}
use Rattle.std.proofs.lemmas.Bool.Decides.{nat_tests}
use Rattle.coord_disk.specs.Model.DiskModel.{DiskModel}
use Rattle.coord_disk.specs.Model.Moments.{AddsNothing}
use Rattle.coord_disk.specs.Model.Present.{Present, whole}
use Rattle.coord_engine.specs.Released.{GivesSignal}
use Rattle.coord_engine.specs.declared.closed.Closed.{Closed}
use Rattle.coord_store.specs.Facade.{Kept, Recovered}
use Rattle.coord_store.specs.Refused.{failed_in}
use Rattle.coord_store.specs.declared.faults.StoreFault.{StoreFault}
use Rattle.coord_store.specs.declared.faults.StoreFault.TheVariants.{Device}
use Rattle.coord_world.specs.protocol.NumberedWorld.{World}
use Rattle.coord_commands.specs.Folders.{bytes_of, known_of, reads}
use Rattle.coord_admin.specs.declared.timeouts.Timeouts.{Timeouts}
use Rattle.coord_server.specs.declared.fault.ServerFault.{ServerFault}
use Rattle.coord_server.specs.declared.server_end.ServerEnd.{ServerEnd}
use Rattle.coord_commands.specs.Faults.{fault_of_server}
use Rattle.coord_commands.specs.Inspection.{IsOfOpening}
use Rattle.coord_commands.specs.Serving.{EndsServing, GivesWorld, IsNotOpened, IsOfServing, IsOpenedStore, IsPutBack, IsServedDisk, RunsWithOutput, ServedWhole, ServedWithOutput}
use Rattle.coord_commands.specs.declared.fault.Fault.{Fault}
use Rattle.coord_commands.specs.declared.fault.Fault.TheVariants.{OutOfMemory, Socket, Store}
use Rattle.coord_commands.proofs.Raising.{closed, if_both, unread}

-- what holds of the bytes of a disk that keeps the model, holds of them where they are known
pub if_keeps : (keeps : Bool) (known : Present) (P : List ℕ → Type 0) → (keeps ≡ true → P known.read) → IfSome (reads (if keeps then Some known else None)) P
if_keeps true known P holds = holds refl
if_keeps false known P holds = tt

module _ {D : Type 0} (model : DiskModel D) where
  back_gives : (after : Option Present) (disk : D) (w : World) → IfSome (bytes_of model disk) (λ known. Recovered known w) → IfSome after (λ known. known_of model disk ≡ Some known) → IfSome (reads after) (λ known. Recovered known w)
  back_gives None disk w gives is = tt
  back_gives (Some known) disk w gives is = subst (λ k. IfSome (reads k) (λ bytes. Recovered bytes w)) is gives

-- known bytes give a world
pub gives_some : (o : Option (List ℕ)) (w : World) → IfSome o (λ known. Recovered known w) → GivesWorld o
gives_some None w is = tt
gives_some (Some known) w is = (w, is)

-- where a server was served and put back, the bytes give a world before and after
pub gave : {D : Type 0} (model : DiskModel D) (before after : Option Present) (old new : Option (List ℕ)) → ServedWhole model before after old new → GivesWorld (reads before) × GivesWorld (reads after)
gave model before after old new is = (gives_some (reads before) is.0.store.world is.0.opened.world, gives_some (reads after) is.0.ended.closed.store.world is.2)

-- the faults of serving, where the disk gave a world
pub of_serving : (bytes : Option (List ℕ)) (fault : ServerFault) → GivesWorld bytes → IsOfServing bytes (fault_of_server fault)
of_serving bytes fault h1 = grind (arith, nat_tests)

module _ {D : Type 0} (model : DiskModel D) where
  -- a disk was taken and put back
  pub put_back : (failed : ℕ) (before after : Option Present) (taken back : D) → known_of model taken ≡ before → IfSome after (λ known. known_of model back ≡ Some known)
      → model.failures back ≡ model.failures taken + failed → (failed ≡ 0 → model.keeps_model taken ≡ true → (model.present back).read ≡ (model.present taken).read) → IsPutBack model failed before after
  put_back failed before after taken back was is failures same = grind (arith, nat_tests, if_both, closed, unread)

  -- the device of a disk that is refused otherwise has not failed
  no_device : (fault : StoreFault) → failed_in fault ≡ 0 → fault ≡ Device → ⊥
  no_device fault never is = grind (arith, nat_tests)

  pub refused : (before after : Option Present) (taken back : D) (fault : StoreFault) → known_of model taken ≡ before → IfSome after (λ known. known_of model back ≡ Some known)
      → model.failures back ≡ model.failures taken + failed_in fault → (model.keeps_model taken ≡ true → fault ≢ Device → model.present back ≡ whole (model.present taken).read)
      → IsOfOpening (bytes_of model taken) (Store fault) → IsNotOpened model before after (Store fault)
  refused before after taken back fault was is failures unchanged of = record {
    fault = fault;
    named = refl;
    why = inr (rw (sym was) of, put_back (failed_in fault) before after taken back was is failures (λ never keeps. ap (λ (p : Present). p.read) (unchanged keeps (no_device fault never))));
  }

  pub opened : (before : Option Present) (taken : D) (store : Kept D) → known_of model taken ≡ before → (model.keeps_model taken ≡ true → Recovered (model.present taken).read store.world)
      → model.failures store.disk ≡ model.failures taken + 0 → model.keeps_model store.disk ≡ model.keeps_model taken → AddsNothing model taken store.disk → (model.keeps_model taken ≡ true → model.present store.disk ≡ whole (model.present taken).read) → IsOpenedStore model before store
  opened before taken store was world failures same_model moments same = grind (arith, nat_tests, if_keeps)

  -- a server ran over an opened store, and its disk was put back
  abbrev is_served : (before after : Option Present) (old new : Option (List ℕ)) (store : Kept D) (ended : ServerEnd D Timeouts (Option (List ℕ))) (left : Closed D) (back : D) → IsOpenedStore model before store → RunsWithOutput model (GivesSignal store.world) store old new ended → left ≡ ended.closed → back ≡ left.store.disk → IfSome after (λ known. known_of model back ≡ Some known) → IsServedDisk model before after old new
  is_served before after old new store ended left back is run same home put = record {
    store = store;
    opened = is;
    ended = ended;
    run = run;
    put = subst (λ d. IfSome after (λ known. known_of model d ≡ Some known)) (home ∙ ap (λ (c : Closed D). c.store.disk) same) put;
  }

  -- a store was opened, served to a close and put back
  pub served_whole : (before after : Option Present) (old new : Option (List ℕ)) (store : Kept D) (closed : Closed D) (back : D) → IsOpenedStore model before store → ServedWithOutput model (GivesSignal store.world) store old new (Ok closed)
      → IfSome (bytes_of model back) (λ known. Recovered known closed.store.world) → back ≡ closed.store.disk → IfSome after (λ known. known_of model back ≡ Some known) → ServedWhole model before after old new
  served_whole before after old new store closed back is served gives same put = (
    is_served before after old new store served.ended closed back is served.run served.reports.0 same put,
    served.reports.1,
    subst (λ (c : Closed D). IfSome (reads after) (λ known. Recovered known c.store.world)) served.reports.0 (back_gives model after back closed.store.world gives put),
  )

  -- a disk whose store was opened, and then put back
  as_it_was : (before after : Option Present) (store : Kept D) (back : D) → IsOpenedStore model before store → back ≡ store.disk → IfSome after (λ known. known_of model back ≡ Some known) → GivesWorld (reads before) × IsPutBack model 0 before after
  as_it_was before after store back is same put =
      let failures : model.failures back ≡ model.failures is.taken + 0 = omega (arith, ap model.failures same, is.failures) in
      (gives_some (reads before) store.world is.world, put_back 0 before after is.taken back is.was put failures (λ _ keeps. ap (λ d. (model.present d).read) same ∙ is.same keeps))

  -- since no socket could be bound
  pub not_bound : (before after : Option Present) (old : Option (List ℕ)) (store : Kept D) (back : D) → IsOpenedStore model before store → back ≡ store.disk → IfSome after (λ known. known_of model back ≡ Some known) → EndsServing model before after old old Socket
  not_bound before after old store back is same put =
      let was = as_it_was before after store back is same put in
      inl (inr (inl (refl, was.0, was.1)), Keeps-refl old)

  -- since there was no memory for a server to begin with
  pub not_begun : (before after : Option Present) (old new : Option (List ℕ)) (store left : Kept D) (back : D) → IsOpenedStore model before store → left ≡ store → Keeps old new → back ≡ left.disk → IfSome after (λ known. known_of model back ≡ Some known) → EndsServing model before after old new OutOfMemory
  not_begun before after old new store left back is same kept home put =
      let was = as_it_was before after store back is (home ∙ ap (λ (k : Kept D). k.disk) same) put in
      inl (inr (inr (refl, was.0, was.1)), kept)

  -- a server over it has ended, and its disk is put back
  pub ended : (before after : Option Present) (old new : Option (List ℕ)) (store : Kept D) (answered : ServerFault × Closed D) (back : D) → IsOpenedStore model before store → ServedWithOutput model (GivesSignal store.world) store old new (Err answered)
      → back ≡ answered.1.store.disk → IfSome after (λ known. known_of model back ≡ Some known) → EndsServing model before after old new (fault_of_server answered.0)
  ended before after old new store answered back is served disk put = inr (is_served before after old new store served.ended answered.1 back is served.run served.reports.0 disk put, answered.0, served.reports.1, refl)

  of_unopened : (before after : Option Present) (fault : StoreFault) → ((fault ≡ Device) × (after ≡ before)) ⊎ (IsOfOpening (reads before) (Store fault) × IsPutBack model (failed_in fault) before after) → IsOfServing (reads before) (Store fault)
  of_unopened before after fault (inl none) = inl none.0
  of_unopened before after fault (inr refuses) = refuses.0

  -- as far as the bytes say
  pub of_ending : (before after : Option Present) (old new : Option (List ℕ)) (answered : Fault) → EndsServing model before after old new answered → IsOfServing (reads before) answered
  of_ending before after old new answered (inl (inl none, kept)) = subst (IsOfServing (reads before)) (sym none.named) (of_unopened before after none.fault none.why)
  of_ending before after old new answered (inl (inr (inl bound), kept)) = subst (IsOfServing (reads before)) (sym bound.0) bound.1
  of_ending before after old new answered (inl (inr (inr begun), kept)) = subst (IsOfServing (reads before)) (sym begun.0) begun.1
  of_ending before after old new answered (inr (is, fault, why, named)) = subst (IsOfServing (reads before)) (sym named) (of_serving (reads before) fault (gives_some (reads before) is.store.world is.opened.world))
