-- The bytes written by a commit or a migration, as the store reports them.
use Rattle.std.proofs.Common.{◌≡◌, ◌≢◌, ◌⊎◌, ◌↔◌, ◌+◌, ◌≤◌, ◌<◌, ◌^◌, inr, ⊎_elim, ℕ, List, ◌++◌, length, true, false, None, Option, is_some, Result, Ok, Err, IfErr, IsErrOf, refl, sym, subst, ap, ◌∙◌, arith}
use Rattle.coord_disk.specs.Model.DiskModel.{DiskModel, IsModel}
use Rattle.coord_disk.specs.Model.Moments.{LeavesOnly, Runs}
use Rattle.coord_journal.specs.Facade.{HasHeader, HasRoomFor, disk_of, half_of, half_size_of}
use Rattle.coord_journal.specs.declared.journal.Journal.{Journal}
use Rattle.coord_journal.proofs.Texts.{size_read}
use Rattle.coord_types.specs.declared.steps.Step.{Step}
use Rattle.coord_world.specs.Facade.{Legal, World, fold}
use Rattle.coord_store.specs.Faults.{failures_in}
use Rattle.coord_store.specs.Facade.{Changes, Commits, Concludes, Ends, FitsIn, Follows, HasHalves, Holds, IsKept, IsOnlyWorld, Kept, Stays, Takes, with_world}
use Rattle.coord_store.specs.declared.faults.CommitFault.{CommitFault}
use Rattle.coord_store.specs.declared.faults.CommitFault.TheVariants.{OutOfMemory, Device, Stopped}
use Rattle.coord_store.proofs.Holding.{as_long, has_room, in_half, kept_on, kept_torn, only_is_either}

-- what a store is seen as
abbrev pub kept : {D : Type 0} → Journal D → World → Option World → Kept D
kept journal w torn = record { disk = disk_of journal; world = w; torn = torn }

-- an answer is a fault or none, and one fault
pub ok_not : {T E X : Type 0} (x : T) (e : E) → IsErrOf (Ok x) e → X
ok_not x e is = absurd cc

pub err_is : {T E : Type 0} (a b : E) → IsErrOf {T = T} (Err a) b → a ≡ b
err_is a b is = cc

-- a store that goes on does not answer that it has stopped
pub not_stopped : {T X : Type 0} (r : Result T CommitFault) → IfErr r (λ fault. (fault ≡ OutOfMemory) ⊎ (fault ≡ Device)) → IsErrOf r Stopped → X
not_stopped r h1 h2 = grind arith

pub never_stopped : {T : Type 0} (r : Result T CommitFault) (torn : Option World) → IfErr r (λ fault. (fault ≡ OutOfMemory) ⊎ (fault ≡ Device)) → torn ≡ None → IsErrOf r Stopped ↔ (is_some torn ≡ true)
never_stopped r torn passing none = (λ is. not_stopped r passing is, λ is. let off : is_some torn ≡ false = ap is_some none in absurd cc)

-- an answer with a world fails as it does without
pub fails_so : {T : Type 0} (w : World) (r : Result T CommitFault) (P : CommitFault → Type 0) → IfErr r P → IfErr (with_world w r) P
fails_so w (Ok x) P refused = tt
fails_so w (Err fault) P refused = refused

pub same_failures : {T : Type 0} (w : World) (r : Result T CommitFault) → failures_in (with_world w r) ≡ failures_in r
same_failures w (Ok x) = refl
same_failures w (Err fault) = refl

small : (bytes : List ℕ) (selector size : ℕ) (rest : List ℕ) → HasHeader bytes selector size rest → size < 2 ^ 64
small bytes selector size rest header = omega (arith, header.size.greatest)

-- bytes have halves of one size at most
same_size : (bytes : List ℕ) (m n : ℕ) → HasHalves m bytes → HasHalves n bytes → m ≡ n
same_size bytes m n one other =
    sym (size_read bytes one.0 m one.1 (small bytes one.0 m one.1 one.2) one.2.spelled)
    ∙ size_read bytes other.0 n other.1 (small bytes other.0 n other.1 other.2) other.2.spelled

module _ {D : Type 0} (m : DiskModel D) where
  -- the halves of a journal that holds a world are of the journal's size
  halves_of : (journal : Journal D) (w : World) → Holds m journal w → HasHalves (half_size_of journal) (m.present (disk_of journal)).read
  halves_of journal w holds = (holds.ready.text.selector, holds.ready.text.skipped ++ holds.ready.text.half_bytes, holds.ready.text.header)

  -- halves stay of their size in a call that keeps the journal's
  same_halves : (old new : Journal D) (w v : World) (size : ℕ) → half_size_of new ≡ half_size_of old → Holds m old w → Holds m new v → HasHalves size (m.present (disk_of old)).read → HasHalves size (m.present (disk_of new)).read
  same_halves old new w v size same was is has =
      subst (λ n. HasHalves n (m.present (disk_of new)).read) (same ∙ same_size (m.present (disk_of old)).read (half_size_of old) size (halves_of old w was) has) (halves_of new v is)

  -- a call is refused, and nothing was written
  pub refused : {T E : Type 0} (s : Kept D) (next : World) (device fault : E) → fault ≢ device → (m.keeps_model s.disk ≡ true → s.torn ≡ None → LeavesOnly m s.disk s.disk (IsOnlyWorld s.world)) → Changes {T = T} m next device s s (Err fault)
  refused s next device fault other still = grind (arith, only_is_either, err_is)

  pub none_run : (disk : D) (n : ℕ) → Runs m disk disk n 0
  none_run disk n = record { model = refl; failures = omega arith; calls = λ _. omega arith }

  -- the body of a batch fits if the contract's own body does
  pub fits_in : (journal : Journal D) (w : World) (torn : Option World) (steps : List Step) (body : List ℕ) (half : ℕ) → (m.keeps_model (disk_of journal) ≡ true → torn ≡ None → Holds m journal w) → Takes w body steps → FitsIn m half steps (kept journal w torn)
      → HasRoomFor journal (length body) × (half_of journal ≡ half)
  fits_in journal w torn steps body half holds takes fits =
      let room = has_room m journal w half (length fits.body) (holds fits.keeps fits.going) fits.place in
      (rw (sym (as_long w fits.body body steps fits.spells takes.spells)) room.0, room.1)

  -- the same change, with the faults of another type
  pub returned_again : {T U E F : Type 0} (s n : Kept D) (next : World) (a : E) (b : F) (x : T) (y : U) → Changes m next a s n (Ok x) → Changes m next b s n (Ok y)
  returned_again s n next a b x y changes = record { any_moment = changes.any_moment; any_moment_refused = λ k none. tt; world = changes.world; going = changes.going; torn = λ e. ok_not y b e; same_world = tt; halves = changes.halves }

  pub returned_again_refused : {T U E F : Type 0} (s n : Kept D) (next : World) (a : E) (b : F) (e : E) (f : F) → (f ≡ b → e ≡ a) → (f ≢ b → e ≢ a) → Changes {T = T} m next a s n (Err e) → Changes {T = U} m next b s n (Err f)
  returned_again_refused s n next a b e f device other changes = grind (arith, err_is)

-- The result of writing another world in place of a store's, by its answer: the store then keeps `v` and `now`.
module _ {D T : Type 0} (m : DiskModel D) (old new : Journal D) (w next v : World) (torn now : Option World) (none : torn ≡ None) (holds : m.keeps_model (disk_of old) ≡ true → torn ≡ None → Holds m old w) where
  pub changed : (r : Result T CommitFault) → half_size_of new ≡ half_size_of old → Concludes next w v torn now r → (Holds m old w → Follows m w next old new r) → (Holds m old w → Stays m w old new r) → Changes m next Device (kept old w torn) (kept new v now) (with_world w r)
  changed (Ok x) sized keeps follows stays = record {
    any_moment = λ k same. (follows (holds k same)).any_moment;
    any_moment_refused = λ k same. tt;
    world = keeps.world;
    going = keeps.same_torn ∙ none;
    torn = λ e. ok_not w Device e;
    same_world = tt;
    halves = λ k same size has. same_halves m old new w next size sized (holds k same) (follows (holds k same)).done has;
  }
  changed (Err fault) sized keeps follows stays = record {
    any_moment = λ k same. (follows (holds k same)).any_moment;
    any_moment_refused = λ k same. (stays (holds k same)).any_moment;
    world = tt;
    going = tt;
    torn = λ e. keeps.torn (ap Err (err_is fault Device e));
    same_world = keeps.same_world;
    halves = λ k same size has other. same_halves m old new w w size sized (holds k same) ((stays (holds k same)).held other) has;
  }

  -- what the type of a store keeps
  pub kept_after : IsModel m → Legal w → Legal next → (most : ℕ) (r : Result T CommitFault) → Concludes next w v torn now r → (Holds m old w → Follows m w next old new r) → (Holds m old w → Stays m w old new r) → Ends m most old new r → IsKept m new v now
  kept_after laws legal legal_next most (Ok x) keeps follows stays ends =
      rw keeps.world (kept_on m new next now (keeps.same_torn ∙ none) legal_next ends.going (λ k. (follows (holds (sym ends.runs.model ∙ k) none)).done))
  kept_after laws legal legal_next most (Err fault) keeps follows stays ends =
      rw keeps.same_world
      (⊎_elim
      (λ memory. let other : fault ≢ Device = λ is. absurd cc in kept_on m new w now (keeps.unchanged other ∙ none) legal (ends.still other) (λ k. (stays (holds (sym ends.runs.model ∙ k) none)).held other))
      (λ device. rw (keeps.torn (ap Err device)) (kept_torn m laws (disk_of old) new w next legal (ends.device (ap Err device)) (λ k. (follows (holds (sym ends.runs.model ∙ k) none)).any_moment)))
      ends.fault)

  -- if the device did not fail and nothing was written
  pub untouched : (r : Result T CommitFault) → Concludes next w v torn now r → IfErr r (λ fault. fault ≢ Device → new ≡ old) → IfErr (with_world w r) (λ fault. fault ≢ Device → kept new v now ≡ kept old w torn)
  untouched (Ok x) keeps same = tt
  untouched (Err fault) keeps same = λ other. ap (λ j. kept j v now) (same other) ∙ ap (λ y. kept old y now) keeps.same_world ∙ ap (λ o. kept old w o) (keeps.unchanged other)

-- what a commit does to a store
module _ {D T : Type 0} (m : DiskModel D) (old new : Journal D) (w v : World) (torn now : Option World) (none : torn ≡ None) (holds : m.keeps_model (disk_of old) ≡ true → torn ≡ None → Holds m old w) (steps : List Step) (body : List ℕ) (takes : Takes w body steps) where
  pub committed : (r : Result T CommitFault) → Concludes (fold w steps) w v torn now r → (Holds m old w → Follows m w (fold w steps) old new r) → (Holds m old w → Stays m w old new r) → Ends m 8 old new r
      → (m.keeps_model (disk_of old) ≡ true → HasRoomFor old (length body) → m.clock (disk_of new) ≤ m.clock (disk_of old) + 4) → (HasRoomFor old (length body) → half_of new ≡ half_of old)
      → Commits m steps (kept old w torn) (kept new v now) (with_world w r)
  committed (Ok x) keeps follows stays ends calls same_half = record {
    changes = changed m old new w (fold w steps) v torn now none holds (Ok x) ends.half_size keeps follows stays;
    runs = ends.runs;
    calls_where_it_fits = λ half fits. calls fits.keeps (fits_in m old w torn steps body half holds takes fits).0;
    half_where_it_fits = λ half fits.
        let room = fits_in m old w torn steps body half holds takes fits in
        in_half m new (fold w steps) half (follows (holds fits.keeps fits.going)).done (same_half room.0 ∙ room.1);
    stopped = never_stopped {T = World} (Ok w) torn tt none;
    fault = tt;
    unchanged = tt;
    untouched = λ e. ok_not w Stopped e;
  }
  committed (Err fault) keeps follows stays ends calls same_half = record {
    changes = changed m old new w (fold w steps) v torn now none holds (Err fault) ends.half_size keeps follows stays;
    runs = ends.runs;
    calls_where_it_fits = λ half fits. calls fits.keeps (fits_in m old w torn steps body half holds takes fits).0;
    half_where_it_fits = λ half fits. tt;
    stopped = never_stopped {T = World} (Err fault) torn ends.fault none;
    fault = inr ends.fault;
    unchanged = keeps.unchanged;
    untouched = λ e. not_stopped {T = World} (Err fault) ends.fault e;
  }
