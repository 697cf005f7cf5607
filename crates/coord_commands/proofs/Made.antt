-- The bytes of a store that was just made, and facts about them.
use Rattle.std.proofs.Common.{Result, Ok, Err, IfErr, OnOk, ◌≡◌, ◌⊎◌, ◌≢◌, ℕ, ◌<◌, Bool, true, false, List, [], ◌∷◌, ◌++◌, length, Option, Some, None, IfSome, inl, inr, refl, sym, ap, ◌∙◌, subst, if◌then◌else◌}
use Rattle.coord_codec.specs.Worlds.{world}
use Rattle.coord_config.specs.Topology.{Content}
use Rattle.coord_disk.specs.Model.DiskModel.{DiskModel}
use Rattle.coord_disk.specs.Model.Moments.{IsUntouched}
use Rattle.coord_disk.specs.Model.Present.{Present}
use Rattle.coord_journal.specs.Facade.{IsHalfSize, half_front}
use Rattle.coord_store.specs.Facade.{HasHalves, IsJustMade}
use Rattle.coord_store.specs.Kept.{made}
use Rattle.coord_store.specs.declared.faults.CommitFault.{CommitFault}
use Rattle.coord_store.specs.declared.faults.CommitFault.TheVariants as of_commit
use Rattle.coord_store.specs.declared.faults.StoreFault.{StoreFault}
use Rattle.coord_store.specs.declared.faults.StoreFault.TheVariants as of_store
use Rattle.coord_types.specs.declared.refusals.Refusal.{Refusal}
use Rattle.coord_world.specs.Facade.{World, no_world, rows_of}
use Rattle.coord_commands.specs.Creation.{IsOfCreation, LeavesNoStep, RefusesCommitted}
use Rattle.coord_commands.specs.Faults.{fault_of_commit}
use Rattle.coord_commands.specs.Folders.{reads}
use Rattle.coord_commands.specs.Founding.{RefusesToBegin, orders}
use Rattle.coord_commands.specs.Making.{IsFounded, IsStore, LeavesWithoutMemory, RefusesStore, StaysKnown}
use Rattle.coord_commands.specs.declared.fault.Fault.{Fault}
use Rattle.coord_commands.specs.declared.fault.Fault.TheVariants.{Usage, Read, Write, Socket, TooManyReads, OutOfMemory, Topology, Store, Refused, NotClosed}

-- it has halves of the size with which it was made
pub made_halves : (size version : ℕ) (disk : Present) → IsHalfSize size → disk ≡ made size version → HasHalves size disk.read
made_halves size version disk is same = (0, half_front version ((world version).text (rows_of (no_world version))) [] ++ 0 ∷ [], record { spelled = ap (λ (p : Present). p.read) same; size = is })

pub just_made : (topology : Content) (disk : Present) → IsJustMade topology.half 2 disk → IsStore topology (no_world 2) disk.read
just_made topology disk is = record { gives = is.gives; halves = made_halves topology.half 2 disk is.half is.bytes }

-- what out of memory leaves, from what making a store says
pub no_step : {D : Type 0} (model : DiskModel D) (size : ℕ) (old new : D) → IsUntouched model old new ⊎ IsJustMade size 2 (model.present new) → LeavesNoStep size (model.present old).read (model.present new).read
no_step model size old new (inl same) = inl (ap (λ (p : Present). p.read) same.same)
no_step model size old new (inr is) = inr (is.gives, made_halves size 2 (model.present new) is.half is.bytes)

-- in which calls memory lacks
pub in_creation : (fault : StoreFault) → (Store fault ≡ OutOfMemory) ⊎ (Store fault ≡ Store of_store.OutOfMemory) → fault ≡ of_store.OutOfMemory
in_creation fault (inl is) = absurd cc
in_creation fault (inr is) = cc is

pub in_commit : (fault : CommitFault) (answered : Fault) → answered ≡ fault_of_commit fault → (answered ≡ OutOfMemory) ⊎ (answered ≡ Store of_store.OutOfMemory) → fault ≢ of_commit.Device
in_commit fault answered is (inl memory) device = let same : OutOfMemory ≡ Store of_store.Device = sym memory ∙ is ∙ ap fault_of_commit device in cc
in_commit fault answered is (inr memory) device = let same : Store of_store.OutOfMemory ≡ Store of_store.Device = sym memory ∙ is ∙ ap fault_of_commit device in cc

-- ---- facts about the bytes

module _ (keeps keeps_on : Bool) (old new : Present) (topology : Content) where
  pub made_known : (w : World) → (keeps ≡ true → length old.read ≡ 0) → (keeps_on ≡ true → IsStore topology w new.read) → IsFounded topology w (reads (if keeps then Some old else None)) (reads (if keeps_on then Some new else None))
  made_known w empty made = of keeps keeps_on empty made
    where
      of : (k l : Bool) → (k ≡ true → length old.read ≡ 0) → (l ≡ true → IsStore topology w new.read) → IsFounded topology w (reads (if k then Some old else None)) (reads (if l then Some new else None))
      of true true empty made = record { empty = empty refl; made = made refl }
      of true false empty made = record { empty = empty refl; made = tt }
      of false true empty made = record { empty = tt; made = made refl }
      of false false empty made = record { empty = tt; made = tt }

  left : LeavesNoStep topology.half old.read new.read → length old.read ≡ 0 → (length new.read ≡ 0) ⊎ IsStore topology (no_world 2) new.read
  left (inl same) none = inl (ap length same ∙ none)
  left (inr store) none = inr (record { gives = store.0; halves = store.1 })

  pub lacks_known : (keeps ≡ true → 0 < length old.read → new.read ≡ old.read) → (keeps ≡ true → LeavesNoStep topology.half old.read new.read) → LeavesWithoutMemory topology (reads (if keeps then Some old else None)) (reads (if keeps_on then Some new else None))
  lacks_known taken leaves = of keeps keeps_on taken leaves
    where
      of : (k l : Bool) → (k ≡ true → 0 < length old.read → new.read ≡ old.read) → (k ≡ true → LeavesNoStep topology.half old.read new.read) → LeavesWithoutMemory topology (reads (if k then Some old else None)) (reads (if l then Some new else None))
      of true true taken leaves = record { taken = taken refl; empty = left (leaves refl) }
      of true false taken leaves = record { taken = λ some. tt; empty = λ none. tt }
      of false l taken leaves = record { taken = tt; empty = tt }

-- why the store of a topology is not made, from what making it says
module _ (keeps keeps_on : Bool) (old new : Present) (topology : Content) (fault : Fault) (on : keeps_on ≡ true → keeps ≡ true) (taken : keeps ≡ true → 0 < length old.read → fault ≢ Store of_store.Device → new.read ≡ old.read) (unchanged : keeps ≡ true → (fault ≡ Store of_store.NotEmpty) ⊎ (fault ≡ Store of_store.HalfSize) → new.read ≡ old.read)
    (committed : keeps ≡ true → RefusesCommitted old.read topology.half fault) (memory : keeps ≡ true → (fault ≡ OutOfMemory) ⊎ (fault ≡ Store of_store.OutOfMemory) → LeavesNoStep topology.half old.read new.read)
    (refused : (reason : Refusal) → fault ≡ Refused reason → RefusesToBegin (orders topology) reason) (left_empty : (reason : Refusal) → keeps ≡ true → fault ≡ Refused reason → (length old.read ≡ 0) × IsJustMade topology.half 2 new) where
  abbrev read_before : Option (List ℕ)
  read_before = reads (if keeps then Some old else None)

  abbrev read_after : Option (List ℕ)
  read_after = reads (if keeps_on then Some new else None)

  same_known : (keeps ≡ true → new.read ≡ old.read) → StaysKnown read_before read_after
  same_known same = of keeps keeps_on same
    where
      of : (k l : Bool) → (k ≡ true → new.read ≡ old.read) → StaysKnown (reads (if k then Some old else None)) (reads (if l then Some new else None))
      of true true same = same refl
      of true false same = tt
      of false l same = tt

  some_known : (keeps ≡ true → 0 < length old.read) → IfSome read_before (λ bytes. 0 < length bytes)
  some_known some = of keeps some
    where
      of : (k : Bool) → (k ≡ true → 0 < length old.read) → IfSome (reads (if k then Some old else None)) (λ bytes. 0 < length bytes)
      of true some = some refl
      of false some = tt

  lacking : fault ≢ Store of_store.Device → (fault ≡ OutOfMemory) ⊎ (fault ≡ Store of_store.OutOfMemory) → LeavesWithoutMemory topology read_before read_after
  lacking other is = lacks_known keeps keeps_on old new topology (λ k some. taken k some other) (λ k. memory k is)

  refuses : (f : Fault) → fault ≡ f → IsOfCreation f → RefusesStore read_before read_after topology f
  refuses Usage is of = absurd of
  refuses Read is of = absurd of
  refuses Write is of = absurd of
  refuses Socket is of = absurd of
  refuses TooManyReads is of = absurd of
  refuses OutOfMemory is of = lacking (λ device. cc) (inl is)
  refuses (Topology reason) is of = absurd of
  refuses (Store of_store.OutOfMemory) is of = lacking (λ device. cc) (inr is)
  refuses (Store of_store.Device) is of = tt
  refuses (Store of_store.NotEmpty) is of = (some_known (λ k. subst (RefusesCommitted old.read topology.half) is (committed k)), same_known (λ k. unchanged k (inl is)))
  refuses (Store of_store.HalfSize) is of = same_known (λ k. unchanged k (inr is))
  refuses (Store of_store.NoMagic) is of = tt
  refuses (Store of_store.BadRecord) is of = tt
  refuses (Store of_store.BadSnapshot) is of = absurd of
  refuses (Store of_store.BadBatch) is of = absurd of
  refuses (Store (of_store.BadStep batch index)) is of = absurd of
  refuses (Store (of_store.Violated violation)) is of = absurd of
  refuses (Store (of_store.NotQuiet node)) is of = absurd of
  refuses (Store of_store.Stopped) is of = absurd of
  refuses (Refused reason) is of = (refused reason is, made_known keeps keeps_on old new topology (no_world 2) (λ k. (left_empty reason k is).0) (λ l. just_made topology new (left_empty reason (on l) is).1))
  refuses (NotClosed reason) is of = absurd of

  pub refused_known : IsOfCreation fault → RefusesStore read_before read_after topology fault
  refused_known of = refuses fault refl of

-- ---- a disk that is put back: if its content then is known, it is the disk's

stays_unread : (before : Option (List ℕ)) → StaysKnown before None
stays_unread None = tt
stays_unread (Some bytes) = tt

made_unread : (topology : Content) (w : World) (before known : Option (List ℕ)) → IsFounded topology w before known → IsFounded topology w before None
made_unread topology w before known is = record { empty = is.empty; made = tt }

lacks_unread : (topology : Content) (before known : Option (List ℕ)) → LeavesWithoutMemory topology before known → LeavesWithoutMemory topology before None
lacks_unread topology None known lacks = record { taken = tt; empty = tt }
lacks_unread topology (Some bytes) known lacks = record { taken = λ some. tt; empty = λ none. tt }

refuses_unread : (before known : Option (List ℕ)) (topology : Content) (fault : Fault) → RefusesStore before known topology fault → RefusesStore before None topology fault
refuses_unread before known topology Usage of = absurd of
refuses_unread before known topology Read of = absurd of
refuses_unread before known topology Write of = absurd of
refuses_unread before known topology Socket of = absurd of
refuses_unread before known topology TooManyReads of = absurd of
refuses_unread before known topology OutOfMemory of = lacks_unread topology before known of
refuses_unread before known topology (Topology reason) of = absurd of
refuses_unread before known topology (Store of_store.OutOfMemory) of = lacks_unread topology before known of
refuses_unread before known topology (Store of_store.Device) of = of
refuses_unread before known topology (Store of_store.NotEmpty) of = (of.0, stays_unread before)
refuses_unread before known topology (Store of_store.HalfSize) of = stays_unread before
refuses_unread before known topology (Store of_store.NoMagic) of = of
refuses_unread before known topology (Store of_store.BadRecord) of = of
refuses_unread before known topology (Store of_store.BadSnapshot) of = of
refuses_unread before known topology (Store of_store.BadBatch) of = of
refuses_unread before known topology (Store (of_store.BadStep batch index)) of = of
refuses_unread before known topology (Store (of_store.Violated violation)) of = of
refuses_unread before known topology (Store (of_store.NotQuiet node)) of = of
refuses_unread before known topology (Store of_store.Stopped) of = of
refuses_unread before known topology (Refused reason) of = (of.0, made_unread topology (no_world 2) before known of.1)
refuses_unread before known topology (NotClosed reason) of = absurd of

pub made_back : (topology : Content) (w : World) (before : Option (List ℕ)) (known after : Option Present) → IfSome after (λ disk. known ≡ Some disk) → IsFounded topology w before (reads known) → IsFounded topology w before (reads after)
made_back topology w before known None back is = made_unread topology w before (reads known) is
made_back topology w before known (Some disk) back is = subst (λ k. IsFounded topology w before (reads k)) back is

pub refused_back : (topology : Content) (fault : Fault) (before : Option (List ℕ)) (known after : Option Present) → IfSome after (λ disk. known ≡ Some disk) → RefusesStore before (reads known) topology fault → RefusesStore before (reads after) topology fault
refused_back topology fault before known None back refuses = refuses_unread before (reads known) topology fault refuses
refused_back topology fault before known (Some disk) back refuses = subst (λ k. RefusesStore before (reads k) topology fault) back refuses

-- the disk of a name, which was taken and put back
pub made_named : {A : Type 0} (ended : Result A Fault) (topology : Content) (w : World) (before after taken known : Option Present) → taken ≡ before → IfSome after (λ disk. known ≡ Some disk) → OnOk ended (IsFounded topology w (reads taken) (reads known)) → OnOk ended (IsFounded topology w (reads before) (reads after))
made_named (Ok x) topology w before after taken known was back is = subst (λ b. IsFounded topology w (reads b) (reads after)) was (made_back topology w (reads taken) known after back is)
made_named (Err fault) topology w before after taken known was back is = tt

pub refused_named : {A : Type 0} (ended : Result A Fault) (topology : Content) (before after taken known : Option Present) → taken ≡ before → IfSome after (λ disk. known ≡ Some disk) → IfErr ended (RefusesStore (reads taken) (reads known) topology) → IfErr ended (RefusesStore (reads before) (reads after) topology)
refused_named (Ok x) topology before after taken known was back refuses = tt
refused_named (Err fault) topology before after taken known was back refuses = subst (λ b. RefusesStore (reads b) (reads after) topology fault) was (refused_back topology fault (reads taken) known after back refuses)
