use Rattle.std.proofs.Common.{◌≡◌, ◌≢◌, List, ℕ, inr, sym, ap, ◌∙◌, arith}
use Rattle.coord_codec.specs.Worlds.{world}
use Rattle.coord_disk.specs.Model.Present.{Present, whole}
use Rattle.coord_journal.specs.Facade.{content_of, formatted, without_batch}
use Rattle.coord_journal.specs.declared.fault.JournalFault.{JournalFault}
use Rattle.coord_journal.specs.declared.fault.JournalFault.TheVariants as journal
use Rattle.coord_store.specs.Faults.{store_fault_of}
use Rattle.coord_store.specs.Recovered.{Gives}
use Rattle.coord_store.specs.declared.faults.StoreFault.{StoreFault}
use Rattle.coord_store.specs.declared.faults.StoreFault.TheVariants.{Device, OutOfMemory}
use Rattle.coord_world.specs.Facade.{no_world, rows_of}
use Rattle.coord_store.proofs.Exclusion.{made_refused}
use Rattle.coord_store.proofs.Holding.{text_gives}
use Rattle.coord_store.proofs.store.Store.create.Goals as goal

pub over-requires-clause-holds : goal.over-requires-clause-holds
over-requires-clause-holds g c k =
    let k1 = sym c.in-Ok-open.ensures.runs.model ∙ k in
    let k0 = sym c.format.ensures.runs.model ∙ k1 in
    let made = without_batch c.args.version c.deref.result.now in
    let gives : Gives made c.empty.result = rw (c.empty.ensures.value, c.deref.ensures.value, sym c.in-Some.ensures.value) c.in-Ok.ensures.gives in
    let same = c.in-Ok-open.ensures.only made k1 (c.in-Ok-format.ensures.text k0) in
    record { content = content_of c.in-Ok-open.field-0-1; ready = c.in-Ok-open.ensures.ready k1; gives = rw same gives }

pub returns-clause-fault : goal.returns-clause-fault
returns-clause-fault g c k0 =
    let k1 = c.format.ensures.runs.model ∙ k0 in
    made_refused (g.D.Disk.model.present c.args.disk).read (g.D.Disk.model.present c.format.new.disk).read c.args.half_size (without_batch c.args.version c.deref.result.now) c.in-Err-open.fault c.fault_of-in-Err-open.result
    c.fault_of-in-Err-open.ensures (c.in-Ok-format.ensures.text k0) (c.in-Err-open.ensures.fault k1)

-- a disk that was not empty

not_device : (why : JournalFault) (fault : StoreFault) → fault ≡ store_fault_of why → fault ≢ Device → why ≢ journal.Device
not_device why fault is other device = other (is ∙ ap store_fault_of device)

pub returns-in-Err-format-clause-taken : goal.returns-in-Err-format-clause-taken
returns-in-Err-format-clause-taken g c k some other =
    c.in-Err-format.ensures.unchanged k (not_device c.in-Err-format.fault c.fault_of.result c.fault_of.ensures other)

pub returns-clause-taken : goal.returns-clause-taken
returns-clause-taken g c k some other = let no : ⊥ = omega (arith, some, c.in-Ok-format.ensures.empty k) in absurd no

-- the disk after out of memory, if it was made

memory_not_device : (why : JournalFault) (fault : StoreFault) → fault ≡ store_fault_of why → fault ≡ OutOfMemory → why ≢ journal.Device
memory_not_device why fault is memory device = let same : OutOfMemory ≡ Device = sym memory ∙ is ∙ ap store_fault_of device in cc

pub returns-clause-memory : goal.returns-clause-memory
returns-clause-memory g c k0 memory =
    let k1 = c.format.ensures.runs.model ∙ k0 in
    let version = c.args.version in
    let snapshot = c.deref.result.now in
    let same = c.in-Err-open.ensures.unchanged k1 (memory_not_device c.in-Err-open.fault c.fault_of-in-Err-open.result c.fault_of-in-Err-open.ensures memory) in
    let spelled : snapshot ≡ (world version).text (rows_of (no_world version)) = rw (c.deref.ensures.value, sym c.in-Some.ensures.value) c.in-Ok.ensures.spelled in
    let gives : Gives (without_batch version snapshot) (no_world version) = rw (c.deref.ensures.value, sym c.in-Some.ensures.value) c.in-Ok.ensures.gives in
    let bytes = same ∙ ap (λ (p : Present). whole p.read) (c.in-Ok-format.ensures.bytes k0) ∙ ap (λ (l : List ℕ). whole (formatted c.args.half_size version l)) spelled in
    inr
    (record {
      bytes = bytes;
      half = c.in-Ok-format.ensures.half_size;
      gives = rw (ap (λ (p : Present). p.read) same) (text_gives (without_batch version snapshot) (no_world version) (g.D.Disk.model.present c.format.new.disk).read gives (c.in-Ok-format.ensures.text k0));
    })
