-- Starts that are run, from what their parts answer.
use Rattle.std.proofs.Common.{◌≡◌, ◌≢◌, ◌⊎◌, ⊎_elim, ℕ, true, Bool, List, [], ◌∷◌, ◌++◌, map, take, Option, Some, None, Vec, inl, inr, refl, sym, ap, subst, ◌∙◌, cond, eqb}
use Rattle.std.specs.List.{AllByRecursion}
use Rattle.std.specs.Option.{option_map}
use Rattle.std.specs.declared.alloc.Global.{Global}
use Rattle.coord_disk.specs.Model.DiskModel.{DiskModel}
use Rattle.coord_disk.specs.Model.Calls.{Crashes}
use Rattle.coord_disk.specs.Model.Present.{IsImage, whole}
use Rattle.coord_store.specs.Facade.{GivesKept, Kept, Recovered, RefusesMigration, risen}
use Rattle.coord_store.specs.Migrating.{IsQuiet}
use Rattle.coord_store.specs.declared.faults.StoreFault.{StoreFault}
use Rattle.coord_store.specs.Refused.{IsPassing}
use Rattle.coord_store.specs.declared.faults.StoreFault.TheVariants.{OutOfMemory, Device, NotEmpty, HalfSize, NoMagic, BadRecord, BadSnapshot, BadBatch, BadStep, Violated, NotQuiet, Stopped}
use Rattle.coord_world.specs.Facade.{World, fold, no_world}
use Rattle.coord_world.specs.laws.Raised.{raised}
use Rattle.coord_world.specs.laws.Trails.{IsSound}
use Rattle.coord_ledger.specs.declared.events.Answer.{Answer}
use Rattle.coord_ledger.specs.declared.events.Event.{Event}
use Rattle.coord_ledger.specs.declared.release.Release.{Release}
use Rattle.coord_ledger.specs.declared.trace.RunFaultKind.{RunFaultKind}
use Rattle.coord_ledger.specs.declared.trace.Trace.{Trace}
use Rattle.coord_ledger.specs.declared.trace.RunFaultKind.TheVariants as kind
use Rattle.coord_ledger.specs.ledger.State.{LedgerState, ledger_over, started}
use Rattle.coord_ledger.specs.machine.Consistent.{EventInRange}
use Rattle.coord_ledger.specs.machine.Log.{world_after}
use Rattle.coord_ledger.specs.machine.Machine.{adopted}
use Rattle.coord_ledger.specs.promises.Broken.{HasCauseToEnd}
use Rattle.coord_ledger.specs.promises.Headline.{Completed, Promised}
use Rattle.coord_ledger.proofs.machine.Consistent.{adopted_is_consistent}
use Rattle.coord_starts.specs.Runs.{AreOf, HasRun, IsOf, ServesOnce, StartsOnce, idle_start, reported_as}
use Rattle.coord_starts.specs.Starts.{AreStarts, IsStart, MayServe, Raises, Serves, Start, at_end, left_by, turns_in}
use Rattle.coord_starts.specs.Returned.{led}
use Rattle.coord_starts.specs.declared.starts.Outcome.{Outcome}
use Rattle.coord_starts.specs.declared.starts.Outcome.TheVariants.{Served, Raised, Refused}
use Rattle.coord_starts.specs.declared.starts.Task.{Task}
use Rattle.coord_starts.specs.declared.starts.Task.TheVariants.{Serve, Migrate}
use Rattle.coord_starts.proofs.OneHistory.{base_stays}
use Rattle.coord_starts.proofs.Turns.{led-steps}

-- ---- a start that serves

left_is : (w : World) (events : List Event) (given : List Answer) (n : ℕ) → IsSound w → MayServe w events given n → world_after (at_end w events given).log n ≡ led w (turns_in w (Serves events given n))
left_is w events given n sound may =
    ap (λ v. fold v (take n (at_end w events given).log.trail)) (base_stays events given (adopted w) may.named (adopted_is_consistent w sound) may.answered)
    ∙ sym (led-steps (take n (at_end w events given).log.trail) w)

-- from what a run promises, once a crash has left these bytes
pub served : {D : Type 0} (model : DiskModel D) (crashes : D → D → Type 0) (w : World) (events : List Event) (given : List Answer) (released : List Release) (left : LedgerState D) (keeps : Bool) (old new : D) (bytes : List ℕ) →
    IsSound w → AllByRecursion EventInRange events → Completed model crashes (adopted w) events given released left keeps old new → keeps ≡ true → IsImage (model.present new) bytes → ServesOnce w events given released bytes
served model crashes w events given released left keeps old new bytes sound named completed k image =
    let survives = completed.prefix k bytes image in
    let may : MayServe w events given survives.steps = record { named = named; answered = completed.answered; kept = survives.allowed } in
    record { kept = survives.steps; may = may; all = completed.released_is; left = subst (Recovered bytes) (left_is w events given survives.steps sound may) survives.recovered }

-- the ledger of a store, which is left at home, once the power of its disk was cut
module _ {D : Type 0} (model : DiskModel D) (crashes : D → D → Type 0) (w : World) (events : List Event) (given : List Answer) (released : List Release) (ledger left : LedgerState D) (disk cut : D) (is : ledger ≡ ledger_over w disk) (same : option_map model.keeps_model left.disk ≡ option_map model.keeps_model ledger.disk)
    (ran : (before after : D) → ledger.disk ≡ Some before → left.disk ≡ Some after → Promised (model.keeps_model before) events (Completed model crashes (started ledger) events given released left (model.keeps_model after) before after)) (crash : (before : D) → left.disk ≡ Some before → Crashes model before cut) where
  here : ledger.disk ≡ Some disk
  here = ap (λ (l : LedgerState D). l.disk) is

  same_here : option_map model.keeps_model left.disk ≡ Some (model.keeps_model disk)
  same_here = same ∙ ap (option_map model.keeps_model) here

  pub cut_keeps : model.keeps_model cut ≡ model.keeps_model disk
  cut_keeps = of left.disk refl
    where
      of : (o : Option D) → left.disk ≡ o → model.keeps_model cut ≡ model.keeps_model disk
      of None none = let no : option_map model.keeps_model None ≡ Some (model.keeps_model disk) = subst (λ p. option_map model.keeps_model p ≡ Some (model.keeps_model disk)) none same_here in cc
      of (Some after) there =
          let keeps : Some (model.keeps_model after) ≡ Some (model.keeps_model disk) = subst (λ p. option_map model.keeps_model p ≡ Some (model.keeps_model disk)) there same_here in
          let one : model.keeps_model after ≡ model.keeps_model disk = cc keeps in
          (crash after there).model ∙ one

  pub served_and_cut : model.keeps_model disk ≡ true → IsSound w → AllByRecursion EventInRange events → ServesOnce w events given released (model.present cut).read × (model.present cut ≡ whole (model.present cut).read)
  served_and_cut k sound named = of left.disk refl
    where
      of : (o : Option D) → left.disk ≡ o → ServesOnce w events given released (model.present cut).read × (model.present cut ≡ whole (model.present cut).read)
      of None none = let no : option_map model.keeps_model None ≡ Some (model.keeps_model disk) = subst (λ p. option_map model.keeps_model p ≡ Some (model.keeps_model disk)) none same_here in absurd cc
      of (Some after) there =
          let keeps : Some (model.keeps_model after) ≡ Some (model.keeps_model disk) = subst (λ p. option_map model.keeps_model p ≡ Some (model.keeps_model disk)) there same_here in
          let one : model.keeps_model after ≡ model.keeps_model disk = cc keeps in
          let crashed = crash after there in
          let done = ran disk after here there (inl k) in
          let completed : Completed model crashes (adopted w) events given released left (model.keeps_model after) disk after = subst (λ l. Completed model crashes (started l) events given released left (model.keeps_model after) disk after) is done in
          (served model crashes w events given released left (model.keeps_model after) disk after (model.present cut).read sound named completed (one ∙ k) (crashed.image (one ∙ k)), crashed.synced (one ∙ k))

-- a start for that task
pub starts_serving : (w v : World) (task : Task) (events : Vec Event Global) (items : List Event) (trace : Trace) (bytes : List ℕ) → v ≡ w → task ≡ Serve events → items ≡ events.items → ServesOnce v items trace.answers.items trace.released.items bytes → StartsOnce w task (Served trace) bytes
starts_serving w v task events items trace bytes same is listed once =
    let at : ServesOnce w events.items trace.answers.items trace.released.items bytes = subst (λ x. ServesOnce x events.items trace.answers.items trace.released.items bytes) same (subst (λ l. ServesOnce v l trace.answers.items trace.released.items bytes) listed once) in
    subst (λ t. StartsOnce w t (Served trace) bytes) (sym is) (record { start = Serves events.items trace.answers.items at.kept; is_of = (at.kept, refl, at.all); may = at.may; left = at.left })

-- a run ends early for lack of memory, or since the device fails
pub passing_kind : (keeps : Bool) (events : List Event) (at : ℕ) (released : List Release) (why : RunFaultKind) → HasCauseToEnd keeps events at released why → keeps ≡ true → IsPassing (reported_as why)
passing_kind keeps events at released kind.OutOfMemory cause k = inl refl
passing_kind keeps events at released (kind.Store fault) cause k = cause.2 k

-- ---- a start that raises

idle_may : (w : World) → IsStart w idle_start
idle_may w = record { named = tt; answered = tt; kept = inl refl }

second : (w : World) → w.version ≡ 2 → risen w ≡ w
second w two = ap (λ v. cond (eqb v 1) (raised w) w) two

first : (w : World) → w.version ≡ 1 → risen w ≡ raised w
first w one = ap (λ v. cond (eqb v 1) (raised w) w) one

pub raised_once : (w : World) (bytes : List ℕ) → (w.version ≡ 2) ⊎ IsQuiet w → Recovered bytes (risen w) → StartsOnce w Migrate Raised bytes
raised_once w bytes (inl two) gives = record { start = idle_start; is_of = inr (refl, two); may = idle_may w; left = subst (Recovered bytes) (second w two) gives }
raised_once w bytes (inr quiet) gives = record { start = Raises; is_of = inl refl; may = (quiet.first, quiet.ready); left = subst (Recovered bytes) (first w quiet.first) gives }

pub not_raised : (w : World) (bytes : List ℕ) (fault : StoreFault) → RefusesMigration w fault → Recovered bytes w → StartsOnce w Migrate (Refused fault) bytes
not_raised w bytes fault refuses gives = record { start = idle_start; is_of = (refuses, inl refl); may = idle_may w; left = gives }

pub raised_or_not : (w : World) (bytes : List ℕ) → RefusesMigration w Device → Recovered bytes w ⊎ Recovered bytes (risen w) → StartsOnce w Migrate (Refused Device) bytes
raised_or_not w bytes quiet (inl gives) = not_raised w bytes Device quiet gives
raised_or_not w bytes quiet (inr gives) = record { start = Raises; is_of = (quiet, inr (refl, refl)); may = (quiet.first, quiet.ready); left = subst (Recovered bytes) (first w quiet.first) gives }

-- a store without a torn commit gives its world alone
raised_gives : {D : Type 0} (new : Kept D) (v : World) (bytes : List ℕ) → new.world ≡ v → new.torn ≡ None → GivesKept new bytes → Recovered bytes v
raised_gives new v bytes world none (inl gives) = subst (Recovered bytes) world gives
raised_gives new v bytes world none (inr torn) = let no : None ≡ Some torn.0 = sym none ∙ torn.1 in absurd cc

pub migrated : {D : Type 0} (w : World) (new : Kept D) (bytes : List ℕ) → new.world ≡ risen w → new.torn ≡ None → (w.version ≡ 2) ⊎ IsQuiet w → GivesKept new bytes → StartsOnce w Migrate Raised bytes
migrated w new bytes world none quiet gives = raised_once w bytes quiet (raised_gives new (risen w) bytes world none gives)

torn_gives : {D : Type 0} (new : Kept D) (w v : World) (bytes : List ℕ) → new.world ≡ w → new.torn ≡ Some v → GivesKept new bytes → Recovered bytes w ⊎ Recovered bytes v
torn_gives new w v bytes world torn (inl gives) = inl (subst (Recovered bytes) world gives)
torn_gives new w v bytes world torn (inr other) = let same : Some other.0 ≡ Some v = sym other.1 ∙ torn in let is : other.0 ≡ v = cc same in inr (subst (Recovered bytes) is other.2)

pub not_migrated : {D : Type 0} (w : World) (old new : Kept D) (bytes : List ℕ) (fault : StoreFault) → old.world ≡ w → old.torn ≡ None → RefusesMigration w fault → (fault ≢ Device → new ≡ old) → (fault ≡ Device → (new.world ≡ w) × (new.torn ≡ Some (risen w))) → GivesKept new bytes → StartsOnce w Migrate (Refused fault) bytes
not_migrated {D} w old new bytes fault world none refuses same torn gives = of fault refl refuses
  where
    kept : fault ≢ Device → Recovered bytes w
    kept other = raised_gives new w bytes (ap (λ (k : Kept D). k.world) (same other) ∙ world) (ap (λ (k : Kept D). k.torn) (same other) ∙ none) gives

    of : (f : StoreFault) → fault ≡ f → RefusesMigration w f → StartsOnce w Migrate (Refused f) bytes
    of Device is refuses = let both = torn is in raised_or_not w bytes refuses (torn_gives new w (risen w) bytes both.0 both.1 gives)
    of OutOfMemory is refuses = not_raised w bytes OutOfMemory refuses (kept (λ device. cc))
    of (NotQuiet u) is refuses = not_raised w bytes (NotQuiet u) refuses (kept (λ device. cc))
    of Stopped is refuses = not_raised w bytes Stopped refuses (kept (λ device. cc))
    of NotEmpty is refuses = absurd refuses
    of HalfSize is refuses = absurd refuses
    of NoMagic is refuses = absurd refuses
    of BadRecord is refuses = absurd refuses
    of BadSnapshot is refuses = absurd refuses
    of BadBatch is refuses = absurd refuses
    of (BadStep batch index) is refuses = absurd refuses
    of (Violated violation) is refuses = absurd refuses

-- ---- one start more

left_on : (starts : List Start) (w : World) (s : Start) → left_by w (starts ++ s ∷ []) ≡ led (left_by w starts) (turns_in (left_by w starts) s)
left_on [] w s = refl
left_on (x ∷ starts) w s = left_on starts (led w (turns_in w x)) s

are_on : (starts : List Start) (w : World) (s : Start) → AreStarts w starts → IsStart (left_by w starts) s → AreStarts w (starts ++ s ∷ [])
are_on [] w s are is = (is, tt)
are_on (x ∷ starts) w s are is = (are.0, are_on starts (led w (turns_in w x)) s are.1 is)

of_on : (tasks : List Task) (outcomes : List Outcome) (starts : List Start) (w : World) (t : Task) (o : Outcome) (s : Start) → AreOf w tasks outcomes starts → IsOf (left_by w starts) t o s → AreOf w (tasks ++ t ∷ []) (outcomes ++ o ∷ []) (starts ++ s ∷ [])
of_on [] [] [] w t o s are is = (is, tt)
of_on [] [] (x ∷ starts) w t o s are is = absurd are
of_on [] (p ∷ outcomes) [] w t o s are is = absurd are
of_on [] (p ∷ outcomes) (x ∷ starts) w t o s are is = absurd are
of_on (u ∷ tasks) [] [] w t o s are is = absurd are
of_on (u ∷ tasks) [] (x ∷ starts) w t o s are is = absurd are
of_on (u ∷ tasks) (p ∷ outcomes) [] w t o s are is = absurd are
of_on (u ∷ tasks) (p ∷ outcomes) (x ∷ starts) w t o s are is = (are.0, of_on tasks outcomes starts (led w (turns_in w x)) t o s are.1 is)

pub run_on : (version : ℕ) (tasks : List Task) (outcomes : List Outcome) (bytes next : List ℕ) (t : Task) (o : Outcome) (run : HasRun version tasks outcomes bytes) → StartsOnce (left_by (no_world version) run.starts) t o next → HasRun version (tasks ++ t ∷ []) (outcomes ++ o ∷ []) next
run_on version tasks outcomes bytes next t o run once =
    let w = no_world version in
    record {
      starts = run.starts ++ once.start ∷ [];
      are_of = of_on tasks outcomes run.starts w t o once.start run.are_of once.is_of;
      may = are_on run.starts w once.start run.may once.may;
      left = subst (Recovered next) (sym (left_on run.starts w once.start)) once.left;
    }
