-- What a crash may have left since an engine was made.
use Rattle.std.proofs.Common.{◌≡◌, ◌≤◌, inl, inr, ⊎_elim, ℕ, ◌+◌, true, List, ◌++◌, Option, Some, None, Result, Ok, Err, length, take, drop, refl, sym, ap, subst, ◌∙◌, arith, IfSome, length-append, le_refl, IfOk, IsSomeAnd, is_some, ◌||◌, false, true≢false, Bool}
use Rattle.std.proofs.Math.Seq.{take-add, take-append_seam, take-length}
use Rattle.std.proofs.lemmas.List.{length-take-le, take-append-drop, take-append-le, take-take}
use Rattle.coord_disk.specs.Model.DiskModel.{DiskModel, IsModel}
use Rattle.coord_disk.specs.Model.Moments.{LeavesOnly}
use Rattle.coord_disk.specs.Model.Present.{IsImage}
use Rattle.coord_types.specs.declared.steps.Step.{Step}
use Rattle.coord_world.proofs.Facade.{fold-append}
use Rattle.coord_world.specs.laws.Trails.{IsTrail}
use Rattle.coord_world.specs.Facade.{World, fold}
use Rattle.coord_store.specs.Facade.{GivesEither, IsOnlyWorld, Recovered}
use Rattle.coord_store.specs.declared.faults.CommitFault.{CommitFault}
use Rattle.coord_store.specs.declared.faults.CommitFault.TheVariants.{Again, Device, Full, OutOfMemory, Stopped}
use Rattle.coord_ledger.specs.declared.mark.Mark.{Mark}
use Rattle.coord_ledger.specs.declared.mark.Mark.TheVariants.{New, Good, Torn}
use Rattle.coord_ledger.specs.Facade.{FlightState, GivesSettled, IsOut, LedgerGives, LedgerState, Log, keeps_store, log_back, next_flight, pending, settled_steps, taken_back, with_store_out}
use Rattle.coord_engine.proofs.Histories.{all_of, first_of_first}
use Rattle.coord_engine.specs.Facade.{CommitsFlight, FliesFrom, HasLeft, IsAfterSome, IsPastOf, LeavesFlown, Past, StartsWith, StaysAlong, flown_steps, last_steps, past_in}
use Rattle.coord_engine.specs.Past.{AfterSomeIsOnTheWay}

-- ---- moments

module _ {D : Type 0} (m : DiskModel D) where
  -- at first
  pub at_first : IsModel m → (first : Past) (disk : D) (P : List ℕ → Type 0) → IsPastOf m first disk → m.keeps_model disk ≡ true → ((c : List ℕ) → IsImage (m.present disk) c → P c) → HasLeft m first disk P
  at_first laws first disk P past keeps here = record {
    later = omega (arith, past.clock);
    each = λ c left. here c (laws.only_now disk c keeps (subst (λ t. m.left_since disk t c) past.clock left));
    before = λ t c le left. inl (past.left t c left);
  }

  -- a disk has the past that it has
  pub of_itself : (disk : Option D) → IfSome disk (IsPastOf m (past_in m disk))
  of_itself None = tt
  of_itself (Some d) = record { model = refl; clock = refl; left = λ t c left. left; no_more = λ t c left. left }

  -- what was left since it was so, was left since then
  pub left_only : (first : Past) (disk now : D) (P : List ℕ → Type 0) → IsPastOf m first disk → HasLeft m first now P → LeavesOnly m disk now P
  left_only first disk now P past left = record {
    later = omega (arith, past.clock, left.later);
    each = λ c is. left.each c (subst (λ t. m.left_since now t c) (sym past.clock) is);
    before = λ t c le is. ⊎_elim (λ early. inl (past.no_more t c early)) (λ late. inr late) (left.before t c (omega (arith, past.clock, le)) is);
  }

  -- what left since then, left after one run of calls more
  pub and_on : (first : Past) (mid new : D) (P Q R : List ℕ → Type 0) → HasLeft m first mid P → LeavesOnly m mid new Q → ((c : List ℕ) → P c → R c) → ((c : List ℕ) → Q c → R c) → HasLeft m first new R
  and_on first mid new P Q R so_far run early late = grind arith

  -- what has P has Q
  pub weaker_left : (first : Past) (now : D) (P Q : List ℕ → Type 0) → HasLeft m first now P → ((c : List ℕ) → P c → Q c) → HasLeft m first now Q
  weaker_left first now P Q left implies = grind arith

-- ---- after the first of some steps

pub after_all : (base : World) (steps : List Step) (bytes : List ℕ) → Recovered bytes (fold base steps) → IsAfterSome base steps bytes
after_all base steps bytes gives = record { number = length steps; within = le_refl (length steps); recovered = subst (λ l. Recovered bytes (fold base l)) (sym (take-length steps)) gives }

-- after some of these, and so of these and more
pub of_more : (base : World) (steps more : List Step) (bytes : List ℕ) → IsAfterSome base steps bytes → IsAfterSome base (steps ++ more) bytes
of_more base steps more bytes after = record {
  number = after.number;
  within = omega (arith, after.within, length-append steps more);
  recovered = subst (λ l. Recovered bytes (fold base l)) (sym (take-append-le after.number steps more after.within)) after.recovered;
}

of_whole : (base : World) (n : ℕ) (steps : List Step) (bytes : List ℕ) → IsAfterSome base (take n steps) bytes → IsAfterSome base steps bytes
of_whole base n steps bytes after = subst (λ l. IsAfterSome base l bytes) (take-append-drop n steps) (of_more base (take n steps) (drop n steps) bytes after)

pub after_some_is_on_the_way : AfterSomeIsOnTheWay
after_some_is_on_the_way base steps bytes trail after =
    let whole = take-append-drop after.number steps in
    record { steps = take after.number steps; others = drop after.number steps; trail = subst (IsTrail base) (sym whole) trail; leads = ap (fold base) whole; recovered = after.recovered }

-- ---- logs

-- what the disk of a ledger gives is the world after the first of the steps that may be on it
settled_along : (log : Log) (doubt : Option ℕ) (bytes : List ℕ) → GivesSettled log doubt bytes → IsAfterSome log.base (last_steps log doubt) bytes
settled_along log None bytes gives = after_all log.base (settled_steps log) bytes gives
settled_along log (Some b) bytes (inl gives) =
    subst (λ l. IsAfterSome log.base l bytes) (sym (take-add log.settled b log.trail)) (of_more log.base (settled_steps log) (take b (drop log.settled log.trail)) bytes (after_all log.base (settled_steps log) bytes gives))
settled_along log (Some b) bytes (inr gives) = after_all log.base (take (log.settled + b) log.trail) bytes gives

last_to_all : (log : Log) (doubt : Option ℕ) (bytes : List ℕ) → IsAfterSome log.base (last_steps log doubt) bytes → IsAfterSome log.base log.trail bytes
last_to_all log None bytes after = of_whole log.base log.settled log.trail bytes after
last_to_all log (Some b) bytes after = of_whole log.base (log.settled + b) log.trail bytes after

-- the steps that may be on the disk of a ledger whose flight is back
last_back : (log : Log) (settled steps : List Step) (mark : Mark) → log.doubt ≡ None → settled ≡ settled_steps log → steps ≡ take (length steps) (pending log) → last_steps (log_back log (length steps) mark) (log_back log (length steps) mark).doubt ≡ flown_steps mark settled steps
last_back log settled steps New going same next = rw going (sym same)
last_back log settled steps Good going same next = rw going (rw same (take-add log.settled (length steps) log.trail ∙ ap (λ l. settled_steps log ++ l) (sym next)))
last_back log settled steps Torn going same next = rw same (take-add log.settled (length steps) log.trail ∙ ap (λ l. settled_steps log ++ l) (sym next))

-- the settled steps only grow
settled_grow : (log : Log) (n : ℕ) (mark : Mark) → StartsWith (settled_steps (log_back log n mark)) (settled_steps log)
settled_grow log n New = all_of (settled_steps log)
settled_grow log n Good = (take n (drop log.settled log.trail), take-add log.settled n log.trail)
settled_grow log n Torn = all_of (settled_steps log)

-- a beginning is known by its length
by_length : (steps first : List Step) → StartsWith steps first → take (length first) steps ≡ first
by_length steps first starts = ap (take (length first)) starts.1 ∙ take-append_seam first starts.0

-- ---- disks

module _ {D : Type 0} (m : DiskModel D) where
  -- an engine that is just made
  made : IsModel m → (first : Past) (log : Log) (doubt : Option ℕ) (disk : D) → IsPastOf m first disk → (m.keeps_model disk ≡ true → (image : List ℕ) → IsImage (m.present disk) image → GivesSettled log doubt image) → StaysAlong m first log.base (last_steps log doubt) disk
  made laws first log doubt disk past gives = record {
    same_model = sym past.model;
    moments = λ keeps. at_first m laws first disk (IsAfterSome log.base (last_steps log doubt)) past (sym past.model ∙ keeps) (λ c image. settled_along log doubt c (gives (sym past.model ∙ keeps) c image));
  }

  made_in : IsModel m → (first : Past) (l : LedgerState D) (disk : Option D) → IfSome disk (IsPastOf m first) → IfSome disk (λ d. m.keeps_model d ≡ true → LedgerGives m.present l d) → IfSome disk (StaysAlong m first l.log.base (last_steps l.log l.log.doubt))
  made_in laws first l None past gives = tt
  made_in laws first l (Some d) past gives = made laws first l.log l.log.doubt d past gives

  pub made_over : IsModel m → (first : Past) (base : World) (l : LedgerState D) → IfSome l.disk (IsPastOf m first) → l.log.base ≡ base → IfSome l.disk (λ d. m.keeps_model d ≡ true → LedgerGives m.present l d) → IfSome l.disk (StaysAlong m first base (last_steps l.log l.log.doubt))
  made_over laws first base l past at gives = subst (λ w. IfSome l.disk (StaysAlong m first w (last_steps l.log l.log.doubt))) at (made_in laws first l l.disk past gives)

  -- what stays along some steps stays along more
  along_more : (first : Past) (base : World) (steps more : List Step) (disk : D) → ((bytes : List ℕ) → IsAfterSome base steps bytes → IsAfterSome base more bytes) → StaysAlong m first base steps disk → StaysAlong m first base more disk
  along_more first base steps more disk on stays = record { same_model = stays.same_model; moments = λ keeps. weaker_left m first disk _ _ (stays.moments keeps) on }

  -- ---- flights

  -- a flight that left after these settled steps, with its own
  module _ (first : Past) (base : World) (settled steps : List Step) where
    abbrev left_from : World
    left_from = fold base settled

    onward : (bytes : List ℕ) → IsAfterSome base settled bytes → IsAfterSome base (settled ++ steps) bytes
    onward bytes after = of_more base settled steps bytes after

    here : (bytes : List ℕ) → Recovered bytes left_from → IsAfterSome base settled bytes
    here bytes gives = after_all base settled bytes gives

    either : (bytes : List ℕ) → GivesEither left_from (fold left_from steps) bytes → IsAfterSome base (settled ++ steps) bytes
    either bytes (inl gives) = onward bytes (here bytes gives)
    either bytes (inr gives) = after_all base (settled ++ steps) bytes (subst (Recovered bytes) (sym (fold-append settled steps base)) gives)

    -- it has written its steps
    flown : (left now : D) → m.keeps_model now ≡ m.keeps_model left → (m.keeps_model left ≡ true → LeavesOnly m left now (GivesEither left_from (fold left_from steps))) → StaysAlong m first base settled left → StaysAlong m first base (settled ++ steps) now
    flown left now same run stays = record {
      same_model = same ∙ stays.same_model;
      moments = λ keeps. and_on m first left now _ _ _ (stays.moments keeps) (run (stays.same_model ∙ keeps)) onward either;
    }

    -- it has written nothing of them
    unflown : (left now : D) → m.keeps_model now ≡ m.keeps_model left → (m.keeps_model left ≡ true → LeavesOnly m left now (IsOnlyWorld left_from)) → StaysAlong m first base settled left → StaysAlong m first base settled now
    unflown left now same run stays = record {
      same_model = same ∙ stays.same_model;
      moments = λ keeps. and_on m first left now _ _ _ (stays.moments keeps) (run (stays.same_model ∙ keeps)) (λ bytes after. after) here;
    }

  flies_along : (first : Past) (base : World) (settled : List Step) (left now : FlightState D) → left.world ≡ fold base settled → StaysAlong m first base settled left.disk
      → (answer : Result (Unit {0}) CommitFault) → CommitsFlight m.failures left answer now → LeavesFlown m left now answer → StaysAlong m first base (flown_steps now.mark settled now.steps) now.disk
  flies_along first base settled left now from stays (Ok done) tried run =
      rw tried.mark_is (rw tried.same_steps (flown first base settled left.steps left.disk now.disk run.same_model (subst (λ v. m.keeps_model left.disk ≡ true → LeavesOnly m left.disk now.disk (GivesEither v (fold v left.steps))) from run.moments) stays))
  flies_along first base settled left now from stays (Err Device) tried run =
      rw tried.mark_is (rw tried.same_steps (flown first base settled left.steps left.disk now.disk run.same_model (subst (λ v. m.keeps_model left.disk ≡ true → LeavesOnly m left.disk now.disk (GivesEither v (fold v left.steps))) from run.moments) stays))
  flies_along first base settled left now from stays (Err OutOfMemory) tried run =
      rw tried.mark_is (unflown first base settled left.steps left.disk now.disk run.same_model (subst (λ v. m.keeps_model left.disk ≡ true → LeavesOnly m left.disk now.disk (IsOnlyWorld v)) from (λ keeps. run.unwritten keeps refl)) stays)
  flies_along first base settled left now from stays (Err Full) tried run = absurd tried
  flies_along first base settled left now from stays (Err Stopped) tried run = absurd tried
  flies_along first base settled left now from stays (Err Again) tried run = absurd tried

  same_flight : (answer : Result (Unit {0}) CommitFault) (left now : FlightState D) → CommitsFlight m.failures left answer now → (now.steps ≡ left.steps) × (now.world ≡ left.world)
  same_flight (Ok done) left now tried = (tried.same_steps, tried.same_world)
  same_flight (Err Device) left now tried = (tried.same_steps, tried.same_world)
  same_flight (Err OutOfMemory) left now tried = (tried.same_steps, tried.same_world)
  same_flight (Err Full) left now tried = absurd tried
  same_flight (Err Stopped) left now tried = absurd tried
  same_flight (Err Again) left now tried = absurd tried

  -- a flight was committed, if it was new; any other is as it was
  pub committed : (first : Past) (base : World) (settled : List Step) (left now : FlightState D) (answer : Result (Unit {0}) CommitFault) → FliesFrom m first base settled left → now.first ≡ left.first
      → (left.mark ≡ New → CommitsFlight m.failures left answer now) → (left.mark ≡ New → LeavesFlown m left now answer) → (left.mark ≡ Good → now ≡ left) → (left.mark ≡ Torn → now ≡ left) → FliesFrom m first base settled now
  committed first base settled left now answer flies number tried run again stopped = by left.mark refl
    where
      by : (mark : Mark) → left.mark ≡ mark → FliesFrom m first base settled now
      by New is = record {
        number = number ∙ flies.number;
        world = (same_flight answer left now (tried is)).1 ∙ flies.world;
        along = flies_along first base settled left now flies.world (subst (λ k. StaysAlong m first base (flown_steps k settled left.steps) left.disk) is flies.along) answer (tried is) (run is);
      }
      by Good is = subst (FliesFrom m first base settled) (sym (again is)) flies
      by Torn is = subst (FliesFrom m first base settled) (sym (stopped is)) flies

  -- ---- the value under the lock

  going_of : (doubt out : Option ℕ) (n : ℕ) → IfSome doubt (λ _. out ≡ None) → out ≡ Some n → doubt ≡ None
  going_of None out n home is = refl
  going_of (Some b) out n home is = absurd cc

  back_trail : (log : Log) (n : ℕ) (mark : Mark) → (log_back log n mark).trail ≡ log.trail
  back_trail log n New = refl
  back_trail log n Good = refl
  back_trail log n Torn = refl

  back_base : (log : Log) (n : ℕ) (mark : Mark) → (log_back log n mark).base ≡ log.base
  back_base log n New = refl
  back_base log n Good = refl
  back_base log n Torn = refl

  pub at_home : (doubt out : Option ℕ) → out ≡ None → IfSome doubt (λ _. out ≡ None)
  at_home None out home = tt
  at_home (Some b) out home = home

  not_stopped : (doubt : Option ℕ) (is_out is_idle : Bool) → is_some doubt || is_out || is_idle ≡ false → doubt ≡ None
  not_stopped None is_out is_idle none = refl
  not_stopped (Some b) is_out is_idle none = absurd (true≢false none)

  -- what is so of a ledger whose next flight has left
  pub record HasLeftFrom (l later : LedgerState D) (f : FlightState D) : Type 0 where
    pub going : l.log.doubt ≡ None
    pub is_next : f ≡ next_flight l.log f.disk
    pub disk : l.disk ≡ Some f.disk
    pub home : IfSome later.log.doubt (λ _. later.out ≡ None)
    pub gone : later.disk ≡ None

  pub has_left : {E : Type 0} (l later : LedgerState D) (f : FlightState D) (r : Result (Option (FlightState D)) E) → r ≡ Ok (Some f) → (keeps_store l ≡ true → (r ≡ Ok None) × (later ≡ l))
      → (keeps_store l ≡ false → IfOk r (λ begun. IsSomeAnd begun (λ flight. (flight ≡ next_flight l.log flight.disk) × (l.disk ≡ Some flight.disk) × (later ≡ with_store_out l (length flight.steps))))) → HasLeftFrom l later f
  has_left {E} l later f r is nothing begun = by (keeps_store l) refl
    where
      by : (kept : Bool) → keeps_store l ≡ kept → HasLeftFrom l later f
      by true at = let none = sym is ∙ (nothing at).0 in absurd cc
      by false at =
          let so = subst (λ x. IfOk x (λ begun. IsSomeAnd begun (λ flight. (flight ≡ next_flight l.log flight.disk) × (l.disk ≡ Some flight.disk) × (later ≡ with_store_out l (length flight.steps))))) is (begun at) in
          let going : l.log.doubt ≡ None = not_stopped l.log.doubt _ _ at in
          record {
            going = going;
            is_next = so.0;
            disk = so.1;
            home = subst (λ (x : LedgerState D). IfSome x.log.doubt (λ _. x.out ≡ None)) (sym so.2) (subst (λ o. IfSome o (λ _. Some (length f.steps) ≡ None)) (sym going) tt);
            gone = ap (λ (x : LedgerState D). x.disk) so.2;
          }

  -- a flight leaves after the settled steps
  pub leaves_from : (first : Past) (base : World) (l later : LedgerState D) (f : FlightState D) → HasLeftFrom l later f → l.log.base ≡ base → l.log.settled ≤ length l.log.trail → IfSome l.disk (StaysAlong m first base (last_steps l.log l.log.doubt)) → FliesFrom m first base (settled_steps l.log) f
  leaves_from first base l later f is same within stays =
      let at : StaysAlong m first base (last_steps l.log l.log.doubt) f.disk = subst (λ o. IfSome o (StaysAlong m first base (last_steps l.log l.log.doubt))) is.disk stays in
      let here : StaysAlong m first base (settled_steps l.log) f.disk = subst (λ o. StaysAlong m first base (last_steps l.log o) f.disk) is.going at in
      subst (FliesFrom m first base (settled_steps l.log)) (sym is.is_next) (record {
        number = omega (arith, ap (λ (w : World). w.count) same, length-take-le l.log.settled l.log.trail within);
        world = ap (λ (w : World). fold w (settled_steps l.log)) same;
        along = here;
      })

  -- a flight that comes back left after the steps that are settled still
  pub is_after : (first : Past) (base : World) (l : LedgerState D) (f : FlightState D) (written read : List Step) → l.log.base ≡ base → IsOut l f → FliesFrom m first base read f → StartsWith (settled_steps l.log) written → StartsWith written read → read ≡ settled_steps l.log
  is_after first base l f written read same own flies grown begins =
      let starts : StartsWith (settled_steps l.log) read = first_of_first read written (settled_steps l.log) begins grown in
      let count : length read ≡ l.log.settled = omega (arith, flies.number, own.first, ap (λ (w : World). w.count) same) in
      sym (by_length (settled_steps l.log) read starts) ∙ ap (λ n. take n (settled_steps l.log)) count ∙ take-take l.log.settled l.log.settled l.log.trail (le_refl l.log.settled)

  -- what is so of a ledger after the coming of a flight
  pub record HasEnded (first : Past) (base : World) (l later : LedgerState D) (written : List Step) : Type 0 where
    pub trail : later.log.trail ≡ l.log.trail
    pub base_is : later.log.base ≡ l.log.base
    pub home : IfSome later.log.doubt (λ _. later.out ≡ None)
    pub along : IfSome later.disk (StaysAlong m first base (last_steps later.log later.log.doubt))
    pub grown : StartsWith (settled_steps later.log) written

  pub ended : (first : Past) (base : World) (l later : LedgerState D) (f : FlightState D) (written read : List Step) → l.log.base ≡ base → IfSome l.log.doubt (λ _. l.out ≡ None) → FliesFrom m first base read f → StartsWith (settled_steps l.log) written → StartsWith written read
      → IsOut l f → later ≡ taken_back l (length f.steps) f.mark f.disk → HasEnded first base l later written
  ended first base l later f written read same home flies grown begins own taken =
      let n = length f.steps in
      let following = is_after first base l f written read same own flies grown begins in
      subst (λ x. HasEnded first base l x written) (sym taken) (record {
        trail = back_trail l.log n f.mark;
        base_is = back_base l.log n f.mark;
        home = at_home (log_back l.log n f.mark).doubt None refl;
        along = subst (λ steps. StaysAlong m first base steps f.disk) (sym (last_back l.log read f.steps f.mark (going_of l.log.doubt l.out n home own.size) following own.steps)) flies.along;
        grown = first_of_first written (settled_steps l.log) (settled_steps (log_back l.log n f.mark)) grown (settled_grow l.log n f.mark);
      })

  -- what is left of an engine
  pub closed_along : (first : Past) (base : World) (trail : List Step) (l : LedgerState D) (disk : D) → l.disk ≡ Some disk → trail ≡ l.log.trail → l.log.base ≡ base → IfSome l.disk (StaysAlong m first base (last_steps l.log l.log.doubt)) → StaysAlong m first base trail disk
  closed_along first base trail l disk at steps same stays =
      let here : StaysAlong m first base (last_steps l.log l.log.doubt) disk = subst (λ o. IfSome o (StaysAlong m first base (last_steps l.log l.log.doubt))) at stays in
      rw steps (along_more first base (last_steps l.log l.log.doubt) l.log.trail disk (λ bytes after. subst (λ w. IsAfterSome w l.log.trail bytes) same (last_to_all l.log l.log.doubt bytes (subst (λ w. IsAfterSome w (last_steps l.log l.log.doubt) bytes) (sym same) after))) here)
