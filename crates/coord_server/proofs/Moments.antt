-- Moments of one instance after the other.
use Rattle.std.proofs.Common.{◌≡◌, ◌⊎◌, inl, inr, ⊎_elim, true, false, ℕ, List, [], ◌∷◌, ◌++◌, ◌+◌, ◌-◌, ◌≤◌, length, take, Option, Some, IfSome, sym, ap, subst, ◌∙◌, append-nil, length-append, arith}
use Rattle.std.proofs.Math.Seq.{take-append-add, take-length}
use Rattle.atomic_table.specs.Seated.{TableId}
use Rattle.std.proofs.lemmas.Grind.{flat_map-append}
use Rattle.coord_disk.proofs.MomentLemmas.{and_then, weaker}
use Rattle.coord_disk.specs.Model.DiskModel.{DiskModel}
use Rattle.coord_disk.specs.Model.Moments.{LeavesOnly}
use Rattle.coord_types.specs.declared.steps.Step.{Step}
use Rattle.coord_store.specs.Facade.{Recovered}
use Rattle.coord_store.specs.Kept.{Kept, has_stopped}
use Rattle.coord_world.specs.laws.Trails.{IsTrail}
use Rattle.coord_world.specs.Facade.{World, fold}
use Rattle.coord_world.proofs.Facade.{fold-append, fold_counts}
use Rattle.coord_admin.specs.Connections.{Talk}
use Rattle.coord_engine.proofs.OnTheWay.{joined}
use Rattle.coord_engine.proofs.Past.{left_only, of_more}
use Rattle.coord_engine.specs.Facade.{Beginning, IsAfterSome, IsPastOf, MayPrint, Past, StartsWith, StaysAlong, first_settled}
use Rattle.coord_engine.specs.State.{based_on}
use Rattle.coord_engine.specs.declared.closed.Closed.{Closed}
use Rattle.coord_server.proofs.Ends.{and_last, is_last, one_more, rested_history, rests, run_of}
use Rattle.coord_server.proofs.OneHistory.{SaysWhatIsLeft, after_rested, is_left, leaves_all, left_of, says_what_is_left}
use Rattle.coord_server.proofs.Starts.{on_more, printed_more}
use Rattle.coord_server.specs.EngineDesk.{DeskState}
use Rattle.coord_server.specs.Ending.{IsInstance, IsOneHistory, end_fault}
use Rattle.coord_server.specs.Instances.{AreOneHistory, HaveRested, IsLastInstance, HasFaultForCause, InstanceRun, all_steps}
use Rattle.coord_server.specs.Moments.{HasLived, KeepsAlong}
use Rattle.coord_server.specs.Printed.{IsPrinted, PrinterState}
use Rattle.coord_server.specs.ServerRun.{ServerRun}
use Rattle.coord_server.specs.declared.instance.Instance.{Instance}
use Rattle.coord_server.specs.declared.instance_end.InstanceEnd.TheVariants.{Resting}
use Rattle.coord_server.specs.declared.server_end.ServerEnd.{ServerEnd}

-- after some steps after others
following : (base : World) (steps more : List Step) (bytes : List ℕ) → IsAfterSome (fold base steps) more bytes → IsAfterSome base (steps ++ more) bytes
following base steps more bytes after = record {
  number = length steps + after.number;
  within = omega (arith, after.within, length-append steps more);
  recovered = subst (Recovered bytes) (sym (ap (fold base) (take-append-add steps more after.number) ∙ fold-append steps (take after.number more) base)) after.recovered;
}

-- the steps of some instances and of one more
and_steps : {D V : Type 0} (instances : List (InstanceRun D V)) (l : InstanceRun D V) → all_steps (instances ++ l ∷ []) ≡ all_steps instances ++ l.left.trail.items
and_steps {D} {V} instances l = flat_map-append (λ (x : InstanceRun D V). x.left.trail.items) instances (l ∷ []) ∙ ap (λ (s : List Step). all_steps instances ++ s) (append-nil l.left.trail.items)

-- these steps lead from the one store to the other, and a crash meanwhile left only worlds after the first of them
pub record HasComeTo {D : Type 0} (m : DiskModel D) (first : Kept D) (steps : List Step) (now : Kept D) : Type 0 where
  pub trail : IsTrail first.world steps
  pub leads : fold first.world steps ≡ now.world
  pub along : KeepsAlong m first steps now

-- the store is still the first one, or these steps of instances have come from there to it
abbrev pub ComesFrom : {D : Type 0} → DiskModel D → Kept D → List Step → Kept D → Type 0
ComesFrom m first steps now = ((steps ≡ []) × (now ≡ first)) ⊎ HasComeTo m first steps now

-- some instances have rested, and come by their steps, which are written, from the first store to this one
abbrev pub RestedTo : {D : Type 0} (m : DiskModel D) {V : Type 0} (talked : V → List Talk → V → Type 0) (most : ℕ) → Kept D → V → Kept D → V → List Step → Type 0
RestedTo {D} m {V} talked most first v now w written =
    (instances : List (InstanceRun D V)) × HaveRested m talked most first.world v instances now.world w × ComesFrom m first (all_steps instances) now × (written ≡ all_steps instances)

module _ {D : Type 0} (m : DiskModel D) where
  -- of an engine that was made over the ledger of a store
  pub of_instance : (first : Past) (base : World) (disk : Option D) (store : Kept D) (left : Closed D) → IfSome disk (IsPastOf m first) → disk ≡ Some store.disk → base ≡ store.world → StaysAlong m first base left.trail.items left.store.disk → KeepsAlong m store left.trail.items left.store
  of_instance first base disk store left past at from stays =
      let was : IsPastOf m first store.disk = subst (λ o. IfSome o (IsPastOf m first)) at past in
      let here : StaysAlong m first store.world left.trail.items left.store.disk = subst (λ w. StaysAlong m first w left.trail.items left.store.disk) from stays in
      record { same_model = here.same_model ∙ was.model; moments = λ keeps. left_only m first store.disk left.store.disk (IsAfterSome store.world left.trail.items) was (here.moments (was.model ∙ keeps)) }

  joined_moments : (first now : Kept D) (new : D) (steps more : List Step) → HasComeTo m first steps now → LeavesOnly m now.disk new (IsAfterSome now.world more) → m.keeps_model first.disk ≡ true → LeavesOnly m first.disk new (IsAfterSome first.world (steps ++ more))
  joined_moments first now new steps more come run keeps =
      weaker m first.disk new _ _ (and_then m first.disk now.disk new _ _ (come.along.moments keeps) run)
      (λ bytes either. ⊎_elim
      (λ early. of_more first.world steps more bytes early)
      (λ late. following first.world steps more bytes (subst (λ w. IsAfterSome w more bytes) (sym come.leads) late))
      either)

  -- after the instances so far, one more
  pub after_instance : (first now : Kept D) (steps : List Step) (left : Closed D) → ComesFrom m first steps now → KeepsAlong m now left.trail.items left.store → KeepsAlong m first (steps ++ left.trail.items) left.store
  after_instance first now steps left (inl same) along = subst (λ l. KeepsAlong m first (l ++ left.trail.items) left.store) (sym same.0) (subst (λ k. KeepsAlong m k left.trail.items left.store) same.1 along)
  after_instance first now steps left (inr come) along = record {
    same_model = along.same_model ∙ come.along.same_model;
    moments = λ keeps. joined_moments first now left.store.disk steps left.trail.items come (along.moments (come.along.same_model ∙ keeps)) keeps;
  }

  -- an instance that rests: the next one begins where it ended
  pub next_from : (first now : Kept D) (steps : List Step) (left : Closed D) {P : Type 0} (desk : DeskState P) → ComesFrom m first steps now → IsOneHistory (based_on m now.world []) desk left → KeepsAlong m now left.trail.items left.store
      → left.settled ≡ left.base.count + length left.trail.items → ComesFrom m first (steps ++ left.trail.items) left.store
  next_from first now steps left desk come history along all =
      let t = says_what_is_left (based_on m now.world []) left (left_of (based_on m now.world []) desk left history) in
      let world : left.store.world ≡ fold now.world left.trail.items = leaves_all now.world left t all in
      let path = path_of come left.trail.items t.steps in
      inr (record { trail = path.0; leads = path.1 ∙ sym world; along = after_instance first now steps left come along })
    where
      path_of : ComesFrom m first steps now → (more : List Step) → IsTrail now.world more → IsTrail first.world (steps ++ more) × (fold first.world (steps ++ more) ≡ fold now.world more)
      path_of (inl is) more trail = (
        subst (λ l. IsTrail first.world (l ++ more)) (sym is.0) (subst (λ (k : Kept D). IsTrail k.world more) is.1 trail),
        ap (λ l. fold first.world (l ++ more)) is.0 ∙ ap (λ (k : Kept D). fold k.world more) (sym is.1),
      )
      path_of (inr come) more trail = (joined first.world steps more come.trail (subst (λ w. IsTrail w more) (sym come.leads) trail), fold-append steps more first.world ∙ ap (λ w. fold w more) come.leads)

  -- some steps lead there
  leads_of : (first now : Kept D) (steps : List Step) → ComesFrom m first steps now → fold first.world steps ≡ now.world
  leads_of first now steps (inl is) = ap (fold first.world) is.0 ∙ ap (λ (k : Kept D). k.world) (sym is.1)
  leads_of first now steps (inr come) = come.leads

  -- the settled steps of an instance after those before it
  pub settled_after : (first : World) (steps : List Step) (world : World) (left : Closed D) → fold first steps ≡ world → SaysWhatIsLeft world left → first_settled first (steps ++ left.trail.items) left.settled ≡ steps ++ first_settled left.base left.trail.items left.settled
  settled_after first steps world left leads t =
      let trail = left.trail.items in
      let count : world.count ≡ first.count + length steps = ap (λ (w : World). w.count) (sym leads) ∙ fold_counts first steps in
      let base : left.base.count ≡ world.count = ap (λ (w : World). w.count) t.from in
      let by : left.settled - first.count ≡ length steps + t.done = omega (arith, t.counted, count) in
      let own : t.done ≡ left.settled - left.base.count = omega (arith, t.counted, base) in
      ap (λ n. take n (steps ++ trail)) by ∙ take-append-add steps trail t.done ∙ ap (λ n. steps ++ take n trail) own

  -- of an instance of which all is settled
  pub all_of_settled : (left : Closed D) → left.settled ≡ left.base.count + length left.trail.items → first_settled left.base left.trail.items left.settled ≡ left.trail.items
  all_of_settled left all =
      let n : left.settled - left.base.count ≡ length left.trail.items = omega (arith, all) in
      ap (λ k. take k left.trail.items) n ∙ take-length left.trail.items

-- an instance may print signals by the history of the instances before it
pub may_print_on : {D : Type 0} (m : DiskModel D) (may : Beginning → ℕ → ℕ → ℕ → Type 0) (history own : TableId) (first now : Kept D) (steps written : List Step) → ((earlier : List Step) → MayPrint history earlier (fold first.world earlier) may) → own ≡ history → ComesFrom m first steps now → written ≡ steps
    → MayPrint own written now.world may
may_print_on m may history own first now steps written may_print same come is =
    subst (λ h. MayPrint h written now.world may) (sym same) (subst (λ w. MayPrint history written w may) (ap (fold first.world) is ∙ leads_of m first now steps come) (may_print written))

module _ {D : Type 0} (m : DiskModel D) {V : Type 0} (talked : V → List Talk → V → Type 0) (failed : V → V → Type 0) (most : ℕ) where
  -- one more instance has rested, and the next one begins with this
  pub rested_on : (first now next : Kept D) (v u others : V) (instance : Instance D V) (written later : List Step) → RestedTo m talked most first v now u written → later ≡ written ++ first_settled instance.closed.base instance.closed.trail.items instance.closed.settled → IsInstance (based_on m now.world []) talked failed most u instance → KeepsAlong m now instance.closed.trail.items instance.closed.store
      → most ≤ length instance.closed.trail.items → instance.left ≡ Resting → next ≡ instance.closed.store → others ≡ instance.callers → has_stopped instance.closed.store ≡ false → instance.closed.settled ≡ instance.closed.base.count + length instance.closed.trail.items → RestedTo m talked most first v next others later
  rested_on first now next v u others instance written later rested adds so along kept is same same_w going all =
      let instances = rested.0 in
      let run : InstanceRun D V = run_of m talked failed most now.world u instance so in
      let come : ComesFrom m first (all_steps instances ++ instance.closed.trail.items) instance.closed.store = next_from m first now (all_steps instances) instance.closed so.desk rested.2 (rested_history (based_on m now.world []) so.desk instance.closed instance.left is so.left) along all in
      let here : later ≡ all_steps instances ++ instance.closed.trail.items = adds ∙ ap (λ l. written ++ l) (all_of_settled m instance.closed all) ∙ ap (λ l. l ++ instance.closed.trail.items) rested.3 in
      let more = subst (λ l. ComesFrom m first l instance.closed.store) (sym (and_steps instances run)) come in
      let whole : RestedTo m talked most first v instance.closed.store instance.callers later =
      (instances ++ run ∷ [], one_more m talked failed most first.world now.world v u instances run rested.1 (rests m talked failed most now.world u instance is so kept going all), more, here ∙ sym (and_steps instances run))
      in
      subst (λ k. RestedTo m talked most first v k others later) (sym same) (subst (λ w. RestedTo m talked most first v instance.closed.store w later) (sym same_w) whole)

  -- the last instance has ended
  pub ends_along : (first now : Kept D) (v u : V) (instance : Instance D V) (written : List Step) → RestedTo m talked most first v now u written → instance.writer.steps ≡ written ++ first_settled instance.closed.base instance.closed.trail.items instance.closed.settled → IsInstance (based_on m now.world []) talked failed most u instance → KeepsAlong m now instance.closed.trail.items instance.closed.store → HasLived m talked failed most first v instance
  ends_along first now v u instance written rested adds so along =
      let instances = rested.0 in
      let settled = settled_after m first.world (all_steps instances) now.world instance.closed (leads_of m first now (all_steps instances) rested.2) (says_what_is_left (based_on m now.world []) instance.closed (is_left (based_on m now.world []) so.desk instance.closed (end_fault instance.left) so.left)) in
      record {
        rested = instances;
        world = now.world;
        callers = u;
        before = rested.1;
        instance = so;
        along = after_instance m first now (all_steps instances) instance.closed rested.2 along;
        written = adds ∙ ap (λ l. l ++ first_settled instance.closed.base instance.closed.trail.items instance.closed.settled) rested.3 ∙ sym settled;
      }

  -- and so has the server, which printed signals of these steps
  pub server_run : {W : Type 0} (contents : W → Option (List ℕ)) (first : Kept D) (v : V) (instance : Instance D V) (ended : ServerEnd D V W) (gives : List Step → ℕ → ℕ → ℕ → Type 0) (lasts : (first more : List Step) (step node epoch : ℕ) → gives first step node epoch → gives (first ++ more) step node epoch) (p q : PrinterState W) (read : List Step) → HasLived m talked failed most first v instance → IsLastInstance instance.left ended.served → ended.closed ≡ instance.closed → ended.callers ≡ instance.callers → HasFaultForCause most ended
      → ended.printer ≡ q → StartsWith instance.writer.steps read → IsPrinted contents (gives read) p q → ServerRun m talked failed most contents gives first v p ended
  server_run contents first v instance ended gives lasts p q read lived over same same_w cause same_q reads printed =
      let rested = lived.rested in
      let last : InstanceRun D V = run_of m talked failed most lived.world lived.callers instance lived.instance in
      let is = is_last m talked failed most lived.world lived.callers instance ended.served lived.instance over in
      let instances : List (InstanceRun D V) = rested ++ last ∷ [] in
      let one : AreOneHistory first.world instances ended.closed.store ended.closed.settled = subst (λ (c : Closed D). AreOneHistory first.world instances c.store c.settled) (sym same) (after_rested m talked failed most first.world lived.world v lived.callers rested last ended.served lived.before is) in
      let steps : all_steps instances ≡ all_steps rested ++ instance.closed.trail.items = and_steps rested last in
      let along : KeepsAlong m first (all_steps rested ++ instance.closed.trail.items) ended.closed.store = subst (λ (c : Closed D). KeepsAlong m first (all_steps rested ++ instance.closed.trail.items) c.store) (sym same) lived.along in
      let written : instance.writer.steps ≡ first_settled first.world (all_steps rested ++ instance.closed.trail.items) ended.closed.settled = subst (λ (c : Closed D). instance.writer.steps ≡ first_settled first.world (all_steps rested ++ instance.closed.trail.items) c.settled) (sym same) lived.written in
      let here : IsPrinted contents (gives instance.writer.steps) p ended.printer =
      subst (λ x. IsPrinted contents (gives instance.writer.steps) p x) (sym same_q)
      (printed_more contents (gives read) (gives instance.writer.steps) (on_more gives lasts read instance.writer.steps reads) p q printed)
      in
      record {
        instances = instances;
        served = and_last m talked failed most first.world lived.world v lived.callers ended.callers rested last ended.served ended.closed lived.before is (sym same) (sym same_w);
        trail = one.trail;
        counted = (one.least, one.most);
        settled = one.world;
        along = subst (λ l. KeepsAlong m first l ended.closed.store) (sym steps) along;
        printed = subst (λ l. IsPrinted contents (gives l) p ended.printer) (written ∙ ap (λ l. first_settled first.world l ended.closed.settled) (sym steps)) here;
        cause = cause;
      }
