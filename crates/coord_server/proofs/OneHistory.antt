-- All instances of a server are one history.
use Rattle.std.proofs.Common.{◌≡◌, ℕ, ◌+◌, ◌-◌, ◌≤◌, List, [], ◌∷◌, ◌++◌, length, take, refl, sym, ap, ◌∙◌, append-nil, length-append, arith, map, subst, Option, None, Some}
use Rattle.std.proofs.Math.Seq.{take-append-add, take-length}
use Rattle.std.proofs.lemmas.Grind.{flat_map-append}
use Rattle.std.specs.List.{range_with_len}
use Rattle.coord_disk.specs.Model.DiskModel.{DiskModel}
use Rattle.coord_types.specs.declared.steps.Step.{Step}
use Rattle.coord_world.specs.laws.Trails.{IsSound, IsTrail}
use Rattle.coord_world.specs.Facade.{StepOutcome, World, fold, next, outputs, outs, reply}
use Rattle.coord_world.proofs.Facade.{EachFresh, fold-append, fold_counts, trail_each_fresh, trail_of}
use Rattle.coord_admin.specs.Connections.{Talk}
use Rattle.coord_engine.specs.State.{Basis, based_on}
use Rattle.coord_engine.specs.declared.closed.Closed.{Closed}
use Rattle.coord_server.specs.EngineDesk.{DeskState}
use Rattle.coord_server.specs.Ending.{LeavesLedger, IsLeftAs, IsOneHistory}
use Rattle.coord_server.specs.Instances.{AreInstances, AreOneHistory, HaveRested, IsLast, InstanceRun, InstancesAreOne, all_given, all_steps}
use Rattle.coord_server.specs.declared.fault.ServerFault.{ServerFault}
use Rattle.coord_server.specs.declared.fault.ServerFault.TheVariants as fault

-- ---- one instance

-- what an instance that began with a world and left this says of its trail and its store
pub record SaysWhatIsLeft {D : Type 0} (world : World) (left : Closed D) : Type 0 where
  pub from : left.base ≡ world
  pub steps : IsTrail world left.trail.items
  pub done : ℕ
  pub within : done ≤ length left.trail.items
  pub counted : left.settled ≡ world.count + done
  pub kept : left.store.world ≡ fold world (take done left.trail.items)

-- of one history too it is left
pub left_of : {D P : Type 0} (b : Basis D) (desk : DeskState P) (left : Closed D) → IsOneHistory b desk left → LeavesLedger b left
left_of b desk left history = record { state = history.closed.state; held = history.closed.held; so = history.closed.so.1 }

-- and in any case
pub is_left : {D P : Type 0} (b : Basis D) (desk : DeskState P) (left : Closed D) (served : Option ServerFault) → IsLeftAs b desk left served → LeavesLedger b left
is_left b desk left None is = left_of b desk left is
is_left b desk left (Some fault.OutOfMemory) is = left_of b desk left is
is_left b desk left (Some fault.NotBegun) is = is
is_left b desk left (Some fault.Socket) is = left_of b desk left is
is_left b desk left (Some fault.Device) is = left_of b desk left is
is_left b desk left (Some fault.Write) is = left_of b desk left is
is_left b desk left (Some (fault.NotClosed why)) is = record { state = is.so.state; held = is.so.held; so = is.so.so.0 }

-- what is left says so: the log under the lock was consistent, and its settled world is the store's
pub says_what_is_left : {D : Type 0} (b : Basis D) (left : Closed D) → LeavesLedger b left → SaysWhatIsLeft b.base left
says_what_is_left b left h1 = grind arith

-- an instance of which all is settled leaves the world after its trail
pub leaves_all : {D : Type 0} (world : World) (left : Closed D) → SaysWhatIsLeft world left → left.settled ≡ left.base.count + length left.trail.items → left.store.world ≡ fold world left.trail.items
leaves_all world left t all =
    let same : left.base.count ≡ world.count = ap (λ (w : World). w.count) t.from in
    let whole : t.done ≡ length left.trail.items = omega (arith, t.counted, all, same) in
    t.kept ∙ ap (λ n. fold world (take n left.trail.items)) whole ∙ ap (fold world) (take-length left.trail.items)

-- ---- instances one after the other

module _ {D V : Type 0} where
  -- each begins with the world after the steps of those before it, over which its own are a trail; after them is this world
  abbrev GoOn : World → List (InstanceRun D V) → World → Type 0
  GoOn w [] next = next ≡ w
  GoOn w (l ∷ ls) next = (l.left.base ≡ w) × IsTrail w l.left.trail.items × GoOn (fold w l.left.trail.items) ls next

  -- one more
  goes_on : (ls : List (InstanceRun D V)) (w world next : World) (l : InstanceRun D V) → GoOn w ls world → l.left.base ≡ world → IsTrail world l.left.trail.items → next ≡ fold world l.left.trail.items → GoOn w (ls ++ l ∷ []) next
  goes_on [] w world next l here base steps is = (
    base ∙ here,
    rw (sym here) steps,
    is ∙ ap (λ (x : World). fold x l.left.trail.items) here,
  )
  goes_on (q ∷ qs) w world next l here base steps is = (here.0, here.1, goes_on qs (fold w q.left.trail.items) world next l here.2 base steps is)

  -- where they end
  end_of : (ls : List (InstanceRun D V)) (w next : World) → GoOn w ls next → next ≡ fold w (all_steps ls)
  end_of [] w next here = here
  end_of (l ∷ ls) w next here = end_of ls (fold w l.left.trail.items) next here.2 ∙ sym (fold-append l.left.trail.items (all_steps ls) w)

fresh-append : (xs ys : List Step) (w : World) → EachFresh w xs → EachFresh (fold w xs) ys → EachFresh w (xs ++ ys)
fresh-append [] ys w each on = on
fresh-append (x ∷ xs) ys w each on = (each.0, fresh-append xs ys (next w x) each.1 on)

pub outs-append : (xs ys : List Step) (w : World) → outs w (xs ++ ys) ≡ outs w xs ++ outs (fold w xs) ys
outs-append [] ys w = refl
outs-append (x ∷ xs) ys w = ap (λ l. record { reply = reply w x; outputs = outputs w x } ∷ l) (outs-append xs ys (next w x))

module _ {D V : Type 0} where
  -- each step of theirs is fresh
  all_fresh : (ls : List (InstanceRun D V)) (w next : World) → GoOn w ls next → EachFresh w (all_steps ls)
  all_fresh [] w next here = tt
  all_fresh (l ∷ ls) w next here = fresh-append l.left.trail.items (all_steps ls) w (trail_each_fresh w l.left.trail.items here.1) (all_fresh ls (fold w l.left.trail.items) next here.2)

  -- the first of them began with a sound world
  sound_first : (ls : List (InstanceRun D V)) (l : InstanceRun D V) (w next : World) → GoOn w (ls ++ l ∷ []) next → IsSound w
  sound_first [] l w next here = here.1.sound
  sound_first (q ∷ qs) l w next here = here.1.sound

  -- each begins with the fold of the steps before it
  each_follows : (before : List (InstanceRun D V)) (w next : World) (ls rest : List (InstanceRun D V)) (instance : InstanceRun D V) → GoOn w ls next → ls ≡ before ++ instance ∷ rest → instance.left.base ≡ fold w (all_steps before)
  each_follows [] w next [] rest instance here is = cc
  each_follows [] w next (q ∷ qs) rest instance here is = let same : q ≡ instance = cc is in sym (ap (λ (x : InstanceRun D V). x.left.base) same) ∙ here.0
  each_follows (b ∷ bs) w next [] rest instance here is = cc
  each_follows (b ∷ bs) w next (q ∷ qs) rest instance here is =
      let same : q ≡ b = cc is in
      let later : qs ≡ bs ++ instance ∷ rest = cc is in
      let steps : fold w q.left.trail.items ≡ fold w b.left.trail.items = ap (λ (x : InstanceRun D V). fold w x.left.trail.items) same in
      each_follows bs (fold w q.left.trail.items) next qs rest instance here.2 later ∙ ap (λ (x : World). fold x (all_steps bs)) steps ∙ sym (fold-append b.left.trail.items (all_steps bs) w)

  -- what they give out
  given_by : (ls : List (InstanceRun D V)) (w next : World) → GoOn w ls next → all_given ls ≡ outs w (all_steps ls)
  given_by [] w next here = refl
  given_by (l ∷ ls) w next here =
      ap (λ (x : World). outs x l.left.trail.items ++ all_given ls) here.0 ∙ ap (λ (o : List StepOutcome). outs w l.left.trail.items ++ o) (given_by ls (fold w l.left.trail.items) next here.2) ∙ sym (outs-append l.left.trail.items (all_steps ls) w)

-- each step has the number after the one before
numbers : (ss : List Step) (w : World) → map (λ (o : StepOutcome). o.reply.step) (outs w ss) ≡ range_with_len (w.count + 1) (length ss)
numbers [] w = refl
numbers (s ∷ ss) w = ap (λ l. (w.count + 1) ∷ l) (numbers ss (next w s))

-- ---- all instances

-- instances, and the last one, are one history
one_history : {D V : Type 0} (began world : World) (ls : List (InstanceRun D V)) (last : InstanceRun D V) → GoOn began ls world → SaysWhatIsLeft world last.left → AreOneHistory began (ls ++ last ∷ []) last.left.store last.left.settled
one_history {D} {V} began world ls last here t =
    let left = last.left in
    let trail = left.trail.items in
    let instances : List (InstanceRun D V) = ls ++ last ∷ [] in
    let on : GoOn began instances (fold world trail) = goes_on ls began world (fold world trail) last here t.from t.steps refl in
    let steps : all_steps instances ≡ all_steps ls ++ trail = flat_map-append (λ (l : InstanceRun D V). l.left.trail.items) ls (last ∷ []) ∙ ap (λ (s : List Step). all_steps ls ++ s) (append-nil trail) in
    let there : world ≡ fold began (all_steps ls) = end_of ls began world here in
    let count : world.count ≡ began.count + length (all_steps ls) = ap (λ (w : World). w.count) there ∙ fold_counts began (all_steps ls) in
    let long : length (all_steps instances) ≡ length (all_steps ls) + length trail = ap length steps ∙ length-append (all_steps ls) trail in
    let by : left.settled - began.count ≡ length (all_steps ls) + t.done = omega (arith, t.counted, count) in
    let first : take (left.settled - began.count) (all_steps instances) ≡ all_steps ls ++ take t.done trail = ap (λ n. take n (all_steps instances)) by ∙ ap (take (length (all_steps ls) + t.done)) steps ∙ take-append-add (all_steps ls) trail t.done in
    let whole : fold world (take t.done trail) ≡ fold began (all_steps ls ++ take t.done trail) = ap (λ (w : World). fold w (take t.done trail)) there ∙ sym (fold-append (all_steps ls) (take t.done trail) began) in
    record {
      trail = trail_of (all_steps instances) began (sound_first ls last began (fold world trail) on) (all_fresh instances began (fold world trail) on);
      follow = λ before rest instance is. each_follows before began (fold world trail) instances rest instance on is;
      given = given_by instances began (fold world trail) on;
      numbered = ap (map (λ (o : StepOutcome). o.reply.step)) (given_by instances began (fold world trail) on) ∙ numbers (all_steps instances) began;
      least = omega (arith, t.counted, count);
      most = omega (arith, t.counted, count, long, t.within);
      world = t.kept ∙ whole ∙ ap (fold began) (sym first);
    }

module _ {D : Type 0} (m : DiskModel D) {V : Type 0} (talked : V → List Talk → V → Type 0) (most : ℕ) where
  instances_go_on : (began next : World) (v w : V) (ls : List (InstanceRun D V)) → HaveRested m talked most began v ls next w → GoOn began ls next
  instances_go_on began next v w [] instances = instances.0
  instances_go_on began next v w (l ∷ ls) instances =
      let r = instances.0 in
      let t = says_what_is_left (based_on m began []) l.left (left_of (based_on m began []) l.desk l.left r.history) in
      (t.from, t.steps, subst (λ x. GoOn x ls next) (leaves_all began l.left t r.all_settled) (instances_go_on l.left.store.world next l.callers w ls instances.1))

module _ {D : Type 0} (m : DiskModel D) {V : Type 0} (talked : V → List Talk → V → Type 0) (failed : V → V → Type 0) (most : ℕ) where
  -- those that rested, and the last one
  pub after_rested : (began world : World) (v u : V) (ls : List (InstanceRun D V)) (l : InstanceRun D V) (why : Option ServerFault) → HaveRested m talked most began v ls world u → IsLast m talked failed most world u l why → AreOneHistory began (ls ++ l ∷ []) l.left.store l.left.settled
  after_rested began world v u ls l why rested last = one_history began world ls l (instances_go_on m talked most began world v u ls rested) (says_what_is_left (based_on m world []) l.left (is_left (based_on m world []) l.desk l.left why last.history))

  -- instances are some that rested, and a last one
  apart : (began : World) (v w : V) (instances : List (InstanceRun D V)) (why : Option ServerFault) (left : Closed D) → AreInstances m talked failed most began v instances why left w
      → (ls : List (InstanceRun D V)) × (l : InstanceRun D V) × (world : World) × (u : V) × (instances ≡ ls ++ l ∷ []) × HaveRested m talked most began v ls world u × IsLast m talked failed most world u l why × (l.left ≡ left)
  apart began v w [] why left is = absurd is
  apart began v w (l ∷ []) why left is = ([], l, began, v, refl, (refl, refl), is.0, is.1)
  apart began v w (l ∷ k ∷ later) why left is =
      let more = apart l.left.store.world l.callers w (k ∷ later) why left is.1 in
      (l ∷ more.0, more.1, more.2, more.3, ap (λ ls. l ∷ ls) more.4, (is.0, more.5), more.6, more.7)

  pub instances_are_one : InstancesAreOne m talked failed most
  instances_are_one began v w instances why left is =
      let at = apart began v w instances why left is in
      subst (λ ls. AreOneHistory began ls left.store left.settled) (sym at.4)
      (subst (λ (c : Closed D). AreOneHistory began (at.0 ++ at.1 ∷ []) c.store c.settled) at.7 (after_rested began at.2 v at.3 at.0 at.1 why at.5 at.6))
