-- A server that returns no fault was closed by a line.
use Rattle.std.proofs.Common.{◌≡◌, ◌⊎◌, ℕ, ◌+◌, ◌≤◌, ◌||◌, not, nat_le, List, [], ◌∷◌, ◌++◌, All, length, Bool, true, false, Option, None, Some, IfNone, IfSome, inl, inr, refl, sym, ap, ◌∙◌, subst, append_assoc, arith, drop}
use Rattle.std.proofs.lemmas.List.Elements.{All-nil, All-push}
use Rattle.std.proofs.lemmas.Bool.Decides.{nat_tests}
use Rattle.coord_engine.specs.Facade.{AtSomeMoment, Basis, Beginning, Closes, HasReadSettled, IsLeftOf, IsNamed, IsOfPacket, IsSince, RefusesClosing, Retires, StartsWith, based_on, first_settled}
use Rattle.coord_engine.specs.declared.closed.CloseFault.{CloseFault}
use Rattle.coord_engine.specs.declared.closed.Closed.{Closed}
use Rattle.atomic_table.specs.Seated.{TableId}
use Rattle.coord_types.specs.declared.steps.Kind.{Kind}
use Rattle.coord_types.specs.declared.steps.Step.{Step}
use Rattle.coord_ledger.specs.declared.ticket.Note.{Note}
use Rattle.coord_store.specs.Kept.{Kept, has_stopped}
use Rattle.coord_disk.specs.Model.DiskModel.{DiskModel}
use Rattle.coord_world.specs.protocol.NumberedWorld.{World}
use Rattle.coord_admin.specs.Connections.{Talk}
use Rattle.coord_server.proofs.Reading.{begins_so}
use Rattle.coord_server.specs.EngineDesk.{DeskState}
use Rattle.coord_server.specs.Ending.{AddsWorkers, HasRun, IsLeftAs, IsInstance, IsOneHistory, RefusesShares, LeavesInstance, LeavesShares, Local, Serves, ServesInstance, end_fault, fault_at_end, new_desk}
use Rattle.coord_server.specs.Instances.{AreInstances, HaveRested, IsLast, IsLastInstance, HasFaultForCause, InstanceRun, MayGoOn, Rests}
use Rattle.coord_server.specs.Moments.{HasLived}
use Rattle.coord_server.specs.declared.fault.ServerFault.{ServerFault}
use Rattle.coord_server.specs.declared.fault.ServerFault.TheVariants as fault
use Rattle.coord_server.specs.declared.instance.Instance.{Instance}
use Rattle.coord_server.specs.declared.instance_end.InstanceEnd.{InstanceEnd}
use Rattle.coord_server.specs.declared.instance_end.InstanceEnd.TheVariants.{Resting, Unfollowed, Unprinted, Ended}
use Rattle.coord_server.specs.declared.server_end.ServerEnd.{ServerEnd}

pub adds_worker : (first all later : List (List Note)) (notes : List Note) → AddsWorkers first all → later ≡ all ++ notes ∷ [] → All IsOfPacket notes → AddsWorkers first later
adds_worker first all later notes added pushed packets = (added.0 ++ notes ∷ [], pushed ∙ ap (λ l. l ++ notes ∷ []) added.1 ∙ append_assoc first added.0 (notes ∷ []), All-push (All IsOfPacket) added.0 notes added.2 packets)

-- the flusher's share after the desk's, in room that was empty
pub adds_flusher : (own flushed : List Note) (room first second : List (List Note)) → room ≡ [] → first ≡ room ++ own ∷ [] → second ≡ first ++ flushed ∷ [] → All IsOfPacket flushed → AddsWorkers (own ∷ []) second
adds_flusher own flushed room first second empty pushed again packets =
    (flushed ∷ [], again ∙ ap (λ l. l ++ flushed ∷ []) (pushed ∙ ap (λ r. r ++ own ∷ []) empty), All-push (All IsOfPacket) [] flushed (All-nil (All IsOfPacket)) packets)

-- where nothing came before
named_of : (shares : List (List Note)) (count : ℕ) (before trail : List Step) (kinds : List Kind) → before ≡ [] → IsNamed shares (count + length before) (drop (length before) trail) (drop (length before) kinds) → IsNamed shares count trail kinds
named_of shares count before trail kinds none named = grind arith

one_history : {D P : Type 0} (b : Basis D) (desk : DeskState P) (shares : List (List Note)) (left : Closed D) → b.before ≡ [] → AddsWorkers (desk.notes ∷ []) shares
    → IsSince b.base b.before shares left.base left.trail.items → AtSomeMoment b (Closes {D = D} left.store left.base left.trail.items left.settled shares) → desk.seen ≤ left.settled → IsOneHistory b desk left
one_history b desk shares left h1 h2 h3 h4 h5 = grind (arith, named_of)

-- what an engine leaves in any case is what an instance leaves with its shares
pub leaves_shares : {D V : Type 0} (b : Basis D) (shares : List (List Note)) (seen : ℕ) (served : InstanceEnd) (instance : Instance D V) (refused : Option CloseFault) → (refused ≡ None → instance.left ≡ served) → IfSome refused (λ why. instance.left ≡ Ended (Some (fault.NotClosed why)))
    → AtSomeMoment b (Retires {D = D} instance.closed.store instance.closed.base instance.closed.trail.items instance.closed.settled refused shares seen) → IfNone refused (IsSince b.base b.before shares instance.closed.base instance.closed.trail.items) → IfNone refused (seen ≤ instance.closed.settled) → LeavesShares b shares seen served instance
leaves_shares b shares seen served instance None named returned at since settled = inl (named refl, since, record { state = at.state; held = at.held; so = (at.so.1, at.so.0) }, settled)
leaves_shares b shares seen served instance (Some why) named returned at since settled = inr (why, returned, record { state = at.state; held = at.held; so = (at.so.0, at.so.2) })

module _ {D : Type 0} (b : Basis D) {V : Type 0} (talked : V → List Talk → V → Type 0) (failed : V → V → Type 0) (most : ℕ) where
  -- an instance is left as its serving ended
  leaves_as : (port : Local) (v w : V) (desk : DeskState Local) (left : InstanceEnd) → ServesInstance b talked failed most port v w desk left → LeavesInstance b talked failed most port v w desk left
  leaves_as port v w desk left h1 = grind arith

  -- and then it is one history that is left
  left_as : (port : Local) (v w : V) (desk : DeskState Local) (left : InstanceEnd) (closed : Closed D) → ServesInstance b talked failed most port v w desk left → IsOneHistory b desk closed → IsLeftAs b desk closed (end_fault left)
  left_as port v w desk left closed h1 h2 = grind arith

  -- the desk's notes, in the share that it gave back
  pub serves_with : (history : TableId) (earlier : List Step) (reader : Beginning) (v w : V) (desk : DeskState Local) (left : InstanceEnd) (notes : List Note) (seen : ℕ) → (port : Local) × ServesInstance b talked failed most port v w desk left → notes ≡ desk.notes → seen ≡ desk.seen → HasReadSettled history earlier desk.read reader
      → (port : Local) × (later : Local) × (read : List Step) × ServesInstance b talked failed most port v w (record { notes = notes; seen = seen; read = read; port = later }) left × HasReadSettled history earlier read reader
  serves_with history earlier reader v w desk left notes seen s same saw read = (s.0, desk.port, desk.read, rw same (rw saw s.1), read)

  -- the shares of the desk and of the workers, once all are back
  pub has_run : (history : TableId) (earlier : List Step) (reader : Beginning) (v w : V) (left : InstanceEnd) (own : List Note) (seen : ℕ) (shares : List (List Note)) → (port : Local) × (later : Local) × (read : List Step) × ServesInstance b talked failed most port v w (record { notes = own; seen = seen; read = read; port = later }) left × HasReadSettled history earlier read reader
      → AddsWorkers (own ∷ []) shares → length shares ≡ 10 → HasRun b talked failed most history earlier v w left shares seen reader
  has_run history earlier reader v w left own seen shares s added all = record { port = s.0; desk = record { notes = own; seen = seen; read = s.2; port = s.1 }; served = s.3; saw = refl; read = s.4; added = added; all = all }

  -- one instance: how the desk went on, and what is left of the engine, which was taken apart with all shares or refused them
  pub lived : (history : TableId) (earlier : List Step) (reader : Beginning) (v u : V) (ran : InstanceEnd) (shares : List (List Note)) (seen : ℕ) (instance : Instance D V) → b.before ≡ [] → HasRun b talked failed most history earlier v u ran shares seen reader → LeavesShares b shares seen ran instance → instance.callers ≡ u
      → HasReadSettled history earlier (first_settled instance.closed.base instance.closed.trail.items instance.closed.settled) instance.writer → StartsWith instance.writer.steps reader.steps → IsInstance b talked failed most v instance
  lived here earlier reader v u ran shares seen instance none is (inl (left, since, closed, settled)) same_w written begins =
      let history : IsOneHistory b is.desk instance.closed = one_history b is.desk shares instance.closed none is.added since closed (subst (λ n. n ≤ instance.closed.settled) (sym is.saw) settled) in
      record {
        port = is.port;
        desk = is.desk;
        served = subst (LeavesInstance b talked failed most is.port v instance.callers is.desk) (sym left) (subst (λ w. LeavesInstance b talked failed most is.port v w is.desk ran) (sym same_w) (leaves_as is.port v u is.desk ran is.served));
        left = subst (λ e. IsLeftAs b is.desk instance.closed (end_fault e)) (sym left) (left_as is.port v u is.desk ran instance.closed is.served history);
        returned = begins_so here earlier is.desk.read _ reader instance.writer is.read written begins;
      }
  lived here earlier reader v u ran shares seen instance none is (inr (why, left, so)) same_w written begins =
      let refuses : AtSomeMoment b (λ g. IsLeftOf {D = D} instance.closed.store instance.closed.base instance.closed.trail.items instance.closed.settled g × RefusesClosing {D = D} g (is.desk.notes ∷ is.added.0) is.desk.seen why) =
      subst (λ s. AtSomeMoment b (λ g. IsLeftOf {D = D} instance.closed.store instance.closed.base instance.closed.trail.items instance.closed.settled g × RefusesClosing {D = D} g s is.desk.seen why)) is.added.1
      (subst (λ n. AtSomeMoment b (λ g. IsLeftOf {D = D} instance.closed.store instance.closed.base instance.closed.trail.items instance.closed.settled g × RefusesClosing {D = D} g shares n why)) (sym is.saw) so)
      in
      let refused : RefusesShares b is.desk instance.closed why = record { workers = is.added.0; of_packets = is.added.2; all = subst (λ s. length s ≡ 10) is.added.1 is.all; so = refuses } in
      record {
        port = is.port;
        desk = is.desk;
        served = subst (LeavesInstance b talked failed most is.port v instance.callers is.desk) (sym left) (ran, subst (λ w. ServesInstance b talked failed most is.port v w is.desk ran) (sym same_w) is.served);
        left = subst (λ e. IsLeftAs b is.desk instance.closed (end_fault e)) (sym left) refused;
        returned = begins_so here earlier is.desk.read _ reader instance.writer is.read written begins;
      }

  -- an instance that did not begin. Its desk would have begun over this port
  pub unbegun : (port : Local) (v : V) (instance : Instance D V) → talked v [] v → instance.callers ≡ v → instance.left ≡ Ended (Some fault.NotBegun) → AtSomeMoment b (IsLeftOf {D = D} instance.closed.store instance.closed.base instance.closed.trail.items instance.closed.settled) → IsInstance b talked failed most v instance
  unbegun port v instance nobody same left so = record {
    port = port;
    desk = new_desk port;
    served = subst (LeavesInstance b talked failed most port v instance.callers (new_desk port)) (sym left) (subst (λ w. talked v [] w) (sym same) nobody, refl);
    left = subst (λ e. IsLeftAs b (new_desk port) instance.closed (end_fault e)) (sym left) so;
    returned = (first_settled instance.closed.base instance.closed.trail.items instance.closed.settled, refl);
  }

  -- the last instance: as it was left, or one that rests and that no other follows
  pub last_instance : (v : V) (instance last : Instance D V) (Why : Type 0) → IsInstance b talked failed most v instance → last.closed ≡ instance.closed → last.callers ≡ instance.callers → ((last.left ≡ instance.left) × Why) ⊎ ((last.left ≡ Unfollowed) × (instance.left ≡ Resting)) → IsInstance b talked failed most v last
  last_instance v instance last Why is same same_w (inl (left, why)) = record {
    port = is.port;
    desk = is.desk;
    served = subst (LeavesInstance b talked failed most is.port v last.callers is.desk) (sym left) (subst (λ w. LeavesInstance b talked failed most is.port v w is.desk instance.left) (sym same_w) is.served);
    left = subst (λ e. IsLeftAs b is.desk last.closed (end_fault e)) (sym left) (subst (λ c. IsLeftAs b is.desk c (end_fault instance.left)) (sym same) is.left);
    returned = subst (λ (c : Closed D). StartsWith (first_settled c.base c.trail.items c.settled) is.desk.read) (sym same) is.returned;
  }
  last_instance v instance last Why is same same_w (inr (left, rests)) = record {
    port = is.port;
    desk = is.desk;
    served = subst (LeavesInstance b talked failed most is.port v last.callers is.desk) (sym left)
        (subst (LeavesInstance b talked failed most is.port v last.callers is.desk) rests (subst (λ w. LeavesInstance b talked failed most is.port v w is.desk instance.left) (sym same_w) is.served));
    left = subst (λ e. IsLeftAs b is.desk last.closed (end_fault e)) (sym left) (subst (λ e. IsLeftAs b is.desk last.closed (end_fault e)) rests (subst (λ c. IsLeftAs b is.desk c (end_fault instance.left)) (sym same) is.left));
    returned = subst (λ (c : Closed D). StartsWith (first_settled c.base c.trail.items c.settled) is.desk.read) (sym same) is.returned;
  }

  -- a last instance that ended so
  served_so : (port : Local) (v w : V) (desk : DeskState Local) (served : Option ServerFault) → LeavesInstance b talked failed most port v w desk (Ended served) → Serves b talked failed most port v w desk served
  served_so port v w desk served h1 = grind arith

  -- the fault that it returns has a cause. `on`: that a next instance may begin
  returned_for : (on : Type 0) (port : Local) (v w : V) (desk : DeskState Local) (left : InstanceEnd) (served : Option ServerFault) (is_broken : Bool) → LeavesInstance b talked failed most port v w desk left → IsLastInstance left served
      → (left ≡ Unprinted → served ≡ Some fault.Write → is_broken ≡ true) → (left ≡ Resting → ¬ on) → (served ≡ Some fault.Write → is_broken ≡ true) × (served ≡ Some fault.Device → ¬ on)
  returned_for on port v w desk left served is_broken h1 h2 h3 h4 = grind arith

  pub served_at_last : (port : Local) (v w : V) (desk : DeskState Local) (left : InstanceEnd) (served : Option ServerFault) → LeavesInstance b talked failed most port v w desk left → IsLastInstance left served → Serves b talked failed most port v w desk served
  served_at_last port v w desk Resting served s over = subst (Serves b talked failed most port v w desk) (sym over) s
  served_at_last port v w desk Unfollowed served s over = subst (Serves b talked failed most port v w desk) (sym over) (inr s)
  served_at_last port v w desk Unprinted served s (inl memory) = subst (Serves b talked failed most port v w desk) (sym memory) (inl s)
  served_at_last port v w desk Unprinted served s (inr write) = subst (Serves b talked failed most port v w desk) (sym write) s
  served_at_last port v w desk (Ended why) served s over = subst (Serves b talked failed most port v w desk) (sym over) (served_so port v w desk why s)

-- what is left of the last instance is left of the server
pub left_at_last : {D P : Type 0} (b : Basis D) (desk : DeskState P) (closed : Closed D) (left : InstanceEnd) (served : Option ServerFault) → IsLeftAs b desk closed (end_fault left) → IsLastInstance left served → IsLeftAs b desk closed served
left_at_last b desk closed Resting served is over = subst (IsLeftAs b desk closed) (sym over) is
left_at_last b desk closed Unfollowed served is over = subst (IsLeftAs b desk closed) (sym over) is
left_at_last b desk closed Unprinted served is (inl memory) = subst (IsLeftAs b desk closed) (sym memory) is
left_at_last b desk closed Unprinted served is (inr write) = subst (IsLeftAs b desk closed) (sym write) is
left_at_last b desk closed (Ended why) served is over = subst (IsLeftAs b desk closed) (sym over) is

-- why it is the last where it rests
pub cause_at_last : (left last : InstanceEnd) (Why : Type 0) → ((last ≡ left) × (left ≡ Resting → Why)) ⊎ ((last ≡ Unfollowed) × (left ≡ Resting)) → last ≡ Resting → Why
cause_at_last left last Why (inl (same, why)) rests = why (sym same ∙ rests)
cause_at_last left last Why (inr (other, rested)) rests = absurd cc

-- an instance that rests has left one history
pub rested_history : {D P : Type 0} (b : Basis D) (desk : DeskState P) (closed : Closed D) (left : InstanceEnd) → left ≡ Resting → IsLeftAs b desk closed (end_fault left) → IsOneHistory b desk closed
rested_history b desk closed left rests is = subst (λ e. IsLeftAs b desk closed (end_fault e)) rests is

-- ---- instances

module _ {D : Type 0} (m : DiskModel D) {V : Type 0} (talked : V → List Talk → V → Type 0) (failed : V → V → Type 0) (most : ℕ) where
  abbrev b : World → Basis D
  b world = based_on m world []

  -- an instance that was had, as one of a server's
  abbrev pub run_of : (world : World) (v : V) (instance : Instance D V) → IsInstance (b world) talked failed most v instance → InstanceRun D V
  run_of world v instance so = record { port = so.port; desk = so.desk; left = instance.closed; callers = instance.callers }

  pub rests : (world : World) (v : V) (instance : Instance D V) → instance.left ≡ Resting → (so : IsInstance (b world) talked failed most v instance) → most ≤ length instance.closed.trail.items → has_stopped instance.closed.store ≡ false → instance.closed.settled ≡ instance.closed.base.count + length instance.closed.trail.items
      → Rests m talked most world v (run_of world v instance so)
  rests world v instance is so kept going all =
      let rested = subst (LeavesInstance (b world) talked failed most so.port v instance.callers so.desk) is so.served in
      record { served = rested.0; old = kept; history = rested_history (b world) so.desk instance.closed instance.left is so.left; all_settled = all; going = going; returned = so.returned }

  -- why a server returns a fault whose last instance was left so
  pub has_cause : {W : Type 0} (first : Kept D) (v : V) (instance : Instance D V) (ended : ServerEnd D V W) → HasLived m talked failed most first v instance → IsLastInstance instance.left ended.served → ended.closed ≡ instance.closed
      → (instance.left ≡ Unprinted → ended.served ≡ Some fault.Write → ended.printer.is_broken ≡ true) → (instance.left ≡ Resting → ¬ MayGoOn most instance.closed) → HasFaultForCause most ended
  has_cause first v instance ended lived over same write rests =
      let so = lived.instance in
      let returned = returned_for (b lived.world) talked failed most (MayGoOn most instance.closed) so.port lived.callers instance.callers so.desk instance.left ended.served ended.printer.is_broken so.served over write rests in
      (returned.0, λ device. subst (λ (c : Closed D). ¬ MayGoOn most c) (sym same) (returned.1 device))

  pub is_last : (world : World) (v : V) (instance : Instance D V) (served : Option ServerFault) → (so : IsInstance (b world) talked failed most v instance) → IsLastInstance instance.left served → IsLast m talked failed most world v (run_of world v instance so) served
  is_last world v instance served so over = record {
    served = served_at_last (b world) talked failed most so.port v instance.callers so.desk instance.left served so.served over;
    history = left_at_last (b world) so.desk instance.closed instance.left served so.left over;
    returned = so.returned;
  }

  -- one more instance after those that rested
  pub one_more : (began world : World) (v u : V) (ls : List (InstanceRun D V)) (l : InstanceRun D V) → HaveRested m talked most began v ls world u → Rests m talked most world u l → HaveRested m talked most began v (ls ++ l ∷ []) l.left.store.world l.callers
  one_more began world v u [] l here r = (rw (sym here.0) (rw (sym here.1) r), (refl, refl))
  one_more began world v u (q ∷ qs) l here r = (here.0, one_more q.left.store.world world q.callers u qs l here.1 r)

  -- and the last one
  pub and_last : (began world : World) (v u w : V) (ls : List (InstanceRun D V)) (l : InstanceRun D V) (why : Option ServerFault) (left : Closed D) → HaveRested m talked most began v ls world u → IsLast m talked failed most world u l why → l.left ≡ left → l.callers ≡ w → AreInstances m talked failed most began v (ls ++ l ∷ []) why left w
  and_last began world v u w [] l why left here is same same_w = (rw (sym here.0) (rw (sym here.1) is), same, same_w)
  and_last began world v u w (q ∷ []) l why left here is same same_w = (here.0, and_last q.left.store.world world q.callers u w [] l why left here.1 is same same_w)
  and_last began world v u w (q ∷ r ∷ rs) l why left here is same same_w = (here.0, and_last q.left.store.world world q.callers u w (r ∷ rs) l why left here.1 is same same_w)

-- nothing ended the serving of a server that returns no fault
pub served_none : (stopped : Bool) (served : Option ServerFault) (is_broken : Bool) → fault_at_end stopped served is_broken ≡ None → served ≡ None
served_none stopped served is_broken none = grind arith

-- a store that has stopped is reported as a fault
pub not_stopped : (stopped : Bool) (served : Option ServerFault) (is_broken : Bool) → fault_at_end stopped served is_broken ≡ None → stopped ≡ false
not_stopped true served is_broken none = absurd cc
not_stopped false served is_broken none = refl

-- nor of one whose output failed, or has a signal of a step that is not settled
pub whole_if_none : (stopped : Bool) (served : Option ServerFault) (is_broken : Bool) (last settled : ℕ) → fault_at_end stopped served (is_broken || not (nat_le last settled)) ≡ None → (is_broken ≡ false) × (last ≤ settled)
whole_if_none stopped served is_broken last settled none = grind (arith, nat_tests)
