-- What each rule does, by cases, and what no transition changes of a node.
use Rattle.std.proofs.Common.{◌≡◌, ℕ, true, false, ◌&&◌, Option, Some, None, refl, ap, ◌∙◌, cond, ◌+◌, ◌≤◌, arith}
use Rattle.std.proofs.lemmas.Bool.Decides.{nat_tests}
use Rattle.coord_types.specs.NodeSet.{contains, remove, NodeSet}
use Rattle.coord_types.specs.NodeState.{NodeState}
use Rattle.coord_types.specs.declared.messages.Mode.{Mode}
use Rattle.coord_types.specs.declared.messages.Mode.TheVariants.{Ready, Abort, Converge}
use Rattle.coord_types.specs.declared.steps.Kind.{Kind}
use Rattle.coord_types.specs.declared.steps.Kind.TheVariants.{Started, Finished, Joined}
use Rattle.coord_node.specs.Facade.{Transition, acknowledged, answer, finish, idle, is_empty, is_parent, kept, kind_of_request, lost, lost_in, on_abort, on_abort_in, on_ack, on_ready, on_ready_in, request, request_in, wave_back, wave_on, without}
use Rattle.coord_world.specs.protocol.Links.{is_converge, is_ready}
use Rattle.coord_tables.proofs.Cases.{by_test}
use Rattle.coord_types.specs.declared.messages.Msg.{Msg}
use Rattle.coord_node.specs.Rules.{transition}
use Rattle.coord_world.specs.protocol.Ranges.{carried}
use Rattle.coord_types.specs.declared.messages.Msg.TheVariants as msg

-- ---- the cases

-- the state in which v is awaited no more
abbrev pub acked_by : NodeState → ℕ → NodeState
acked_by r v = record r { pend = remove r.pend v }

-- the state without the link to v
abbrev pub cut_from : NodeState → ℕ → NodeState
cut_from r v = record r { parent = without r.parent v; pend = remove r.pend v; neighbours = remove r.neighbours v }

-- nobody is awaited any more: the initiator finishes, and any other node acknowledges to its parent
pub acknowledged_cases : (s : NodeState) (P : Transition → Type 0) → (s.parent ≡ None → P (finish s)) → ((p : ℕ) → s.parent ≡ Some p → P (answer (record s { mode = Converge }) p)) → P (acknowledged s s.parent)
acknowledged_cases s P tops climbs = of_parent s.parent refl
  where
    of_parent : (o : Option ℕ) → s.parent ≡ o → P (acknowledged s o)
    of_parent None e = tops e
    of_parent (Some p) e = climbs p e

-- a reset is asked for, with the kind of its reply
pub request_cases : (version : ℕ) (r : NodeState) (P : Transition → Kind → Type 0) →
    (r.mode ≡ Ready → is_empty r.neighbours ≡ true → P (finish r) Finished) →
    (r.mode ≡ Ready → is_empty r.neighbours ≡ false → P (wave_on version r None r.neighbours 0) Started) →
    P (idle r) Joined → P (request version r) (kind_of_request r.mode r)
request_cases version r P alone starts joins = in_mode r.mode refl
  where
    in_mode : (m : Mode) → r.mode ≡ m → P (request_in m version r) (kind_of_request m r)
    in_mode Ready e = by_test (is_empty r.neighbours) (λ b. P (cond b (finish r) (wave_on version r None r.neighbours 0)) (cond b Finished Started)) (alone e) (starts e)
    in_mode Abort e = joins
    in_mode Converge e = joins

-- Abort comes from v
module _ (version : ℕ) (r : NodeState) (v : ℕ) (P : Transition → Type 0) where
  pub abort_cases : (n : ℕ) →
      (r.mode ≡ Ready → is_empty (remove r.neighbours v) ≡ true → P (wave_back r v (kept version n))) →
      (r.mode ≡ Ready → is_empty (remove r.neighbours v) ≡ false → P (wave_on version r (Some v) (remove r.neighbours v) (kept version n))) →
      (is_ready r.mode ≡ false → P (answer r v)) → P (on_abort version r v n)
  abort_cases n ends spreads answers = in_mode r.mode refl
    where
      in_mode : (m : Mode) → r.mode ≡ m → P (on_abort_in m version r v n)
      in_mode Ready e = by_test (is_empty (remove r.neighbours v)) (λ b. P (cond b (wave_back r v (kept version n)) (wave_on version r (Some v) (remove r.neighbours v) (kept version n)))) (ends e) (spreads e)
      in_mode Abort e = answers (ap is_ready e)
      in_mode Converge e = answers (ap is_ready e)

module _ (r : NodeState) (v : ℕ) (P : Transition → Type 0) where
  -- Ack comes from v
  pub ack_cases :
      (is_empty r.pend ≡ true → P (idle r)) →
      (is_empty (remove r.pend v) ≡ false → P (idle (acked_by r v))) →
      (is_empty (remove r.pend v) ≡ true → r.parent ≡ None → P (finish (acked_by r v))) →
      (is_empty (remove r.pend v) ≡ true → (p : ℕ) → r.parent ≡ Some p → P (answer (record (acked_by r v) { mode = Converge }) p)) → P (on_ack r v)
  ack_cases unasked waits tops climbs =
      by_test (is_empty r.pend) (λ b. P (cond b (idle r) (cond (is_empty (remove r.pend v)) (acknowledged (acked_by r v) r.parent) (idle (acked_by r v))))) unasked
      (λ _. by_test (is_empty (remove r.pend v)) (λ b. P (cond b (acknowledged (acked_by r v) r.parent) (idle (acked_by r v))))
      (λ none. acknowledged_cases (acked_by r v) P (tops none) (climbs none)) waits)

  -- Ready comes from v
  pub ready_cases :
      ((is_converge r.mode && is_parent r.parent v) ≡ false → P (idle r)) →
      (r.mode ≡ Converge → is_parent r.parent v ≡ true → P (finish r)) → P (on_ready r v)
  ready_cases ignored heard = in_mode r.mode refl
    where
      in_mode : (m : Mode) → r.mode ≡ m → P (on_ready_in m r v)
      in_mode Ready e = ignored (ap (λ m. is_converge m && is_parent r.parent v) e)
      in_mode Abort e = ignored (ap (λ m. is_converge m && is_parent r.parent v) e)
      in_mode Converge e = by_test (is_parent r.parent v) (λ b. P (cond b (finish r) (idle r))) (heard e) (λ h. ignored (ap (λ m. is_converge m && is_parent r.parent v) e ∙ h))

  -- the link to v vanishes
  pub lost_cases :
      (r.mode ≡ Ready → P (idle (cut_from r v))) →
      (r.mode ≡ Abort → (contains r.pend v && is_empty (remove r.pend v)) ≡ false → P (idle (cut_from r v))) →
      (r.mode ≡ Converge → is_parent r.parent v ≡ false → P (idle (cut_from r v))) →
      (r.mode ≡ Converge → is_parent r.parent v ≡ true → P (finish (cut_from r v))) →
      (r.mode ≡ Abort → (contains r.pend v && is_empty (remove r.pend v)) ≡ true → without r.parent v ≡ None → P (finish (cut_from r v))) →
      (r.mode ≡ Abort → (contains r.pend v && is_empty (remove r.pend v)) ≡ true → (p : ℕ) → without r.parent v ≡ Some p → P (answer (record (cut_from r v) { mode = Converge }) p)) → P (lost r v)
  lost_cases ready waits other freed tops climbs = in_mode r.mode refl
    where
      in_mode : (m : Mode) → r.mode ≡ m → P (lost_in m (cut_from r v) (contains r.pend v) (is_parent r.parent v))
      in_mode Ready e = ready e
      in_mode Abort e = by_test (contains r.pend v && is_empty (remove r.pend v)) (λ b. P (cond b (acknowledged (cut_from r v) (without r.parent v)) (idle (cut_from r v))))
          (λ last. acknowledged_cases (cut_from r v) P (tops e last) (climbs e last)) (waits e)
      in_mode Converge e = by_test (is_parent r.parent v) (λ b. P (cond b (finish (cut_from r v)) (idle (cut_from r v)))) (freed e) (other e)

-- ---- what stays

-- a node with the state r goes on to the state s, to which a distance may have come, and has the neighbours near then
pub record Goes (r : NodeState) (near : NodeSet) (n : ℕ) (s : NodeState) : Type 0 where
  pub distance : (most : ℕ) → r.distance ≤ most → n ≤ most → s.distance ≤ most
  pub ready : (r.mode ≡ Ready → r.distance ≡ 0) → s.mode ≡ Ready → s.distance ≡ 0
  pub group : s.group ≡ r.group
  pub neighbours : s.neighbours ≡ near
  pub confirmed : s.confirmed ≡ r.confirmed
  pub least : r.epoch ≤ s.epoch
  pub most : s.epoch ≤ r.epoch + 1

module _ (r : NodeState) (near : NodeSet) (n : ℕ) where
  -- the epoch and the distance stay
  stays : (mode : Mode) (parent : Option ℕ) (pend : NodeSet) → (mode ≡ Ready → r.mode ≡ Ready) → Goes r near n (record r { mode = mode; parent = parent; pend = pend; neighbours = near })
  stays mode parent pend still = record { distance = λ most d _. d; ready = λ none is. none (still is); group = refl; neighbours = refl; confirmed = refl; least = omega arith; most = omega arith }

  -- a node that was Ready takes a distance, no greater than what the message carried
  takes : (mode : Mode) (parent : Option ℕ) (pend : NodeSet) (k : ℕ) → k ≤ n → (mode ≡ Ready → ⊥) → Goes r near n (record r { mode = mode; parent = parent; pend = pend; neighbours = near; distance = k })
  takes mode parent pend k less busy = record { distance = λ most _ d. omega (arith, less, d); ready = λ none is. absurd (busy is); group = refl; neighbours = refl; confirmed = refl; least = omega arith; most = omega arith }

  -- the node enters its next epoch
  enters : (pend : NodeSet) → Goes r near n (record r { mode = Ready; parent = None; pend = pend; neighbours = near; epoch = r.epoch + 1; distance = 0 })
  enters pend = record { distance = λ most _ _. omega arith; ready = λ none is. refl; group = refl; neighbours = refl; confirmed = refl; least = omega arith; most = omega arith }

module _ (version : ℕ) (r : NodeState) where
  -- the transition leaves the neighbours so
  abbrev To : NodeSet → ℕ → Transition → Type 0
  To near n d = Goes r near n d.state

  -- a reset that is asked for
  pub goes_request : To r.neighbours 0 (request version r)
  goes_request = request_cases version r (λ d k. To r.neighbours 0 d) (λ _ _. enters r r.neighbours 0 r.pend) (λ _ _. takes r r.neighbours 0 Abort None r.neighbours 0 (omega arith) (λ e. cc)) (stays r r.neighbours 0 r.mode r.parent r.pend (λ e. e))

  module _ (v : ℕ) where
    -- a message that comes
    pub goes_transition : (m : Msg) → To r.neighbours (carried m) (transition version m r v)
    goes_transition (msg.Abort n) = grind (arith, nat_tests)
    goes_transition msg.Ack = grind (arith, nat_tests)
    goes_transition msg.Ready = ready_cases r v (To r.neighbours 0) (λ _. stays r r.neighbours 0 r.mode r.parent r.pend (λ e. e)) (λ _ _. enters r r.neighbours 0 r.pend)

-- a link that vanishes
pub goes_lost : (r : NodeState) (v : ℕ) → Goes r (remove r.neighbours v) 0 (lost r v).state
goes_lost r v = grind (arith, nat_tests, stays r (remove r.neighbours v) 0 r.mode (without r.parent v) (remove r.pend v) (λ e. e), enters r (remove r.neighbours v) 0 (remove r.pend v))
