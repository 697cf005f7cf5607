-- Each rule keeps a world sound: a state that changes alone, a message that is taken, a reset that is requested.
use Rattle.std.proofs.Common.{◌≡◌, ℕ, true, ◌++◌, refl, sym, subst, arith, ◌≢◌, List, ◌∷◌, ◌∙◌, inl, inr, false, Option, Some, None, ap, eqb}
use Rattle.std.proofs.lemmas.Bool.Decides.{nat_tests}
use Rattle.std.proofs.lemmas.List.{append-nil}
use Rattle.coord_types.specs.Facade.{Ideal, NodeState, new_node, contains}
use Rattle.coord_types.proofs.Sets.{contains-empty, empty_of_len, len-empty, contains-remove}
use Rattle.coord_node.specs.Facade.{added, ideal_applied, idle, is_empty, set_state, Transition, headed, answer, carries, finish, is_parent, kept, on_abort, on_ack, on_ready, request, transition, wave_back, wave_on}
use Rattle.coord_world.proofs.legal.Sound.{SoundNode, Sound}
use Rattle.coord_world.specs.protocol.Links.{end_of, Link, link, acks, is_abort, is_ready, strays}
use Rattle.coord_world.proofs.legal.TransitionKept.{but_of, links_of, transition_kept, SoundBut, both_before, not_self, far_after}
use Rattle.coord_world.proofs.transitions.KeepsLinks.{LegalBoth, acked, acked_last, converges_near, passed_by, released, wave_ends, wave_meets, wave_reaches, Keeps, Aside, aside_acked, aside_self, has_without, keeps_alone, keeps_answer, keeps_converge, keeps_finish, keeps_idle, keeps_wave_back, keeps_wave_on}
use Rattle.coord_world.proofs.lists.NodeSets.{empty_has, has_only}
use Rattle.coord_types.specs.declared.messages.Msg.{Msg}
use Rattle.coord_tables.proofs.Cases.{same_or_apart}
use Rattle.coord_types.specs.declared.messages.Mode.TheVariants.{Abort, Converge}
use Rattle.coord_world.proofs.transitions.RuleCases.{abort_cases, ack_cases, acked_by, ready_cases, request_cases}
use Rattle.coord_types.specs.NodeSet as set
use Rattle.coord_types.specs.declared.messages.Msg.TheVariants as msg

-- ---- a change of a node's state alone keeps a world sound

-- a node's law looks at four fields
pub same_node : (r s : NodeState) → r.mode ≡ s.mode → r.parent ≡ s.parent → r.pend ≡ s.pend → r.neighbours ≡ s.neighbours → SoundNode r → SoundNode s
same_node r s mode parent pend neighbours node = grind (arith, nat_tests, mode, parent, pend, neighbours, node)

module _ (w : Ideal) (u : ℕ) (r : NodeState) (sound : Sound w) where
  -- a state that changes is a transition that sends nothing
  set_acts : set_state w u r ≡ ideal_applied w u (idle r)
  set_acts i = record { version = w.version; state = (set_state w u r).state; linked = w.linked; in_transit = λ x y. same x y i }
    where
      same : (x y : ℕ) → w.in_transit x y ≡ (ideal_applied w u (idle r)).in_transit x y
      same x y = grind (arith, nat_tests, contains-empty y, append-nil (w.in_transit x y))

  -- a changed state keeps a world sound if the neighbours and the ends of the links stay
  pub row_kept : r.neighbours ≡ (w.state u).neighbours → SoundNode r → ((y : ℕ) → w.linked u y ≡ true → end_of w.version r y ≡ end_of w.version (w.state u) y) → Sound (set_state w u r)
  row_kept neighbours node ends = subst Sound (sym set_acts) (transition_kept w u (idle r) (but_of w u sound)
      (λ y with_y. subst LegalBoth (λ i. record { here = sym (ends y with_y) i; there = end_of w.version (w.state y) u; out = sym (nothing y) i; back = w.in_transit y u }) ((links_of w sound).links u y with_y))
      neighbours node)
    where
      nothing : (y : ℕ) → w.in_transit u y ++ added (idle r) y ≡ w.in_transit u y
      nothing y = grind (arith, contains-empty y, append-nil (w.in_transit u y))

-- a new node
pub new_legal : (g : ℕ) → SoundNode (new_node g)
new_legal g = record {
  awaits = λ e. cc;
  quiet = λ e. grind (arith, nat_tests, len-empty);
  no_parent = λ e. refl;
  has_parent = λ e n. cc;
  parent_outside = λ y e. cc;
  parent_near = λ y e. cc;
  within = λ y e. e;
}

module _ (w : Ideal) (u : ℕ) (sound : Sound w) where
  -- more of the node's epochs is confirmed
  pub confirm_kept : (e : ℕ) → Sound (set_state w u (record (w.state u) { confirmed = e }))
  confirm_kept e = grind (arith, nat_tests)

  -- a node without neighbours begins again
  pub new_kept : (g : ℕ) → is_empty (w.state u).neighbours ≡ true → Sound (set_state w u (new_node g))
  new_kept g alone = row_kept w u (new_node g) sound (sym (empty_of_len (w.state u).neighbours (grind (arith, nat_tests)))) (new_legal g)
      (λ y with_y. absurd (grind (arith, sound.linked u y, empty_has (w.state u).neighbours y alone)))

-- ---- a transition at the node that takes a message keeps the world sound, if it keeps the node's links legal

-- u takes the front message from v, and does a transition
abbrev pub after_take : Ideal → ℕ → ℕ → Transition → Ideal
after_take w v u d = ideal_applied (headed w v u) u d

module _ (w : Ideal) (v u : ℕ) where
  -- the message has left the way
  pub way_back : (m : Msg) (rest : List Msg) → w.in_transit v u ≡ m ∷ rest → (headed w v u).in_transit v u ≡ rest
  way_back m rest front = grind (arith, nat_tests)

  -- nothing else that comes to u changes
  way_back_far : (y : ℕ) → y ≢ v → (headed w v u).in_transit y u ≡ w.in_transit y u
  way_back_far y far = grind (arith, nat_tests)

  -- nothing that goes to others changes
  pub way_apart : (x y : ℕ) → y ≢ u → (headed w v u).in_transit x y ≡ w.in_transit x y
  way_apart x y apart = grind (arith, nat_tests)

module _ (w : Ideal) (v u : ℕ) (m : Msg) (rest : List Msg) (front : w.in_transit v u ≡ m ∷ rest) (near : contains (w.state u).neighbours v ≡ true) (sound : Sound w) where
  -- without the message the world is sound but for the links of its receiver
  headed_but : SoundBut (headed w v u) u
  headed_but =
      let ok = links_of w sound in
      record { links = λ x y p q with_y. subst LegalBoth (sym (apart_is x y p q)) (ok.links x y with_y); nodes = sound.nodes; linked = sound.linked; mirrored = ok.mirrored; apart = ok.apart }
    where
      apart_is : (x y : ℕ) → x ≢ u → y ≢ u → link (headed w v u) x y ≡ link w x y
      apart_is x y p q i = record { here = end_of w.version (w.state x) y; there = end_of w.version (w.state y) x; out = way_apart w v u x y q i; back = way_apart w v u y x p i }

  module _ (d : Transition) where
    -- the link to the sender after the transition
    abbrev pub near_after : Link
    near_after = record { here = end_of w.version d.state v; there = end_of w.version (w.state v) u; out = w.in_transit u v ++ added d v; back = rest }

    near_is : v ≢ u → far_after (headed w v u) u d v ≡ near_after
    near_is apart i = record { here = end_of w.version d.state v; there = end_of w.version (w.state v) u; out = way_apart w v u u v apart i ++ added d v; back = way_back w v u m rest front i }

    -- any other link of the node
    far_is : (y : ℕ) → y ≢ u → y ≢ v → far_after (headed w v u) u d y ≡ far_after w u d y
    far_is y apart far i = record { here = end_of w.version d.state y; there = end_of w.version (w.state y) u; out = way_apart w v u u y apart i ++ added d y; back = way_back_far w v u y far i }

    -- the world after a packet was taken is sound
    pub take_kept : d.state.neighbours ≡ (w.state u).neighbours → Keeps w.version (w.state u) v d → LegalBoth near_after → Sound (after_take w v u d)
    take_kept same keeps at_sender = transition_kept (headed w v u) u d headed_but each same keeps.node
      where
        each : (y : ℕ) → w.linked u y ≡ true → LegalBoth (far_after (headed w v u) u d y)
        each y with_y =
            let near_y : contains (w.state u).neighbours y ≡ true = sym (sound.linked u y) ∙ with_y in
            elim (same_or_apart y v) [
              | inl here ↦ rw here (subst LegalBoth (sym (near_is (not_self w u sound v near))) at_sender)
              | inr far ↦ subst LegalBoth (sym (far_is y (not_self w u sound y near_y) far)) (keeps.elsewhere (link w u y) y far near_y refl (both_before w u sound y near_y))
            ]

-- ---- the rules

-- a parent is one node
pub one_parent : (p : Option ℕ) (x y : ℕ) → is_parent p x ≡ true → y ≢ x → is_parent p y ≡ false
one_parent p x y h1 h2 = grind (arith, nat_tests, h1, h2)

-- what a transition that sends nothing adds
nothing : (xs : List Msg) (r : NodeState) (y : ℕ) → xs ++ added (idle r) y ≡ xs
nothing xs r y = grind (arith, contains-empty y, append-nil xs)

module _ (w : Ideal) (u : ℕ) (sound : Sound w) where
  -- the node that acts
  abbrev r : NodeState
  r = w.state u

  -- a transition whose cause is the node itself
  own : (d : Transition) → d.state.neighbours ≡ r.neighbours → Keeps w.version r u d → Sound (ideal_applied w u d)
  own d same keeps = transition_kept w u d (but_of w u sound) (λ y with_y.
      let near : contains r.neighbours y ≡ true = sym (sound.linked u y) ∙ with_y in
      keeps.elsewhere (link w u y) y (not_self w u sound y near) near refl (both_before w u sound y near)) same keeps.node

  -- a reset that is asked for
  pub reset_kept : Sound (ideal_applied w u (request w.version r))
  reset_kept = request_cases w.version r (λ d k. Sound (ideal_applied w u d))
      (λ ready none. own (finish r) refl (keeps_alone w.version r u (sound.nodes u) ready none))
      (λ ready some. own (wave_on w.version r None r.neighbours 0) refl (keeps_wave_on w.version r u (sound.nodes u) None r.neighbours 0 ready some (λ y e. cc) (λ y. refl) (λ e. cc)))
      (own (idle r) refl (keeps_idle w.version r r u (aside_self r u (sound.nodes u)) (sound.nodes u)))

module _ (w : Ideal) (v u : ℕ) (rest : List Msg) (near : contains (w.state u).neighbours v ≡ true) (sound : Sound w) where
  -- the node that takes the message, and its link to the sender before
  abbrev taker : NodeState
  taker = w.state u

  before : LegalBoth (link w u v)
  before = both_before w u sound v near

  -- an Abort carries what its sender's Aborts carry, so the taker keeps just that
  kept_whole : (n : ℕ) → w.in_transit v u ≡ msg.Abort n ∷ rest → kept w.version n ≡ n
  kept_whole n front =
      let link = sound.links v u (sym (sound.mirrored u v) ∙ near) in
      let right = subst (λ ms. strays (carries w.version (w.state v)) ms ≡ 0) front link.carried in
      grind (arith, nat_tests, right)

  -- an Abort that is taken
  abort_taken : (n : ℕ) → kept w.version n ≡ n → w.in_transit v u ≡ msg.Abort n ∷ rest → Sound (after_take w v u (on_abort w.version taker v n))
  abort_taken n same front = abort_cases w.version taker v (λ d. Sound (after_take w v u d)) n
      (λ ready none. rw same (take_kept w v u (msg.Abort n) rest front near sound (wave_back taker v n) refl (keeps_wave_back w.version taker v (sound.nodes u) n ready none near)
      (wave_ends (link w u v) _ n refl ready refl (contains-empty v) (grind (arith, nat_tests)) refl (grind (arith, nat_tests, has_only v v)) front before)))
      (λ ready some. rw same (take_kept w v u (msg.Abort n) rest front near sound (wave_on w.version taker (Some v) (set.remove taker.neighbours v) n) refl
      (keeps_wave_on w.version taker v (sound.nodes u) (Some v) (set.remove taker.neighbours v) n ready some (λ y e. grind (arith, nat_tests)) (λ y. grind (arith, nat_tests, contains-remove taker.neighbours v y)) (λ _. near))
      (wave_reaches (link w u v) _ n refl ready refl (grind (arith, nat_tests, contains-remove taker.neighbours v v)) (grind (arith, nat_tests)) refl
      (grind (arith, nat_tests, contains-remove taker.neighbours v v, append-nil (w.in_transit u v))) front before)))
      (λ busy. take_kept w v u (msg.Abort n) rest front near sound (answer taker v) refl (keeps_answer w.version taker v (sound.nodes u))
      (wave_meets (link w u v) _ n busy refl refl (grind (arith, nat_tests, has_only v v)) front before))

  module _ (front : w.in_transit v u ≡ msg.Ack ∷ rest) where
    -- the sender was awaited
    pub awaited : contains taker.pend v ≡ true
    awaited = let count = (sound.links u v near).counted in grind (arith, ap acks front)

    -- somebody was awaited
    pub some_awaited : is_empty taker.pend ≡ false
    some_awaited = grind (arith, awaited, empty_has taker.pend v)

    -- the node that takes the acknowledgement is in its wave
    pub waiting : taker.mode ≡ Abort
    waiting = grind (arith, (sound.nodes u).quiet, some_awaited)

    -- the state without the sender
    aside : Aside taker (acked_by taker v) v
    aside = aside_acked taker v (sound.nodes u)

    -- others are still awaited
    still_waits : is_empty (set.remove taker.pend v) ≡ false → SoundNode (acked_by taker v)
    still_waits more = record {
      awaits = λ e. more;
      quiet = λ e. cc (ap is_abort waiting);
      no_parent = (sound.nodes u).no_parent;
      has_parent = (sound.nodes u).has_parent;
      parent_outside = aside.parent_outside;
      parent_near = aside.parent_near;
      within = aside.within;
    }

    -- an Ack that is taken
    ack_taken : Sound (after_take w v u (on_ack taker v))
    ack_taken = ack_cases taker v (λ d. Sound (after_take w v u d))
        (λ none. absurd (grind (arith, none, some_awaited)))
        (λ more. take_kept w v u msg.Ack rest front near sound (idle (acked_by taker v)) refl (keeps_idle w.version taker (acked_by taker v) v aside (still_waits more))
        (acked (link w u v) _ refl refl waiting waiting (grind (arith, nat_tests, contains-remove taker.pend v v)) refl refl (nothing _ (acked_by taker v) v) front before))
        (λ none top. take_kept w v u msg.Ack rest front near sound (finish (acked_by taker v)) refl (keeps_finish w.version taker (acked_by taker v) v aside (ap is_ready waiting) none (λ y far. ap (λ o. is_parent o y) top))
        (acked_last (link w u v) _ waiting (ap (λ o. is_parent o v) top) refl (empty_has (set.remove taker.pend v) v none) refl refl
        (grind (arith, nat_tests, has_without taker.neighbours taker.parent v, top)) front before))
        (λ none p up.
        let outside : is_parent taker.parent v ≡ false = grind (arith, (sound.nodes u).parent_outside v, awaited) in
        let not_v : eqb v p ≡ false = grind (arith, nat_tests, up, outside) in
        take_kept w v u msg.Ack rest front near sound (answer (record (acked_by taker v) { mode = Converge }) p) refl (keeps_converge w.version taker (acked_by taker v) v aside p waiting none up)
        (converges_near (link w u v) _ refl refl waiting outside refl (empty_has (set.remove taker.pend v) v none) outside refl
        (grind (arith, nat_tests, has_only p v, not_v, append-nil (w.in_transit u v))) front before))

  -- a Ready that is taken
  ready_taken : w.in_transit v u ≡ msg.Ready ∷ rest → Sound (after_take w v u (on_ready taker v))
  ready_taken front = ready_cases taker v (λ d. Sound (after_take w v u d))
      (λ deaf. take_kept w v u msg.Ready rest front near sound (idle taker) refl (keeps_idle w.version taker taker v (aside_self taker v (sound.nodes u)) (sound.nodes u))
      (passed_by (link w u v) _ deaf refl refl (nothing _ taker v) front before))
      (λ mode child.
      let none = (sound.nodes u).quiet (ap is_abort mode) in
      take_kept w v u msg.Ready rest front near sound (finish taker) refl
      (keeps_finish w.version taker taker v (aside_self taker v (sound.nodes u)) (ap is_ready mode) none (λ y far. one_parent taker.parent v y child far))
      (released (link w u v) _ mode child refl (empty_has taker.pend v none) refl refl
      (grind (arith, nat_tests, has_without taker.neighbours taker.parent v, child, append-nil (w.in_transit u v))) front before))

-- any message that is taken
pub taken_kept : (w : Ideal) (v u : ℕ) (m : Msg) (rest : List Msg) → w.in_transit v u ≡ m ∷ rest → contains (w.state u).neighbours v ≡ true → Sound w → Sound (after_take w v u (transition w.version m (w.state u) v))
taken_kept w v u (msg.Abort n) rest front near sound = abort_taken w v u rest near sound n (kept_whole w v u rest near sound n front) front
taken_kept w v u msg.Ack rest front near sound = ack_taken w v u rest near sound front
taken_kept w v u msg.Ready rest front near sound = ready_taken w v u rest near sound front
