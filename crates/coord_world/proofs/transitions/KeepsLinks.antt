-- A transition at one node keeps its state sound and its links legal, at both ends.
use Rattle.std.proofs.Common.{◌≡◌, ℕ, true, false, ◌&&◌, [], ◌∷◌, ◌++◌, arith, ◌≢◌, ◌+◌, Bool, not, Option, Some, None, cond, eqb, refl, sym, ap, ◌∙◌, subst, inl, inr}
use Rattle.std.proofs.lemmas.Bool.Decides.{nat_tests, eqb_tells}
use Rattle.std.proofs.lemmas.List.{append-nil}
use Rattle.coord_types.specs.declared.messages.Mode.TheVariants.{Ready, Abort, Converge}
use Rattle.coord_world.proofs.lanes.Transit.{ways}
use Rattle.coord_world.specs.protocol.Links.{End, Link, turned, is_abort, is_converge, is_ready, end_of}
use Rattle.coord_world.proofs.legal.Sound.{SoundLink, SoundNode}
use Rattle.coord_types.specs.Facade.{NodeSet, NodeState, contains}
use Rattle.coord_types.proofs.Sets.{contains-empty, len-empty, contains-remove}
use Rattle.coord_node.specs.Facade.{Transition, added, answer, carries, finish, idle, is_empty, is_parent, wave_back, wave_on, without, without_parent}
use Rattle.coord_world.proofs.transitions.RuleCases.{acked_by, cut_from}
use Rattle.coord_world.proofs.lists.NodeSets.{empty_has, has_only}
use Rattle.coord_types.specs.declared.messages.Msg.TheVariants as msg
use Rattle.coord_types.specs.NodeSet as set

-- ---- one link

-- what a node's own rules say of one end
pub record LegalEnd (e : End) : Type 0 where
  pub quiet : is_ready e.mode ≡ true → e.child ≡ false
  pub waiting : e.awaits ≡ true → is_abort e.mode ≡ true
  pub parent_outside : e.awaits ≡ true → e.child ≡ false

-- legal as both ends see it
pub record LegalBoth (l : Link) : Type 0 where
  pub here : LegalEnd l.here
  pub there : LegalEnd l.there
  pub from : SoundLink l
  pub to : SoundLink (turned l)

-- a Ready node sends an Abort to a neighbour that isn't its new parent
pub wave_goes_on : (l k : Link) → l.here.mode ≡ Ready → k.here.mode ≡ Abort → k.here.awaits ≡ true → k.here.child ≡ false → k.there ≡ l.there → k.out ≡ l.out ++ msg.Abort k.here.carries ∷ [] → k.back ≡ l.back → LegalBoth l → LegalBoth k
wave_goes_on l k e0 e1 e2 e3 e4 e5 e6 legal = grind (arith, nat_tests, ways, legal)

-- a Ready node takes an Abort, and waits for others
pub wave_reaches : (l k : Link) (n : ℕ) → k.here.distance ≡ n → l.here.mode ≡ Ready → k.here.mode ≡ Abort → k.here.awaits ≡ false → k.here.child ≡ true → k.there ≡ l.there → k.out ≡ l.out → l.back ≡ msg.Abort n ∷ k.back → LegalBoth l → LegalBoth k
wave_reaches l k n far e0 e1 e2 e3 e4 e5 e6 legal = grind (arith, nat_tests, ways, legal)

-- a Ready node without other neighbours takes an Abort
pub wave_ends : (l k : Link) (n : ℕ) → k.here.distance ≡ n → l.here.mode ≡ Ready → k.here.mode ≡ Converge → k.here.awaits ≡ false → k.here.child ≡ true → k.there ≡ l.there → k.out ≡ l.out ++ msg.Ack ∷ [] → l.back ≡ msg.Abort n ∷ k.back → LegalBoth l → LegalBoth k
wave_ends l k n far e0 e1 e2 e3 e4 e5 e6 legal = grind (arith, nat_tests, ways, legal)

-- a node that isn't Ready takes an Abort
pub wave_meets : (l k : Link) (n : ℕ) → is_ready l.here.mode ≡ false → k.here ≡ l.here → k.there ≡ l.there → k.out ≡ l.out ++ msg.Ack ∷ [] → l.back ≡ msg.Abort n ∷ k.back → LegalBoth l → LegalBoth k
wave_meets l k n e0 e1 e2 e3 e4 legal = grind (arith, nat_tests, ways, legal)

-- an Ack is taken and others are awaited
pub acked : (l k : Link) → k.here.distance ≡ l.here.distance → k.here.carries ≡ l.here.carries → l.here.mode ≡ Abort → k.here.mode ≡ Abort → k.here.awaits ≡ false → k.here.child ≡ l.here.child → k.there ≡ l.there → k.out ≡ l.out → l.back ≡ msg.Ack ∷ k.back → LegalBoth l → LegalBoth k
acked l k far same e0 e1 e2 e3 e4 e5 e6 legal = grind (arith, ways, legal)

-- the last Ack is taken by the initiator
pub acked_last : (l k : Link) → l.here.mode ≡ Abort → l.here.child ≡ false → k.here.mode ≡ Ready → k.here.awaits ≡ false → k.here.child ≡ false → k.there ≡ l.there → k.out ≡ l.out ++ msg.Ready ∷ [] → l.back ≡ msg.Ack ∷ k.back → LegalBoth l → LegalBoth k
acked_last l k e0 e1 e2 e3 e4 e5 e6 e7 legal = grind (arith, ways, legal)

-- a node that awaits nobody finishes
pub finishes : (l k : Link) → is_ready l.here.mode ≡ false → l.here.awaits ≡ false → l.here.child ≡ false → k.here.mode ≡ Ready → k.here.awaits ≡ false → k.here.child ≡ false → k.there ≡ l.there → k.out ≡ l.out ++ msg.Ready ∷ [] → k.back ≡ l.back → LegalBoth l → LegalBoth k
finishes l k e0 e1 e2 e3 e4 e5 e6 e7 e8 legal = grind (arith, ways, legal)

-- the last Ack is taken by a node with another parent
pub converges_near : (l k : Link) → k.here.distance ≡ l.here.distance → k.here.carries ≡ l.here.carries → l.here.mode ≡ Abort → l.here.child ≡ false → k.here.mode ≡ Converge → k.here.awaits ≡ false → k.here.child ≡ false → k.there ≡ l.there → k.out ≡ l.out → l.back ≡ msg.Ack ∷ k.back → LegalBoth l → LegalBoth k
converges_near l k far same e0 e1 e2 e3 e4 e5 e6 e7 legal = grind (arith, ways, legal)

-- an Ack goes to the parent
pub converges_up : (l k : Link) → k.here.distance ≡ l.here.distance → k.here.carries ≡ l.here.carries → l.here.mode ≡ Abort → l.here.awaits ≡ false → l.here.child ≡ true → k.here.mode ≡ Converge → k.here.awaits ≡ false → k.here.child ≡ true → k.there ≡ l.there → k.out ≡ l.out ++ msg.Ack ∷ [] → k.back ≡ l.back → LegalBoth l → LegalBoth k
converges_up l k far same e0 e1 e2 e3 e4 e5 e6 e7 e8 legal = grind (arith, ways, legal)

-- any other neighbour of a node that converges
pub converges_far : (l k : Link) → k.here.distance ≡ l.here.distance → k.here.carries ≡ l.here.carries → l.here.mode ≡ Abort → l.here.awaits ≡ false → l.here.child ≡ false → k.here.mode ≡ Converge → k.here.awaits ≡ false → k.here.child ≡ false → k.there ≡ l.there → k.out ≡ l.out → k.back ≡ l.back → LegalBoth l → LegalBoth k
converges_far l k far same e0 e1 e2 e3 e4 e5 e6 e7 e8 legal = grind (arith, ways, legal)

-- a Converge node takes its parent's Ready
pub released : (l k : Link) → l.here.mode ≡ Converge → l.here.child ≡ true → k.here.mode ≡ Ready → k.here.awaits ≡ false → k.here.child ≡ false → k.there ≡ l.there → k.out ≡ l.out → l.back ≡ msg.Ready ∷ k.back → LegalBoth l → LegalBoth k
released l k e0 e1 e2 e3 e4 e5 e6 e7 legal = grind (arith, ways, legal)

-- a Ready is ignored
pub passed_by : (l k : Link) → (is_converge l.here.mode && l.here.child) ≡ false → k.here ≡ l.here → k.there ≡ l.there → k.out ≡ l.out → l.back ≡ msg.Ready ∷ k.back → LegalBoth l → LegalBoth k
passed_by l k e0 e1 e2 e3 e4 legal = grind (arith, ways, legal)

-- a link that was just made
pub joined : (l : Link) → l.here.child ≡ false → l.there.child ≡ false → l.here.awaits ≡ false → l.there.awaits ≡ false → l.out ≡ [] → l.back ≡ [] → SoundLink l
joined l h t a b e f = grind (arith, ways)

-- ---- all links of the node

-- the neighbours without the parent
pub has_without : (s : NodeSet) (p : Option ℕ) (y : ℕ) → contains (without_parent s p) y ≡ (not (is_parent p y) && contains s y)
has_without s None y = refl
has_without s (Some p) y = grind (arith, nat_tests, contains-remove s p y)

-- a remaining parent
child_left : (p : Option ℕ) (b y : ℕ) → is_parent (without p b) y ≡ (not (eqb y b) && is_parent p y)
child_left p b y = grind (arith, nat_tests)

-- a state s that is r except at v, and whose sets fit each other
pub record Aside (r s : NodeState) (v : ℕ) : Type 0 where
  pub mode : s.mode ≡ r.mode
  pub distance : s.distance ≡ r.distance
  pub awaits : (y : ℕ) → y ≢ v → contains s.pend y ≡ contains r.pend y
  pub child : (y : ℕ) → y ≢ v → is_parent s.parent y ≡ is_parent r.parent y
  pub near : (y : ℕ) → y ≢ v → contains s.neighbours y ≡ contains r.neighbours y
  pub parent_outside : (y : ℕ) → is_parent s.parent y ≡ true → contains s.pend y ≡ false
  pub parent_near : (y : ℕ) → is_parent s.parent y ≡ true → contains s.neighbours y ≡ true
  pub within : (y : ℕ) → contains s.pend y ≡ true → contains s.neighbours y ≡ true

module _ (r : NodeState) (v : ℕ) (node : SoundNode r) where
  -- the state itself
  pub aside_self : Aside r r v
  aside_self = record { mode = refl; distance = refl; awaits = λ y far. refl; child = λ y far. refl; near = λ y far. refl; parent_outside = node.parent_outside; parent_near = node.parent_near; within = node.within }

  -- when v is awaited no more
  pub aside_acked : Aside r (acked_by r v) v
  aside_acked = record {
    mode = refl;
    distance = refl;
    awaits = λ y far. grind (arith, nat_tests, contains-remove r.pend v y);
    child = λ y far. refl;
    near = λ y far. refl;
    parent_outside = λ y e. grind (arith, nat_tests, contains-remove r.pend v y, node.parent_outside y e);
    parent_near = node.parent_near;
    within = λ y e. grind (arith, nat_tests, contains-remove r.pend v y, node.within y);
  }

  -- without the link to v
  pub aside_lost : Aside r (cut_from r v) v
  aside_lost = record {
    mode = refl;
    distance = refl;
    awaits = λ y far. grind (arith, nat_tests, contains-remove r.pend v y);
    child = λ y far. grind (arith, nat_tests, child_left r.parent v y);
    near = λ y far. grind (arith, nat_tests, contains-remove r.neighbours v y);
    parent_outside = λ y e. grind (arith, nat_tests, contains-remove r.pend v y, child_left r.parent v y, node.parent_outside y);
    parent_near = λ y e. grind (arith, nat_tests, contains-remove r.neighbours v y, child_left r.parent v y, node.parent_near y);
    within = λ y e. grind (arith, nat_tests, contains-remove r.pend v y, contains-remove r.neighbours v y, node.within y);
  }

-- what the transition d at a node with the state r keeps, where its cause is v
pub record Keeps (version : ℕ) (r : NodeState) (v : ℕ) (d : Transition) : Type 0 where
  pub node : SoundNode d.state
  pub elsewhere : (l : Link) (y : ℕ) → y ≢ v → contains r.neighbours y ≡ true → l.here ≡ end_of version r y → LegalBoth l → LegalBoth (record l { here = end_of version d.state y; out = l.out ++ added d y })

-- a transition that changes no other end, and sends there nothing
quiet : (version : ℕ) (r : NodeState) (v : ℕ) (d : Transition) → SoundNode d.state → ((y : ℕ) → y ≢ v → end_of version r y ≡ end_of version d.state y) → ((y : ℕ) → y ≢ v → contains d.to y ≡ false) → Keeps version r v d
quiet version r v d node ends none = record {
  node = node;
  elsewhere = λ l y far near here both. subst LegalBoth (λ i. record l { here = (here ∙ ends y far) i; out = sym (nothing l y far) i }) both;
}
  where
    nothing : (l : Link) (y : ℕ) → y ≢ v → l.out ++ added d y ≡ l.out
    nothing l y far = grind (arith, none y far, append-nil l.out)

module _ (version : ℕ) (r s : NodeState) (v : ℕ) (aside : Aside r s v) where
  -- the node carries to others the same as before
  same_carries : carries version s ≡ carries version r
  same_carries i = cond (eqb version 1) 0 (aside.distance i + 1)

  -- nothing happens
  pub keeps_idle : SoundNode s → Keeps version r v (idle s)
  keeps_idle node = quiet version r v (idle s) node (λ y far i. record { mode = sym aside.mode i; awaits = sym (aside.awaits y far) i; child = sym (aside.child y far) i; distance = sym aside.distance i; carries = sym same_carries i }) (λ y far. contains-empty y)

  -- a node that awaits nobody finishes
  pub finished : is_empty s.pend ≡ true → SoundNode (finish s).state
  finished none = record { awaits = λ e. cc; quiet = λ e. none; no_parent = λ e. refl; has_parent = λ e n. cc; parent_outside = λ y e. cc; parent_near = λ y e. cc; within = aside.within }

  pub keeps_finish : is_ready r.mode ≡ false → is_empty s.pend ≡ true → ((y : ℕ) → y ≢ v → is_parent s.parent y ≡ false) → Keeps version r v (finish s)
  keeps_finish busy none top = record {
    node = finished none;
    elsewhere = λ l y far near here both. finishes l _ (ap (λ e. is_ready e.mode) here ∙ busy)
        (ap (λ e. e.awaits) here ∙ sym (aside.awaits y far) ∙ empty_has s.pend y none) (ap (λ e. e.child) here ∙ sym (aside.child y far) ∙ top y far)
        refl (empty_has s.pend y none) refl refl (ap (λ ms. l.out ++ ms) (sends y far near)) refl both;
  }
    where
      sends : (y : ℕ) → y ≢ v → contains r.neighbours y ≡ true → added (finish s) y ≡ msg.Ready ∷ []
      sends y far near = grind (arith, nat_tests, has_without s.neighbours s.parent y, aside.near y far, top y far)

  -- a node that awaits nobody acknowledges to its parent
  pub keeps_converge : (p : ℕ) → r.mode ≡ Abort → is_empty s.pend ≡ true → s.parent ≡ Some p → Keeps version r v (answer (record s { mode = Converge }) p)
  keeps_converge p mode none up = record {
    node = record { awaits = λ e. cc; quiet = λ e. none; no_parent = λ e. cc; has_parent = λ e n. cc (up, n); parent_outside = aside.parent_outside; parent_near = aside.parent_near; within = aside.within };
    elsewhere = λ l y far near here both.
        let still : l.here.awaits ≡ false = ap (λ e. e.awaits) here ∙ sym (aside.awaits y far) ∙ empty_has s.pend y none in
        let child : l.here.child ≡ eqb p y = ap (λ e. e.child) here ∙ sym (aside.child y far) ∙ ap (λ q. is_parent q y) up in
        let wait : l.here.mode ≡ Abort = ap (λ e. e.mode) here ∙ mode in
        let apart : s.distance ≡ l.here.distance = aside.distance ∙ sym (ap (λ e. e.distance) here) in
        let sent : carries version s ≡ l.here.carries = same_carries ∙ sym (ap (λ e. e.carries) here) in
        elim (eqb_tells y p) [
          | inl same ↦ converges_up l _ apart sent wait still (child ∙ grind (arith, nat_tests)) refl (empty_has s.pend y none) (ap (λ q. is_parent q y) up ∙ grind (arith, nat_tests)) refl
              (grind (arith, nat_tests, has_only p y)) refl both
          | inr other ↦ converges_far l _ apart sent wait still (child ∙ grind (arith, nat_tests)) refl (empty_has s.pend y none) (ap (λ q. is_parent q y) up ∙ grind (arith, nat_tests)) refl
              (grind (arith, nat_tests, has_only p y, append-nil l.out)) refl both
        ];
  }

module _ (version : ℕ) (r : NodeState) (v : ℕ) (node : SoundNode r) where
  -- v is answered
  pub keeps_answer : Keeps version r v (answer r v)
  keeps_answer = quiet version r v (answer r v) node (λ y far. refl) (λ y far. grind (arith, nat_tests, has_only v y))

  -- a Ready node awaits nobody
  ready_quiet : r.mode ≡ Ready → is_empty r.pend ≡ true
  ready_quiet ready = node.quiet (ap is_abort ready)

  -- one without neighbours finishes
  pub keeps_alone : r.mode ≡ Ready → is_empty r.neighbours ≡ true → Keeps version r v (finish r)
  keeps_alone ready none = record {
    node = finished version r r v (aside_self r v node) (ready_quiet ready);
    elsewhere = λ l y far near here both. absurd (grind (arith, near, empty_has r.neighbours y none));
  }

  -- a Ready node passes the wave on to all neighbours but its new parent
  pub keeps_wave_on : (parent : Option ℕ) (others : NodeSet) (n : ℕ) → r.mode ≡ Ready → is_empty others ≡ false →
      ((y : ℕ) → is_parent parent y ≡ true → y ≡ v) → ((y : ℕ) → contains others y ≡ (not (is_parent parent y) && contains r.neighbours y)) → (is_parent parent v ≡ true → contains r.neighbours v ≡ true) →
      Keeps version r v (wave_on version r parent others n)
  keeps_wave_on parent others n ready some up rest near_v = record {
    node = record {
      awaits = λ _. some;
      quiet = λ e. cc;
      no_parent = λ e. cc;
      has_parent = λ e. cc;
      parent_outside = λ y e. grind (arith, rest y);
      parent_near = λ y e. let same : y ≡ v = up y e in rw same (near_v (rw (sym same) e));
      within = λ y e. grind (arith, rest y);
    };
    elsewhere = λ l y far near here both.
        let other : is_parent parent y ≡ false = no_parent y far (is_parent parent y) refl in
        let has : contains others y ≡ true = grind (arith, rest y, other, near) in
        wave_goes_on l _ (ap (λ e. e.mode) here ∙ ready) refl has other refl (grind (arith, has)) refl both;
  }
    where
      no_parent : (y : ℕ) → y ≢ v → (b : Bool) → is_parent parent y ≡ b → b ≡ false
      no_parent y far true e = absurd (far (up y e))
      no_parent y far false e = refl

  -- one with no other neighbour than v answers it
  pub keeps_wave_back : (n : ℕ) → r.mode ≡ Ready → is_empty (set.remove r.neighbours v) ≡ true → contains r.neighbours v ≡ true → Keeps version r v (wave_back r v n)
  keeps_wave_back n ready none near_v = record {
    node = record {
      awaits = λ e. cc;
      quiet = λ e. grind (arith, nat_tests, len-empty);
      no_parent = λ e. cc;
      has_parent = λ e n. cc;
      parent_outside = λ y e. contains-empty y;
      parent_near = λ y e. grind (arith, nat_tests, near_v);
      within = λ y e. cc (contains-empty y);
    };
    elsewhere = λ l y far near here both. absurd (grind (arith, nat_tests, contains-remove r.neighbours v y, empty_has (set.remove r.neighbours v) y none, near));
  }
