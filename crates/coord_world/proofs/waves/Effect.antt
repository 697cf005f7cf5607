-- What a step does to a wave, and what transitions that send no Abort leave on the way.
use Rattle.std.proofs.Common.{◌≡◌, ◌≢◌, ◌⊎◌, ℕ, ◌≤◌, true, false, List, [], ◌∷◌, Some, None, eqb, arith}
use Rattle.std.proofs.lemmas.Bool.Decides.{nat_tests}
use Rattle.coord_types.specs.Facade.{Ideal, NodeState, contains, after_front}
use Rattle.coord_types.specs.declared.messages.Mode.TheVariants.{Ready, Abort, Converge}
use Rattle.coord_types.specs.declared.steps.Kind.{Kind}
use Rattle.coord_types.specs.declared.steps.Kind.TheVariants.{Finished}
use Rattle.coord_node.specs.Rules.{is_empty}
use Rattle.coord_world.specs.protocol.Links.{aborts, readies, is_ready, one}
use Rattle.coord_types.specs.declared.messages.Msg.{Msg}
use Rattle.coord_node.specs.Facade.{Transition, added, headed, ideal_applied}
use Rattle.coord_world.proofs.legal.RulesKept.{after_take}
use Rattle.coord_tables.proofs.Cases.{everywhere}
use Rattle.coord_world.proofs.lanes.Transit.{aborts-append}

-- ---- a step

-- a node stays in its place in the wave
pub record SamePlace (r q : NodeState) : Type 0 where
  pub mode : q.mode ≡ r.mode
  pub parent : q.parent ≡ r.parent

-- no Abort joins those on the way, and none to a Ready node leaves them
pub record Calm (z y : Ideal) : Type 0 where
  pub fewer : (a b : ℕ) → aborts (y.in_transit a b) ≤ aborts (z.in_transit a b)
  pub kept : (a b : ℕ) → is_ready (z.state b).mode ≡ true → aborts (z.in_transit a b) ≤ aborts (y.in_transit a b)

-- no node signals
abbrev pub Silent : (ℕ → ℕ) → Type 0
Silent signals = (v : ℕ) → signals v ≡ 0

-- t alone signals
abbrev pub Signals : (ℕ → ℕ) → ℕ → Type 0
Signals signals t = (v : ℕ) → signals v ≡ one (eqb t v)

-- no node but t changes
abbrev pub Elsewhere : Ideal → Ideal → ℕ → Type 0
Elsewhere z y t = (x : ℕ) → x ≢ t → y.state x ≡ z.state x

-- each node stays in its place
pub record Passes (z y : Ideal) : Type 0 where
  pub same : (x : ℕ) → SamePlace (z.state x) (y.state x)
  pub calm : Calm z y

-- the Ready node t takes v's Abort, and sends one to every other neighbour
pub record Reaches (z y : Ideal) (t v : ℕ) : Type 0 where
  pub was : (z.state t).mode ≡ Ready
  pub near : contains (z.state t).neighbours v ≡ true
  pub came : 1 ≤ aborts (z.in_transit v t)
  pub busy : is_ready (y.state t).mode ≡ false
  pub parent : (y.state t).parent ≡ Some v
  pub elsewhere : Elsewhere z y t
  pub left : aborts (y.in_transit v t) ≡ 0
  pub sent : (x : ℕ) → contains (z.state t).neighbours x ≡ true → x ≢ v → 1 ≤ aborts (y.in_transit t x)
  pub apart : (a b : ℕ) → a ≢ t → b ≢ t → y.in_transit a b ≡ z.in_transit a b

-- the Abort node t awaits nobody any more, and acknowledges to its parent p
pub record Turns (z y : Ideal) (t p : ℕ) : Type 0 where
  pub was : (z.state t).mode ≡ Abort
  pub now : (y.state t).mode ≡ Converge
  pub parent : (z.state t).parent ≡ Some p
  pub same_parent : (y.state t).parent ≡ Some p
  pub elsewhere : Elsewhere z y t
  pub calm : Calm z y
  pub none : aborts (z.in_transit p t) ≡ 0

-- the node t, which nobody reached, awaits nobody any more
pub record Tops (z : Ideal) (t : ℕ) : Type 0 where
  pub was : (z.state t).mode ≡ Abort
  pub top : (z.state t).parent ≡ None

-- the node t takes its parent's Ready
pub record Hears (z : Ideal) (t v : ℕ) : Type 0 where
  pub was : (z.state t).mode ≡ Converge
  pub near : contains (z.state t).neighbours v ≡ true
  pub parent : (z.state t).parent ≡ Some v
  pub came : 1 ≤ readies (z.in_transit v t)

-- why t finishes
abbrev pub Cause : Ideal → ℕ → Type 0
Cause z t = Tops z t ⊎ ((v : ℕ) × Hears z t v)

-- the node t, which isn't Ready, finishes
pub record Finishes (z y : Ideal) (t : ℕ) : Type 0 where
  pub was : is_ready (z.state t).mode ≡ false
  pub cause : Cause z t
  pub now : (y.state t).mode ≡ Ready
  pub elsewhere : Elsewhere z y t
  pub calm : Calm z y

-- the Ready node t sends an Abort to every neighbour
pub record Starts (z y : Ideal) (t : ℕ) : Type 0 where
  pub was : (z.state t).mode ≡ Ready
  pub some : is_empty (z.state t).neighbours ≡ false
  pub now : (y.state t).mode ≡ Abort
  pub parent : (y.state t).parent ≡ None
  pub elsewhere : Elsewhere z y t
  pub sent : (x : ℕ) → contains (z.state t).neighbours x ≡ true → 1 ≤ aborts (y.in_transit t x)
  pub apart : (a b : ℕ) → a ≢ t → y.in_transit a b ≡ z.in_transit a b

-- what a step does that makes y of z: who signals, who starts, and the kind of its reply
pub data Effect (z y : Ideal) (signals : ℕ → ℕ) (starts : List ℕ) (k : Kind) : Type 0 where
  passes : Passes z y → Silent signals → starts ≡ [] → Effect z y signals starts k
  alone : (t : ℕ) → Passes z y → is_empty (z.state t).neighbours ≡ true → Signals signals t → k ≡ Finished → starts ≡ [] → Effect z y signals starts k
  reaches : (t v : ℕ) → Reaches z y t v → Silent signals → starts ≡ [] → Effect z y signals starts k
  turns : (t p : ℕ) → Turns z y t p → Silent signals → starts ≡ [] → Effect z y signals starts k
  finishes : (t : ℕ) → Finishes z y t → Signals signals t → starts ≡ [] → Effect z y signals starts k
  starts_at : (t : ℕ) → Starts z y t → Silent signals → starts ≡ t ∷ [] → Effect z y signals starts k

-- ---- transitions that send no Abort

-- to take a message leaves no more
fewer_after : (xs : List Msg) → aborts (after_front xs) ≤ aborts xs
fewer_after xs = grind (arith, nat_tests)

-- a transition sends no Abort
abbrev pub IsQuiet : Transition → Type 0
IsQuiet d = (y : ℕ) → aborts (added d y) ≡ 0

module _ (z : Ideal) (v t : ℕ) where
  -- a message that is taken is on no other way
  headed_fewer : (a b : ℕ) → aborts ((headed z v t).in_transit a b) ≤ aborts (z.in_transit a b)
  headed_fewer a b = grind (arith, nat_tests, fewer_after (z.in_transit a b))

  -- the message that was taken was no Abort, or its receiver wasn't Ready
  headed_kept : (is_ready (z.state t).mode ≡ true → aborts (z.in_transit v t) ≤ aborts (after_front (z.in_transit v t))) → (a b : ℕ) → is_ready (z.state b).mode ≡ true → aborts (z.in_transit a b) ≤ aborts ((headed z v t).in_transit a b)
  headed_kept h1 a b h2 = grind (arith, nat_tests, h1, h2)

module _ (z : Ideal) (t : ℕ) (d : Transition) (quiet : IsQuiet d) where
  -- a quiet transition leaves all Aborts on the way
  same_aborts : (a b : ℕ) → aborts ((ideal_applied z t d).in_transit a b) ≡ aborts (z.in_transit a b)
  same_aborts a b = grind (arith, nat_tests, aborts-append (z.in_transit a b) (added d b), quiet b)

  -- a quiet transition that takes nothing
  pub calm_transition : Calm z (ideal_applied z t d)
  calm_transition = record { fewer = λ a b. omega (arith, same_aborts a b); kept = λ a b ready. omega (arith, same_aborts a b) }

-- a quiet transition that takes a message
pub calm_take : (z : Ideal) (v t : ℕ) (d : Transition) → IsQuiet d → (is_ready (z.state t).mode ≡ true → aborts (z.in_transit v t) ≤ aborts (after_front (z.in_transit v t))) → Calm z (after_take z v t d)
calm_take z v t d quiet same = record {
  fewer = λ a b. omega (arith, same_aborts (headed z v t) t d quiet a b, headed_fewer z v t a b);
  kept = λ a b ready. omega (arith, same_aborts (headed z v t) t d quiet a b, headed_kept z v t same a b ready);
}

-- a transition at a node that stays in its place leaves each one in its place
pub same_places : (z : Ideal) (t : ℕ) (d : Transition) → SamePlace (z.state t) d.state → (x : ℕ) → SamePlace (z.state x) ((ideal_applied z t d).state x)
same_places z t d same = everywhere (λ x. SamePlace (z.state x) ((ideal_applied z t d).state x)) t
    (record { mode = grind (arith, nat_tests, same.mode); parent = grind (arith, nat_tests, same.parent) })
    (λ x apart. record { mode = grind (arith, nat_tests); parent = grind (arith, nat_tests) })
