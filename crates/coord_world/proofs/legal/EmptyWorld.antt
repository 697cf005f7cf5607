-- The world before any step is legal and in its ranges: at numbers that no node can have, the default is Ready.
use Rattle.std.proofs.Common.{◌≡◌, ℕ, ◌<◌, Option, Some, None, refl, ap, arith, ◌≤◌, false, sym, ◌∙◌, is_some}
use Rattle.std.specs.Cmp.{nat_cmp_total}
use Rattle.std.specs.Option.{option_map}
use Rattle.coord_types.specs.Facade.{NodeState, get, contains}
use Rattle.coord_types.specs.declared.messages.Mode.TheVariants.{Ready}
use Rattle.coord_world.specs.Facade.{InRange, World, state, state_or_none, Legal, is_linked, no_world, pair_cmp_total}
use Rattle.coord_types.specs.declared.limits.TheConstants.{MAX_VERSIONS}
use Rattle.coord_types.proofs.Sets.{contains-empty}
use Rattle.coord_types.proofs.Tables.{get-empty, len-empty}
use Rattle.coord_tables.specs.Links.{Lanes, ends, lane_at, toward}
use Rattle.coord_tables.proofs.LinkLanes.{turned-empty}

-- ---- at numbers that no node can have

module _ (w : World) (range : InRange w) (v : ℕ) where
  of_option : (o : Option NodeState) → get w.nodes v ≡ o → ((r : NodeState) → o ≡ Some r → ⊥) → (state w v).mode ≡ Ready
  of_option None is never = ap (λ o. (state_or_none o).mode) is
  of_option (Some r) is never = absurd (never r refl)

  pub none_below : v < 1 → (state w v).mode ≡ Ready
  none_below low = of_option (get w.nodes v) refl (λ r is. omega (arith, low, (range.nodes v r is).least))

  pub none_above : 64 < v → (state w v).mode ≡ Ready
  none_above high = of_option (get w.nodes v) refl (λ r is. omega (arith, high, (range.nodes v r is).greatest))

-- ---- the empty world

module _ (version : ℕ) where
  -- no node
  no_row : (u : ℕ) → get (no_world version).nodes u ≡ None
  no_row u = get-empty nat_cmp_total u

  -- no lane
  pub no_lane : (u v : ℕ) → lane_at (no_world version).links u v ≡ None
  unfolding lane_at
  no_lane u v = ap (option_map (toward u v)) (get-empty pair_cmp_total (ends u v))

  -- no session
  no_session : (c : ℕ) → get (no_world version).sessions c ≡ None
  no_session c = get-empty nat_cmp_total c

  -- an empty world has no link
  no_link : (u v : ℕ) → is_linked (no_world version) u v ≡ false
  no_link u v = ap is_some (no_lane u v)

  -- nothing is out of range
  pub no_world_in_range : 1 ≤ version → version ≤ MAX_VERSIONS → InRange (no_world version)
  no_world_in_range first last = record {
    first = first;
    last = last;
    distances = λ u r is. let none = no_row u in cc;
    carried = λ u v l is. let none = no_lane u v in cc;
    count = omega arith;
    nodes = λ u r is. let none = no_row u in cc;
    lanes = λ u v l is. let none = no_lane u v in cc;
    short = λ u v l is. let none = no_lane u v in cc;
    awaited = λ u k awaits. let none = ap (λ o. contains (state_or_none o).pend k) (no_row u) ∙ contains-empty k in cc;
    parents = λ u p is. let none = ap (λ o. (state_or_none o).parent) (no_row u) in cc;
    sessions = λ c s is. let none = no_session c in cc;
    links = omega (arith, len-empty pair_cmp_total Lanes);
    linked = λ u v. no_link u v ∙ sym (contains-empty v) ∙ ap (λ o. contains (state_or_none o).neighbours v) (sym (no_row u));
    turned = turned-empty;
    ends = λ u v is. let none = no_link u v in cc;
    one_group = λ u v is. let none = no_link u v in cc;
    one_incarnation = λ u v l k is back. let none = no_lane u v in cc;
  }

  -- an empty world has nothing illegal
  pub no_world_legal : Legal (no_world version)
  no_world_legal = record {
    nodes = λ u r is. let none = no_row u in cc;
    lanes = λ u v l is. let none = no_lane u v in cc;
    links = λ u v is. let none = no_link u v in cc;
  }
