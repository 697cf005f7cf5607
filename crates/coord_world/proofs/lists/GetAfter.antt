-- Look-ups in a world's tables after each change of the world.
use Rattle.std.proofs.Common.{arith, ◌≡◌, ℕ, ◌+◌, Bool, true, false, Option, Some, None, refl, subst, cond, eqb}
use Rattle.std.proofs.lemmas.Bool.Decides.{nat_tests}
use Rattle.coord_types.proofs.Tables.{option_map}
use Rattle.coord_link.specs.LaneMachine.{Lane, sent, new_lane}
use Rattle.coord_node.specs.Facade.{Transition, added, is_link}
use Rattle.coord_types.specs.declared.steps.Command.TheVariants.{Join, Drop}
use Rattle.coord_tables.proofs.LinkLanes.{lane-changed, lane-joined, lane-parted}
use Rattle.coord_world.specs.Facade.{World, is_lane, lane_at, on_lane, with_command, with_transition}

module _ (w : World) where
  -- a lane after a transition at u
  pub lane_done : (u : ℕ) (d : Transition) (x y : ℕ) → lane_at (with_transition w u d).links x y ≡ option_map (λ l. cond (eqb x u) (sent (added d y) l) l) (lane_at w.links x y)
  lane_done u d x y = lane-changed w.links (λ k l. cond (eqb k.0 u) (sent (added d k.1) l) l) x y

  -- a lane after a change of the one from u to v
  pub lane_on : (u v : ℕ) (f : Lane → Lane) (x y : ℕ) → lane_at (on_lane w u v f).links x y ≡ option_map (λ l. cond (is_lane (x, y) u v) (f l) l) (lane_at w.links x y)
  lane_on u v f x y = lane-changed w.links (λ k l. cond (is_lane k u v) (f l) l) x y

  -- a lane after a link is cut
  pub lane_left : (a b x y : ℕ) → lane_at (with_command w (Drop a b)).links x y ≡ cond (is_link a b x y) None (lane_at w.links x y)
  lane_left a b x y = lane-parted w.links a b x y

  -- a lane after a link is made
  pub lane_made : (a b x y : ℕ) → lane_at (with_command w (Join a b)).links x y ≡ cond (is_link a b x y) (Some (new_lane (w.count + 1))) (lane_at w.links x y)
  lane_made a b x y = lane-joined w.links a b (new_lane (w.count + 1)) x y

module _ {X : Type 0} (o : Option X) where
  -- an entry found among changed ones was changed
  pub each_changed : (f : X → X) (P : X → Type 0) → ((x : X) → o ≡ Some x → P (f x)) → (y : X) → option_map f o ≡ Some y → P y
  each_changed f P changed y e = of_option o refl e
    where
      of_option : (p : Option X) → o ≡ p → option_map f p ≡ Some y → P y
      of_option None is h = cc
      of_option (Some x) is h = let same : f x ≡ y = cc in subst P same (changed x is)

  -- an entry found after a removal was there before
  pub each_left : (b : Bool) (y : X) → cond b None o ≡ Some y → o ≡ Some y
  each_left b y h1 = grind (arith, nat_tests, h1)

  -- an entry found after an insertion is the new one, or was there before
  pub each_made : (b : Bool) (new : X) (P : X → Type 0) → (b ≡ true → P new) → (b ≡ false → (x : X) → o ≡ Some x → P x) → (y : X) → cond b (Some new) o ≡ Some y → P y
  each_made true new P here there y e = let same : new ≡ y = cc in subst P same (here refl)
  each_made false new P here there y e = there refl y e
