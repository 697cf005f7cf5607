-- The reset of the stored run is a wave.
use Rattle.std.proofs.Common.{◌≡◌, ℕ, false, List, [], ◌∷◌, Some, refl, arith, cond}
use Rattle.std.proofs.lemmas.List.Elements.{All-from_recursion}
use Rattle.std.specs.List.{AllByRecursion}
use Rattle.std.specs.Ordering.{nat_cmp, eq_by_cmp}
use Rattle.std.specs.FinMap.Entries.{find}
use Rattle.coord_types.specs.Table as table
use Rattle.coord_types.specs.NodeSet as set
use Rattle.coord_tables.specs.Links.{lane_at}
use Rattle.coord_types.specs.NodeState.{NodeState}
use Rattle.coord_types.specs.declared.messages.Mode.TheVariants.{Ready}
use Rattle.coord_world.specs.Facade.{World, fold, no_world, state_or_none}
use Rattle.coord_world.specs.laws.WorkedSteps.{StoredWave, two_linked, one_reset}
use Rattle.coord_world.specs.laws.Trails.{IsTrail}
use Rattle.coord_world.specs.laws.Waves.{AllReady, changes_topology, started}
use Rattle.coord_tables.proofs.Cases.{by_test}
use Rattle.coord_world.proofs.legal.EmptyWorld.{no_world_in_range, no_world_legal}
use Rattle.coord_world.proofs.release.Trails.{EachFresh, sound_fold, trail_of}

-- where each entry is Ready, each node is
ready_entries : (es : List (ℕ × NodeState)) → AllByRecursion (λ e. e.1.mode ≡ Ready) es → (v : ℕ) → (state_or_none (find nat_cmp v es)).mode ≡ Ready
ready_entries [] ready v = refl
ready_entries (e ∷ es) ready v = by_test (eq_by_cmp nat_cmp v e.0) (λ b. (state_or_none (cond b (Some e.1) (find nat_cmp v es))).mode ≡ Ready) (λ _. ready.0) (λ _. ready_entries es ready.1 v)

-- where each entry of a world is Ready, each node is
pub all_ready : (w : World) → AllByRecursion (λ e. e.1.mode ≡ Ready) w.nodes.list → AllReady w
unfolding table.get
all_ready w ready v = ready_entries w.nodes.list ready v

-- the steps that link the nodes are fresh in turn
pub linking : EachFresh (no_world 1) two_linked
unfolding table.empty table.get table.insert table.remove table.change table.len set.contains set.empty set.insert set.remove set.len lane_at
linking = ((refl, (omega arith, omega arith, ((omega arith, omega arith), omega arith, omega arith))), ((refl, (omega arith, omega arith, ((omega arith, omega arith), omega arith, omega arith))), ((refl, (omega arith, omega arith, ((omega arith, omega arith), (omega arith, omega arith)))), tt)))

-- the steps of the reset are fresh in turn
resetting : EachFresh (fold (no_world 1) two_linked) one_reset
unfolding table.empty table.get table.insert table.remove table.change table.len set.contains set.empty set.insert set.remove set.len lane_at
resetting = ((refl, (omega arith, omega arith, (omega arith, omega arith))), ((refl, tt), ((refl, tt), ((refl, tt), ((refl, tt), tt)))))

-- the reset is a trail
pub reset_is_trail : IsTrail (fold (no_world 1) two_linked) one_reset
reset_is_trail = trail_of one_reset (fold (no_world 1) two_linked) (sound_fold two_linked (no_world 1) (record { in_range = (no_world_in_range 1 (omega arith) (omega arith)); legal = (no_world_legal 1) }) linking) resetting

-- one reset starts, at node 1
one_start : started (fold (no_world 1) two_linked) one_reset ≡ 1 ∷ []
unfolding table.empty table.get table.insert table.remove table.change table.len set.contains set.empty set.insert set.remove set.len lane_at
one_start = refl

-- the nodes are Ready before it
pub ready_before : AllByRecursion (λ e. e.1.mode ≡ Ready) (fold (no_world 1) two_linked).nodes.list
unfolding table.empty table.get table.insert table.remove table.change table.len set.contains set.empty set.insert set.remove set.len lane_at
ready_before = (refl, (refl, tt))

-- the nodes are Ready after the reset
ready_after : AllByRecursion (λ e. e.1.mode ≡ Ready) (fold (fold (no_world 1) two_linked) one_reset).nodes.list
unfolding table.empty table.get table.insert table.remove table.change table.len set.contains set.empty set.insert set.remove set.len lane_at
ready_after = (refl, (refl, tt))

-- the reset of two linked nodes is a wave
pub stored_is_wave : StoredWave
stored_is_wave = record {
  in_range = reset_is_trail.sound.in_range;
  legal = reset_is_trail.sound.legal;
  in_turn = reset_is_trail.in_turn;
  same_topology = All-from_recursion (λ s. changes_topology s ≡ false) one_reset (refl, (refl, (refl, (refl, (refl, tt)))));
  ready_before = all_ready (fold (no_world 1) two_linked) ready_before;
  ready_after = all_ready (fold (fold (no_world 1) two_linked) one_reset) ready_after;
  one_start = one_start;
}
