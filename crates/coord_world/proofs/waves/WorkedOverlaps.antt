-- Resets that overlap, computed through the definitions.
use Rattle.std.proofs.Common.{◌≡◌, true, false, List, [], ◌∷◌, ◌++◌, refl, arith}
use Rattle.std.proofs.lemmas.List.Elements.{All-from_recursion}
use Rattle.std.specs.List.{AllByRecursion}
use Rattle.coord_types.specs.Table as table
use Rattle.coord_types.specs.NodeSet as set
use Rattle.coord_types.specs.declared.messages.Mode.TheVariants.{Ready}
use Rattle.coord_types.specs.declared.steps.Step.{Step}
use Rattle.coord_tables.specs.Links.{lane_at}
use Rattle.coord_world.specs.Facade.{World, fold, no_world, outs}
use Rattle.coord_world.specs.laws.Overlaps.{BeginsReady}
use Rattle.coord_world.specs.laws.Waves.{IsPath, changes_topology, signals_of, started}
use Rattle.coord_world.specs.laws.WorkedSteps.{NotAllAfterEach, Overlaps, path_linked, start_again, third_meets, two_linked, two_meet, two_starts}
use Rattle.coord_world.proofs.legal.EmptyWorld.{no_world_in_range, no_world_legal}
use Rattle.coord_world.proofs.release.Trails.{EachFresh, sound_fold, trail_of}
use Rattle.coord_world.proofs.waves.StoredWave.{all_ready, linking, ready_before}

-- the world of the two linked nodes
abbrev linked : World
linked = fold (no_world 1) two_linked

-- steps that are fresh in turn, of which none changes the topology, after steps that are fresh in turn and leave each node Ready
begins_there : (making steps : List Step) → EachFresh (no_world 1) making → AllByRecursion (λ e. e.1.mode ≡ Ready) (fold (no_world 1) making).nodes.list → EachFresh (fold (no_world 1) making) steps →
    AllByRecursion (λ s. changes_topology s ≡ false) steps → BeginsReady (fold (no_world 1) making) steps (λ _. true)
begins_there making steps made ready fresh stays =
    let trail = trail_of steps (fold (no_world 1) making) (sound_fold making (no_world 1) (record { in_range = no_world_in_range 1 (omega arith) (omega arith); legal = no_world_legal 1 }) made) fresh in
    record {
      in_range = trail.sound.in_range;
      legal = trail.sound.legal;
      in_turn = trail.in_turn;
      same_topology = All-from_recursion (λ s. changes_topology s ≡ false) steps stays;
      is_part = λ a b _. refl;
      ready_before = λ v _. all_ready (fold (no_world 1) making) ready v;
    }

-- both start
both_fresh : EachFresh linked two_starts
unfolding table.empty table.get table.insert table.remove table.change table.len set.contains set.empty set.insert set.remove set.len lane_at
both_fresh = ((refl, (omega arith, omega arith, (omega arith, omega arith))), ((refl, (omega arith, omega arith, (omega arith, omega arith))), ((refl, tt), ((refl, tt), ((refl, tt), ((refl, tt), ((refl, tt), ((refl, tt), tt))))))))

both_ready : AllByRecursion (λ e. e.1.mode ≡ Ready) (fold linked two_starts).nodes.list
unfolding table.empty table.get table.insert table.remove table.change table.len set.contains set.empty set.insert set.remove set.len lane_at
both_ready = (refl, (refl, tt))

both_counted : (started linked two_starts ≡ 1 ∷ 2 ∷ []) × (signals_of 1 (outs linked two_starts) ≡ 1) × (signals_of 2 (outs linked two_starts) ≡ 1)
unfolding table.empty table.get table.insert table.remove table.change table.len set.contains set.empty set.insert set.remove set.len lane_at
both_counted = (refl, refl, refl)

-- one starts again
again_fresh : EachFresh linked start_again
unfolding table.empty table.get table.insert table.remove table.change table.len set.contains set.empty set.insert set.remove set.len lane_at
again_fresh = ((refl, (omega arith, omega arith, (omega arith, omega arith))), ((refl, tt), ((refl, tt), ((refl, (omega arith, omega arith, (omega arith, omega arith))), ((refl, tt), ((refl, tt), ((refl, tt), ((refl, tt), ((refl, tt), ((refl, tt), ((refl, tt), ((refl, tt), tt))))))))))))

again_ready : AllByRecursion (λ e. e.1.mode ≡ Ready) (fold linked start_again).nodes.list
unfolding table.empty table.get table.insert table.remove table.change table.len set.contains set.empty set.insert set.remove set.len lane_at
again_ready = (refl, (refl, tt))

again_counted : (started linked start_again ≡ 1 ∷ 1 ∷ []) × (signals_of 1 (outs linked start_again) ≡ 2) × (signals_of 2 (outs linked start_again) ≡ 2)
unfolding table.empty table.get table.insert table.remove table.change table.len set.contains set.empty set.insert set.remove set.len lane_at
again_counted = (refl, refl, refl)

-- both runs
pub overlaps_compute : Overlaps
overlaps_compute = (
  record {
    begins = begins_there two_linked two_starts linking ready_before both_fresh (refl, (refl, (refl, (refl, (refl, (refl, (refl, (refl, tt))))))));
    ends = λ v _. all_ready (fold linked two_starts) both_ready v;
    starts = both_counted.0;
    first = both_counted.1;
    second = both_counted.2;
  },
  record {
    begins = begins_there two_linked start_again linking ready_before again_fresh (refl, (refl, (refl, (refl, (refl, (refl, (refl, (refl, (refl, (refl, (refl, (refl, tt))))))))))));
    ends = λ v _. all_ready (fold linked start_again) again_ready v;
    starts = again_counted.0;
    first = again_counted.1;
    second = again_counted.2;
  },
)

-- ---- three resets on a path

-- the world of the path
abbrev path : World
path = fold (no_world 1) path_linked

path_fresh : EachFresh (no_world 1) path_linked
unfolding table.empty table.get table.insert table.remove table.change table.len set.contains set.empty set.insert set.remove set.len lane_at
path_fresh = ((refl, (omega arith, omega arith, ((omega arith, omega arith), omega arith, omega arith))), ((refl, (omega arith, omega arith, ((omega arith, omega arith), omega arith, omega arith))), ((refl, (omega arith, omega arith, ((omega arith, omega arith), omega arith, omega arith))), ((refl, (omega arith, omega arith, ((omega arith, omega arith), (omega arith, omega arith)))), ((refl, (omega arith, omega arith, ((omega arith, omega arith), (omega arith, omega arith)))), tt)))))

path_ready : AllByRecursion (λ e. e.1.mode ≡ Ready) path.nodes.list
unfolding table.empty table.get table.insert table.remove table.change table.len set.contains set.empty set.insert set.remove set.len lane_at
path_ready = (refl, (refl, (refl, tt)))

three_fresh : EachFresh path (two_meet ++ third_meets)
unfolding table.empty table.get table.insert table.remove table.change table.len set.contains set.empty set.insert set.remove set.len lane_at
three_fresh = ((refl, (omega arith, omega arith, (omega arith, omega arith))), ((refl, (omega arith, omega arith, (omega arith, omega arith))), ((refl, tt), ((refl, tt), ((refl, tt), ((refl, tt), ((refl, tt), ((refl, tt), ((refl, (omega arith, omega arith, (omega arith, omega arith))), ((refl, tt), ((refl, tt), ((refl, tt), ((refl, tt), ((refl, tt), ((refl, tt), tt)))))))))))))))

three_ready : AllByRecursion (λ e. e.1.mode ≡ Ready) (fold path (two_meet ++ third_meets)).nodes.list
unfolding table.empty table.get table.insert table.remove table.change table.len set.contains set.empty set.insert set.remove set.len lane_at
three_ready = (refl, (refl, (refl, tt)))

three_counted : (started (fold path two_meet) third_meets ≡ 3 ∷ []) × IsPath path 3 (2 ∷ 1 ∷ []) 1 × (signals_of 1 (outs (fold path two_meet) third_meets) ≡ 0)
unfolding table.empty table.get table.insert table.remove table.change table.len set.contains set.empty set.insert set.remove set.len lane_at
three_counted = (refl, (refl, (refl, refl)), refl)

-- the first node is not signalled after the third start
pub not_all_after_each : NotAllAfterEach
not_all_after_each = record {
  begins = begins_there path_linked (two_meet ++ third_meets) path_fresh path_ready three_fresh (refl, (refl, (refl, (refl, (refl, (refl, (refl, (refl, (refl, (refl, (refl, (refl, (refl, (refl, (refl, tt)))))))))))))));
  ends = λ v _. all_ready (fold path (two_meet ++ third_meets)) three_ready v;
  last = three_counted.0;
  connected = (2 ∷ 1 ∷ [], three_counted.1);
  none_after = three_counted.2;
}
