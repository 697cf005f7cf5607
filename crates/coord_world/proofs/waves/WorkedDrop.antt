-- A dropped link that has a node signalled once more, computed through the definitions.
use Rattle.std.proofs.Common.{◌≡◌, true, List, [], ◌∷◌, ◌++◌, refl, arith, count_by}
use Rattle.std.proofs.lemmas.List.Elements.{All-from_recursion}
use Rattle.std.specs.List.{AllByRecursion}
use Rattle.coord_types.specs.Table as table
use Rattle.coord_types.specs.NodeSet as set
use Rattle.coord_types.specs.declared.messages.Mode.TheVariants.{Ready}
use Rattle.coord_types.specs.declared.steps.Step.{Step}
use Rattle.coord_tables.specs.Links.{lane_at}
use Rattle.coord_world.specs.Facade.{World, fold, no_world, outs}
use Rattle.coord_world.specs.laws.Drops.{KeepsApart, drops_in}
use Rattle.coord_world.specs.laws.Waves.{signals_of, started}
use Rattle.coord_world.specs.laws.WorkedSteps.{DropsCount, comes_back, passed_on, starts_twice, triangle_linked}
use Rattle.coord_world.proofs.legal.EmptyWorld.{no_world_in_range, no_world_legal}
use Rattle.coord_world.proofs.release.Trails.{EachFresh, sound_fold, trail_of}
use Rattle.coord_world.proofs.waves.StoredWave.{all_ready}

-- the world of the triangle
abbrev triangle : World
triangle = fold (no_world 1) triangle_linked

abbrev steps : List Step
steps = starts_twice ++ (passed_on ++ comes_back)

triangle_fresh : EachFresh (no_world 1) triangle_linked
unfolding table.empty table.get table.insert table.remove table.change table.len set.contains set.empty set.insert set.remove set.len lane_at
triangle_fresh = ((refl, (omega arith, omega arith, ((omega arith, omega arith), omega arith, omega arith))), ((refl, (omega arith, omega arith, ((omega arith, omega arith), omega arith, omega arith))), ((refl, (omega arith, omega arith, ((omega arith, omega arith), omega arith, omega arith))), ((refl, (omega arith, omega arith, ((omega arith, omega arith), (omega arith, omega arith)))), ((refl, (omega arith, omega arith, ((omega arith, omega arith), (omega arith, omega arith)))), ((refl, (omega arith, omega arith, ((omega arith, omega arith), (omega arith, omega arith)))), tt))))))

triangle_ready : AllByRecursion (λ e. e.1.mode ≡ Ready) triangle.nodes.list
unfolding table.empty table.get table.insert table.remove table.change table.len set.contains set.empty set.insert set.remove set.len lane_at
triangle_ready = (refl, (refl, (refl, tt)))

steps_fresh : EachFresh triangle steps
unfolding table.empty table.get table.insert table.remove table.change table.len set.contains set.empty set.insert set.remove set.len lane_at
steps_fresh = ((refl, (omega arith, omega arith, (omega arith, omega arith))), ((refl, tt), ((refl, tt), ((refl, tt), ((refl, tt), ((refl, tt), ((refl, tt), ((refl, tt), ((refl, tt), ((refl, tt), ((refl, tt), ((refl, (omega arith, omega arith, (omega arith, omega arith))), ((refl, tt), ((refl, tt), ((refl, tt), ((refl, tt), ((refl, tt), ((refl, tt), ((refl, tt), ((refl, tt), ((refl, tt), ((refl, tt), ((refl, tt), ((refl, tt), ((refl, tt), ((refl, tt), ((refl, tt), ((refl, tt), ((refl, (omega arith, omega arith, ((omega arith, omega arith), (omega arith, omega arith)))), ((refl, tt), ((refl, tt), ((refl, tt), ((refl, tt), ((refl, tt), ((refl, tt), ((refl, tt), ((refl, tt), ((refl, tt), ((refl, tt), ((refl, tt), ((refl, tt), tt)))))))))))))))))))))))))))))))))))))))))

steps_ready : AllByRecursion (λ e. e.1.mode ≡ Ready) (fold triangle steps).nodes.list
unfolding table.empty table.get table.insert table.remove table.change table.len set.contains set.empty set.insert set.remove set.len lane_at
steps_ready = (refl, (refl, (refl, tt)))

counted : (started triangle steps ≡ 1 ∷ 1 ∷ []) × (count_by (drops_in (λ _. true)) steps ≡ 1) × (signals_of 1 (outs triangle steps) ≡ 3)
unfolding table.empty table.get table.insert table.remove table.change table.len set.contains set.empty set.insert set.remove set.len lane_at
counted = (refl, refl, refl)

pub drops_count : DropsCount
drops_count =
    let trail = trail_of steps triangle (sound_fold triangle_linked (no_world 1) (record { in_range = no_world_in_range 1 (omega arith) (omega arith); legal = no_world_legal 1 }) triangle_fresh) steps_fresh in
    record {
      begins = record {
        in_range = trail.sound.in_range;
        legal = trail.sound.legal;
        in_turn = trail.in_turn;
        is_part = λ a b _. refl;
        kept_apart = All-from_recursion (KeepsApart (λ _. true)) steps (tt, (tt, (tt, (tt, (tt, (tt, (tt, (tt, (tt, (tt, (tt, (tt, (tt, (tt, (tt, (tt, (tt, (tt, (tt, (tt, (tt, (tt, (tt, (tt, (tt, (tt, (tt, (tt, (tt, (tt, (tt, (tt, (tt, (tt, (tt, (tt, (tt, (tt, (tt, (tt, (tt, tt)))))))))))))))))))))))))))))))))))))))));
        ready_before = λ v _. all_ready triangle triangle_ready v;
      };
      ends = λ v _. all_ready (fold triangle steps) steps_ready v;
      starts = counted.0;
      drops = counted.1;
      first = counted.2;
    }
