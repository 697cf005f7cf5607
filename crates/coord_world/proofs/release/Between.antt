-- A history between two moments at which every node of a part is Ready is a list of steps that begins there.
use Rattle.std.proofs.Common.{List, [], ◌∷◌, ◌++◌}
use Rattle.coord_types.specs.declared.steps.Step.{Step}
use Rattle.coord_world.specs.Facade.{World, fold, next}
use Rattle.coord_world.specs.laws.Between.{BoundBetween, BoundWithDrops}
use Rattle.coord_world.specs.laws.Overlaps.{BeginsReady}
use Rattle.coord_world.specs.laws.Trails.{IsTrail}
use Rattle.coord_world.proofs.release.Trails.{EachFresh, sound_fold, trail_each_fresh, trail_of}
use Rattle.coord_world.proofs.waves.Epochs.{asked_reaches_all}
use Rattle.coord_world.proofs.waves.Bounded.{no_more_than_started, no_more_with_drops}

-- both parts of a list of fresh steps
pub fresh_first : (xs ys : List Step) (w : World) → EachFresh w (xs ++ ys) → EachFresh w xs
fresh_first [] ys w each = tt
fresh_first (x ∷ xs) ys w each = (each.0, fresh_first xs ys (next w x) each.1)

pub fresh_later : (xs ys : List Step) (w : World) → EachFresh w (xs ++ ys) → EachFresh (fold w xs) ys
fresh_later [] ys w each = each
fresh_later (x ∷ xs) ys w each = fresh_later xs ys (next w x) each.1

-- the steps between are in turn from the legal world after the earlier ones
trail_between : (base : World) (earlier between rest : List Step) → IsTrail base (earlier ++ (between ++ rest)) → IsTrail (fold base earlier) between
trail_between base earlier between rest trail =
    let each = trail_each_fresh base (earlier ++ (between ++ rest)) trail in
    let sound = sound_fold earlier base trail.sound (fresh_first earlier (between ++ rest) base each) in
    trail_of between (fold base earlier) sound (fresh_first between rest (fold base earlier) (fresh_later earlier (between ++ rest) base each))

pub bound_between : BoundBetween
bound_between base earlier between rest part trail again =
    let w = fold base earlier in
    let cut = trail_between base earlier between rest trail in
    let begins : BeginsReady w between part = record {
      in_range = cut.sound.in_range;
      legal = cut.sound.legal;
      in_turn = cut.in_turn;
      same_topology = again.same_topology;
      is_part = again.is_part;
      ready_before = again.ready_before;
    } in
    record {
      most = λ v x inside linked. no_more_than_started w between part begins v x inside linked;
      least = λ before after c n u is inside v path. asked_reaches_all w between before after part c n u begins again.ready_after is inside v path;
    }

pub bound_with_drops : BoundWithDrops
bound_with_drops base earlier between rest part trail ready v inside =
    let cut = trail_between base earlier between rest trail in
    no_more_with_drops (fold base earlier) between part (record {
      in_range = cut.sound.in_range;
      legal = cut.sound.legal;
      in_turn = cut.in_turn;
      is_part = ready.is_part;
      kept_apart = ready.kept_apart;
      ready_before = ready.ready_before;
    }) v inside
