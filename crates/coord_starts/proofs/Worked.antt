-- The worked life, computed.
use Rattle.std.proofs.Common.{◌≡◌, ℕ, List, [], ◌∷◌, Some, cond, inl, inr, refl, arith}
use Rattle.std.specs.FinMap.Entries.{find}
use Rattle.std.specs.List.{AllByRecursion}
use Rattle.std.specs.Ordering.{eq_by_cmp, nat_cmp}
use Rattle.coord_types.specs.NodeState.{NodeState}
use Rattle.coord_types.specs.NodeSet as set
use Rattle.coord_types.specs.Table as table
use Rattle.coord_types.specs.declared.messages.Mode.TheVariants.{Ready}
use Rattle.coord_tables.specs.Links.{lane_at}
use Rattle.coord_world.specs.Facade.{World, next, no_world, state_or_none}
use Rattle.coord_world.specs.laws.Waves.{AllReady}
use Rattle.coord_world.proofs.Facade.{by_test}
use Rattle.coord_following.specs.Histories.{Takes, Raises as raising}
use Rattle.coord_starts.specs.Starts.{AreStarts, replied_of, turns_of}
use Rattle.coord_starts.specs.Worked.{WorkedLife, done, done_next, first_order, life, second_order}

-- where each entry is Ready, each node is
ready_entries : (es : List (ℕ × NodeState)) → AllByRecursion (λ e. e.1.mode ≡ Ready) es → (v : ℕ) → (state_or_none (find nat_cmp v es)).mode ≡ Ready
ready_entries [] ready v = refl
ready_entries (e ∷ es) ready v = by_test (eq_by_cmp nat_cmp v e.0) (λ b. (state_or_none (cond b (Some e.1) (find nat_cmp v es))).mode ≡ Ready) (λ _. ready.0) (λ _. ready_entries es ready.1 v)

ready_after : AllByRecursion (λ e. e.1.mode ≡ Ready) (next (no_world 1) first_order).nodes.list
unfolding table.empty table.get table.insert table.remove table.change table.len set.contains set.empty set.insert set.remove set.len lane_at
ready_after = (refl, tt)

all_ready : AllReady (next (no_world 1) first_order)
unfolding table.get
all_ready v = ready_entries (next (no_world 1) first_order).nodes.list ready_after v

starts : AreStarts (no_world 1) life
unfolding table.empty table.get table.insert table.remove table.change table.len set.contains set.empty set.insert set.remove set.len lane_at
starts = (
  record {
    named = ((omega arith, omega arith, ((omega arith, omega arith), omega arith, omega arith)), (tt, (tt, (tt, (tt, ((omega arith, omega arith, ((omega arith, omega arith), omega arith, omega arith)), tt))))));
    answered = (inl refl, (inl refl, (inl refl, (inl refl, (inl refl, (inl refl, tt))))));
    kept = inl refl;
  },
  (
    (refl, all_ready),
    (
      record {
        named = ((omega arith, omega arith, ((omega arith, omega arith), omega arith, omega arith)), (tt, ((omega arith, omega arith, ((omega arith, omega arith), omega arith, omega arith)), (tt, (tt, tt)))));
        answered = (inl refl, (inl refl, (inl refl, (inl refl, (inr (inl refl), tt)))));
        kept = inr (inl refl);
      },
      (
        record {
          named = ((omega arith, omega arith, ((omega arith, omega arith), omega arith, omega arith)), (tt, tt));
          answered = (inl refl, (inl refl, tt));
          kept = inl refl;
        },
        tt,
      ),
    ),
  ),
)

turns : turns_of (no_world 1) life ≡ Takes first_order ∷ raising ∷ Takes second_order ∷ []
unfolding table.empty table.get table.insert table.remove table.change table.len set.contains set.empty set.insert set.remove set.len lane_at
turns = refl

replied : replied_of (no_world 1) life ≡ done ∷ done ∷ done_next ∷ []
unfolding table.empty table.get table.insert table.remove table.change table.len set.contains set.empty set.insert set.remove set.len lane_at
replied = refl

pub worked_life : WorkedLife
worked_life = record { starts = starts; turns = turns; replied = replied }
