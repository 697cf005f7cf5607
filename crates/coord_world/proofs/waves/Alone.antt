-- A node without links is signalled just where its reset is answered Finished.
use Rattle.std.proofs.Common.{◌≡◌, ℕ, true, false, List, [], ◌∷◌, refl, sym, ap, ◌∙◌, subst, All, arith, cond, count_by, eqb, is_some}
use Rattle.std.proofs.lemmas.Bool.Decides.{nat_tests}
use Rattle.std.proofs.lemmas.List.Elements.{All-head, All-tail}
use Rattle.std.proofs.lemmas.List.Sums.{sum_by-append}
use Rattle.coord_types.proofs.Sets.{len_zero}
use Rattle.coord_types.specs.Facade.{contains}
use Rattle.coord_types.specs.declared.steps.Command.TheVariants.{Add, Remove, Join, Drop, Reset, Confirm}
use Rattle.coord_types.specs.declared.steps.Step.{Step}
use Rattle.coord_types.specs.declared.steps.Step.TheVariants.{Order, Take, Clear}
use Rattle.coord_node.specs.Facade.{is_empty, kind}
use Rattle.coord_tables.proofs.Cases.{by_test}
use Rattle.coord_world.specs.Facade.{IsFresh, World, next, outs, signals, state, view}
use Rattle.coord_world.specs.laws.Overlaps.{AloneAsFinished, finished_at, finished_by}
use Rattle.coord_world.specs.laws.Waves.{changes_topology, is_signal_of, signals_of}
use Rattle.coord_world.proofs.Acceptance.{fresh_take}
use Rattle.coord_world.proofs.legal.Sound.{Sound}
use Rattle.coord_world.proofs.legal.SoundView.{sound_view}
use Rattle.coord_world.proofs.lists.NodeSets.{empty_has}
use Rattle.coord_world.proofs.transitions.RuleCases.{request_cases}
use Rattle.coord_world.proofs.waves.Asked.{IsRun, later}
use Rattle.coord_world.proofs.waves.Running.{AllGo, all_go, near_kept, taken_in_turn}
use Rattle.coord_world.proofs.waves.SignalsOf.{signals_first}
use Rattle.coord_world.proofs.waves.StepEffects.{signals_in}

-- how often v is in a list
abbrev pub times : ℕ → List ℕ → ℕ
times v xs = count_by (λ u. eqb u v) xs

-- of a node without neighbours
pub step_finishes : (w settled : World) (s : Step) → changes_topology s ≡ false → Sound (view w) → IsFresh w settled s → (v : ℕ) → is_empty (state w v).neighbours ≡ true →
    signals_in w.version (state w) s v ≡ times v (finished_by (kind (state w) s) s)
step_finishes w settled (Order c n (Add u g)) stays sound fresh v alone = cc
step_finishes w settled (Order c n (Remove u)) stays sound fresh v alone = cc
step_finishes w settled (Order c n (Join a b)) stays sound fresh v alone = cc
step_finishes w settled (Order c n (Drop a b)) stays sound fresh v alone = cc
step_finishes w settled (Order c n (Reset u)) stays sound fresh v alone =
    request_cases w.version (state w u) (λ d k. count_by (is_signal_of v) (signals ((u, d) ∷ [])) ≡ times v (finished_by k (Order c n (Reset u))))
    (λ _ _. grind (arith, nat_tests)) (λ _ _. refl) refl
step_finishes w settled (Order c n (Confirm u e)) stays sound fresh v alone = refl
step_finishes w settled (Take p) stays sound fresh v alone =
    let take = fresh_take w settled p fresh in
    let out : contains (state w p.from).neighbours p.to ≡ true = sym (sound.linked p.from p.to) ∙ ap is_some take.there in
    let near = sym (sound.mirrored p.from p.to) ∙ out in
    let far : eqb p.to v ≡ false = by_test (eqb p.to v) (λ b. b ≡ false)
    (λ h. absurd (let same : p.to ≡ v = grind (arith, nat_tests, h) in let with_v = subst (λ q. contains (state w q).neighbours p.from ≡ true) same near in let none = empty_has (state w v).neighbours p.from alone in cc)) (λ _. refl) in
    grind (arith, nat_tests, far)
step_finishes w settled (Clear p) stays sound fresh v alone = refl

-- step by step
all_finish : (steps : List Step) (w : World) → AllGo w steps → IsRun w steps → All (λ s. changes_topology s ≡ false) steps → (v : ℕ) → is_empty (state w v).neighbours ≡ true →
    signals_of v (outs w steps) ≡ times v (finished_at w steps)
all_finish [] w go run stays v alone = refl
all_finish (s ∷ ss) w go run stays v alone =
    let first = run.taken [] ss s refl in
    let now = step_finishes w first.0 s (All-head (λ q. changes_topology q ≡ false) s ss stays) run.sound first.1 v alone in
    let more = all_finish ss (next w s) go.1 (later w s ss run) (All-tail (λ q. changes_topology q ≡ false) s ss stays) v (near_kept w s go.0 v ∙ alone) in
    let all = signals_first v w s ss in
    let count = sum_by-append (λ u. cond (eqb u v) 1 0) (finished_by (kind (state w) s) s) (finished_at (next w s) ss) in
    omega arith

pub alone_as_finished : AloneAsFinished
alone_as_finished w steps part begins v inside none =
    let sound = sound_view w begins.in_range begins.legal in
    all_finish steps w (all_go w steps begins.in_range begins.legal begins.in_turn begins.same_topology)
    (record { sound = sound; counts = begins.legal.lanes; taken = taken_in_turn w steps begins.in_turn }) begins.same_topology v
    (let zero = len_zero (state w v).neighbours (λ q. sym (sound.linked v q) ∙ none q) in grind (arith, nat_tests, zero))
