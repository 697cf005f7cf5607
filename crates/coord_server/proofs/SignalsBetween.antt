-- The lines that are printed of a node's signals are of different steps, each of which gives the signal out.
use Rattle.std.proofs.Common.{◌≡◌, ◌⊎◌, ℕ, ◌+◌, ◌≤◌, ◌-◌, ◌&&◌, Bool, true, List, [], ◌∷◌, ◌++◌, Option, length, refl, sym, ap, ◌∙◌, subst, inl, inr, arith, cond, count_by}
use Rattle.std.specs.List.{AllByRecursion}
use Rattle.std.specs.Prelude.{nat_le, nat_lt}
use Rattle.std.proofs.lemmas.Bool.Decides.{nat_tests}
use Rattle.std.proofs.lemmas.List.Sums.{sum_by-append, sum_by-cons}
use Rattle.coord_disk.specs.Model.DiskModel.{DiskModel}
use Rattle.coord_types.specs.declared.outputs.Output.TheVariants.{Signalled}
use Rattle.coord_types.specs.declared.steps.Step.{Step}
use Rattle.coord_world.specs.laws.Trails.{IsTrail}
use Rattle.coord_world.specs.laws.Waves.{signals_of}
use Rattle.coord_world.specs.Facade.{World, fold, outs}
use Rattle.coord_world.proofs.Facade.{bound_between, bound_with_drops, by_test, same_or_apart, trail_is_cut}
use Rattle.coord_store.specs.Kept.{Kept}
use Rattle.coord_ledger.specs.declared.release.Release.{Release}
use Rattle.coord_ledger.specs.laws.SignalsBetween.{is_signal_within}
use Rattle.coord_ledger.specs.machine.After.{release_of, releases_of}
use Rattle.coord_ledger.specs.promises.Headline.{is_signal}
use Rattle.coord_ledger.proofs.machine.SignalsBetween.{all_within, count_within}
use Rattle.coord_admin.specs.Connections.{Talk}
use Rattle.coord_engine.specs.Facade.{GivesSignal, first_settled}
use Rattle.coord_server.specs.Lines.{after_line, is_next, nothing_since}
use Rattle.coord_server.specs.Instances.{all_steps}
use Rattle.coord_server.specs.Printed.{Follow, PrinterState}
use Rattle.coord_server.specs.ServerRun.{ServerRun}
use Rattle.coord_server.specs.Signals.{StepSignal}
use Rattle.coord_server.specs.SignalsBetween.{PrintedBetween, PrintedWithDrops, is_printed_within}
use Rattle.coord_server.specs.declared.last_line.LastLine.{LastLine}
use Rattle.coord_server.specs.declared.server_end.ServerEnd.{ServerEnd}

-- 1 for a release that passes a test
abbrev weight_of : (Release → Bool) → Release → ℕ
weight_of p r = cond (p r) 1 0

-- a settled step that gives a signal out releases it
given_once : (base : World) (steps : List Step) (step node epoch : ℕ) → GivesSignal base steps step node epoch → 1 ≤ count_by (is_signal step node) (releases_of (outs base steps))
given_once base steps step node epoch gives =
    let here = release_of step (Signalled node epoch) in
    let whole = ap (λ (rs : List Release). count_by (is_signal step node) rs) gives.given in
    let parts = sum_by-append (weight_of (is_signal step node)) gives.before (here ∷ gives.after) in
    let first = sum_by-cons (weight_of (is_signal step node)) here gives.after in
    let one : weight_of (is_signal step node) here ≡ 1 = grind (arith, nat_tests) in
    omega (arith, whole, parts, first, one)

module _ (a b v : ℕ) where
  -- ---- which lines may come

  -- the lines of v that may come after this one are of steps after t
  abbrev IsPast : LastLine → ℕ → Type 0
  IsPast last t = (t + 1 ≤ last.step) ⊎ ((t ≡ last.step) × ((last.node ≡ v) ⊎ (last.is_second ≡ true)))

  -- another node's line leaves that so
  other_line : (last : LastLine) (t step node : ℕ) → IsPast last t → is_next last step node ≡ true → IsPast (after_line last step node) t
  other_line last t step node past next = elim (same_or_apart last.step step) [
    | inl same ↦ elim past [ inl less ↦ inl (omega (arith, less, same)) | inr at ↦ inr (at.0 ∙ same, inr (grind (arith, nat_tests, same))) ]
    | inr far ↦ inl (grind (arith, nat_tests, past, next, far))
  ]

  -- a line of v is of a later step
  own_line : (last : LastLine) (t step node : ℕ) → IsPast last t → is_next last step node ≡ true → node ≡ v → t + 1 ≤ step
  own_line last t step node past next own = grind (arith, nat_tests, past, next, own)

  -- ---- counts

  -- whether a release is such a signal by a step after t
  abbrev is_after : ℕ → Release → Bool
  is_after t r = nat_lt t r.step && is_signal_within a b v r

  -- whether it is the signal of v by step n, which is between
  abbrev is_at : ℕ → Release → Bool
  is_at n r = (nat_lt a n && nat_le n b) && is_signal n v r

  -- those after a later step, and those of that step, are some of them
  after_later : (t n : ℕ) → t + 1 ≤ n → (rs : List Release) → count_by (is_at n) rs + count_by (is_after n) rs ≤ count_by (is_after t) rs
  after_later t n less [] = omega arith
  after_later t n less (r ∷ rs) =
      let one : weight_of (is_at n) r + weight_of (is_after n) r ≤ weight_of (is_after t) r = grind (arith, nat_tests, less) in
      omega (arith, one, after_later t n less rs, sum_by-cons (weight_of (is_at n)) r rs, sum_by-cons (weight_of (is_after n)) r rs, sum_by-cons (weight_of (is_after t)) r rs)

  -- all of them are between
  after_within : (t : ℕ) (rs : List Release) → count_by (is_after t) rs ≤ count_within a b v rs
  after_within t [] = omega arith
  after_within t (r ∷ rs) =
      let one : weight_of (is_after t) r ≤ weight_of (is_signal_within a b v) r = grind (arith, nat_tests) in
      omega (arith, one, after_within t rs, sum_by-cons (weight_of (is_after t)) r rs, sum_by-cons (weight_of (is_signal_within a b v)) r rs)

  -- where n is between, its own signals count
  at_within : (n : ℕ) (rs : List Release) → (nat_lt a n && nat_le n b) ≡ true → count_by (is_signal n v) rs ≤ count_by (is_at n) rs
  at_within n [] is = omega arith
  at_within n (r ∷ rs) is =
      let one : weight_of (is_signal n v) r ≤ weight_of (is_at n) r = grind (arith, nat_tests, is) in
      omega (arith, one, at_within n rs is, sum_by-cons (weight_of (is_signal n v)) r rs, sum_by-cons (weight_of (is_at n)) r rs)

  -- ---- all lines

  abbrev printed : StepSignal → ℕ
  printed s = cond (is_printed_within a b v s) 1 0

  module _ (base : World) (steps : List Step) where
    abbrev released : List Release
    released = releases_of (outs base steps)

    -- line by line: each of v's is of a step that releases it, after those of the lines before it
    lines : (signals : List StepSignal) (first last : LastLine) (t : ℕ) → IsPast first t → Follow first signals last → AllByRecursion (λ s. GivesSignal base steps s.step s.node s.epoch) signals →
        count_by (is_printed_within a b v) signals ≤ count_by (is_after t) released
    lines [] first last t past follow gives = omega arith
    lines (s ∷ later) first last t past follow gives =
        let all = sum_by-cons printed s later in
        elim (same_or_apart s.node v) [
          | inl own ↦
              let less = own_line first t s.step s.node past follow.0 own in
              let more = lines later (after_line first s.step s.node) last s.step (inr (refl, inl own)) follow.1 gives.1 in
              let both = after_later t s.step less released in
              let once = subst (λ u. 1 ≤ count_by (is_signal s.step u) released) own (given_once base steps s.step s.node s.epoch gives.0) in
              by_test (nat_lt a s.step && nat_le s.step b) (λ h. (nat_lt a s.step && nat_le s.step b) ≡ h → count_by (is_printed_within a b v) (s ∷ later) ≤ count_by (is_after t) released)
              (λ _ is. let here = at_within s.step released is in let one : printed s ≤ 1 = grind (arith, nat_tests) in omega (arith, all, more, both, once, here, one))
              (λ _ is. let none : printed s ≡ 0 = grind (arith, nat_tests, is) in omega (arith, all, more, both, none))
              refl
          | inr far ↦
              let more = lines later (after_line first s.step s.node) last t (other_line first t s.step s.node past follow.0) follow.1 gives.1 in
              let none : printed s ≡ 0 = grind (arith, nat_tests, far) in
              omega (arith, all, more, none)
        ]

module _ {D V W : Type 0} (model : DiskModel D) (talked : V → List Talk → V → Type 0) (failed : V → V → Type 0) (contents : W → Option (List ℕ)) (most : ℕ) (store : Kept D) (callers : V) (printer : PrinterState W) (ended : ServerEnd D V W)
    (run : ServerRun model talked failed most contents (GivesSignal store.world) store callers printer ended) (new : printer.last ≡ nothing_since store.world.count) (earlier between rest : List Step)
    (is : first_settled store.world (all_steps run.instances) ended.closed.settled ≡ earlier ++ (between ++ rest)) where
  -- the settled steps are a trail
  settled_trail : IsTrail store.world (earlier ++ (between ++ rest))
  settled_trail = subst (IsTrail store.world) is (trail_is_cut store.world (all_steps run.instances) (ended.closed.settled - store.world.count) run.trail).first

  -- what is printed of the steps between is no more than they signal
  printed_most : (v : ℕ) → count_by (is_printed_within (store.world.count + length earlier) (store.world.count + length earlier + length between) v) run.printed.signals ≤ signals_of v (outs (fold store.world earlier) between)
  printed_most v =
      let base = store.world in
      let steps = first_settled base (all_steps run.instances) ended.closed.settled in
      let a = base.count + length earlier in
      let b = a + length between in
      let returned = lines a b v base steps run.printed.signals printer.last ended.printer.last base.count (subst (λ l. IsPast a b v l base.count) (sym new) (inr (refl, inr refl))) run.printed.follow run.printed.may_be_printed in
      let some = after_within a b v base.count (releases_of (outs base steps)) in
      let all = subst (λ l. count_within a b v (releases_of (outs base l)) ≤ signals_of v (outs (fold base earlier) between)) (sym is) (all_within a b v base earlier between rest refl refl) in
      omega (arith, returned, some, all)

pub printed_between : {D V W : Type 0} (model : DiskModel D) (talked : V → List Talk → V → Type 0) (failed : V → V → Type 0) (contents : W → Option (List ℕ)) → PrintedBetween model talked failed contents
printed_between model talked failed contents most store callers printer ended run new earlier between rest part is again =
    let bounds = bound_between store.world earlier between rest part (settled_trail model talked failed contents most store callers printer ended run new earlier between rest is) again in
    record {
      most = λ v x inside linked. omega (arith, printed_most model talked failed contents most store callers printer ended run new earlier between rest is v, bounds.most v x inside linked);
      least = bounds.least;
    }

pub printed_with_drops : {D V W : Type 0} (model : DiskModel D) (talked : V → List Talk → V → Type 0) (failed : V → V → Type 0) (contents : W → Option (List ℕ)) → PrintedWithDrops model talked failed contents
printed_with_drops model talked failed contents most store callers printer ended run new earlier between rest part is ready v inside =
    let trail = settled_trail model talked failed contents most store callers printer ended run new earlier between rest is in
    omega (arith, printed_most model talked failed contents most store callers printer ended run new earlier between rest is v, bound_with_drops store.world earlier between rest part trail ready v inside)
