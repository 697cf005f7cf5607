-- Steps and batches that follow one another.
use Rattle.std.proofs.Common.{◌≡◌, ℕ, zero, suc, ◌+◌, ◌<◌, ◌≤◌, ◌^◌, true, cond, List, [], ◌∷◌, ◌++◌, Option, Some, None, Ok, length, take, drop, get_or, sym, ap, ◌∙◌, subst, add-one, arith, refl}
use Rattle.std.specs.Borrow.{Bor}
use Rattle.std.proofs.lemmas.Bool.Decides.{nat_tests}
use Rattle.std.proofs.lemmas.List.{take-append-drop, length-take-le}
use Rattle.std.proofs.Math.Seq.{drop-cons, take-length, take-suc}
use Rattle.std.specs.List.{AllByRecursion}
use Rattle.coord_types.specs.declared.steps.Step.{Step}
use Rattle.coord_types.specs.declared.steps.Step.TheVariants.{Order, Take, Clear}
use Rattle.coord_types.specs.declared.steps.Kind.TheVariants.{Cleared, Taken}
use Rattle.coord_types.specs.declared.refusals.Refusal.TheVariants.{Exhausted}
use Rattle.coord_link.specs.LaneMachine.{Lane, refused_or}
use Rattle.coord_world.specs.declared.verdicts.Verdict.TheVariants.{Fresh}
use Rattle.coord_world.specs.Facade.{InRange, IsFresh, StepInRange, World, against_data, against_receipt, fold, has_receipted, has_sent, is_exhausted, lane, next}
use Rattle.coord_batch.specs.Batches.{CarriesRightly, IsNumbered, IsWritable}
use Rattle.coord_world.specs.laws.Trails.{IsSound}
use Rattle.coord_world.proofs.Facade.{EachFresh, by_test, carried_within, fold-append, fresh_count, itself, same_version, trail_keeps_worlds, trail_of}
use Rattle.coord_store.specs.Recovered.{AllFresh}
use Rattle.coord_journal.specs.Contents.{bodies}
use Rattle.coord_store.specs.Facade.{RefusesBatch, RefusesReplay, Replays, Takes, has_given_out, how_many_out}
use Rattle.coord_store.specs.declared.faults.StoreFault.{StoreFault}

-- ---- steps

-- the one that stands here is
pub fresh_at : (front rest : List Step) (settled w : World) (s : Step) → AllFresh settled w (front ++ s ∷ rest) → IsFresh (fold w front) settled s
fresh_at [] rest settled w s all = all.0
fresh_at (f ∷ front) rest settled w s all = fresh_at front rest settled (next w f) s all.1

-- with one more
pub fresh-push : (front : List Step) (settled w : World) (s : Step) → AllFresh settled w front → IsFresh (fold w front) settled s → AllFresh settled w (front ++ s ∷ [])
fresh-push [] settled w s all fresh = (fresh, tt)
fresh-push (f ∷ front) settled w s all fresh = (all.0, fresh-push front settled (next w f) s all.1 fresh)

pub fold-push : (front : List Step) (w : World) (s : Step) → fold w (front ++ s ∷ []) ≡ next (fold w front) s
fold-push front w s = fold-append front (s ∷ []) w

-- a list about one of its elements
pub split_at : {A : Type 0} (xs : List A) (i : ℕ) (x : A) → i < length xs → x ≡ get_or xs i x → xs ≡ take i xs ++ x ∷ drop (i + 1) xs
split_at xs i x below is =
    sym (take-append-drop i xs) ∙ ap (λ l. take i xs ++ l) (drop-cons xs i x below ∙ ap (λ y. y ∷ drop (suc i) xs) (sym is) ∙ ap (λ n. x ∷ drop n xs) (sym (add-one i)))

-- the rest of it from that element on
pub drop_at : {A : Type 0} (xs : List A) (i : ℕ) (x : A) → i < length xs → x ≡ get_or xs i x → drop i xs ≡ x ∷ drop (i + 1) xs
drop_at xs i x below is = drop-cons xs i x below ∙ ap (λ y. y ∷ drop (suc i) xs) (sym is) ∙ ap (λ n. x ∷ drop n xs) (sym (add-one i))

-- the front of a list up to an element
pub take-push : {A : Type 0} (xs : List A) (i : ℕ) (x : A) → i < length xs → x ≡ get_or xs i x → take (i + 1) xs ≡ take i xs ++ x ∷ []
take-push xs i x below is = rw add-one (take-suc xs i x below ∙ ap (λ y. take i xs ++ y ∷ []) (sym is))

-- the world after one step more
pub fold-take : (steps : List Step) (w : World) (i : ℕ) (s : Step) → i < length steps → s ≡ get_or steps i s → fold w (take (i + 1) steps) ≡ next (fold w (take i steps)) s
fold-take steps w i s below is = ap (fold w) (take-push steps i s below is) ∙ fold-push (take i steps) w s

-- a step of such a list is fresh over the world before it, which is settled too
pub fresh_over_itself : (steps : List Step) (settled w : World) (i : ℕ) (s : Step) → i < length steps → s ≡ get_or steps i s → AllFresh settled w steps → IsFresh (fold w (take i steps)) (fold w (take i steps)) s
fresh_over_itself steps settled w i s below is all =
    itself (fold w (take i steps)) settled s (fresh_at (take i steps) (drop (i + 1) steps) settled w s (subst (AllFresh settled w) (split_at steps i s below is) all))

-- a world that takes a step has a number left for it
pub first_number : (steps : List Step) (settled w : World) → 1 ≤ length steps → AllFresh settled w steps → w.count + 1 ≤ 2 ^ 40
first_number [] settled w some all = absurd (omega arith)
first_number (s ∷ steps) settled w some all = fresh_count w settled s all.0

-- in version 1 a fresh step carries no distance
carries_rightly : (w settled : World) (s : Step) → InRange w → IsFresh w settled s → CarriesRightly w.version s
carries_rightly w settled s h1 h2 = grind (arith, carried_within)

-- a predicate on each element, and on one more
pub all-push : {A : Type 0} (P : A → Type 0) (xs : List A) (x : A) → AllByRecursion P xs → P x → AllByRecursion P (xs ++ x ∷ [])
all-push P [] x all last = (last, tt)
all-push P (y ∷ xs) x all last = (all.0, all-push P xs x all.1 last)

-- a step that is numbered and carries no distance in version 1 can be written
writable : (version : ℕ) (s : Step) → IsNumbered s → CarriesRightly version s → IsWritable version s
writable version s h1 h2 = grind arith

pub all_writable : (version : ℕ) (steps : List Step) → AllByRecursion IsNumbered steps → AllByRecursion (CarriesRightly version) steps → AllByRecursion (IsWritable version) steps
all_writable version [] numbered brings = tt
all_writable version (s ∷ steps) numbered brings = (writable version s numbered.0 brings.0, all_writable version steps numbered.1 brings.1)

-- ---- what a settled world has given out

-- a step that a world takes names what the settled world has given out
pub fresh_is_out : (w settled : World) (s : Step) → IsFresh w settled s → has_given_out settled s ≡ true
fresh_is_out w settled (Order c n x) fresh = refl
fresh_is_out w settled (Take p) fresh = of_lane (lane w p.from p.to p.inc) (lane settled p.from p.to p.inc) fresh
  where
    of_lane : (o k : Option Lane) → refused_or (Fresh Taken) ((is_exhausted w, Exhausted) ∷ against_data o k p) ≡ Ok (Fresh Taken) → has_sent k p.number ≡ true
    of_lane None k e = grind (arith, nat_tests, e)
    of_lane (Some l) k e = grind (arith, nat_tests, e)
fresh_is_out w settled (Clear p) fresh = of_lane (lane w p.from p.to p.inc) (lane settled p.from p.to p.inc) fresh
  where
    of_lane : (o k : Option Lane) → refused_or (Fresh Cleared) ((is_exhausted w, Exhausted) ∷ against_receipt o k p) ≡ Ok (Fresh Cleared) → has_receipted k p.number ≡ true
    of_lane None k e = grind (arith, nat_tests, e)
    of_lane (Some l) k e = grind (arith, nat_tests, e)

-- if the packet that a step names is released, a step that a world accepts over itself it accepts over the settled
-- one
pub fresh_over : (w settled : World) (s : Step) → has_given_out settled s ≡ true → IsFresh w w s → IsFresh w settled s
fresh_over w settled (Order c n x) out fresh = fresh
fresh_over w settled (Take p) out fresh = of_lane (lane w p.from p.to p.inc) (lane w p.from p.to p.inc) (lane settled p.from p.to p.inc) out fresh
  where
    of_lane : (o j k : Option Lane) → has_sent k p.number ≡ true → refused_or (Fresh Taken) ((is_exhausted w, Exhausted) ∷ against_data o j p) ≡ Ok (Fresh Taken) →
        refused_or (Fresh Taken) ((is_exhausted w, Exhausted) ∷ against_data o k p) ≡ Ok (Fresh Taken)
    of_lane None j k out e = e
    of_lane (Some l) j k out e = grind (arith, nat_tests, out, e)
fresh_over w settled (Clear p) out fresh = of_lane (lane w p.from p.to p.inc) (lane w p.from p.to p.inc) (lane settled p.from p.to p.inc) out fresh
  where
    of_lane : (o j k : Option Lane) → has_receipted k p.number ≡ true → refused_or (Fresh Cleared) ((is_exhausted w, Exhausted) ∷ against_receipt o j p) ≡ Ok (Fresh Cleared) →
        refused_or (Fresh Cleared) ((is_exhausted w, Exhausted) ∷ against_receipt o k p) ≡ Ok (Fresh Cleared)
    of_lane None j k out e = e
    of_lane (Some l) j k out e = grind (arith, nat_tests, out, e)

-- each of the first steps names a released packet
pub out_below : (steps : List Step) (settled : World) (i : ℕ) (s : Step) → i < how_many_out settled steps → s ≡ get_or steps i s → has_given_out settled s ≡ true
out_below [] settled i s below is = absurd (omega (arith, below))
out_below (t ∷ steps) settled zero s below is = by_test (has_given_out settled t) (λ b. zero < cond b (suc (how_many_out settled steps)) zero → has_given_out settled s ≡ true)
    (λ e _. ap (has_given_out settled) is ∙ e) (λ _ none. absurd (omega (arith, none))) below
out_below (t ∷ steps) settled (suc i) s below is = by_test (has_given_out settled t) (λ b. suc i < cond b (suc (how_many_out settled steps)) zero → has_given_out settled s ≡ true)
    (λ _ more. out_below steps settled i s (omega (arith, more)) is) (λ _ none. absurd (omega (arith, none))) below

-- the step after those that name a released packet does not
pub out_further : (steps : List Step) (settled : World) (i : ℕ) (s : Step) → i ≤ how_many_out settled steps → i < length steps → s ≡ get_or steps i s → has_given_out settled s ≡ true → i < how_many_out settled steps
out_further [] settled i s within below is out = absurd (omega (arith, below))
out_further (t ∷ steps) settled zero s within below is out = by_test (has_given_out settled t) (λ b. has_given_out settled t ≡ b → zero < cond b (suc (how_many_out settled steps)) zero)
    (λ _ _. omega arith) (λ _ e. let same = ap (has_given_out settled) is in absurd cc) refl
out_further (t ∷ steps) settled (suc i) s within below is out = by_test (has_given_out settled t) (λ b. suc i ≤ cond b (suc (how_many_out settled steps)) zero → suc i < cond b (suc (how_many_out settled steps)) zero)
    (λ _ more. let rest = out_further steps settled i s (omega (arith, more)) (omega (arith, below)) is out in omega (arith, rest)) (λ _ none. absurd (omega (arith, none))) within

-- ---- the worlds on the way of such steps

-- each step is fresh over the world before it, and in its ranges
pub each_fresh : (steps : List Step) (settled w : World) → AllByRecursion StepInRange steps → AllFresh settled w steps → EachFresh w steps
each_fresh [] settled w named fresh = tt
each_fresh (s ∷ steps) settled w named fresh = ((itself w settled s fresh.0, named.0), each_fresh steps settled (next w s) named.1 fresh.1)

-- the steps lead to a legal world within its ranges
pub led_soundly : (steps : List Step) (w : World) → IsSound w → EachFresh w steps → IsSound (fold w steps)
led_soundly steps w sound each = rw (sym (take-length steps)) (trail_keeps_worlds w steps (length steps) (trail_of steps w sound each))

-- in version 1 none of the steps carries a distance
pub all_carried : (steps : List Step) (w : World) → IsSound w → EachFresh w steps → AllByRecursion (CarriesRightly w.version) steps
all_carried [] w sound each = tt
all_carried (s ∷ steps) w sound each = (
  carries_rightly w w s sound.in_range each.0.0,
  subst (λ v. AllByRecursion (CarriesRightly v) steps) (same_version w s) (all_carried steps (next w s) (led_soundly (s ∷ []) w sound (each.0, tt)) each.1),
)

-- ---- batches

-- one batch more
pub replays-push : (bodies : List (List ℕ)) (body : List ℕ) (steps : List Step) (start w : World) → Replays start bodies w → Takes w body steps → Replays start (bodies ++ body ∷ []) (fold w steps)
replays-push [] body steps start w led takes =
    let P : World → Type 0 = λ x. Replays x (body ∷ []) (fold w steps) in subst P (sym led) (steps, takes, refl)
replays-push (b ∷ bodies) body steps start w led takes = (led.0, led.1, replays-push bodies body steps (fold start led.0) w led.2 takes)

-- the batches in front of this one lead to a world that takes it
pub reached : (front rest : List (List ℕ)) (body : List ℕ) (start v : World) → Replays start (front ++ body ∷ rest) v → (w : World) × Replays start front w × ((steps : List Step) × Takes w body steps)
reached [] rest body start v led = (start, refl, (led.0, led.1))
reached (b ∷ front) rest body start v led =
    let later = reached front rest body (fold start led.0) v led.2 in (later.0, (led.0, led.1, later.1), later.2)

-- ---- the bodies of the batches that a journal has read

pub bodies-append : (xs ys : List (Bor (List ℕ))) → bodies (xs ++ ys) ≡ bodies xs ++ bodies ys
bodies-append [] ys = refl
bodies-append (x ∷ xs) ys = ap (λ l. x.now ∷ l) (bodies-append xs ys)

pub length-bodies : (xs : List (Bor (List ℕ))) → length (bodies xs) ≡ length xs
length-bodies [] = refl
length-bodies (x ∷ xs) = ap suc (length-bodies xs)

-- an existing element is the same whatever the default is
same_or : {A : Type 0} (xs : List A) (i : ℕ) (d e : A) → i < length xs → get_or xs i d ≡ get_or xs i e
same_or [] i d e below = absurd (omega (arith, below))
same_or (x ∷ xs) zero d e below = refl
same_or (x ∷ xs) (suc i) d e below = same_or xs i d e (omega (arith, below))

module _ (batches : List (Bor (List ℕ))) (i : ℕ) (none : Bor (List ℕ)) (below : i < length batches) (start w : World) (led : Replays start (bodies (take i batches)) w) where
  abbrev here : Bor (List ℕ)
  here = get_or batches i none

  is : here ≡ get_or batches i here
  is = same_or batches i none here below

  -- the batch at this place is reached, and if it is refused, the batches are
  pub refused_here : (fault : StoreFault) → RefusesBatch w i (get_or batches i none).now fault → RefusesReplay start (bodies batches) fault
  refused_here fault refuses = record {
    number = i;
    body = here.now;
    reached = w;
    reaches = record {
      front = bodies (take i batches);
      rest = bodies (drop (i + 1) batches);
      split = ap bodies (split_at batches i here below is) ∙ bodies-append (take i batches) (here ∷ drop (i + 1) batches);
      number = length-bodies (take i batches) ∙ length-take-le i batches (omega arith);
      replays = led;
    };
    refuses = refuses;
  }

  -- once it is taken, the one after it is reached
  pub replays_on : (steps : List Step) → Takes w (get_or batches i none).now steps → Replays start (bodies (take (i + 1) batches)) (fold w steps)
  replays_on steps takes =
      let P : List (List ℕ) → Type 0 = λ l. Replays start l (fold w steps) in
      subst P (sym (ap bodies (take-push batches i here below is) ∙ bodies-append (take i batches) (here ∷ []))) (replays-push (bodies (take i batches)) here.now steps start w led takes)
