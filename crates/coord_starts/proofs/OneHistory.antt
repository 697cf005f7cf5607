-- All starts of a store are one history.
use Rattle.std.proofs.Common.{◌≡◌, ◌⊎◌, ℕ, ◌+◌, ◌≤◌, List, [], ◌∷◌, ◌++◌, length, map, take, drop, not, ◌==◌, Some, None, inl, inr, refl, sym, ap, subst, ◌∙◌, arith}
use Rattle.std.specs.Cmp.{nat_cmp_total}
use Rattle.std.specs.List.{AllByRecursion}
use Rattle.std.proofs.lemmas.Grind.{flat_map-append}
use Rattle.std.proofs.lemmas.List.{take-take}
use Rattle.std.proofs.lemmas.List.Elements.{filter-append}
use Rattle.coord_types.specs.Table.{get}
use Rattle.coord_types.specs.declared.steps.Reply.{Reply}
use Rattle.coord_types.specs.declared.steps.Session.{Session}
use Rattle.coord_types.specs.declared.steps.Step.{Step}
use Rattle.coord_types.proofs.Tables.{get-empty}
use Rattle.coord_world.specs.Facade.{StepOutcome, World, fold, no_world, outs}
use Rattle.coord_world.specs.laws.Trails.{IsSound, IsTrail}
use Rattle.coord_world.proofs.Facade.{no_world_in_range, no_world_legal, raised_is_legal, trail_each_fresh, trail_is_cut, trail_keeps_worlds}
use Rattle.coord_ledger.specs.declared.events.Answer.{Answer}
use Rattle.coord_ledger.specs.declared.events.Event.{Event}
use Rattle.coord_ledger.specs.declared.release.Release.{Release}
use Rattle.coord_ledger.specs.machine.After.{after, release_of, releases_of}
use Rattle.coord_ledger.specs.machine.Answers.{IsOneOf}
use Rattle.coord_ledger.specs.machine.Consistent.{EventInRange, IsConsistent}
use Rattle.coord_ledger.specs.machine.Machine.{Machine, adopted}
use Rattle.coord_ledger.specs.machine.Runs.{Answered, run}
use Rattle.coord_ledger.specs.promises.Headline.{IsReplyOf}
use Rattle.coord_ledger.specs.promises.Parts.{IsPartOf, released_first}
use Rattle.coord_ledger.proofs.machine.Consistent.{adopted_is_consistent, run_is_consistent, stays_consistent}
use Rattle.coord_ledger.proofs.machine.ConsistentFlights.{kept_more}
use Rattle.coord_ledger.proofs.machine.Lists.{all_both, part_before, part_both}
use Rattle.coord_ledger.proofs.machine.SettledStays.{settled_stays}
use Rattle.coord_following.specs.Histories.{IsHistory, Takes, Turn}
use Rattle.coord_starts.specs.OneHistory.{StartsAreOne}
use Rattle.coord_starts.specs.Starts.{AreStarts, IsStart, MayServe, Raises, Serves, Start, at_end, left_by, released_in, released_of, replied_in, replied_of, turns_in, turns_of}
use Rattle.coord_starts.specs.Returned.{IsReplyTo, led, outcomes}
use Rattle.coord_starts.proofs.Kept.{IsReplyIn, keeps_last, kept_is_given, replies}
use Rattle.coord_starts.proofs.Turns.{counted, history-append, history-steps, led-append, led-steps, numbered, one_after, one_more, outcomes-append, outcomes-steps, reply_to}

-- a predicate on all items, in a weaker form
weaker : {A : Type 0} (P Q : A → Type 0) (xs : List A) → ((x : A) → P x → Q x) → AllByRecursion P xs → AllByRecursion Q xs
weaker P Q [] so all = tt
weaker P Q (x ∷ xs) so all = (so x all.0, weaker P Q xs so all.1)

-- ---- one start that serves

-- a run leaves the base unchanged
pub base_stays : (events : List Event) (given : List Answer) (s : Machine) → AllByRecursion EventInRange events → IsConsistent s → Answered s events given → (run s events given).log.base ≡ s.log.base
base_stays [] given s named is answered = refl
base_stays (e ∷ events) [] s named is answered = refl
base_stays (e ∷ events) (a ∷ given) s named is answered =
    base_stays events given (after s e a) named.1 (stays_consistent s e a named.0 is answered.0) answered.1 ∙ (settled_stays s e a is answered.0).base

module _ (w : World) (sound : IsSound w) (events : List Event) (given : List Answer) (n : ℕ) (may : MayServe w events given n) where
  abbrev end : Machine
  end = at_end w events given

  abbrev steps : List Step
  steps = take n end.log.trail

  consistent : IsConsistent end
  consistent = run_is_consistent (adopted w) events given may.named (adopted_is_consistent w sound) may.answered

  base : end.log.base ≡ w
  base = base_stays events given (adopted w) may.named (adopted_is_consistent w sound) may.answered

  trail : IsTrail w end.log.trail
  trail = subst (λ v. IsTrail v end.log.trail) base consistent.log.trail

  first : IsTrail w steps
  first = (trail_is_cut w end.log.trail n trail).first

  served_sound : IsSound (led w (map Takes steps))
  served_sound = subst IsSound (sym (led-steps steps w)) (trail_keeps_worlds w end.log.trail n trail)

  served_history : IsHistory w (map Takes steps)
  served_history = history-steps steps w (trail_each_fresh w steps first)

  more : end.log.settled ≤ n
  more = let keeps = kept_more end n consistent may.kept in omega (arith, keeps.is)

  -- the settled steps are among those that are kept
  abbrev others : List StepOutcome
  others = outs (fold w (take end.log.settled steps)) (drop end.log.settled steps)

  given_by : outcomes w (map Takes steps) ≡ outs w (take end.log.settled end.log.trail) ++ others
  given_by =
      outcomes-steps steps w ∙ sym (trail_is_cut w steps end.log.settled first).outputs
      ∙ ap (λ ss. outs w ss ++ others) (take-take end.log.settled n end.log.trail more)

  reply_in : (r : Reply) → IsReplyOf w (take end.log.settled end.log.trail) r → IsReplyIn w (map Takes steps) r
  reply_in r (inl one) =
      inl (subst (λ os. IsOneOf r (map (λ (o : StepOutcome). o.reply) os)) (sym given_by) (one_more (λ (o : StepOutcome). o.reply) r (outs w (take end.log.settled end.log.trail)) others one))
  reply_in r (inr kept) = inr kept

  served_replies : AllByRecursion (IsReplyIn w (map Takes steps)) end.replied
  served_replies =
      weaker (IsReplyOf w (take end.log.settled end.log.trail)) (IsReplyIn w (map Takes steps)) end.replied reply_in
      (subst (λ v. AllByRecursion (IsReplyOf v (take end.log.settled end.log.trail)) end.replied) base consistent.returned.truly)

  served_releases : IsPartOf (released_first end.released) (releases_of (outcomes w (map Takes steps)))
  served_releases =
      let once = subst (λ v. IsPartOf (released_first end.released) (releases_of (outs v (take end.log.settled end.log.trail)))) base consistent.returned.once in
      subst (λ os. IsPartOf (released_first end.released) (releases_of os)) (sym given_by)
      (subst (IsPartOf (released_first end.released)) (sym (flat_map-append (λ (r : StepOutcome). map (release_of r.reply.step) r.outputs) (outs w (take end.log.settled end.log.trail)) others))
      (part_before (released_first end.released) (releases_of (outs w (take end.log.settled end.log.trail))) (releases_of others) once))

-- ---- any start

start_sound : (w : World) (s : Start) → IsSound w → IsStart w s → IsSound (led w (turns_in w s))
start_sound w (Serves events given n) sound may = served_sound w sound events given n may
start_sound w Raises sound may = let well = raised_is_legal w sound.in_range sound.legal may.0 may.1 in record { in_range = well.in_range; legal = well.legal }

start_history : (w : World) (s : Start) → IsSound w → IsStart w s → IsHistory w (turns_in w s)
start_history w (Serves events given n) sound may = served_history w sound events given n may
start_history w Raises sound may = (may, tt)

start_replies : (w : World) (s : Start) → IsSound w → IsStart w s → AllByRecursion (IsReplyIn w (turns_in w s)) (replied_in w s)
start_replies w (Serves events given n) sound may = served_replies w sound events given n may
start_replies w Raises sound may = tt

start_releases : (w : World) (s : Start) → IsSound w → IsStart w s → IsPartOf (released_first (released_in w s)) (releases_of (outcomes w (turns_in w s)))
start_releases w (Serves events given n) sound may = served_releases w sound events given n may
start_releases w Raises sound may = tt

-- ---- all starts

all_history : (starts : List Start) (w : World) → IsSound w → AreStarts w starts → IsHistory w (turns_of w starts)
all_history [] w sound are = tt
all_history (s ∷ starts) w sound are =
    history-append (turns_in w s) (turns_of (led w (turns_in w s)) starts) w (start_history w s sound are.0)
    (all_history starts (led w (turns_in w s)) (start_sound w s sound are.0) are.1)

all_left : (starts : List Start) (w : World) → left_by w starts ≡ led w (turns_of w starts)
all_left [] w = refl
all_left (s ∷ starts) w = all_left starts (led w (turns_in w s)) ∙ sym (led-append (turns_in w s) (turns_of (led w (turns_in w s)) starts) w)

all_sound : (starts : List Start) (w : World) → IsSound w → AreStarts w starts → IsSound (left_by w starts)
all_sound [] w sound are = sound
all_sound (s ∷ starts) w sound are = all_sound starts (led w (turns_in w s)) (start_sound w s sound are.0) are.1

-- with more turns after, and with more in front
reply_more : (xs ys : List Turn) (w : World) (r : Reply) → IsReplyIn w xs r → IsReplyIn w (xs ++ ys) r
reply_more xs ys w r (inl one) =
    inl (subst (λ os. IsOneOf r (map (λ (o : StepOutcome). o.reply) os)) (sym (outcomes-append xs ys w)) (one_more (λ (o : StepOutcome). o.reply) r (outcomes w xs) (outcomes (led w xs) ys) one))
reply_more xs ys w r (inr kept) = inr kept

reply_after : (xs ys : List Turn) (w : World) (r : Reply) → IsReplyIn (led w xs) ys r → IsReplyIn w (xs ++ ys) r
reply_after xs ys w r (inl one) =
    inl (subst (λ os. IsOneOf r (map (λ (o : StepOutcome). o.reply) os)) (sym (outcomes-append xs ys w)) (one_after (λ (o : StepOutcome). o.reply) r (outcomes w xs) (outcomes (led w xs) ys) one))
reply_after xs ys w r (inr kept) = subst (IsReplyIn w (xs ++ ys)) kept.1.1.1 (reply_more xs ys w kept.1.0.reply (kept_is_given xs w kept.0 kept.1.0 kept.1.1.0))

all_replies : (starts : List Start) (w : World) → IsSound w → AreStarts w starts → AllByRecursion (IsReplyIn w (turns_of w starts)) (replied_of w starts)
all_replies [] w sound are = tt
all_replies (s ∷ starts) w sound are =
    let xs = turns_in w s in
    let ys = turns_of (led w xs) starts in
    all_both (IsReplyIn w (xs ++ ys)) (replied_in w s) (replied_of (led w xs) starts)
    (weaker (IsReplyIn w xs) (IsReplyIn w (xs ++ ys)) (replied_in w s) (reply_more xs ys w) (start_replies w s sound are.0))
    (weaker (IsReplyIn (led w xs) ys) (IsReplyIn w (xs ++ ys)) (replied_of (led w xs) starts) (reply_after xs ys w) (all_replies starts (led w xs) (start_sound w s sound are.0) are.1))

all_releases : (starts : List Start) (w : World) → IsSound w → AreStarts w starts → IsPartOf (released_first (released_of w starts)) (releases_of (outcomes w (turns_of w starts)))
all_releases [] w sound are = tt
all_releases (s ∷ starts) w sound are =
    let xs = turns_in w s in
    let ys = turns_of (led w xs) starts in
    let both = part_both (released_first (released_in w s)) (releases_of (outcomes w xs)) (released_first (released_of (led w xs) starts)) (releases_of (outcomes (led w xs) ys))
    (start_releases w s sound are.0) (all_releases starts (led w xs) (start_sound w s sound are.0) are.1) in
    let first = filter-append (λ (r : Release). not (r.step == 0)) (released_in w s) (released_of (led w xs) starts) in
    let out = ap releases_of (outcomes-append xs ys w) ∙ flat_map-append (λ (r : StepOutcome). map (release_of r.reply.step) r.outputs) (outcomes w xs) (outcomes (led w xs) ys) in
    subst (λ l. IsPartOf l (releases_of (outcomes w (xs ++ ys)))) (sym first)
    (subst (IsPartOf (released_first (released_in w s) ++ released_first (released_of (led w xs) starts))) (sym out) both)

-- ---- from an empty world

-- if no reply is kept yet, each is that of a step
of_step : (version : ℕ) (turns : List Turn) (r : Reply) → IsReplyIn (no_world version) turns r → IsReplyTo 0 (outcomes (no_world version) turns) r
of_step version turns r (inl one) = reply_to turns (no_world version) r one
of_step version turns r (inr kept) = let none : get (no_world version).sessions kept.0 ≡ None = get-empty nat_cmp_total kept.0 in let there = kept.1.1.0 in absurd cc

pub starts_are_one : StartsAreOne
starts_are_one version starts least most are =
    let w = no_world version in
    let sound : IsSound w = record { in_range = no_world_in_range version least most; legal = no_world_legal version } in
    record {
      history = all_history starts w sound are;
      left = all_left starts w;
      sound = all_sound starts w sound are;
      numbered = λ i o there. let is = numbered (turns_of w starts) w i o there in omega (arith, is);
      counted = let is = counted (turns_of w starts) w in let same = ap (λ (v : World). v.count) (all_left starts w) in omega (arith, is, same);
      replied = weaker (IsReplyIn w (turns_of w starts)) (IsReplyTo 0 (outcomes w (turns_of w starts))) (replied_of w starts) (of_step version (turns_of w starts)) (all_replies starts w sound are);
      released = all_releases starts w sound are;
      kept = keeps_last (turns_of w starts) w;
    }
