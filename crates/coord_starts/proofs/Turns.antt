-- Lists of turns, one after the other, and their outputs.
use Rattle.std.proofs.Common.{◌≡◌, ℕ, zero, suc, ◌+◌, List, [], ◌∷◌, ◌++◌, length, map, Some, slice_get, inl, inr, refl, sym, ap, arith}
use Rattle.coord_types.specs.declared.steps.Reply.{Reply}
use Rattle.coord_types.specs.declared.steps.Step.{Step}
use Rattle.coord_world.specs.Facade.{StepOutcome, World, fold, next, outputs, outs, reply}
use Rattle.coord_world.specs.laws.Raised.{raised}
use Rattle.coord_world.proofs.Facade.{EachFresh}
use Rattle.coord_ledger.specs.machine.Answers.{IsOneOf}
use Rattle.coord_following.specs.Histories.{IsHistory, Raises, Takes, Turn, turned}
use Rattle.coord_starts.specs.Returned.{IsReplyTo, led, outcomes, steps_of}

abbrev pub outcome_of : World → Step → StepOutcome
outcome_of w s = record { reply = reply w s; outputs = outputs w s }

-- ---- one after the other

pub led-append : (xs ys : List Turn) (w : World) → led w (xs ++ ys) ≡ led (led w xs) ys
led-append [] ys w = refl
led-append (x ∷ xs) ys w = led-append xs ys (turned w x)

pub outcomes-append : (xs ys : List Turn) (w : World) → outcomes w (xs ++ ys) ≡ outcomes w xs ++ outcomes (led w xs) ys
outcomes-append [] ys w = refl
outcomes-append (Takes s ∷ xs) ys w = ap (λ l. outcome_of w s ∷ l) (outcomes-append xs ys (next w s))
outcomes-append (Raises ∷ xs) ys w = outcomes-append xs ys (raised w)

pub history-append : (xs ys : List Turn) (w : World) → IsHistory w xs → IsHistory (led w xs) ys → IsHistory w (xs ++ ys)
history-append [] ys w one other = other
history-append (x ∷ xs) ys w one other = (one.0, history-append xs ys (turned w x) one.1 other)

-- ---- steps alone

pub led-steps : (steps : List Step) (w : World) → led w (map Takes steps) ≡ fold w steps
led-steps [] w = refl
led-steps (s ∷ steps) w = led-steps steps (next w s)

pub outcomes-steps : (steps : List Step) (w : World) → outcomes w (map Takes steps) ≡ outs w steps
outcomes-steps [] w = refl
outcomes-steps (s ∷ steps) w = ap (λ l. outcome_of w s ∷ l) (outcomes-steps steps (next w s))

pub history-steps : (steps : List Step) (w : World) → EachFresh w steps → IsHistory w (map Takes steps)
history-steps [] w each = tt
history-steps (s ∷ steps) w each = (each.0, history-steps steps (next w s) each.1)

-- ---- numbers

pub numbered : (turns : List Turn) (w : World) (i : ℕ) (o : StepOutcome) → slice_get (outcomes w turns) i ≡ Some o → o.reply.step ≡ w.count + i + 1
numbered [] w i o there = cc
numbered (Takes s ∷ turns) w zero o there = let same : o ≡ outcome_of w s = cc there in omega (arith, ap (λ (q : StepOutcome). q.reply.step) same)
numbered (Takes s ∷ turns) w (suc i) o there = let later = numbered turns (next w s) i o there in omega (arith, later)
numbered (Raises ∷ turns) w i o there = numbered turns (raised w) i o there

pub counted : (turns : List Turn) (w : World) → (led w turns).count ≡ w.count + length (steps_of turns)
counted [] w = omega arith
counted (Takes s ∷ turns) w = let later = counted turns (next w s) in omega (arith, later)
counted (Raises ∷ turns) w = counted turns (raised w)

-- a reply among them is that of the step with its number
pub reply_to : (turns : List Turn) (w : World) (r : Reply) → IsOneOf r (map (λ o. o.reply) (outcomes w turns)) → IsReplyTo w.count (outcomes w turns) r
reply_to [] w r one = absurd one
reply_to (Takes s ∷ turns) w r (inl same) = record { before = []; outcome = outcome_of w s; rest = outcomes (next w s) turns; among = refl; same = sym same; number = omega (arith, ap (λ (q : Reply). q.step) same) }
reply_to (Takes s ∷ turns) w r (inr one) =
    let later = reply_to turns (next w s) r one in
    record {
      before = outcome_of w s ∷ later.before;
      outcome = later.outcome;
      rest = later.rest;
      among = ap (λ l. outcome_of w s ∷ l) later.among;
      same = later.same;
      number = let n = later.number in omega (arith, n);
    }
reply_to (Raises ∷ turns) w r one = reply_to turns (raised w) r one

-- ---- one of a list

pub one_more : {A B : Type 0} (f : A → B) (x : B) (xs ys : List A) → IsOneOf x (map f xs) → IsOneOf x (map f (xs ++ ys))
one_more f x [] ys one = absurd one
one_more f x (y ∷ xs) ys (inl same) = inl same
one_more f x (y ∷ xs) ys (inr one) = inr (one_more f x xs ys one)

pub one_after : {A B : Type 0} (f : A → B) (x : B) (xs ys : List A) → IsOneOf x (map f ys) → IsOneOf x (map f (xs ++ ys))
one_after f x [] ys one = one
one_after f x (y ∷ xs) ys one = inr (one_after f x xs ys one)
