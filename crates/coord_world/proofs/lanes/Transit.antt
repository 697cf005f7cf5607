-- The messages in transit on one lane, as the lane changes and as messages join it.
use Rattle.std.proofs.Common.{◌≡◌, ◌≢◌, ◌+◌, Bool, true, false, ◌&&◌, ◌||◌, not, List, [], ◌∷◌, ◌++◌, refl, ap, ◌⊎◌, inl, inr, arith, ◌==◌, ℕ, ◌≤◌}
use Rattle.std.proofs.lemmas.Bool.Decides.{nat_tests}
use Rattle.coord_types.specs.Messages.{after_front, is_nil}
use Rattle.coord_types.specs.declared.messages.Msg.{Msg}
use Rattle.coord_link.specs.LaneMachine.{Lane, Counts, transit, sent, took, cleared}
use Rattle.coord_types.specs.declared.messages.Msg.TheVariants.{Abort, Ack, Ready}
use Rattle.coord_world.specs.protocol.Links.{aborts, acks, readies, readies_after, strays}

-- ---- the lane changes

-- a queue with something stays one
some-append : (q ms : List Msg) → q ≢ [] → q ++ ms ≢ []
some-append [] ms some = absurd (some refl)
some-append (m ∷ q) ms some = λ e. cc

-- predicate A, by cases: the front is not yet taken, or it is there and taken
abbrev pub TakenAtMost : Lane → Type 0
TakenAtMost l = (l.got ≡ l.base) ⊎ ((l.got ≡ l.base + 1) × (l.queue ≢ []))

is_some_queue : (q : List Msg) → is_nil q ≡ false → q ≢ []
is_some_queue [] is = cc
is_some_queue (m ∷ q) is = λ e. cc

some_queue_is : (q : List Msg) → q ≢ [] → is_nil q ≡ false
some_queue_is q h1 = grind (arith, nat_tests, h1)

-- the cases from the test
pub counts_cases : (l : Lane) → Counts l → TakenAtMost l
counts_cases l is = of_tests (l.got == l.base) (l.got == l.base + 1) (is_nil l.queue) refl refl refl is
  where
    of_tests : (a b n : Bool) → (l.got == l.base) ≡ a → (l.got == l.base + 1) ≡ b → is_nil l.queue ≡ n → (a || (b && not n)) ≡ true → TakenAtMost l
    of_tests true b n p q r h = inl (grind (arith, nat_tests))
    of_tests false true false p q r h = inr (grind (arith, nat_tests), is_some_queue l.queue r)
    of_tests false true true p q r h = cc
    of_tests false false n p q r h = cc

-- the test from the cases
pub counts_from : (l : Lane) → TakenAtMost l → Counts l
counts_from l (inl same) = grind (arith, nat_tests)
counts_from l (inr (next, some)) = let n = some_queue_is l.queue some in grind (arith, nat_tests, n)

-- messages that join a lane join those on the way
pub transit-sent : (l : Lane) (ms : List Msg) → Counts l → transit (sent ms l) ≡ transit l ++ ms
transit-sent l ms h1 = grind (arith, nat_tests, h1)

-- the numbers of a lane fit once messages join it
pub counts-sent : (l : Lane) (ms : List Msg) → Counts l → Counts (sent ms l)
counts-sent l ms counts = counts_from (sent ms l) (elim (counts_cases l counts) [
  | inl same ↦ inl same
  | inr more ↦ inr (more.0, some-append l.queue ms more.1)
])

-- a front that is taken leaves the way
pub transit-took : (l : Lane) → l.got ≡ l.base → transit (took l) ≡ after_front (transit l)
transit-took l same = grind (arith, nat_tests)

-- the numbers fit a front that was taken
pub counts-took : (l : Lane) (m : Msg) (rest : List Msg) → l.got ≡ l.base → l.queue ≡ m ∷ rest → Counts (took l)
counts-took l m rest same front = counts_from (took l) (inr (ap (λ n. n + 1) same, λ none. cc))

-- a front that is receipted was taken
pub transit-cleared : (l : Lane) → l.got ≡ l.base + 1 → transit (cleared l) ≡ transit l
transit-cleared l taken = grind (arith, nat_tests)

-- ---- a message joins

-- the number of messages of a kind in two lists together
pub aborts-append : (xs ys : List Msg) → aborts (xs ++ ys) ≡ aborts xs + aborts ys
aborts-append [] ys = omega arith
aborts-append (Abort k ∷ xs) ys = omega (arith, aborts-append xs ys)
aborts-append (Ack ∷ xs) ys = aborts-append xs ys
aborts-append (Ready ∷ xs) ys = aborts-append xs ys

-- of Acks
pub acks-append : (xs ys : List Msg) → acks (xs ++ ys) ≡ acks xs + acks ys
acks-append [] ys = omega arith
acks-append (Abort k ∷ xs) ys = acks-append xs ys
acks-append (Ack ∷ xs) ys = omega (arith, acks-append xs ys)
acks-append (Ready ∷ xs) ys = acks-append xs ys

-- of Readies
pub readies-append : (xs ys : List Msg) → readies (xs ++ ys) ≡ readies xs + readies ys
readies-append [] ys = omega arith
readies-append (Abort k ∷ xs) ys = readies-append xs ys
readies-append (Ack ∷ xs) ys = readies-append xs ys
readies-append (Ready ∷ xs) ys = omega (arith, readies-append xs ys)

-- no Ready stands after a new last message that is none
pub readies_after-abort : (xs : List Msg) (n : ℕ) → readies_after (xs ++ Abort n ∷ []) ≡ readies_after xs
readies_after-abort [] n = omega arith
readies_after-abort (Abort k ∷ xs) n = omega (arith, readies-append xs (Abort n ∷ []))
readies_after-abort (Ack ∷ xs) n = readies_after-abort xs n
readies_after-abort (Ready ∷ xs) n = readies_after-abort xs n

pub readies_after-ack : (xs : List Msg) → readies_after (xs ++ Ack ∷ []) ≡ readies_after xs
readies_after-ack [] = omega arith
readies_after-ack (Abort k ∷ xs) = omega (arith, readies-append xs (Ack ∷ []))
readies_after-ack (Ack ∷ xs) = readies_after-ack xs
readies_after-ack (Ready ∷ xs) = readies_after-ack xs

-- at most all stand after one
pub readies_after_le : (xs : List Msg) → readies_after xs ≤ readies xs
readies_after_le [] = omega arith
readies_after_le (Abort k ∷ xs) = omega arith
readies_after_le (Ack ∷ xs) = readies_after_le xs
readies_after_le (Ready ∷ xs) = omega (arith, readies_after_le xs)

-- without an Abort nothing stands after one
pub readies_after-ready : (xs : List Msg) → aborts xs ≡ 0 → readies_after (xs ++ Ready ∷ []) ≡ 0
readies_after-ready [] none = omega arith
readies_after-ready (Abort k ∷ xs) none = absurd (omega arith)
readies_after-ready (Ack ∷ xs) none = readies_after-ready xs none
readies_after-ready (Ready ∷ xs) none = readies_after-ready xs none

-- of Aborts that carry another distance
pub strays-append : (n : ℕ) (xs ys : List Msg) → strays n (xs ++ ys) ≡ strays n xs + strays n ys
strays-append n [] ys = omega arith
strays-append n (Abort k ∷ xs) ys = omega (arith, strays-append n xs ys)
strays-append n (Ack ∷ xs) ys = strays-append n xs ys
strays-append n (Ready ∷ xs) ys = strays-append n xs ys

-- the messages are Aborts
pub strays_le : (n : ℕ) (xs : List Msg) → strays n xs ≤ aborts xs
strays_le n [] = omega arith
strays_le n (Abort k ∷ xs) = grind (arith, strays_le n xs)
strays_le n (Ack ∷ xs) = strays_le n xs
strays_le n (Ready ∷ xs) = strays_le n xs

pub ruleset ways = (strays-append, strays_le, aborts-append, acks-append, readies-append, readies_after-abort, readies_after-ack, readies_after-ready, readies_after_le)
