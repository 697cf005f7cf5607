-- Orders of one client, submitted one after the other.
use Rattle.std.proofs.Common.{◌≡◌, ℕ, ◌+◌, ◌≤◌, Bool, true, false, List, [], ◌∷◌, ◌++◌, length, Option, Ok, Err, Result, refl, ap, ◌∙◌, arith, if◌then◌else◌}
use Rattle.std.proofs.lemmas.Bool.Decides.{nat_tests}
use Rattle.std.specs.List.{AllByRecursion}
use Rattle.coord_batch.specs.Batches.{IsNumbered}
use Rattle.coord_link.specs.LaneMachine.{Tests, refused_or}
use Rattle.coord_node.specs.Steps.{kind}
use Rattle.coord_types.proofs.Tables.{get-insert}
use Rattle.coord_types.specs.Table.{empty, get}
use Rattle.coord_types.specs.declared.refusals.Refusal.{Refusal}
use Rattle.coord_types.specs.declared.refusals.Refusal.TheVariants.{Exhausted}
use Rattle.coord_types.specs.declared.steps.Command.{Command}
use Rattle.coord_types.specs.declared.steps.Kind.{Kind}
use Rattle.coord_types.specs.declared.steps.Reply.{Reply}
use Rattle.coord_types.specs.declared.steps.Session.{Session}
use Rattle.coord_types.specs.declared.steps.Step.TheVariants.{Order}
use Rattle.coord_world.specs.declared.verdicts.Verdict.{Verdict}
use Rattle.coord_world.specs.declared.verdicts.Verdict.TheVariants.{Fresh, Repeat}
use Rattle.coord_world.specs.Facade.{World, accepts, against, is_exhausted, judged, last_number, next, no_world, or_repeat, state}
use Rattle.coord_commands.specs.Founding.{founder, numbered}

refused_if : (b : Bool) (refusal : Refusal) (rest : Result Verdict Refusal) (r : Reply) → (rest ≡ Ok (Repeat r) → ⊥) → (if b then Err refusal else rest) ≡ Ok (Repeat r) → ⊥
refused_if true refusal rest r never e = cc
refused_if false refusal rest r never e = never e

-- a judgement answers no repeat
judged_no_repeat : (k : Kind) (ts : Tests) (r : Reply) → refused_or (Fresh k) ts ≡ Ok (Repeat r) → ⊥
judged_no_repeat k [] r e = cc
judged_no_repeat k (t ∷ ts) r e = refused_if t.0 t.1 (refused_or (Fresh k) ts) r (judged_no_repeat k ts r) e

next_no_repeat : (o : Option Session) (n : ℕ) (x : Command) (v : Result Verdict Refusal) (r : Reply) → last_number o ≡ n → (v ≡ Ok (Repeat r) → ⊥) → or_repeat o (n + 1) x v ≡ Ok (Repeat r) → ⊥
next_no_repeat o n x v r h1 h2 h3 = grind (arith, nat_tests)

-- the order after a client's last one repeats none
pub no_repeat : (w settled : World) (c n : ℕ) (x : Command) (r : Reply) → last_number (get w.sessions c) ≡ n → accepts w settled (Order c (n + 1) x) ≡ Ok (Repeat r) → ⊥
no_repeat w settled c n x r last e =
    next_no_repeat (get w.sessions c) n x (judged w settled (Order c (n + 1) x)) r last
    (judged_no_repeat (kind (state w) (Order c (n + 1) x)) ((is_exhausted w, Exhausted) ∷ against w settled (Order c (n + 1) x)) r) e

-- the order that was taken last is its client's last one
pub last_after : (w : World) (c n : ℕ) (x : Command) → last_number (get (next w (Order c n x)).sessions c) ≡ n
last_after w c n x = grind (arith, nat_tests, get-insert)

-- at first there is none
pub none_yet : last_number (get (no_world 2).sessions founder) ≡ 0
unfolding get empty
none_yet = refl

pub numbered-append : (n : ℕ) (xs ys : List Command) → numbered n (xs ++ ys) ≡ numbered n xs ++ numbered (n + length xs) ys
numbered-append n [] ys = let same : n ≡ n + 0 = omega arith in ap (λ k. numbered k ys) same
numbered-append n (x ∷ xs) ys =
    let same : n + 1 + length xs ≡ n + length (x ∷ xs) = omega arith in
    ap (λ l. Order founder n x ∷ l) (numbered-append (n + 1) xs ys ∙ ap (λ k. numbered (n + 1) xs ++ numbered k ys) same)

pub length-numbered : (n : ℕ) (xs : List Command) → length (numbered n xs) ≡ length xs
length-numbered n [] = refl
length-numbered n (x ∷ xs) = omega (arith, length-numbered (n + 1) xs)

pub each_numbered : (n : ℕ) (xs : List Command) → 1 ≤ n → AllByRecursion IsNumbered (numbered n xs)
each_numbered n [] some = tt
each_numbered n (x ∷ xs) some = (some, each_numbered (n + 1) xs (omega (arith, some)))
