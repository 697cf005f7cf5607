-- What a flight settles: of each step the reply and the releases, in order, and then the tickets.
use Rattle.std.proofs.Common.{◌≡◌, ℕ, zero, suc, ◌+◌, ◌≤◌, ◌==◌, true, cond, List, [], ◌∷◌, ◌++◌, map, length, take, drop, refl, sym, ap, ◌∙◌, append-nil, append_assoc, arith, inl, nat_le, slice_get}
use Rattle.std.proofs.lemmas.Bool.Decides.{nat_tests}
use Rattle.std.proofs.lemmas.List.{length-take}
use Rattle.std.proofs.Math.Seq.{take-append_seam}
use Rattle.std.specs.List.{AllByRecursion}
use Rattle.coord_types.specs.declared.outputs.Output.{Output}
use Rattle.coord_world.proofs.Facade.{by_test, fold-append, fold_counts, same_version}
use Rattle.coord_world.specs.Facade.{World, again, fold, next, outputs, outs, reply}
use Rattle.coord_ledger.specs.Facade.{Claim, IsCollectable, IsGranted, Log, release_of, releases_of, resent, settled_world}
use Rattle.coord_drill.specs.Facade.{Release, Step, after_step, claims_of, collected_lines, left, output_line, output_lines, released_lines, reply_line, settled_lines, waiting}
use Rattle.coord_ledger.proofs.follows.Granted.{slice_get-middle}

-- ---- the releases of one step

-- later steps have later numbers
none_later : (version : ℕ) (v : World) (steps : List Step) (n : ℕ) → n ≤ v.count → released_lines version n (releases_of (outs v steps)) ≡ []
none_later version v [] n le = refl
none_later version v (s ∷ ss) n le = first (none_later version (next v s) ss n (omega (arith, le))) (outputs v s)
  where
    first : released_lines version n (releases_of (outs (next v s) ss)) ≡ [] → (os : List Output) → released_lines version n (map (release_of (v.count + 1)) os ++ releases_of (outs (next v s) ss)) ≡ []
    first none [] = none
    first none (o ∷ os) =
        by_test ((v.count + 1) == n) (λ b. cond b (output_line version o ++ released_lines version n (map (release_of (v.count + 1)) os ++ releases_of (outs (next v s) ss))) [] ≡ [])
        (λ same. absurd (grind (arith, nat_tests, same, le)))
        (λ _. refl)

all_later : (v : World) (steps : List Step) (n : ℕ) → n ≤ v.count → after_step n (releases_of (outs v steps)) ≡ releases_of (outs v steps)
all_later v [] n le = refl
all_later v (s ∷ ss) n le = first (all_later (next v s) ss n (omega (arith, le))) (outputs v s)
  where
    first : after_step n (releases_of (outs (next v s) ss)) ≡ releases_of (outs (next v s) ss) → (os : List Output) → after_step n (map (release_of (v.count + 1)) os ++ releases_of (outs (next v s) ss)) ≡ map (release_of (v.count + 1)) os ++ releases_of (outs (next v s) ss)
    first all [] = all
    first all (o ∷ os) =
        let rest = map (release_of (v.count + 1)) os ++ releases_of (outs (next v s) ss) in
        by_test ((v.count + 1) == n) (λ b. cond b (after_step n rest) (release_of (v.count + 1) o ∷ rest) ≡ release_of (v.count + 1) o ∷ rest)
        (λ same. absurd (grind (arith, nat_tests, same, le)))
        (λ _. refl)

-- those of a step, before later ones
pub own_lines : (version n : ℕ) (os : List Output) (rest : List Release) → released_lines version n rest ≡ [] → released_lines version n (map (release_of n) os ++ rest) ≡ output_lines version os
own_lines version n [] rest none = none
own_lines version n (o ∷ os) rest none =
    by_test (n == n) (λ b. cond b (output_line version o ++ released_lines version n (map (release_of n) os ++ rest)) [] ≡ output_line version o ++ output_lines version os)
    (λ _. ap (λ l. output_line version o ++ l) (own_lines version n os rest none))
    (λ apart. absurd (grind (arith, nat_tests, apart)))

own_after : (n : ℕ) (os : List Output) (rest : List Release) → after_step n rest ≡ rest → after_step n (map (release_of n) os ++ rest) ≡ rest
own_after n [] rest all = all
own_after n (o ∷ os) rest all =
    by_test (n == n) (λ b. cond b (after_step n (map (release_of n) os ++ rest)) (release_of n o ∷ (map (release_of n) os ++ rest)) ≡ rest)
    (λ _. own_after n os rest all)
    (λ apart. absurd (grind (arith, nat_tests, apart)))

-- ---- the steps of a flight

-- steps keep the version
pub fold_version : (w : World) (steps : List Step) → (fold w steps).version ≡ w.version
fold_version w [] = refl
fold_version w (s ∷ ss) = fold_version (next w s) ss ∙ same_version w s

after_first : (w : World) (b : ℕ) (s : Step) (ss : List Step) → nat_le (w.count + 1) (fold (next w s) (take b ss)).count ≡ true
after_first w b s ss = grind (arith, nat_tests, fold_counts (next w s) (take b ss))

-- the collected replies are those of the settled steps
pub collected_are : (version : ℕ) (w : World) (b : ℕ) (steps : List Step) → collected_lines version (fold w (take b steps)).count (claims_of w steps) (releases_of (outs w (take b steps))) ≡ settled_lines version (outs w (take b steps))
collected_are version w zero [] = refl
collected_are version w zero (s ∷ ss) =
    let lines = reply_line (reply w s) ++ (released_lines version (w.count + 1) [] ++ collected_lines version w.count (claims_of (next w s) ss) (after_step (w.count + 1) [])) in
    by_test (nat_le (w.count + 1) w.count) (λ b. cond b lines [] ≡ [])
    (λ le. absurd (grind (arith, nat_tests, le)))
    (λ _. refl)
collected_are version w (suc b) [] = refl
collected_are version w (suc b) (s ∷ ss) =
    let v = next w s in
    let n = w.count + 1 in
    let rest = releases_of (outs v (take b ss)) in
    let count = (fold v (take b ss)).count in
    let own = own_lines version n (outputs w s) rest (none_later version v (take b ss) n (omega arith)) in
    let later = own_after n (outputs w s) rest (all_later v (take b ss) n (omega arith)) in
    let reported = reply_line (reply w s) ++ (released_lines version n (map (release_of n) (outputs w s) ++ rest) ++ collected_lines version count (claims_of v ss) (after_step n (map (release_of n) (outputs w s) ++ rest))) in
    ap (λ t. cond t reported []) (after_first w b s ss)
    ∙ ap (λ l. reply_line (reply w s) ++ (l ++ collected_lines version count (claims_of v ss) (after_step n (map (release_of n) (outputs w s) ++ rest)))) own
    ∙ ap (λ l. reply_line (reply w s) ++ (output_lines version (outputs w s) ++ collected_lines version count (claims_of v ss) l)) later
    ∙ ap (λ l. reply_line (reply w s) ++ (output_lines version (outputs w s) ++ l)) (collected_are version v b ss)
    ∙ sym (append_assoc (reply_line (reply w s)) (output_lines version (outputs w s)) _)

-- the tickets of the steps that are not settled are left
pub waiting_are : (w : World) (b : ℕ) (steps : List Step) → waiting (fold w (take b steps)).count (claims_of w steps) ≡ claims_of (fold w (take b steps)) (drop b steps)
waiting_are w zero [] = refl
waiting_are w zero (s ∷ ss) =
    by_test (nat_le (w.count + 1) w.count) (λ b. cond b (waiting w.count (claims_of (next w s) ss)) (claims_of w (s ∷ ss)) ≡ claims_of w (s ∷ ss))
    (λ le. absurd (grind (arith, nat_tests, le)))
    (λ _. refl)
waiting_are w (suc b) [] = refl
waiting_are w (suc b) (s ∷ ss) =
    let count = (fold (next w s) (take b ss)).count in
    ap (λ t. cond t (waiting count (claims_of (next w s) ss)) (claims_of w (s ∷ ss))) (after_first w b s ss) ∙ waiting_are (next w s) b ss

-- ---- grants

-- the tickets of the last steps are granted
pub granted_from : (log : Log) (before after : List Step) → log.trail ≡ before ++ after → AllByRecursion (IsGranted log) (claims_of (fold log.base before) after)
granted_from log before [] is = tt
granted_from log before (s ∷ after) is =
    let first : take (length before) log.trail ≡ before = ap (take (length before)) is ∙ take-append_seam before (s ∷ after) in
    let one : fold log.base (before ++ s ∷ []) ≡ next (fold log.base before) s = fold-append before (s ∷ []) log.base in (
      inl (record {
        place = length before;
        there = ap (λ l. slice_get l (length before)) is ∙ slice_get-middle before after s;
        answered = ap (λ l. reply (fold log.base l) s) first;
      }),
      rw (sym one) (granted_from log (before ++ s ∷ []) after (is ∙ sym (append_assoc before (s ∷ []) after))),
    )

-- a granted claim may be collected once its step is settled
pub collectable : (log : Log) (claim : Claim) → IsGranted log claim → claim.step ≤ (settled_world log).count → IsCollectable log claim
collectable log claim granted le = record { settled = omega (arith, le, fold_counts log.base (take log.settled log.trail), length-take log.settled log.trail); granted = granted }

-- the release that is looked at first
pub looked_at : (rs : List Release) → left (slice_get rs 0) (drop 1 rs) ≡ rs
looked_at [] = refl
looked_at (r ∷ rs) = refl

-- all resent packets have step 0
pub resent_lines : (version : ℕ) (w : World) → released_lines version 0 (resent w) ≡ output_lines version (again w)
resent_lines version w = ap (released_lines version 0) (sym (append-nil (resent w))) ∙ own_lines version 0 (again w) [] refl
