-- Links that are found among rows, and the neighbours that they make.
use Rattle.std.proofs.Common.{◌≡◌, ℕ, ◌+◌, ◌<◌, ◌≤◌, true, List, [], ◌∷◌, cond, eqb, refl, ◌∙◌, arith, ◌≢◌, ◌-◌, Bool, false, ◌||◌, length, map, set, sym, ap, ◌&&◌, Option, Some, is_some, nat_lt}
use Rattle.std.specs.List.{AllByRecursion}
use Rattle.std.specs.FinMap.Entries.{below_all, is_sorted, find}
use Rattle.std.proofs.lemmas.Bool.Decides.{nat_tests}
use Rattle.std.proofs.lemmas.List.{length-set, get_or-set_same, get_or-set_other}
use Rattle.std.specs.Ordering.{eq_by_cmp}
use Rattle.coord_types.specs.NodeSet.{NodeSet, contains, empty, insert}
use Rattle.coord_types.proofs.Sets.{contains-remove, contains-insert, same_nodes}
use Rattle.coord_world.specs.Facade.{by_ends, degree, is_end, pair_cmp}
use Rattle.coord_tables.specs.declared.links.LinkRow.{LinkRow}
use Rattle.coord_tables.proofs.Cases.{by_test}
use Rattle.coord_world.proofs.lists.TableLen.{len-remove_one, len-insert_le}
use Rattle.coord_types.specs.StepRanges.{IsNode}
use Rattle.coord_world.specs.code.Assembly.{AreNear, entry_with, near_in, node_entry, near_with}
use Rattle.coord_world.specs.declared.rows.parts.NodeRow.{NodeRow}
use Rattle.coord_tables.specs.Links.{ends}
use Rattle.coord_tables.proofs.LinkLanes.{same_ends}
use Rattle.coord_types.specs.NodeSet as set

-- ---- the number of links in order at a node with this many neighbours

-- a link stands with its lesser end first
abbrev pub IsTurned : LinkRow → Type 0
IsTurned r = r.a < r.b

-- the other end of a link
abbrev pub far : ℕ → LinkRow → ℕ
far u r = cond (eqb u r.a) r.b r.a

-- the far end is in a set
abbrev pub IsNear : ℕ → NodeSet → LinkRow → Type 0
IsNear u near r = is_end u r ≡ true → contains near (far u r) ≡ true

-- links above this one have other far ends
still_near : (u : ℕ) (near : NodeSet) (r : LinkRow) (rs : List LinkRow) → IsTurned r → AllByRecursion IsTurned rs → below_all pair_cmp (r.a, r.b) (by_ends rs) ≡ true → is_end u r ≡ true →
    AllByRecursion (IsNear u near) rs → AllByRecursion (IsNear u (set.remove near (far u r))) rs
still_near u near r [] turned all below end nears = tt
still_near u near r (s ∷ rs) turned all below end nears =
    let one : s.a < s.b = all.0 in
    let rest : below_all pair_cmp (r.a, r.b) (by_ends rs) ≡ true = grind (arith, nat_tests) in
    (λ is. contains-remove near (far u r) (far u s) ∙ grind (arith, nat_tests, nears.0 is), still_near u near r rs turned all.1 rest end nears.1)

-- a node has as many links as neighbours at most
pub degree_within : (u : ℕ) (near : NodeSet) (ls : List LinkRow) → AllByRecursion IsTurned ls → is_sorted pair_cmp (by_ends ls) ≡ true → AllByRecursion (IsNear u near) ls → degree u ls ≤ set.len near
degree_within u near [] all sorted nears = omega arith
degree_within u near (r ∷ rs) all sorted nears =
    let turned : r.a < r.b = all.0 in
    let below : below_all pair_cmp (r.a, r.b) (by_ends rs) ≡ true = grind (arith, nat_tests) in
    let rest : is_sorted pair_cmp (by_ends rs) ≡ true = grind (arith, nat_tests) in
    by_test (is_end u r) (λ t. is_end u r ≡ t → cond t (1 + degree u rs) (degree u rs) ≤ set.len near)
    (λ _ end.
    let fewer = degree_within u (set.remove near (far u r)) rs all.1 rest (still_near u near r rs turned all.1 below end nears.1) in
    omega (arith, fewer, len-remove_one near (far u r) (nears.0 end)))
    (λ _ _. degree_within u near rs all.1 rest nears.1) refl

-- ---- neighbours that are noted one link after the other

-- one more neighbour of a node
abbrev pub noted : List NodeSet → ℕ → ℕ → List NodeSet
noted near u v = set near (u - 1) (insert (near_in near u) v)

-- what each node's are then
near_noted : (near : List NodeSet) (a b u : ℕ) → length near ≡ 64 → IsNode a → IsNode u → near_in (noted near a b) u ≡ cond (eqb u a) (insert (near_in near u) b) (near_in near u)
near_noted near a b u long is_a is_u = by_test (eqb u a) (λ t. near_in (noted near a b) u ≡ cond t (insert (near_in near u) b) (near_in near u))
    (λ is. let same : u ≡ a = grind (arith, nat_tests) in
    ap (near_in (noted near a b)) same ∙ get_or-set_same near (a - 1) (insert (near_in near a) b) empty (omega (arith, long, is_a.0, is_a.1)) ∙ ap (λ k. insert (near_in near k) b) (sym same))
    (λ is. let apart : u - 1 ≢ a - 1 = λ e. let same : u ≡ a = omega (arith, e, is_a.0, is_u.0) in let tested : eqb u a ≡ true = grind (arith, nat_tests) in cc in
    get_or-set_other near (a - 1) (u - 1) (insert (near_in near a) b) empty apart)

twice : (s : NodeSet) (a : ℕ) → insert (insert s a) a ≡ insert s a
twice s a = same_nodes (insert (insert s a) a) (insert s a) (λ q. contains-insert (insert s a) a q ∙ ap (λ t. eqb q a || t) (contains-insert s a q) ∙ again (eqb q a) (contains s q) ∙ sym (contains-insert s a q))
  where
    again : (p q : Bool) → (p || (p || q)) ≡ (p || q)
    again true q = refl
    again false q = refl

-- each end of a link is a neighbour of the other one
pub both_noted : (near : List NodeSet) (r : LinkRow) → length near ≡ 64 → IsNode r.a → IsNode r.b → (u : ℕ) → IsNode u →
    near_in (noted (noted near r.a r.b) r.b r.a) u ≡ cond (eqb u r.a) (insert (near_in near u) r.b) (cond (eqb u r.b) (insert (near_in near u) r.a) (near_in near u))
both_noted near r long is_a is_b u is_u =
    near_noted (noted near r.a r.b) r.b r.a u (length-set near (r.a - 1) (insert (near_in near r.a) r.b) ∙ long) is_b is_u
    ∙ ap (λ s. cond (eqb u r.b) (insert s r.a) s) (near_noted near r.a r.b u long is_a is_u)
    ∙ by_test (eqb u r.a) (λ t. cond (eqb u r.b) (insert (cond t (insert (near_in near u) r.b) (near_in near u)) r.a) (cond t (insert (near_in near u) r.b) (near_in near u)) ≡ cond t (insert (near_in near u) r.b) (cond (eqb u r.b) (insert (near_in near u) r.a) (near_in near u)))
    (λ is. by_test (eqb u r.b) (λ t. cond t (insert (insert (near_in near u) r.b) r.a) (insert (near_in near u) r.b) ≡ insert (near_in near u) r.b)
    (λ also. let same : r.a ≡ r.b = grind (arith, nat_tests) in ap (insert (insert (near_in near u) r.b)) same ∙ twice (near_in near u) r.b) (λ _. refl))
    (λ _. refl)

-- rows of nodes with the same neighbours are the same
pub same_with : (near : List NodeSet) (links : List LinkRow) → AreNear links near → (rs : List NodeRow) → AllByRecursion (λ r. IsNode r.id) rs → map (entry_with (near_in near)) rs ≡ map (node_entry links) rs
same_with near links known [] all = refl
same_with near links known (r ∷ rs) all = λ i.
    (r.id, record { group = r.group; mode = r.mode; parent = r.parent; pend = r.pend; neighbours = known r.id all.0 i; epoch = r.epoch; confirmed = r.confirmed; distance = r.distance }) ∷ same_with near links known rs all.1 i

-- ---- the links that are found among rows, and the neighbours that they make

-- the row of the link of x and y
abbrev pub row_between : ℕ → ℕ → List LinkRow → Option LinkRow
row_between x y rows = find pair_cmp (ends x y) (by_ends rows)

-- whether a row is of the link of x and y
is_between : (x y : ℕ) (r : LinkRow) → IsTurned r → eq_by_cmp pair_cmp (ends x y) (r.a, r.b) ≡ ((eqb x r.a && eqb y r.b) || (eqb x r.b && eqb y r.a))
is_between x y r turned =
    let up : nat_lt r.a r.b ≡ true = grind (arith, nat_tests, turned) in
    ap (λ c. eq_by_cmp pair_cmp (ends x y) (cond {A = ℕ × ℕ} c (r.a, r.b) (r.b, r.a))) (sym up) ∙ same_ends r.a r.b x y

-- one more neighbour for each at most
pub len-near_with : (u : ℕ) (near : NodeSet) (ls : List LinkRow) → set.len (near_with u near ls) ≤ set.len near + degree u ls
len-near_with u near [] = omega arith
len-near_with u near (r ∷ rs) =
    by_test (eqb u r.a) (λ t. set.len (near_with u (cond t (set.insert near r.b) (cond (eqb u r.b) (set.insert near r.a) near)) rs) ≤ set.len near + cond (t || eqb u r.b) (1 + degree u rs) (degree u rs))
    (λ _. omega (arith, len-near_with u (set.insert near r.b) rs, len-insert_le near r.b))
    (λ _. by_test (eqb u r.b) (λ t. set.len (near_with u (cond t (set.insert near r.a) near) rs) ≤ set.len near + cond t (1 + degree u rs) (degree u rs))
    (λ _. omega (arith, len-near_with u (set.insert near r.a) rs, len-insert_le near r.a)) (λ _. len-near_with u near rs))

-- the far ends of links are neighbours
pub contains-near_with : (u v : ℕ) (near : NodeSet) (ls : List LinkRow) → AllByRecursion IsTurned ls → contains (near_with u near ls) v ≡ (contains near v || is_some (row_between u v ls))
contains-near_with u v near [] all = grind (arith, nat_tests)
contains-near_with u v near (r ∷ rs) all =
    let turned : r.a < r.b = all.0 in
    let step = λ (s : NodeSet). contains-near_with u v s rs all.1 in
    let here : is_some (row_between u v (r ∷ rs)) ≡ (((eqb u r.a && eqb v r.b) || (eqb u r.b && eqb v r.a)) || is_some (row_between u v rs)) =
    one (eq_by_cmp pair_cmp (ends u v) (r.a, r.b)) (row_between u v rs) ∙ ap (λ c. c || is_some (row_between u v rs)) (is_between u v r turned) in
    by_test (eqb u r.a) (λ t. contains (near_with u (cond t (set.insert near r.b) (cond (eqb u r.b) (set.insert near r.a) near)) rs) v ≡ (contains near v || is_some (row_between u v (r ∷ rs))))
    (λ is. step (set.insert near r.b) ∙ grind (arith, nat_tests, contains-insert near r.b v, here))
    (λ not_a. by_test (eqb u r.b) (λ t. contains (near_with u (cond t (set.insert near r.a) near) rs) v ≡ (contains near v || is_some (row_between u v (r ∷ rs))))
    (λ is. step (set.insert near r.a) ∙ grind (arith, nat_tests, contains-insert near r.a v, here)) (λ not_b. step near ∙ grind (arith, nat_tests, here)))
  where
    one : (c : Bool) (o : Option LinkRow) → is_some (cond c (Some r) o) ≡ (c || is_some o)
    one true o = refl
    one false o = refl
