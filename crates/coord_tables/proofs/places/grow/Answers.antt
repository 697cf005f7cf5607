use Rattle.std.proofs.Common.{◌≡◌, ℕ, ◌-◌, ◌++◌, Bool, true, false, List, if◌then◌else◌, length, replicate, take, ap, ◌∙◌, is_ok, slice_index, refl, arith}
use Rattle.std.specs.Vec.{vec_len}
use Rattle.coord_tables.proofs.IndexedLinks.{kept_index}
use Rattle.coord_tables.proofs.places.grow.Goals as goal

either : (c : Bool) (old grown : List ℕ) (k : ℕ) → slice_index grown k ≡ slice_index old k → slice_index (if c then grown else old) k ≡ slice_index old k
either true old grown k is = is
either false old grown k is = refl

pub returns-clause-kept : goal.returns-clause-kept
returns-clause-kept c k =
    let old : List ℕ = c.args.places.now.items in
    let long : vec_len c.args.places.now ≡ length old = omega arith in
    ap (λ ps. slice_index ps k) c.resize.ensures.items
    ∙ ap (λ n. slice_index (if is_ok c.resize.result then take 4096 old ++ replicate (4096 - n) 0 else old) k) long
    ∙ either (is_ok c.resize.result) old (take 4096 old ++ replicate (4096 - length old) 0) k (kept_index old 4096 k c.requires)
