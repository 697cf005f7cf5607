use Rattle.std.proofs.Common.{◌≡◌, map, Bool, ◌||◌, List, [], ◌∷◌, refl, ap, sym, ◌∙◌, take, take_all}
use Rattle.coord_member.specs.Rule.{same_party}
use Rattle.std.specs.List.{list_any}
use Rattle.coord_member.proofs.kept.was_before.Goals as goal

mapped : {A B : Type 0} (f : A → B) (test : B → Bool) (xs : List A) → list_any test (map f xs) ≡ list_any (λ x. test (f x)) xs
mapped f test [] = refl
mapped f test (x ∷ xs) = ap (λ b. test (f x) || b) (mapped f test xs)

pub returns : goal.returns
returns c =
    let xs = c.args.history.now in
    let past = c.loop-party-test.false in
    let whole : take c.loop-party.party-index xs ≡ xs = take_all c.loop-party.party-index xs past in
    c.loop-party.invariant ∙ ap (list_any (λ v. same_party c.args.now.now v.items)) whole ∙ sym (mapped (λ v. v.items) (same_party c.args.now.now) xs)
