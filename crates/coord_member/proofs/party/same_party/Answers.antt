use Rattle.std.proofs.Common.{rules, ◌≡◌, ◌&&◌, List, [], ◌∷◌, refl, ap, ◌∙◌}
use Rattle.coord_member.specs.declared.view.Entry.{Entry}
use Rattle.coord_member.specs.declared.view.Entry.TheVariants.{Node, Link}
use Rattle.coord_member.specs.contracts.view.EntryPartialEq.TheImpl.{eq-value}
use Rattle.coord_member.specs.Rule.{same_entry, same_party}
use lib.Pointwise.{pointwise}
use Rattle.coord_member.proofs.party.same_party.Goals as goal

one : (x y : Entry) → eq-value.it x y ≡ same_entry x y
one (Node n e) (Node m f) = search rules
one (Node n e) (Link c d j) = search rules
one (Link a b i) (Node m f) = search rules
one (Link a b i) (Link c d j) = search rules

all : (xs ys : List Entry) → pointwise eq-value.it xs ys ≡ same_party xs ys
all [] [] = refl
all [] (y ∷ ys) = refl
all (x ∷ xs) [] = refl
all (x ∷ xs) (y ∷ ys) = ap (λ b. b && pointwise eq-value.it xs ys) (one x y) ∙ ap (λ b. same_entry x y && b) (all xs ys)

pub returns : goal.returns
returns c = c.eq.ensures ∙ all c.args.now.now c.args.party.now
