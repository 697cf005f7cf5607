use Rattle.std.proofs.Common.{◌≡◌, map, [], ◌∷◌, ◌++◌, ap, ◌∙◌}
use Rattle.std.proofs.lemmas.List.{map-append}
use Rattle.coord_member.proofs.kept.append.Goals as goal

pub returns : goal.returns
returns c =
    let copied : c.in_ok-from_slice.field-0.items ≡ c.args.now.now = c.in_ok-from_slice.ensures.items in
    ap (map (λ v. v.items)) c.in_ok-push.ensures.items ∙ map-append (λ v. v.items) c.args.history.now.items (c.in_ok-from_slice.field-0 ∷ []) ∙ ap (λ n. map (λ v. v.items) c.args.history.now.items ++ (n ∷ [])) copied
