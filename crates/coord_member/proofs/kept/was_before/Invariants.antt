use Rattle.std.proofs.Common.{◌≡◌, take}
use Rattle.coord_member.specs.Rule.{same_party}
use Rattle.std.specs.List.{list_any}
use Rattle.coord_member.proofs.kept.was_before.Given as goal

abbrev pub invariant-loop-party : goal.invariant-loop-party
invariant-loop-party l = l.was ≡ list_any (λ v. same_party l.now v.items) (take l.party-index l.history)
