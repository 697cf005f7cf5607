use Rattle.std.proofs.Common.{◌≡◌, ◌∙◌, List, ap, sym, length}
use Rattle.coord_types.specs.Table.{get}
use Rattle.coord_types.specs.declared.steps.Step.{Step}
use Rattle.coord_world.specs.Facade.{World, fold, last_number, no_world}
use Rattle.coord_commands.specs.Founding.{founder}
use Rattle.coord_commands.proofs.OneClient.{none_yet}
use Rattle.coord_commands.proofs.founding.Founding.new.Goals as goal

pub returns-clause-under_way : goal.returns-clause-under_way
returns-clause-under_way c =
    let none = c.new.ensures.items in
    let first : c.empty.result ≡ no_world 2 = c.empty.ensures.value ∙ ap no_world c.version.ensures in
    let second : c.empty-2.result ≡ no_world 2 = c.empty-2.ensures.value ∙ ap no_world c.version-2.ensures in
    record {
      nothing_settled = first;
      world = second ∙ sym (ap (λ (l : List Step). fold (no_world 2) l) none);
      fresh = rw none tt;
      legal = c.empty-2.ensures.legal;
      numbered = ap (λ (w : World). last_number (get w.sessions founder)) second ∙ none_yet ∙ sym (ap (λ (l : List Step). length l) none);
    }
