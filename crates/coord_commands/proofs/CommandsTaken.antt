-- The arguments of each command are taken.
use Rattle.std.proofs.Common.{◌≡◌, true, [], ◌∷◌, codes, refl, None}
use Rattle.clap.specs.Words.{Text, takes}
use Rattle.clap.proofs.OnLiterals.{clap_on_literals}
use Rattle.coord_commands.specs.Laws.{AreTakenAs, CommandsAreTaken}
use Rattle.coord_commands.specs.Arguments.{resetd, task_of}
use Rattle.coord_commands.specs.Arguments as asked

takes_drill : (name : Text) → AreTakenAs (name ∷ codes "drill" ∷ []) asked.drill
unfolding clap_on_literals
takes_drill name = (refl, refl)

takes_init : (name file topology : Text) → AreTakenAs (name ∷ codes "init" ∷ (47 ∷ file) ∷ (47 ∷ topology) ∷ []) (asked.init (47 ∷ file) (47 ∷ topology))
unfolding clap_on_literals
takes_init name file topology = (refl, refl)

takes_check : (name file : Text) → AreTakenAs (name ∷ codes "check" ∷ (47 ∷ file) ∷ []) (asked.check (47 ∷ file))
unfolding clap_on_literals
takes_check name file = (refl, refl)

takes_show : (name file : Text) → AreTakenAs (name ∷ codes "show" ∷ (47 ∷ file) ∷ []) (asked.show (47 ∷ file))
unfolding clap_on_literals
takes_show name file = (refl, refl)

takes_migrate : (name file : Text) → AreTakenAs (name ∷ codes "migrate" ∷ (47 ∷ file) ∷ []) (asked.migrate (47 ∷ file))
unfolding clap_on_literals
takes_migrate name file = (refl, refl)

takes_serve : (name file address : Text) → AreTakenAs (name ∷ codes "serve" ∷ (47 ∷ file) ∷ (49 ∷ address) ∷ []) (asked.serve (47 ∷ file) (49 ∷ address))
unfolding clap_on_literals
takes_serve name file address = (refl, refl)

takes_after_dashes : (name file : Text) → (takes resetd (name ∷ codes "check" ∷ codes "--" ∷ file ∷ []) ≡ true) × (task_of (name ∷ codes "check" ∷ codes "--" ∷ file ∷ []) ≡ None)
unfolding clap_on_literals
takes_after_dashes name file = (refl, refl)

pub commands_are_taken : CommandsAreTaken
commands_are_taken = record { drill = takes_drill; init = takes_init; check = takes_check; show = takes_show; migrate = takes_migrate; serve = takes_serve; after_dashes = takes_after_dashes }
