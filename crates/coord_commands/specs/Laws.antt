-- The law of the program's arguments.
use Rattle.std.specs.Prelude.{◌≡◌, true, List, [], ◌∷◌, codes, None, Some}
use Rattle.clap.specs.Words.{Text, takes}
use Rattle.coord_commands.specs.Arguments.{AskedCommand, resetd, task_of}
use Rattle.coord_commands.specs.Arguments as asked

-- `clap` accepts these arguments, and they make this request.
abbrev pub AreTakenAs : List Text → AskedCommand → Type 0
AreTakenAs arguments asked = (takes resetd arguments ≡ true) × (task_of arguments ≡ Some asked)

-- The arguments of each command are accepted, whatever the program's name is, if each file has an
-- absolute path and each address begins with 1.
pub record CommandsAreTaken : Type 0 where
  pub drill : (name : Text) → AreTakenAs (name ∷ codes "drill" ∷ []) asked.drill
  pub init : (name file topology : Text) → AreTakenAs (name ∷ codes "init" ∷ (47 ∷ file) ∷ (47 ∷ topology) ∷ []) (asked.init (47 ∷ file) (47 ∷ topology))
  pub check : (name file : Text) → AreTakenAs (name ∷ codes "check" ∷ (47 ∷ file) ∷ []) (asked.check (47 ∷ file))
  pub show : (name file : Text) → AreTakenAs (name ∷ codes "show" ∷ (47 ∷ file) ∷ []) (asked.show (47 ∷ file))
  pub migrate : (name file : Text) → AreTakenAs (name ∷ codes "migrate" ∷ (47 ∷ file) ∷ []) (asked.migrate (47 ∷ file))
  pub serve : (name file address : Text) → AreTakenAs (name ∷ codes "serve" ∷ (47 ∷ file) ∷ (49 ∷ address) ∷ []) (asked.serve (47 ∷ file) (49 ∷ address))
  -- `clap` accepts `--` before a file, but then the arguments make no request
  pub after_dashes : (name file : Text) → (takes resetd (name ∷ codes "check" ∷ codes "--" ∷ file ∷ []) ≡ true) × (task_of (name ∷ codes "check" ∷ codes "--" ∷ file ∷ []) ≡ None)
