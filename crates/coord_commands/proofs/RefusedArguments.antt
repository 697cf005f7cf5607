-- Arguments that are refused.
use Rattle.std.proofs.Common.{◌≡◌, ◌⊎◌, inl, inr, refl, ℕ, List, Option, None, Result, Ok, Err, IfErr, IfOk, true}
use Rattle.std.proofs.KnownBytes.{Keeps-refl}
use Rattle.clap.specs.Words.{Text, takes}
use Rattle.coord_disk.specs.Model.Present.{Present}
use Rattle.coord_lines.specs.Written.{WritesFirstPart}
use Rattle.coord_commands.specs.Faults.{fault_line, fault_status}
use Rattle.coord_commands.specs.Running.{IsOfArguments, LacksArguments, RefusesArguments, files_around}
use Rattle.coord_commands.specs.Arguments.{resetd, task_of}
use Rattle.coord_commands.specs.declared.fault.Fault.{Fault}
use Rattle.coord_commands.specs.declared.fault.Fault.TheVariants.{Usage, OutOfMemory}

of_arguments : (arguments : List Text) (fault : Fault) → (fault ≡ OutOfMemory) ⊎ ((fault ≡ Usage) × (takes resetd arguments ≡ true → task_of arguments ≡ None)) → IsOfArguments arguments fault
of_arguments arguments fault (inl is) = rw is tt
of_arguments arguments fault (inr why) = rw why.0 why.1

-- nothing but the fault's line is printed
pub refused_arguments : (arguments : List Text) (fault : Fault) (status : ℕ) (input output old new : Option (List ℕ)) (holds : List ℕ → Option Present) (says : List ℕ → Option (List ℕ))
    → (fault ≡ OutOfMemory) ⊎ ((fault ≡ Usage) × (takes resetd arguments ≡ true → task_of arguments ≡ None)) → status ≡ fault_status fault → WritesFirstPart old new (fault_line fault)
    → RefusesArguments arguments status (record { streams = record { input = input; output = output; errors = old }; holds = holds; says = says }) (record { streams = record { input = input; output = output; errors = new }; holds = holds; says = says })
refused_arguments arguments fault status input output old new holds says why is answered =
    record {
      fails = record { fault = fault; possible = of_arguments arguments fault why; number = is; answered = answered; cut = inl (Keeps-refl output) };
      unread = Keeps-refl input;
      untouched = λ name. refl;
    }

-- arguments that could not be read
pub lacks : (fault wanted : Fault) (status : ℕ) (input output old new : Option (List ℕ)) → fault ≡ wanted → status ≡ fault_status fault → WritesFirstPart old new (fault_line fault) → LacksArguments wanted status (files_around (record { input = input; output = output; errors = old })) (files_around (record { input = input; output = output; errors = new }))
lacks fault wanted status input output old new is number answered = record { fails = record { fault = fault; possible = is; number = number; answered = answered; cut = inl (Keeps-refl output) }; unread = Keeps-refl input }

pub on_ok : {A E : Type 0} (r : Result A E) (P Q : A → Type 0) → ((x : A) → P x → Q x) → IfOk r P → IfOk r Q
on_ok (Ok x) P Q so is = so x is
on_ok (Err e) P Q so is = tt

pub on_err : {A E : Type 0} (r : Result A E) (P Q : E → Type 0) → ((x : E) → P x → Q x) → IfErr r P → IfErr r Q
on_err (Ok x) P Q so is = tt
on_err (Err e) P Q so is = so e is

-- the fault of an error
pub its_fault : {A : Type 0} (fault other : Fault) → ◌≡◌ {A = Result A Fault} (Err fault) (Err other) → fault ≡ other
its_fault fault other same = cc
