-- How commands end, from what their parts answer.
use Rattle.std.proofs.Common.{◌≡◌, ℕ, List, Option, Result, Ok, Err, inl, inr, MatchResult, IsOk, OnOk, OnErr, IfErr, arith}
use Rattle.std.proofs.lemmas.Bool.Decides.{nat_tests}
use Rattle.coord_disk.specs.Model.DiskModel.{DiskModel}
use Rattle.coord_disk.specs.Model.Present.{Present}
use Rattle.coord_commands.proofs.Opening.{gave}
use Rattle.std.proofs.lemmas.Bool.{false≢true}
use Rattle.std.specs.Io.KnownBytes.{Appends, Keeps}
use Rattle.coord_lines.specs.Written.{WritesFirstPart}
use Rattle.coord_commands.specs.Ending.{CommandEnds, IsOfWriting, OutputCutShort, PrintsOne}
use Rattle.coord_commands.specs.Faults.{fault_line, status_of}
use Rattle.coord_commands.specs.Folders.{reads}
use Rattle.coord_commands.specs.Serving.{IsAddress, IsOfServingAt, ServedWhole, ServesAt}
use Rattle.coord_commands.specs.Streams.{Streams}
use Rattle.coord_commands.specs.declared.fault.Fault.{Fault}

-- what ended is reported
pub reported : {A : Type 0} (Q : Fault → Type 0) (P : List ℕ → Type 0) (ended : Result A Fault) (status : ℕ) (old new : Streams) → status ≡ status_of ended
    → MatchResult ended (λ _. Keeps old.errors new.errors) (λ fault. WritesFirstPart old.errors new.errors (fault_line fault))
    → OnOk ended (PrintsOne P old.output new.output) → IfErr ended Q → IfErr ended (OutputCutShort P old.output new.output) → CommandEnds Q P status old new
reported Q P (Ok x) status old new is answered printed of cut = inl (record { number = is; printed = printed; silent = answered })
reported Q P (Err fault) status old new is answered printed of cut = inr (record { fault = fault; possible = of; number = is; answered = answered; cut = cut })

-- a text is printed last
pub printed_last : {A : Type 0} (P : List ℕ → Type 0) (result : Result A Fault) (old new : Option (List ℕ)) (text : List ℕ) → P text → OnOk result (Appends old new text) → OnOk result (PrintsOne P old new)
printed_last P (Ok x) old new text has appended = (text, has, appended)
printed_last P (Err fault) old new text has appended = tt

pub cut_last : {A : Type 0} (P : List ℕ → Type 0) (result : Result A Fault) (old new : Option (List ℕ)) (text : List ℕ) → P text → OnErr result (WritesFirstPart old new text) → IfErr result IsOfWriting
    → IfErr result (OutputCutShort P old new)
cut_last P (Ok x) old new text has part of = tt
cut_last P (Err fault) old new text has part of = inr (of, (text, has, part))

-- the faults of a writer are among others
pub of_writing : {A : Type 0} (Q : Fault → Type 0) (result : Result A Fault) → ((fault : Fault) → IsOfWriting fault → Q fault) → IfErr result IsOfWriting → IfErr result Q
of_writing Q (Ok x) among of = tt
of_writing Q (Err fault) among of = among fault of

-- served, or not
pub served : {A D : Type 0} (of : Fault → Type 0) (model : DiskModel D) (argument : List ℕ) (before after : Option Present) (was is : Option (List ℕ)) (ended : Result A Fault) (status : ℕ) (old new : Option (List ℕ)) → IsAddress argument → status ≡ status_of ended
    → MatchResult ended (λ _. Keeps old new) (λ fault. WritesFirstPart old new (fault_line fault))
    → OnOk ended (ServedWhole model before after was is) → IfErr ended of → ServesAt of argument (reads before) (reads after) status old new
served of model argument before after was is (Ok x) status old new proper number answered closed possible =
    let gives = gave model before after was is closed in
    inl (record { number = number; address = proper; opened = gives.0; closed = gives.1; silent = answered })
served of model argument before after was is (Err fault) status old new proper number answered closed possible = inr (record { fault = fault; possible = inr (proper, possible); number = number; answered = answered })

serving_weaker : (P Q : Fault → Type 0) (argument : List ℕ) (fault : Fault) → (P fault → Q fault) → IsOfServingAt P argument fault → IsOfServingAt Q argument fault
serving_weaker P Q argument fault so (inl none) = inl none
serving_weaker P Q argument fault so (inr is) = inr (is.0, so is.1)

-- a statement about its faults, or a weaker one
pub serves_weaker : (P Q : Fault → Type 0) (argument : List ℕ) (bytes after : Option (List ℕ)) (status : ℕ) (old new : Option (List ℕ)) → ((fault : Fault) → P fault → Q fault) → ServesAt P argument bytes after status old new → ServesAt Q argument bytes after status old new
serves_weaker P Q argument bytes after status old new so (inl is) = inl is
serves_weaker P Q argument bytes after status old new so (inr is) = inr (record { fault = is.fault; possible = serving_weaker P Q argument is.fault (so is.fault) is.possible; number = is.number; answered = is.answered })

-- the statement if it ended without a fault
pub is_done : {A : Type 0} (P : Type 0) (ended : Result A Fault) → IsOk ended → OnOk ended P → P
is_done P (Ok x) ok so = so
is_done P (Err fault) ok so = absurd (false≢true ok)

-- an error with a fault
pub err_last : {A : Type 0} (P : Fault → Type 0) (result : Result A Fault) (fault : Fault) → result ≡ Err fault → P fault → IfErr result P
err_last P result fault is has = rw is has

cut_weaker : (P Q : List ℕ → Type 0) (old new : Option (List ℕ)) (fault : Fault) → ((line : List ℕ) → P line → Q line) → OutputCutShort P old new fault → OutputCutShort Q old new fault
cut_weaker P Q old new fault so (inl kept) = inl kept
cut_weaker P Q old new fault so (inr part) = inr (part.0, (part.1.0, so part.1.0 part.1.1, part.1.2))

-- a statement about faults and output, or a weaker one
pub ends_weaker : (Q R : Fault → Type 0) (P S : List ℕ → Type 0) (status : ℕ) (old new : Streams) → ((fault : Fault) → Q fault → R fault) → ((line : List ℕ) → P line → S line) → CommandEnds Q P status old new → CommandEnds R S status old new
ends_weaker Q R P S status old new h1 h2 h3 = grind (arith, nat_tests, cut_weaker)
