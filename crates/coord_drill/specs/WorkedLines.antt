-- Worked examples: one line of each verb, written and read again.
use Rattle.std.specs.Prelude.{◌≡◌, ℕ, List, codes, Some}
use Rattle.coord_types.specs.declared.messages.Msg.TheVariants as msg
use Rattle.coord_types.specs.declared.steps.Command.TheVariants.{Add, Remove, Join, Drop, Reset, Confirm}
use Rattle.coord_drill.specs.declared.request.Request.{Request}
use Rattle.coord_drill.specs.declared.request.Request.TheVariants.{Next, Order, Take, Clear, Data, Receipt, Resend, Check, Show, Hold, Flush, Crash, Version2}
use Rattle.coord_drill.specs.Grammar.{request_of, spelled}

-- In a drill of this version, the request is written as this line, and this line is read as the request.
abbrev pub IsSpelledIn : ℕ → Request → List ℕ → Type 0
IsSpelledIn version request line = (spelled version request ≡ Some line) × (request_of version line ≡ Some request)

abbrev pub IsSpelled : Request → List ℕ → Type 0
IsSpelled = IsSpelledIn 1

abbrev pub WorkedLines : Type 0
WorkedLines =
    IsSpelled (Next (Add 64 16)) (codes "add 64 16")
    × IsSpelled (Next (Remove 1)) (codes "remove 1")
    × IsSpelled (Next (Join 1 2)) (codes "join 1 2")
    × IsSpelled (Next (Drop 2 1)) (codes "drop 2 1")
    × IsSpelled (Next (Reset 3)) (codes "reset 3")
    × IsSpelled (Next (Confirm 3 10)) (codes "confirm 3 10")
    × IsSpelled (Order 16 7 (Add 1 2)) (codes "order 16 7 add 1 2")
    × IsSpelled (Take 1 2) (codes "take 1 2")
    × IsSpelled (Clear 1 2) (codes "clear 1 2")
    × IsSpelled (Data (record { from = 1; to = 2; inc = 3; number = 4; msg = msg.Abort 0 })) (codes "data 1 2 3 4 abort")
    × IsSpelled (Receipt (record { from = 1; to = 2; inc = 3; number = 4 })) (codes "receipt 1 2 3 4")
    × IsSpelled Resend (codes "resend")
    × IsSpelled Check (codes "check")
    × IsSpelled Show (codes "show")
    × IsSpelled Hold (codes "hold")
    × IsSpelled Flush (codes "flush")
    × IsSpelled Crash (codes "crash")
    × IsSpelled Version2 (codes "version 2")
    × IsSpelledIn 2 (Data (record { from = 1; to = 2; inc = 3; number = 4; msg = msg.Abort 7 })) (codes "data 1 2 3 4 abort 7")
