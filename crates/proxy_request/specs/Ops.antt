-- The ops and their names.
use Rattle.std.specs.Prelude.{ℕ, ◌==◌, Bool, List, [], ◌∷◌, codes, Option, Some, None, if◌then◌else◌}
use Rattle.std.specs.Str.{bytes_eq}
use Rattle.proxy_request.specs.declared.op.Op.{Op}
use Rattle.proxy_request.specs.declared.op.Op.TheVariants.{Add, Remove, Join, Drop, Reset, Confirm, Show, Watch, Resend, Close}

abbrev pub op_name : Op → List ℕ
op_name Add = codes "add"
op_name Remove = codes "remove"
op_name Join = codes "join"
op_name Drop = codes "drop"
op_name Reset = codes "reset"
op_name Confirm = codes "confirm"
op_name Show = codes "show"
op_name Watch = codes "watch"
op_name Resend = codes "resend"
op_name Close = codes "close"

abbrev pub named : List Op → List ℕ → Option Op
named [] name = None
named (op ∷ ops) name = if bytes_eq name (op_name op) then Some op else named ops name

abbrev pub op_named : List ℕ → Option Op
op_named name = named (Add ∷ Remove ∷ Join ∷ Drop ∷ Reset ∷ Confirm ∷ Show ∷ Watch ∷ Resend ∷ Close ∷ []) name

abbrev pub op_number : Op → ℕ
op_number Add = 0
op_number Remove = 1
op_number Join = 2
op_number Drop = 3
op_number Reset = 4
op_number Confirm = 5
op_number Show = 6
op_number Watch = 7
op_number Resend = 8
op_number Close = 9

-- whether two ops are equal, compared by their numbers
abbrev pub same_op : Op → Op → Bool
same_op a b = op_number a == op_number b
