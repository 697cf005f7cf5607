-- Messages, and lists of messages in transit, oldest first.
use Rattle.std.specs.Prelude.{◌≡◌, ℕ, zero, suc, ◌==◌, Bool, true, false, List, [], ◌∷◌}
use Rattle.std.proofs.Common.{refl}
use Rattle.std.specs.Coded.{Coded, code_by, coded_ℕ}
use Rattle.coord_types.specs.declared.messages.Msg.{Msg}
use Rattle.coord_types.specs.declared.messages.Msg.TheVariants as msg

abbrev pub same_msg : Msg → Msg → Bool
same_msg (msg.Abort k) (msg.Abort d) = k == d
same_msg msg.Ack msg.Ack = true
same_msg msg.Ready msg.Ready = true
same_msg m n = false

-- the distance that an Abort carries; 0 for the other messages
abbrev pub carried : Msg → ℕ
carried (msg.Abort k) = k
carried msg.Ack = 0
carried msg.Ready = 0

abbrev pub is_nil : List Msg → Bool
is_nil [] = true
is_nil (m ∷ ms) = false

abbrev pub begins_with : List Msg → Msg → Bool
begins_with [] m = false
begins_with (front ∷ ms) m = same_msg front m

-- the list without its first message
abbrev pub after_front : List Msg → List Msg
after_front [] = []
after_front (m ∷ ms) = ms

-- the number by which a message is stored; `msg_from` converts it back
abbrev pub msg_number : Msg → ℕ
msg_number msg.Ack = 0
msg_number msg.Ready = 1
msg_number (msg.Abort k) = suc (suc k)

abbrev pub msg_from : ℕ → Msg
msg_from zero = msg.Ack
msg_from (suc zero) = msg.Ready
msg_from (suc (suc k)) = msg.Abort k

pub msg_back : (m : Msg) → msg_from (msg_number m) ≡ m
msg_back (msg.Abort k) = refl
msg_back msg.Ack = refl
msg_back msg.Ready = refl

abbrev pub msg_code : Coded Msg
msg_code = code_by ℕ coded_ℕ msg_number msg_from msg_back
