-- A lane beside all messages that were sent on it and all that were taken.
use Rattle.std.proofs.Common.{◌≡◌, ℕ, zero, suc, ◌<◌, true, false, List, [], ◌∷◌, ◌++◌, length, take, drop, refl, ap, arith, append_assoc, is_ok, if◌then◌else◌}
use Rattle.std.proofs.lemmas.Bool.Decides.{nat_tests}
use Rattle.std.proofs.lemmas.List.{take-append-le, drop-append-le, length-append, append-nil}
use Rattle.coord_types.specs.declared.messages.Msg.{Msg}
use Rattle.coord_types.specs.declared.messages.Msg.TheVariants as msg
use Rattle.coord_types.specs.Messages.{begins_with, same_msg, after_front}
use Rattle.coord_link.specs.LaneMachine.{Lane, new_lane, sent, took, cleared, judged_take, judged_clear}
use Rattle.coord_link.specs.Moves.{Move, Send, Take, Clear, moved, run, sent_by, taken_by, handed, message_of, InOrder, LaneLaw}

-- if a list continues with m after its first n, its first n + 1 end with m
taken_more : (n : ℕ) (all rest : List Msg) (m : Msg) → drop n all ≡ m ∷ rest → take (suc n) all ≡ take n all ++ m ∷ []
taken_more zero [] rest m goes_on = cc
taken_more zero (a ∷ all) rest m goes_on = cc
taken_more (suc n) [] rest m goes_on = cc
taken_more (suc n) (a ∷ all) rest m goes_on = let shorter = taken_more n all rest m goes_on in cc

-- without its front, the part after the first n is the part after the first n + 1
after_more : (n : ℕ) (all : List Msg) → after_front (drop n all) ≡ drop (suc n) all
after_more zero [] = refl
after_more zero (a ∷ all) = refl
after_more (suc n) [] = refl
after_more (suc n) (a ∷ all) = after_more n all

-- if a list continues after its first n, it is longer than n
more_left : (n : ℕ) (all rest : List Msg) (m : Msg) → drop n all ≡ m ∷ rest → n < length all
more_left zero [] rest m goes_on = absurd (cc)
more_left zero (a ∷ all) rest m goes_on = omega arith
more_left (suc n) [] rest m goes_on = absurd (cc)
more_left (suc n) (a ∷ all) rest m goes_on = let shorter = more_left n all rest m goes_on in omega arith

same_is : (a b : Msg) → same_msg a b ≡ true → a ≡ b
same_is (msg.Abort k) (msg.Abort d) e = let same : k ≡ d = grind (arith, nat_tests) in ap msg.Abort same
same_is msg.Ack msg.Ack e = refl
same_is msg.Ready msg.Ready e = refl
same_is a b e = cc

-- a queue that begins with m is m and the rest
begins : (queue : List Msg) (m : Msg) → begins_with queue m ≡ true → queue ≡ m ∷ after_front queue
begins [] m e = cc
begins (front ∷ rest) m e = let same = same_is front m e in cc

-- a take that is not refused is of a front that was not taken
allows_take : (l : Lane) (number : ℕ) (m : Msg) → is_ok (judged_take l number m) ≡ true → (l.got ≡ l.base) × (begins_with l.queue m ≡ true)
allows_take l number m accepted = grind (arith, nat_tests)

-- a receipt that is not refused is of a front that was taken
allows_clear : (l : Lane) (number : ℕ) → is_ok (judged_clear l number) ≡ true → l.base < l.got
allows_clear l number accepted = grind (arith, nat_tests)

-- each move keeps the messages in order
after_send : (all taken : List Msg) (l : Lane) (m : Msg) → InOrder all taken l → InOrder (all ++ m ∷ []) taken (sent (m ∷ []) l)
after_send all taken l m history = grind (arith, take-append-le l.got all (m ∷ []), drop-append-le l.base all (m ∷ []), length-append all (m ∷ []))

after_take : (all taken : List Msg) (l : Lane) (number : ℕ) (m : Msg) → is_ok (judged_take l number m) ≡ true → InOrder all taken l → InOrder all (taken ++ m ∷ []) (took l)
after_take all taken l number m accepted history =
    let allowed = allows_take l number m accepted in
    let front : drop l.got all ≡ m ∷ after_front l.queue = let begun = begins l.queue m allowed.1 in cc in
    let longer = taken_more l.got all (after_front l.queue) m front in
    let left = more_left l.got all (after_front l.queue) m front in
    grind arith

after_clear : (all taken : List Msg) (l : Lane) (number : ℕ) → is_ok (judged_clear l number) ≡ true → InOrder all taken l → InOrder all taken (cleared l)
after_clear all taken l number accepted history =
    let allowed = allows_clear l number accepted in
    let following = after_more l.base all in
    grind arith

after_move : (all taken : List Msg) (l : Lane) (move : Move) → InOrder all taken l → InOrder (all ++ message_of move) (taken ++ handed l move) (moved l move)
after_move all taken l (Send m) history = rw append-nil (after_send all taken l m history)
after_move all taken l (Take number m) history =
    elim (is_ok (judged_take l number m)) as
    (λ b. is_ok (judged_take l number m) ≡ b → InOrder (all ++ []) (taken ++ (if b then m ∷ [] else [])) (if b then took l else l)) [
      | true ↦ λ accepted. rw append-nil (after_take all taken l number m accepted history)
      | false ↦ λ _. simp append-nil history
    ] refl
after_move all taken l (Clear number) history =
    elim (is_ok (judged_clear l number)) as
    (λ b. is_ok (judged_clear l number) ≡ b → InOrder (all ++ []) (taken ++ []) (if b then cleared l else l)) [
      | true ↦ λ accepted. simp append-nil (after_clear all taken l number accepted history)
      | false ↦ λ _. simp append-nil history
    ] refl

-- whatever is tried on a lane whose messages so far are in order
in_order : (moves : List Move) (all taken : List Msg) (l : Lane) → InOrder all taken l → InOrder (all ++ sent_by moves) (taken ++ taken_by l moves) (run l moves)
in_order [] all taken l history = simp append-nil history
in_order (move ∷ moves) all taken l history =
    rw (← append_assoc all (message_of move) (sent_by moves), ← append_assoc taken (handed l move) (taken_by (moved l move) moves))
    (in_order moves (all ++ message_of move) (taken ++ handed l move) (moved l move) (after_move all taken l move history))

-- a new lane has no messages, which are in order
pub lane_law : LaneLaw
lane_law inc moves = in_order moves [] [] (new_lane inc) (grind arith)
