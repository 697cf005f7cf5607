-- The lane machine: one direction of a link. It is a stop-and-wait queue whose messages are numbered from 1.
use Rattle.std.specs.Prelude.{◌≡◌, ℕ, ◌+◌, ◌==◌, ◌&&◌, ◌||◌, not, nat_le, nat_lt, Bool, true, List, [], ◌∷◌, ◌++◌, Option, Some, None, Result, Ok, Err, if◌then◌else◌}
use Rattle.std.proofs.Common.{refl}
use Rattle.std.specs.Coded.{Coded, code_by, coded×, coded_ℕ, coded_list}
use Rattle.coord_types.specs.Messages.{is_nil, after_front, begins_with, msg_code}
use Rattle.coord_types.specs.declared.messages.Msg.{Msg}
use Rattle.coord_types.specs.declared.refusals.Refusal.{Refusal}
use Rattle.coord_types.specs.declared.refusals.Refusal.TheVariants.{Old, Early, Differs}

-- A lane. Its first `base` messages are receipted, the queue holds the messages from number base + 1 on, and the other end has
-- taken the first `got` messages
pub record Lane : Type 0 where
  pub inc : ℕ
  pub base : ℕ
  pub got : ℕ
  pub queue : List Msg

abbrev pub new_lane : ℕ → Lane
new_lane inc = record { inc = inc; base = 0; got = 0; queue = [] }

-- appends messages to the queue
abbrev pub sent : List Msg → Lane → Lane
sent ms l = record l { queue = l.queue ++ ms }

-- the other end takes the front
abbrev pub took : Lane → Lane
took l = record l { got = l.got + 1 }

-- the receipt of the front arrives, and the front leaves the queue
abbrev pub cleared : Lane → Lane
cleared l = record l { base = l.base + 1; queue = after_front l.queue }

-- whether the other end has taken the front
abbrev pub is_front_taken : Lane → Bool
is_front_taken l = l.got == l.base + 1

-- the messages in transit: the queue, without its front if the other end has taken the front
abbrev pub transit : Lane → List Msg
transit l = if is_front_taken l then after_front l.queue else l.queue

abbrev pub front_in : ℕ → List Msg → Option (ℕ × Msg)
front_in base [] = None
front_in base (m ∷ ms) = Some (base + 1, m)

-- the number and the message of the front, the only message that travels
abbrev pub front_of : Lane → Option (ℕ × Msg)
front_of l = front_in l.base l.queue

-- a list of tests, each with its refusal
abbrev pub Tests : Type 0
Tests = List (Bool × Refusal)

-- the refusal of the first test that holds, or Ok v if none holds
abbrev pub refused_or : {V : Type 0} → V → Tests → Result V Refusal
refused_or v [] = Ok v
refused_or v (t ∷ ts) = if t.0 then Err t.1 else refused_or v ts

-- why a data packet with this number is refused. Old: its message was already taken; Early: its message is not the next one, or
-- the message before it has no receipt; Differs: its message differs from the front
abbrev pub against_take : Lane → ℕ → Msg → Tests
against_take l number m =
    (nat_le number l.got, Old) ∷ (nat_lt (l.got + 1) number || not (l.got == l.base) || is_nil l.queue, Early)
    ∷ (not (begins_with l.queue m), Differs) ∷ []

abbrev pub judged_take : Lane → ℕ → Msg → Result (Unit {0}) Refusal
judged_take l number m = refused_or tt (against_take l number m)

-- why a receipt with this number is refused. Old: its message was already cleared; Early: its message was not taken, or
-- is not the front
abbrev pub against_clear : Lane → ℕ → Tests
against_clear l number =
    (nat_le number l.base, Old) ∷ (nat_lt l.got number || nat_lt (l.base + 1) number || is_nil l.queue, Early) ∷ []

abbrev pub judged_clear : Lane → ℕ → Result (Unit {0}) Refusal
judged_clear l number = refused_or tt (against_clear l number)

-- predicate A: of the messages in the queue, the other end has taken none, or only the front
abbrev pub has_front_taken_at_most : Lane → Bool
has_front_taken_at_most l = (l.got == l.base) || ((l.got == l.base + 1) && not (is_nil l.queue))

-- predicate A as a statement
abbrev pub Counts : Lane → Type 0
Counts l = has_front_taken_at_most l ≡ true

-- a lane is stored as the tuple of its fields
abbrev pub lane_code : Coded Lane
lane_code =
    code_by (ℕ × (ℕ × (ℕ × List Msg))) (coded× coded_ℕ (coded× coded_ℕ (coded× coded_ℕ (coded_list msg_code))))
    (λ l. (l.inc, (l.base, (l.got, l.queue)))) (λ p. record { inc = p.0; base = p.1.0; got = p.1.1.0; queue = p.1.1.1 }) (λ _. refl)
