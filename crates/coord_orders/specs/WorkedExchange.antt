-- Worked examples: exchanges over the empty world.
use Rattle.std.specs.Prelude.{◌≡◌, List, [], ◌∷◌, ◌++◌, None}
use Rattle.coord_types.specs.declared.steps.Command.TheVariants.{Add}
use Rattle.coord_types.specs.declared.steps.Kind.TheVariants.{Done}
use Rattle.coord_types.specs.declared.steps.Session.{Session}
use Rattle.coord_world.specs.Facade.{World, no_world}
use Rattle.coord_orders.specs.declared.book.Kept.{Kept}
use Rattle.coord_orders.specs.Exchange.{Event, Exchange, Write, Send, Lose, Arrive, Settle, Release, Hear, Crash, Fall, begun, orders_of, run}

abbrev pub base : World
base = no_world 1

-- the state after these events, for client 1 without any order before
abbrev pub after : List Event → Exchange
after events = run 1 base (begun 0) events

abbrev pub added : Session
added = record { number = 1; command = Add 1 1; reply = record { step = 1; kind = Done } }

-- a line is lost, the client crashes, the line arrives twice, and its first answer arrives late
abbrev pub repeats : List Event
repeats = Write (Add 1 1) ∷ Send ∷ Lose 0 ∷ Send ∷ Arrive ∷ Crash ∷ Send ∷ Arrive ∷ Settle 1 ∷ Release 0 ∷ Release 1 ∷ Hear 0 ∷ Hear 1 ∷ Hear 1 ∷ []

-- an order that is refused, because the node already exists
abbrev pub again : List Event
again = Write (Add 1 1) ∷ Send ∷ Arrive ∷ Hear 2 ∷ []

-- the server crashes before the order is settled
abbrev pub cut : List Event
cut = Write (Add 1 1) ∷ Send ∷ Arrive ∷ Fall 0 ∷ Release 0 ∷ Send ∷ Arrive ∷ Settle 1 ∷ Release 0 ∷ Hear 0 ∷ []

abbrev pub idle : Kept
idle = record { last = 1; in_hand = None }

pub record WorkedExchange : Type 0 where
  pub repeated : (after repeats).done ≡ added ∷ []
  pub once : orders_of 1 base (after repeats).trail ≡ added ∷ []
  pub kept : (after repeats).book.kept ≡ idle
  pub refused : (after (repeats ++ again)).done ≡ added ∷ []
  pub free : (after (repeats ++ again)).book.kept ≡ idle
  pub carried_out : (after cut).done ≡ added ∷ []
