-- The server carries out each order of a client exactly once.
use Rattle.std.specs.Prelude.{◌≡◌, ◌≢◌, ℕ, ◌+◌, List, [], ◌∷◌, ◌++◌, Some, take, slice_get}
use Rattle.coord_types.specs.Table.{get}
use Rattle.coord_types.specs.declared.steps.Session.{Session}
use Rattle.coord_world.specs.Facade.{World, last_number}
use Rattle.coord_orders.specs.declared.book.Kept.{Kept}
use Rattle.coord_orders.specs.declared.meaning.Meaning.TheVariants.{CountLost}
use Rattle.coord_orders.specs.Meanings.{meaning_of}
use Rattle.coord_orders.specs.Exchange.{Event, Exchange, Given, begun, orders_of, run}

-- the list is empty, or its only entry is the order in hand with that order's number
abbrev pub IsInHand : Kept → List Session → Type 0
IsInHand kept [] = Unit {0}
IsInHand kept (s ∷ []) = (s.number ≡ kept.last + 1) × (kept.in_hand ≡ Some s.command)
IsInHand kept (s ∷ t ∷ ss) = ⊥

-- the numbers of these orders rise by one, from first + 1 to last
abbrev pub Counts : ℕ → ℕ → List Session → Type 0
Counts first last [] = last ≡ first
Counts first last (s ∷ ss) = (s.number ≡ first + 1) × Counts s.number last ss

pub record IsOnce (c : ℕ) (base : World) (first : ℕ) (e : Exchange) : Type 0 where
  -- The client's orders in the trail are the orders that the client noted as done, with their replies and in
  -- order, followed by at most the order in hand. So no refused order is in the trail
  pub orders : (more : List Session) × ((orders_of c base e.trail ≡ e.done ++ more) × IsInHand e.book.kept more)
  -- the orders noted as done are settled, so no crash removes any of them
  pub settled : (more : List Session) × (orders_of c base (take e.settled e.trail) ≡ e.done ++ more)
  -- the numbers of the orders noted as done rise by one, so no order occurs twice
  pub numbers : Counts first e.book.kept.last e.done
  -- no answer to the awaited line means a lost count
  pub counted : (k : ℕ) (g : Given) → slice_get e.answers k ≡ Some g → e.book.awaited ≡ Some g.serial → meaning_of g.answer ≢ CountLost

-- `IsOnce` holds for any base world and any list of events, if the client begins with its last number in that world
abbrev pub ExactlyOnce : Type 0
ExactlyOnce = (c : ℕ) (base : World) (events : List Event) → IsOnce c base (last_number (get base.sessions c)) (run c base (begun (last_number (get base.sessions c))) events)
