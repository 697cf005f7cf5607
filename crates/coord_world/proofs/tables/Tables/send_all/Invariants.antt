use Rattle.std.proofs.Common.{◌≡◌, ℕ, List, drop}
use Rattle.coord_types.specs.declared.messages.Msg.{Msg}
use Rattle.coord_world.specs.protocol.NumberedWorld.{World}
use Rattle.coord_world.specs.code.Sends.{CanSend, sent_lanes}
use Rattle.coord_world.proofs.tables.Tables.send_all.Given as goal

abbrev pub with_sent : World → ℕ → List (ℕ × Msg) → World
with_sent w u ss = record w { links = sent_lanes u ss w.links }

pub record Kept (now before : World) (u : ℕ) (rest sends : List (ℕ × Msg)) : Type 0 where
  pub world : with_sent now u rest ≡ with_sent before u sends
  pub room : CanSend u rest now.links

abbrev pub invariant-loop-send : goal.invariant-loop-send
invariant-loop-send l = Kept l.self l.fn.self l.from (drop l.send-index l.sends) l.sends
