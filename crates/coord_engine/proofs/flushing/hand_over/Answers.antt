use Rattle.std.proofs.Common.{subst}
use Rattle.coord_engine.specs.Facade.{AreAsked, deliveries_of}
use Rattle.coord_engine.proofs.flushing.hand_over.Goals as goal

pub returns-clause-handed : goal.returns-clause-handed
returns-clause-handed g c = record {
  asked = c.ask_for_all-in_hand.new.port;
  lost = c.hand_on-lost.result;
  are_asked = subst (λ released. AreAsked g.P.Port.carried g.P.Port.signalled c.args.port.now (deliveries_of released) c.ask_for_all-in_hand.new.port) c.released.view_is c.ask_for_all-in_hand.ensures;
  hands_on = c.hand_on-lost.ensures;
}
