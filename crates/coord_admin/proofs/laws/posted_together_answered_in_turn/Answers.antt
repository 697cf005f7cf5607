use Rattle.coord_admin.proofs.Together.{answers_in_turn}
use Rattle.coord_admin.proofs.laws.posted_together_answered_in_turn.Goals as goal

pub returns : goal.returns
returns g c = answers_in_turn g.D.Desk.answers g.D.Desk.posts g.D.Desk.replies g.met.D.Desk.is_answered g.met.D.Desk.stays_apart
