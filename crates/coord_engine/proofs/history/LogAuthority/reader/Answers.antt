use Rattle.std.proofs.Common.{◌∙◌, sym, ap, arith}
use Rattle.coord_engine.proofs.Histories.{splits}
use Rattle.coord_engine.specs.MonotoneLog.{Beginning}
use Rattle.coord_engine.proofs.history.LogAuthority.reader.Goals as goal

pub split_seat-token-requires : goal.split_seat-token-requires
split_seat-token-requires c =
    let token = c.self.inside.token in
    rw c.deref.ensures (ap (λ (b : Beginning). b.history) c.self.view_is ∙ sym c.requires ∙ sym c.history.view_is, omega (arith, c.history.invariant), splits token.id token.me.0)
