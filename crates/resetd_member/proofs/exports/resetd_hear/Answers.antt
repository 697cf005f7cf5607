use Rattle.std.proofs.Common.{Err, refl, subst, sym}
use Rattle.resetd_member.specs.Exports.{IsHeardBy}
use Rattle.resetd_member.proofs.exports.resetd_hear.Goals as goal

pub returns-in-Err : goal.returns-in-Err
returns-in-Err c = record {
  made = Err c.in-Err.fault;
  is = subst (λ fault. IsHeardBy c.args.orders.now c.args.line.now (Err fault)) (sym c.in-Err.ensures.0) c.in-Err.ensures.1;
  heard = (c.status_of.ensures, refl);
}
