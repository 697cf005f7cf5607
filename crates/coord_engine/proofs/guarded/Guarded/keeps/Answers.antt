use Rattle.std.proofs.Common.{subst}
use Rattle.coord_engine.specs.State.{CanHold, based_on}
use Rattle.coord_engine.proofs.Growing.{of_doubt}
use Rattle.coord_engine.proofs.guarded.Guarded.keeps.Goals as goal

pub returns : goal.returns
returns g c =
    let b = based_on g.D.Disk.model g.L.Origin.base g.L.Origin.before in
    let inv = c.self.invariant in
    let l = c.self.inside.ledger in
    let e = c.lemma_log_is_consistent.ensures in
    subst (CanHold b) c.self.view_is (record {
      log = e.log;
      grown = record { same_base = inv.4; since = inv.5; begins = inv.6; by_shares = inv.3 };
      shares = inv.0;
      out = e.out;
      home = e.home;
      doubt = of_doubt l e.doubted inv.7;
      images = c.lemma_images_give_settled.ensures;
    })
