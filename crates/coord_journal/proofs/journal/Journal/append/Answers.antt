use Rattle.std.proofs.Common.{◌≡◌, ◌+◌, List, ℕ, [], ◌∷◌, length, sym, ◌∙◌, ap, arith, rules}
use Rattle.coord_disk.specs.Model.Present.{overwritten, whole}
use Rattle.coord_journal.specs.Facade.{with_batch}
use Rattle.coord_journal.proofs.Appended.{appended, length_block, size_push}
use Rattle.coord_journal.proofs.Writing.{appending, nothing_written}
use Rattle.coord_journal.proofs.journal.Journal.append.Goals as goal

-- nothing was written
pub returns-in_err-block-clause-writes : goal.returns-in_err-block-clause-writes
returns-in_err-block-clause-writes g c content ready = record {
  any_moment = nothing_written g.D.Disk.model c.args.self.now content ready g.met.D.Disk.laws (with_batch content c.args.body.now);
  done = search rules;
}

pub returns-in_err-written-clause-writes : goal.returns-in_err-written-clause-writes
returns-in_err-written-clause-writes g c content ready = record {
  any_moment = appending g.D.Disk.model c.args.self.now content ready c.write_in_turn-written.new.disk c.args.body.now c.deref.result.now c.gate-gate.result c.requires.short c.requires.fits c.gate-gate.ensures.place (c.deref.ensures.value ∙ c.in_ok-block.ensures) c.write_in_turn-written.ensures.any_moment;
  done = search rules;
}

pub returns-clause-writes : goal.returns-clause-writes
returns-clause-writes g c content ready =
    let m = g.D.Disk.model in
    let j = c.args.self.now in
    let body = c.args.body.now in
    let gate = c.gate-gate.result in
    let bytes = (m.present j.disk).read in
    let block_is = c.deref.ensures.value ∙ c.in_ok-block.ensures in
    let size : j.used + c.len.result ≡ j.used + 5 + length body = omega (arith, c.len.ensures, ap length c.in_ok-block.ensures, length_block body) in
    record {
      any_moment = appending m j content ready c.write_in_turn-written.new.disk body c.deref.result.now gate c.requires.short c.requires.fits c.gate-gate.ensures.place block_is c.write_in_turn-written.ensures.any_moment;
      done =
          let done = rw c.in_ok-written.was at (c.write_in_turn-written.ensures.done ready.keeps) in
          record {
            keeps = c.write_in_turn-written.ensures.runs.model ∙ ready.keeps;
            synced = done ∙ ap (λ p. whole p.read) (sym done);
            text = appended ready.text body c.requires.short c.requires.fits (gate + 1) gate (omega (arith, c.gate-gate.ensures.place)) c.gate-gate.ensures.place
                (m.present c.write_in_turn-written.new.disk).read (j.used + c.len.result) size
                (ap (λ p. p.read) done ∙ ap (λ (b : List ℕ). overwritten (overwritten bytes (gate + 1) b) gate (1 ∷ [])) block_is);
            used = omega (arith, size, ready.used, size_push content.batches body);
            going = search rules;
          };
    }
