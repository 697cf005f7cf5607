use Rattle.std.proofs.Common.{◌≡◌, ◌+◌, ◌-◌, List, ℕ, [], ◌∷◌, length, sym, ◌∙◌, ap, arith, rules}
use Rattle.coord_disk.specs.Model.Present.{overwritten, whole}
use Rattle.coord_journal.specs.Facade.{half_number, half_start, without_batch}
use Rattle.coord_journal.proofs.Replaced.{length_block, replaced}
use Rattle.coord_journal.proofs.Writing.{nothing_written, replacing}
use Rattle.coord_journal.proofs.journal.Journal.replace.Goals as goal

-- nothing was written
pub returns-in_err-bytes-clause-writes : goal.returns-in_err-bytes-clause-writes
returns-in_err-bytes-clause-writes g c content ready = record {
  any_moment = nothing_written g.D.Disk.model c.args.self.now content ready g.met.D.Disk.laws (without_batch c.args.version c.args.snapshot.now);
  done = search rules;
}

pub returns-in_err-written-clause-writes : goal.returns-in_err-written-clause-writes
returns-in_err-written-clause-writes g c content ready =
    let j = c.args.self.now in
    let start = 17 + c.start.result in
    let start_is : start ≡ 17 + half_start (1 - half_number j.half) j.half_size = ap (λ (n : ℕ). 17 + n) c.start.ensures.start ∙ ap (λ (h : ℕ). 17 + half_start h j.half_size) c.other-half.ensures in
    record {
      any_moment = replacing g.D.Disk.model j content ready c.write_in_turn-written.new.disk c.args.version c.args.snapshot.now c.deref.result.now start c.selector.result c.requires start_is (c.deref.ensures.value ∙ c.in_ok-bytes.ensures) c.write_in_turn-written.ensures.any_moment;
      done = search rules;
    }

pub returns-clause-writes : goal.returns-clause-writes
returns-clause-writes g c content ready =
    let m = g.D.Disk.model in
    let j = c.args.self.now in
    let bytes = (m.present j.disk).read in
    let snapshot = c.args.snapshot.now in
    let start = 17 + c.start.result in
    let start_is : start ≡ 17 + half_start (1 - half_number j.half) j.half_size = ap (λ (n : ℕ). 17 + n) c.start.ensures.start ∙ ap (λ (h : ℕ). 17 + half_start h j.half_size) c.other-half.ensures in
    let block_is = c.deref.ensures.value ∙ c.in_ok-bytes.ensures in
    record {
      any_moment = replacing m j content ready c.write_in_turn-written.new.disk c.args.version snapshot c.deref.result.now start c.selector.result c.requires start_is block_is c.write_in_turn-written.ensures.any_moment;
      done =
          let done = rw c.in_ok-written.was at (c.write_in_turn-written.ensures.done ready.keeps) in
          let size : c.len.result ≡ 6 + length snapshot = omega (arith, c.len.ensures, ap length c.in_ok-bytes.ensures, length_block ready.text c.args.version snapshot c.requires) in
          record {
            keeps = c.write_in_turn-written.ensures.runs.model ∙ ready.keeps;
            synced = done ∙ ap (λ p. whole p.read) (sym done);
            text = replaced ready.text c.args.version snapshot c.requires start start_is c.selector.result (half_number c.other-half.result) c.len.result
                (m.present c.write_in_turn-written.new.disk).read c.other-half.ensures size c.selector.ensures.names
                (ap (λ p. p.read) done ∙ ap (λ (b : List ℕ). overwritten (overwritten bytes start b) 0 (c.selector.result ∷ [])) block_is);
            used = omega (arith, size);
            going = search rules;
          };
    }
