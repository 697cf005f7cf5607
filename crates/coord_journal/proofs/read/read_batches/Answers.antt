use Rattle.std.proofs.Common.{◌≡◌, ◌≢◌, [], refl, sym, get_or, arith}
use Rattle.coord_journal.specs.Facade.{BeginsWithBody}
use Rattle.coord_journal.specs.declared.layout.TheConstants.{MAX_BODY}
use Rattle.coord_journal.proofs.Reading.{some, nothing, opened_more, same_following, empty, small_body}
use Rattle.coord_journal.proofs.read.read_batches.Goals as goal

pub loop-rest-init : goal.loop-rest-init
loop-rest-init c = record {
  so_far = ([], refl, rw c.new-batches.ensures.items refl);
  others = λ batches size reads. (batches, size, reads);
}

pub returns-in_default-clause-bad : goal.returns-in_default-clause-bad
returns-in_default-clause-bad c _ batches size reads =
    let rest = c.loop-rest.invariant.others batches size reads in
    let is_open : get_or c.loop-rest.rest.now 0 0 ≢ 0 = c.if-rest-eq0.false in
    let s = some c.loop-rest.rest.now is_open rest.0 rest.1 rest.2 in
    c.split_body.ensures.none c.in_default.is s.first.gate s.batch s.first.following s.first.begins

pub loop-rest-preserved : goal.loop-rest-preserved
loop-rest-preserved c =
    let so_far = c.loop-rest.invariant.so_far in
    let now = c.loop-rest.rest.now in
    let is_open : get_or now 0 0 ≢ 0 = c.if-rest-eq0.false in
    let begins : BeginsWithBody MAX_BODY (get_or now 0 0) c.in-Some.batch.now c.in-Some.following.now now = c.in-Some.ensures.some in
    record {
      so_far = rw c.in_ok-push.ensures.items
          (opened_more c.loop-rest.batches.items c.in-Some.batch so_far.0 c.in-Some.batch.now c.in-Some.following.now now c.args.text.now (get_or now 0 0) so_far.1 so_far.2 is_open refl begins);
      others = λ batches size reads.
          let rest = c.loop-rest.invariant.others batches size reads in
          let s = some now is_open rest.0 rest.1 rest.2 in
          (s.batches, s.first.more, rw (sym (same_following MAX_BODY small_body s.first.gate (get_or now 0 0) s.batch c.in-Some.batch.now s.first.following c.in-Some.following.now now s.first.begins begins)) s.first.reads);
    }

pub returns-clause-bad : goal.returns-clause-bad
returns-clause-bad c _ batches size reads =
    let rest = c.loop-rest.invariant.others batches size reads in
    let test = c.loop-rest-test.ensures in
    let none : c.loop-rest.rest.now ≡ [] = empty c.loop-rest.rest.now (grind (arith, test)) in
    nothing rest.0 rest.1 (rw (sym none) rest.2)
