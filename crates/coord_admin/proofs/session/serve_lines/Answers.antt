use Rattle.std.proofs.Common.{◌≡◌, ◌≤◌, ◌++◌, [], take, arith, rules, sym, length-append, length-take-le}
use Rattle.coord_lines.proofs.LinesOn.{lines_on-empty}
use Rattle.coord_admin.specs.Replies.{reply_lines}
use Rattle.coord_admin.specs.Stream.{last_answers}
use Rattle.coord_admin.proofs.Pieces.{goes-none}
use Rattle.coord_admin.proofs.SoFar.{served-in-part, so-far-all, so-far-broken, so-far-closed, so-far-cut, so-far-more, so-far-no-more, so-far-some, so-far-still}
use Rattle.coord_admin.proofs.Stream.{broken-end, finishes-at, stops-at, returned-on}
use Rattle.coord_admin.proofs.session.serve_lines.Goals as goal

-- nothing was read yet
pub loop-init : goal.loop-init
loop-init g c = (c.requires.buffer, ([], search rules, ([], [], goes-none g.D.Desk.answers g.D.Desk.posts _ _ c.requires.queue, g.met.C.Duplex.at_rest _, λ more. rw c.new-line.ensures (sym (lines_on-empty more)))))

pub returns-in_err-answer_unless_more-clause-served : goal.returns-in_err-answer_unless_more-clause-served
returns-in_err-answer_unless_more-clause-served g c =
    let inv = c.loop.invariant in
    let broken = so-far-broken g.D.Desk.answers g.D.Desk.posts g.C.Duplex.exchanged g.met.C.Duplex.in_turn c.args.desk.now _ _ c.args.connection.now _ _ inv.1.0 c.loop.line _ inv.1.2 c.in_err-answer_unless_more.ensures.part in
    served-in-part g.D.Desk.answers g.D.Desk.posts g.C.Duplex.exchanged c.args.desk.now _ c.args.connection.now _ inv.1.0 _ c.from_residual.ensures.1 broken

pub returns-in_err-answer_all-in-Ok-eq0-clause-served : goal.returns-in_err-answer_all-in-Ok-eq0-clause-served
returns-in_err-answer_all-in-Ok-eq0-clause-served g c =
    let inv = c.loop.invariant in
    let ready = so-far-some g.D.Desk.answers g.D.Desk.posts g.C.Duplex.exchanged g.met.C.Duplex.in_turn c.args.desk.now _ _ c.args.connection.now _ _ inv.1.0 c.loop.line _ _ inv.1.2 c.in_ok-answer_unless_more.ensures.whole in
    let none : c.in-Ok-eq0.field-0 ≡ 0 = search rules in
    let read = so-far-no-more g.D.Desk.answers g.D.Desk.posts g.C.Duplex.exchanged g.met.C.Duplex.in_turn c.args.desk.now _ c.args.connection.now _ _ inv.1.0 _ _ c.loop.line _ ready c.in-Ok-eq0.ensures.bytes none in
    let broken = so-far-broken g.D.Desk.answers g.D.Desk.posts g.C.Duplex.exchanged g.met.C.Duplex.in_turn c.args.desk.now _ _ c.args.connection.now _ _ inv.1.0 c.loop.line _ read c.in_err-answer_all-in-Ok-eq0.ensures.part in
    served-in-part g.D.Desk.answers g.D.Desk.posts g.C.Duplex.exchanged c.args.desk.now _ c.args.connection.now _ inv.1.0 _ c.from_residual-in_err-answer_all-in-Ok-eq0.ensures.1 broken

pub returns-in_err-finish-in-Ok-eq0-clause-served : goal.returns-in_err-finish-in-Ok-eq0-clause-served
returns-in_err-finish-in-Ok-eq0-clause-served g c =
    let inv = c.loop.invariant in
    let ready = so-far-some g.D.Desk.answers g.D.Desk.posts g.C.Duplex.exchanged g.met.C.Duplex.in_turn c.args.desk.now _ _ c.args.connection.now _ _ inv.1.0 c.loop.line _ _ inv.1.2 c.in_ok-answer_unless_more.ensures.whole in
    let none : c.in-Ok-eq0.field-0 ≡ 0 = search rules in
    let read = so-far-no-more g.D.Desk.answers g.D.Desk.posts g.C.Duplex.exchanged g.met.C.Duplex.in_turn c.args.desk.now _ c.args.connection.now _ _ inv.1.0 _ _ c.loop.line _ ready c.in-Ok-eq0.ensures.bytes none in
    let all = so-far-all g.D.Desk.answers g.D.Desk.posts g.C.Duplex.exchanged g.met.C.Duplex.in_turn c.args.desk.now _ _ c.args.connection.now _ _ inv.1.0 c.loop.line _ read c.in_ok-answer_all-in-Ok-eq0.ensures.whole in
    let broken = broken-end g.D.Desk.answers g.C.Duplex.exchanged g.met.C.Duplex.in_turn c.args.desk.now _ c.args.connection.now _ _ inv.1.0 inv.1.0 c.loop.line all.0 all.1 c.finish.ensures.within all.2 all.3 all.4 c.in_err-finish-in-Ok-eq0.ensures.failed in
    served-in-part g.D.Desk.answers g.D.Desk.posts g.C.Duplex.exchanged c.args.desk.now _ c.args.connection.now _ inv.1.0 _ c.from_residual-in_err-finish-in-Ok-eq0.ensures.1 broken

pub returns-in-Ok-eq0-clause-served : goal.returns-in-Ok-eq0-clause-served
returns-in-Ok-eq0-clause-served g c =
    let inv = c.loop.invariant in
    let ready = so-far-some g.D.Desk.answers g.D.Desk.posts g.C.Duplex.exchanged g.met.C.Duplex.in_turn c.args.desk.now _ _ c.args.connection.now _ _ inv.1.0 c.loop.line _ _ inv.1.2 c.in_ok-answer_unless_more.ensures.whole in
    let none : c.in-Ok-eq0.field-0 ≡ 0 = search rules in
    let read = so-far-no-more g.D.Desk.answers g.D.Desk.posts g.C.Duplex.exchanged g.met.C.Duplex.in_turn c.args.desk.now _ c.args.connection.now _ _ inv.1.0 _ _ c.loop.line _ ready c.in-Ok-eq0.ensures.bytes none in
    let all = so-far-all g.D.Desk.answers g.D.Desk.posts g.C.Duplex.exchanged g.met.C.Duplex.in_turn c.args.desk.now _ _ c.args.connection.now _ _ inv.1.0 c.loop.line _ read c.in_ok-answer_all-in-Ok-eq0.ensures.whole in (
      inv.1.0,
      reply_lines all.1 ++ reply_lines (last_answers c.loop.line),
      returned-on g.C.Duplex.exchanged g.met.C.Duplex.in_turn c.args.connection.now _ _ inv.1.0 (reply_lines all.1) (reply_lines (last_answers c.loop.line)) all.3 c.in_ok-finish-in-Ok-eq0.ensures.printed,
      finishes-at g.D.Desk.answers c.args.desk.now _ inv.1.0 c.loop.line all.0 all.1 c.finish.ensures.within all.2 all.4,
    )

pub returns-in_err-take-in-Ok-clause-served : goal.returns-in_err-take-in-Ok-clause-served
returns-in_err-take-in-Ok-clause-served g c =
    let inv = c.loop.invariant in
    let bytes_read = take c.in-Ok.count c.receive_in_instance.new.buffer in
    let ready = so-far-some g.D.Desk.answers g.D.Desk.posts g.C.Duplex.exchanged g.met.C.Duplex.in_turn c.args.desk.now _ _ c.args.connection.now _ _ inv.1.0 c.loop.line _ _ inv.1.2 c.in_ok-answer_unless_more.ensures.whole in
    let cut = so-far-cut g.D.Desk.answers g.D.Desk.posts g.C.Duplex.exchanged g.met.C.Duplex.in_turn c.args.desk.now _ _ c.args.connection.now _ _ _ inv.1.0 bytes_read c.loop.line _ ready c.in-Ok.ensures.bytes c.in_err-take-in-Ok.ensures.failed in
    served-in-part g.D.Desk.answers g.D.Desk.posts g.C.Duplex.exchanged c.args.desk.now _ c.args.connection.now _ (inv.1.0 ++ bytes_read) _ c.from_residual-in_err-take-in-Ok.ensures.1 cut

pub returns-then-branch-clause-served : goal.returns-then-branch-clause-served
returns-then-branch-clause-served g c =
    let inv = c.loop.invariant in
    let bytes_read = take c.in-Ok.count c.receive_in_instance.new.buffer in
    let ready = so-far-some g.D.Desk.answers g.D.Desk.posts g.C.Duplex.exchanged g.met.C.Duplex.in_turn c.args.desk.now _ _ c.args.connection.now _ _ inv.1.0 c.loop.line _ _ inv.1.2 c.in_ok-answer_unless_more.ensures.whole in
    let closed = so-far-closed g.D.Desk.answers g.D.Desk.posts g.C.Duplex.exchanged g.met.C.Duplex.in_turn c.args.desk.now _ _ c.args.connection.now _ _ _ inv.1.0 bytes_read c.loop.line _ ready c.in-Ok.ensures.bytes (c.in_ok-take-in-Ok.ensures.closed (search rules)) in
    (inv.1.0 ++ bytes_read, closed.0, closed.1, closed.2)

pub returns-in_err-answer_all-in-Err-Failed-clause-served : goal.returns-in_err-answer_all-in-Err-Failed-clause-served
returns-in_err-answer_all-in-Err-Failed-clause-served g c =
    let inv = c.loop.invariant in
    let ready = so-far-some g.D.Desk.answers g.D.Desk.posts g.C.Duplex.exchanged g.met.C.Duplex.in_turn c.args.desk.now _ _ c.args.connection.now _ _ inv.1.0 c.loop.line _ _ inv.1.2 c.in_ok-answer_unless_more.ensures.whole in
    let read = so-far-still g.D.Desk.answers g.D.Desk.posts g.C.Duplex.exchanged g.met.C.Duplex.in_turn c.args.desk.now _ c.args.connection.now _ _ inv.1.0 c.loop.line _ ready c.in-Err-Failed.ensures.failed in
    let broken = so-far-broken g.D.Desk.answers g.D.Desk.posts g.C.Duplex.exchanged g.met.C.Duplex.in_turn c.args.desk.now _ _ c.args.connection.now _ _ inv.1.0 c.loop.line _ read c.in_err-answer_all-in-Err-Failed.ensures.part in
    served-in-part g.D.Desk.answers g.D.Desk.posts g.C.Duplex.exchanged c.args.desk.now _ c.args.connection.now _ inv.1.0 _ c.from_residual-in_err-answer_all-in-Err-Failed.ensures.1 broken

pub returns-in-Err-Failed-clause-served : goal.returns-in-Err-Failed-clause-served
returns-in-Err-Failed-clause-served g c =
    let inv = c.loop.invariant in
    let ready = so-far-some g.D.Desk.answers g.D.Desk.posts g.C.Duplex.exchanged g.met.C.Duplex.in_turn c.args.desk.now _ _ c.args.connection.now _ _ inv.1.0 c.loop.line _ _ inv.1.2 c.in_ok-answer_unless_more.ensures.whole in
    let read = so-far-still g.D.Desk.answers g.D.Desk.posts g.C.Duplex.exchanged g.met.C.Duplex.in_turn c.args.desk.now _ c.args.connection.now _ _ inv.1.0 c.loop.line _ ready c.in-Err-Failed.ensures.failed in
    let all = so-far-all g.D.Desk.answers g.D.Desk.posts g.C.Duplex.exchanged g.met.C.Duplex.in_turn c.args.desk.now _ _ c.args.connection.now _ _ inv.1.0 c.loop.line _ read c.in_ok-answer_all-in-Err-Failed.ensures.whole in
    (inv.1.0, reply_lines all.1, all.3, stops-at g.D.Desk.answers c.args.desk.now _ inv.1.0 c.loop.line all.0 all.1 all.2 all.4)

pub returns-in_err-answer_all-in-Err-Over-clause-served : goal.returns-in_err-answer_all-in-Err-Over-clause-served
returns-in_err-answer_all-in-Err-Over-clause-served g c =
    let inv = c.loop.invariant in
    let ready = so-far-some g.D.Desk.answers g.D.Desk.posts g.C.Duplex.exchanged g.met.C.Duplex.in_turn c.args.desk.now _ _ c.args.connection.now _ _ inv.1.0 c.loop.line _ _ inv.1.2 c.in_ok-answer_unless_more.ensures.whole in
    let read = so-far-still g.D.Desk.answers g.D.Desk.posts g.C.Duplex.exchanged g.met.C.Duplex.in_turn c.args.desk.now _ c.args.connection.now _ _ inv.1.0 c.loop.line _ ready c.in-Err-Over.ensures.failed in
    let broken = so-far-broken g.D.Desk.answers g.D.Desk.posts g.C.Duplex.exchanged g.met.C.Duplex.in_turn c.args.desk.now _ _ c.args.connection.now _ _ inv.1.0 c.loop.line _ read c.in_err-answer_all-in-Err-Over.ensures.part in
    served-in-part g.D.Desk.answers g.D.Desk.posts g.C.Duplex.exchanged c.args.desk.now _ c.args.connection.now _ inv.1.0 _ c.from_residual-in_err-answer_all-in-Err-Over.ensures.1 broken

pub returns-in-Err-Over-clause-served : goal.returns-in-Err-Over-clause-served
returns-in-Err-Over-clause-served g c =
    let inv = c.loop.invariant in
    let ready = so-far-some g.D.Desk.answers g.D.Desk.posts g.C.Duplex.exchanged g.met.C.Duplex.in_turn c.args.desk.now _ _ c.args.connection.now _ _ inv.1.0 c.loop.line _ _ inv.1.2 c.in_ok-answer_unless_more.ensures.whole in
    let read = so-far-still g.D.Desk.answers g.D.Desk.posts g.C.Duplex.exchanged g.met.C.Duplex.in_turn c.args.desk.now _ c.args.connection.now _ _ inv.1.0 c.loop.line _ ready c.in-Err-Over.ensures.failed in
    let all = so-far-all g.D.Desk.answers g.D.Desk.posts g.C.Duplex.exchanged g.met.C.Duplex.in_turn c.args.desk.now _ _ c.args.connection.now _ _ inv.1.0 c.loop.line _ read c.in_ok-answer_all-in-Err-Over.ensures.whole in
    (inv.1.0, reply_lines all.1, all.3, stops-at g.D.Desk.answers c.args.desk.now _ inv.1.0 c.loop.line all.0 all.1 all.2 all.4)

pub loop-preserved : goal.loop-preserved
loop-preserved g c =
    let inv = c.loop.invariant in
    let bytes_read = take c.in-Ok.count c.receive_in_instance.new.buffer in
    let some : 1 ≤ c.in-Ok.count = search rules in
    let ready = so-far-some g.D.Desk.answers g.D.Desk.posts g.C.Duplex.exchanged g.met.C.Duplex.in_turn c.args.desk.now _ _ c.args.connection.now _ _ inv.1.0 c.loop.line _ _ inv.1.2 c.in_ok-answer_unless_more.ensures.whole in (
      search rules,
      (
        inv.1.0 ++ bytes_read,
        omega (arith, inv.1.1, some, length-append inv.1.0 bytes_read, length-take-le c.in-Ok.count c.receive_in_instance.new.buffer (search rules)),
        so-far-more g.D.Desk.answers g.D.Desk.posts g.C.Duplex.exchanged g.met.C.Duplex.in_turn c.args.desk.now _ _ c.args.connection.now _ _ _ inv.1.0 bytes_read c.loop.line _ _ _ ready c.in-Ok.ensures.bytes (c.in_ok-take-in-Ok.ensures.open (search rules)),
      ),
    )

pub returns-in_err-answer_all-clause-served : goal.returns-in_err-answer_all-clause-served
returns-in_err-answer_all-clause-served g c =
    let inv = c.loop.invariant in
    let broken = so-far-broken g.D.Desk.answers g.D.Desk.posts g.C.Duplex.exchanged g.met.C.Duplex.in_turn c.args.desk.now _ _ c.args.connection.now _ _ inv.1.0 c.loop.line _ inv.1.2 c.in_err-answer_all.ensures.part in
    served-in-part g.D.Desk.answers g.D.Desk.posts g.C.Duplex.exchanged c.args.desk.now _ c.args.connection.now _ inv.1.0 _ c.from_residual-in_err-answer_all.ensures.1 broken

pub returns-clause-served : goal.returns-clause-served
returns-clause-served g c =
    let inv = c.loop.invariant in
    let all = so-far-all g.D.Desk.answers g.D.Desk.posts g.C.Duplex.exchanged g.met.C.Duplex.in_turn c.args.desk.now _ _ c.args.connection.now _ _ inv.1.0 c.loop.line _ inv.1.2 c.in_ok-answer_all.ensures.whole in
    (inv.1.0, reply_lines all.1, all.3, (stops-at g.D.Desk.answers c.args.desk.now _ inv.1.0 c.loop.line all.0 all.1 all.2 all.4, omega (arith, inv.1.1, c.loop-test.false)))

-- the instance was over before the last replies, and is so after them
pub returns-in-Err-Over-clause-cut : goal.returns-in-Err-Over-clause-cut
returns-in-Err-Over-clause-cut g c = λ _.
    let over = c.receive_in_instance.ensures.over (search rules) in
    (over.0, c.in_ok-answer_all-in-Err-Over.ensures.kept over.0 over.1, over.2)
