use Rattle.std.proofs.Common.{◌<◌, ◌++◌, [], length, arith, sym}
use Rattle.std.proofs.KnownBytes.{Appends-nil, Appends-trans}
use Rattle.coord_lines.proofs.LinesOn.{following-shorter}
use Rattle.coord_drill.proofs.does.Moments.{passed_on}
use Rattle.coord_drill.proofs.prints.Pieces.{takes_cut, takes_line, takes_none, takes_rest}
use Rattle.coord_drill.proofs.console.Console.take.Goals as goal

pub loop-following-init : goal.loop-following-init
loop-following-init g c = (c.requires.ready, omega arith, ([], Appends-nil _, takes_none g.D.Disk.model g.D.CrashDisk.crashes c.args.self c.args.piece.now))

pub loop-following-smaller : goal.loop-following-smaller
loop-following-smaller g c = following-shorter c.loop-following.rest.now c.in-Some.following.now (sym c.in-Some.ensures.following)

pub returns-in_err-console-clause-failed : goal.returns-in_err-console-clause-failed
returns-in_err-console-clause-failed g c =
    let s = c.loop-following.console in
    let so_far = c.loop-following.invariant.2 in
    let refused = c.in_err-console.field-0.0 in
    let failed = c.in_err-console.ensures.failed in
    passed_on c.from_residual.result refused _ c.from_residual.ensures.1 (
      so_far.0 ++ failed.0,
      Appends-trans _ _ _ _ _ so_far.1 failed.1,
      takes_cut g.D.Disk.model g.D.CrashDisk.crashes c.args.self c.args.piece.now c.loop-following.rest.now so_far.0 s so_far.2 c.in-Some.following.now c.take.new.self c.in-Some.ensures.following c.take.ensures.line refused failed.0 failed.2,
    )

pub loop-following-preserved : goal.loop-following-preserved
loop-following-preserved g c =
    let s = c.loop-following.console in
    let inv = c.loop-following.invariant in
    let so_far = inv.2 in
    let rest = c.loop-following.rest.now in
    let following = c.in-Some.following.now in
    let now = c.in_ok-console.ensures in
    let new = c.in_ok-console.console in
    let shorter : length following < length rest = following-shorter rest following (sym c.in-Some.ensures.following) in (
      now.ready,
      omega (arith, inv.1, now.number, shorter),
      (
        so_far.0 ++ now.carried.0,
        Appends-trans _ _ _ _ _ so_far.1 now.carried.1,
        takes_line g.D.Disk.model g.D.CrashDisk.crashes c.args.self c.args.piece.now rest so_far.0 s so_far.2 following c.take.new.self c.in-Some.ensures.following c.take.ensures.line now.carried.0 new now.line now.carried.2,
      ),
    )

pub returns-clause-taken : goal.returns-clause-taken
returns-clause-taken g c =
    let so_far = c.loop-following.invariant.2 in
    (so_far.0, so_far.1, takes_rest g.D.Disk.model g.D.CrashDisk.crashes c.args.self c.args.piece.now c.loop-following.rest.now so_far.0 c.loop-following.console so_far.2 c.take.new.self c.in_default.ensures.following c.take.ensures.line)
