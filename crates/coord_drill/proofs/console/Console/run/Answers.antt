use Rattle.std.proofs.Common.{◌++◌, [], take, refl, inl, inr, arith, rules, subst, append-nil, length-append, length-take-le}
use Rattle.std.proofs.KnownBytes.{Appends-nil, Appends-trans, Consumes-nil, Consumes-trans, Consumes-kept}
use Rattle.std.proofs.lemmas.Result.{IfErr-weaker, IfOk-weaker}
use Rattle.coord_lines.specs.Lines.{lines_on}
use Rattle.coord_drill.specs.Facade.{EndsEarly}
use Rattle.coord_drill.specs.declared.fault.Fault.TheVariants.{TooManyReads}
use Rattle.coord_drill.proofs.does.Moments.{if_err_both, passed_on}
use Rattle.coord_drill.proofs.prints.Pieces.{takes_break, takes_breaks, takes_ends, takes_none, takes_piece, works_early}
use Rattle.coord_drill.proofs.prints.Prints.{Consumes-none}
use Rattle.coord_drill.proofs.console.Console.run.Goals as goal

pub loop-init : goal.loop-init
loop-init g c = (c.requires.ready, omega (arith, c.requires.number), ([], Consumes-nil _, omega arith, ([], Appends-nil _, takes_none g.D.Disk.model g.D.CrashDisk.crashes c.args.self [])))

pub returns-in-Err-clause-failed : goal.returns-in-Err-clause-failed
returns-in-Err-clause-failed g c =
    let inv = c.loop.invariant in
    let out = inv.2.3 in (
      inv.2.0,
      Consumes-kept _ _ _ inv.2.0 inv.2.1 c.in-Err.ensures.bytes,
      (
        out.0,
        out.1,
        (takes_breaks g.D.Disk.model g.D.CrashDisk.crashes c.args.self inv.2.0 out.0 c.loop.console out.2 (c.in-Err.fault, c.into_disk.result) (inl c.in-Err.ensures.fault) c.into_disk.ensures, λ e. absurd (cc (c.in-Err.ensures.fault, e))),
      ),
    )

pub returns-then-count-eq0-clause-ended : goal.returns-then-count-eq0-clause-ended
returns-then-count-eq0-clause-ended g c =
    let inv = c.loop.invariant in
    let out = inv.2.3 in
    let consumed = Consumes-none _ _ _ inv.2.0 c.read_once.new.buf c.in-Ok.count inv.2.1 c.in-Ok.ensures.bytes.0 c.if-count-eq0.true in
    IfOk-weaker c.finish.result _ _
    (λ last ends. (inv.2.0, consumed, (out.0 ++ ends.0, Appends-trans _ _ _ _ _ out.1 ends.1, takes_ends g.D.Disk.model g.D.CrashDisk.crashes c.args.self inv.2.0 out.0 c.loop.console out.2 ends.0 last ends.2)))
    c.finish.ensures.ended

pub returns-then-count-eq0-clause-failed : goal.returns-then-count-eq0-clause-failed
returns-then-count-eq0-clause-failed g c =
    let d = c.args.self in
    let inv = c.loop.invariant in
    let out = inv.2.3 in
    let consumed = Consumes-none _ _ _ inv.2.0 c.read_once.new.buf c.in-Ok.count inv.2.1 c.in-Ok.ensures.bytes.0 c.if-count-eq0.true in
    IfErr-weaker c.finish.result _ _
    (λ refused both.
    let failed = both.1 in
    let breaks = takes_break g.D.Disk.model g.D.CrashDisk.crashes d inv.2.0 out.0 c.loop.console out.2 [] failed.0 refused failed.2 in
    (inv.2.0, consumed, (out.0 ++ failed.0, Appends-trans _ _ _ _ _ out.1 failed.1, (subst (λ seen. EndsEarly g.D.Disk.model g.D.CrashDisk.crashes d (lines_on d.line seen) refused (out.0 ++ failed.0)) (append-nil inv.2.0) breaks, λ e. absurd (both.0.1 e)))))
    (if_err_both _ _ c.finish.result c.finish.ensures.fault c.finish.ensures.failed)

pub returns-in_err-console-clause-failed : goal.returns-in_err-console-clause-failed
returns-in_err-console-clause-failed g c =
    let s = c.loop.console in
    let inv = c.loop.invariant in
    let out = inv.2.3 in
    let came = take c.in-Ok.count c.read_once.new.buf in
    let refused = c.in_err-console.field-0.0 in
    let failed = c.in_err-console.ensures.failed in
    passed_on c.from_residual.result refused _ c.from_residual.ensures.1 (
      inv.2.0 ++ came,
      Consumes-trans _ _ _ inv.2.0 came inv.2.1 c.in-Ok.ensures.bytes.0,
      (
        out.0 ++ failed.0,
        Appends-trans _ _ _ _ _ out.1 failed.1,
        (
          takes_break g.D.Disk.model g.D.CrashDisk.crashes c.args.self inv.2.0 out.0 s out.2 came failed.0 refused (works_early g.D.Disk.model g.D.CrashDisk.crashes s (lines_on s.line came) refused failed.0 failed.2),
          λ e. absurd (c.in_err-console.ensures.fault.1 e),
        ),
      ),
    )

pub loop-preserved : goal.loop-preserved
loop-preserved g c =
    let inv = c.loop.invariant in
    let out = inv.2.3 in
    let came = take c.in-Ok.count c.read_once.new.buf in
    let now = c.in_ok-console.ensures in
    let new = c.in_ok-console.console in (
      now.ready,
      search rules,
      (
        inv.2.0 ++ came,
        Consumes-trans _ _ _ inv.2.0 came inv.2.1 (search rules),
        omega (arith, inv.2.2, length-append inv.2.0 came, length-take-le c.in-Ok.count c.read_once.new.buf (search rules)),
        (out.0 ++ now.taken.0, Appends-trans _ _ _ _ _ out.1 now.taken.1, takes_piece g.D.Disk.model g.D.CrashDisk.crashes c.args.self inv.2.0 out.0 c.loop.console out.2 came now.taken.0 new now.taken.2),
      ),
    )

pub returns-clause-failed : goal.returns-clause-failed
returns-clause-failed g c =
    let inv = c.loop.invariant in
    let out = inv.2.3 in (
      inv.2.0,
      inv.2.1,
      (
        out.0,
        out.1,
        (takes_breaks g.D.Disk.model g.D.CrashDisk.crashes c.args.self inv.2.0 out.0 c.loop.console out.2 (TooManyReads, c.into_disk-2.result) (inr refl) c.into_disk-2.ensures, λ e. search rules),
      ),
    )
