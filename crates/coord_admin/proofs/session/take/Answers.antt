use Rattle.std.proofs.Common.{◌++◌, [], ◌∷◌, Some, refl, sym, ap, ◌∙◌, append_assoc, append-nil}
use Rattle.std.proofs.lemmas.Result.{err_from_is_err_and}
use Rattle.std.specs.Option.{option_copied}
use Rattle.coord_lines.specs.Lines.{lines_on}
use Rattle.coord_lines.proofs.LinesOn.{lines_on-unended}
use Rattle.coord_admin.proofs.Pieces.{goes-further, goes-waiting, piece-broken, piece-closed}
use Rattle.coord_admin.proofs.Stream.{line_ended, returned-all}
use Rattle.coord_admin.proofs.session.take.Goals as goal

pub loop-following-init : goal.loop-following-init
loop-following-init g c = λ d waiting await. (waiting, [], goes-waiting g.D.Desk.answers g.D.Desk.posts d _ waiting _ await, g.met.C.Duplex.at_rest _, λ more. refl)

pub returns-in_err-closed-clause-failed : goal.returns-in_err-closed-clause-failed
returns-in_err-closed-clause-failed g c =
    let first = c.args.line.now in
    let line = option_copied c.get.result in
    let following = c.in-Some.following.now in
    let ended = line_ended g.D.Desk.answers c.loop-following.line c.loop-following.rest.now [] following line c.in-Some.ensures.following (c.get.ensures.line ∙ c.take.ensures.line) in
    let failed = err_from_is_err_and c.from_residual.result c.from_residual.ensures.1 in
    rw failed.1 (λ d waiting await.
    let inv = c.loop-following.invariant d waiting await in
    let goes = inv.2 in
    let all = waiting ++ lines_on first c.args.piece.now in
    let same = ap (λ l. waiting ++ lines_on first l) (sym (append-nil c.args.piece.now)) ∙ inv.4 [] ∙ ap (λ l. inv.0 ++ l) ended in
    let rest = lines_on (Some []) (following ++ []) in
    let broken = c.in_err-closed.ensures.failed goes.2 goes.1 goes.5 in
    piece-broken g.D.Desk.answers g.D.Desk.posts g.C.Duplex.exchanged g.met.C.Duplex.in_turn d _ _ _ _ _ all inv.0 (line ∷ rest) inv.1 _ goes inv.3 same (broken.0, broken.1, broken.2 rest))

pub returns-then-closed-clause-closed : goal.returns-then-closed-clause-closed
returns-then-closed-clause-closed g c =
    let first = c.args.line.now in
    let line = option_copied c.get.result in
    let following = c.in-Some.following.now in
    let ended = line_ended g.D.Desk.answers c.loop-following.line c.loop-following.rest.now [] following line c.in-Some.ensures.following (c.get.ensures.line ∙ c.take.ensures.line) in
    λ _ d waiting await.
    let inv = c.loop-following.invariant d waiting await in
    let goes = inv.2 in
    let all = waiting ++ lines_on first c.args.piece.now in
    let same = ap (λ l. waiting ++ lines_on first l) (sym (append-nil c.args.piece.now)) ∙ inv.4 [] ∙ ap (λ l. inv.0 ++ l) ended in
    let now = c.in_ok-closed.ensures.closed c.if-closed.true goes.2 goes.1 goes.5 in
    piece-closed g.D.Desk.answers g.D.Desk.posts g.C.Duplex.exchanged g.met.C.Duplex.in_turn d _ _ _ _ _ all inv.0 line (following ++ []) inv.1 _ goes inv.3 same now

pub loop-following-preserved : goal.loop-following-preserved
loop-following-preserved g c = λ d waiting await.
    let inv = c.loop-following.invariant d waiting await in
    let goes = inv.2 in
    let line = option_copied c.get.result in
    let following = c.in-Some.following.now in
    let now = c.in_ok-closed.ensures.open c.if-closed.false goes.2 goes.1 goes.5 in (
      inv.0 ++ line ∷ [],
      inv.1 ++ now.0,
      goes-further g.D.Desk.answers g.D.Desk.posts _ _ _ inv.0 line inv.1 now.0 _ _ goes now.1,
      returned-all g.C.Duplex.exchanged g.met.C.Duplex.in_turn _ _ _ [] inv.1 now.0 inv.3 now.2,
      λ more. rw c.clear.ensures (
          inv.4 more
          ∙ ap (λ l. inv.0 ++ l) (line_ended g.D.Desk.answers c.loop-following.line c.loop-following.rest.now more following line c.in-Some.ensures.following (c.get.ensures.line ∙ c.take.ensures.line))
          ∙ sym (append_assoc inv.0 (line ∷ []) (lines_on (Some []) (following ++ more)))
          ),
    )

pub returns-clause-open : goal.returns-clause-open
returns-clause-open g c = λ _ d waiting await.
    let inv = c.loop-following.invariant d waiting await in (
      inv.0,
      inv.1,
      inv.2,
      inv.3,
      λ more. inv.4 more ∙ ap (λ l. inv.0 ++ l) (lines_on-unended c.loop-following.line c.loop-following.rest.now more (sym c.in_default.ensures.following) ∙ ap (λ l. lines_on l more) (sym c.take.ensures.line)),
    )
