use Rattle.std.proofs.Common.{◌≡◌, ◌∙◌, inl, ap, subst, OnOk}
use Rattle.coord_disk.specs.Model.Present.{Torn, overwritten, whole}
use Rattle.coord_disk.proofs.MomentLemmas.{weaker, and_then}
use Rattle.coord_journal.specs.Turns.{TornInTurn}
use Rattle.coord_journal.proofs.synced.write_in_turn.Goals as goal

pub returns-in_err-write_synced-clause-any_moment : goal.returns-in_err-write_synced-clause-any_moment
returns-in_err-write_synced-clause-any_moment g c bytes k is =
    weaker g.D.Disk.model c.args.disk.now c.write_synced.new.disk (Torn bytes c.args.at c.args.first.now) (TornInTurn bytes c.args.at c.args.first.now c.args.next c.args.second.now) (c.write_synced.ensures.any_moment bytes k is) (λ _ one. inl one)

pub returns-clause-any_moment : goal.returns-clause-any_moment
returns-clause-any_moment g c bytes k is =
    let first = c.args.first.now in
    let middle = overwritten bytes c.args.at first in
    let is_written : g.D.Disk.model.present c.write_synced.new.disk ≡ whole middle =
    c.in_ok-write_synced.ensures.done k ∙ ap (λ p. whole (overwritten p.read c.args.at first)) is in
    and_then g.D.Disk.model c.args.disk.now c.write_synced.new.disk c.write_synced-2.new.disk (Torn bytes c.args.at first) (Torn middle c.args.next c.args.second.now)
    (c.write_synced.ensures.any_moment bytes k is)
    (c.write_synced-2.ensures.any_moment middle (c.write_synced.ensures.runs.model ∙ k) is_written)

pub returns-clause-done : goal.returns-clause-done
returns-clause-done g c k =
    subst (λ p. OnOk c.write_synced-2.result (g.D.Disk.model.present c.write_synced-2.new.disk ≡ whole (overwritten p.read c.args.next c.args.second.now)))
    (c.in_ok-write_synced.ensures.done k)
    (c.write_synced-2.ensures.done (c.write_synced.ensures.runs.model ∙ k))
