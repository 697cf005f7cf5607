use Rattle.std.proofs.Common.{◌≡◌, ◌∙◌, ℕ, ◌+◌, ◌-◌, Bool, sym, ap, arith, rules, length, take, ◌||◌, ◌&&◌, nat_le, nat_lt}
use Rattle.coord_disk.specs.Disks.History.{replayed}
use Rattle.coord_disk.specs.Model.Present.{is_within, whole}
use Rattle.coord_disk.proofs.Replays.{synced_within, wrote_within}
use Rattle.coord_disk.proofs.crash.is_written.Goals as goal

pub returns-in-Synced : goal.returns-in-Synced
returns-in-Synced c first =
    sym (synced_within c.args.entries.now c.loop-n.n c.args.place c.index-entries-n.result c.loop-n-test.true c.loop-n.invariant.within c.index-entries-n.is first c.in-Synced.is)
    ∙ c.loop-n.invariant.before first

pub returns-then-covers : goal.returns-then-covers
returns-then-covers c first =
    let at = c.in-Wrote.at in
    let place = c.args.place in
    let rest = is_within (replayed (whole first) (take (c.loop-n.n - 1) c.args.entries.now)).written place in
    let size : c.len.result ≡ length c.in-Wrote.bytes.items = search rules in
    let here = ap (λ (n : ℕ). nat_le at place && nat_lt place (at + n)) (sym size) ∙ sym c.covers.ensures ∙ c.if-covers.true in
    sym (wrote_within c.args.entries.now c.loop-n.n place c.index-entries-n.result c.loop-n-test.true c.loop-n.invariant.within c.index-entries-n.is first at c.in-Wrote.bytes c.in-Wrote.is
    ∙ ap (λ (b : Bool). b || rest) here)
    ∙ c.loop-n.invariant.before first

pub loop-n-preserved : goal.loop-n-preserved
loop-n-preserved c =
    let at = c.in-Wrote.at in
    let place = c.args.place in
    let size : c.len.result ≡ length c.in-Wrote.bytes.items = search rules in
    let here = ap (λ (n : ℕ). nat_le at place && nat_lt place (at + n)) (sym size) ∙ sym c.covers.ensures ∙ c.if-covers.false in
    record {
      within = omega arith;
      before = λ first.
          sym (wrote_within c.args.entries.now c.loop-n.n place c.index-entries-n.result c.loop-n-test.true c.loop-n.invariant.within c.index-entries-n.is first at c.in-Wrote.bytes c.in-Wrote.is
          ∙ ap (λ (b : Bool). b || is_within (replayed (whole first) (take (c.loop-n.n - 1) c.args.entries.now)).written place) here)
          ∙ c.loop-n.invariant.before first;
    }
