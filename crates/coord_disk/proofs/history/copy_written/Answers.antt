use Rattle.std.proofs.Common.{◌≡◌, ◌∙◌, ℕ, ◌+◌, ◌-◌, ◌≤◌, Bool, List, ◌++◌, refl, sym, ap, arith, rules, length, take, drop, ◌||◌, min, slice_get}
use Rattle.std.proofs.lemmas.List.{take_all}
use Rattle.coord_disk.specs.declared.history.Entry.{Entry}
use Rattle.coord_disk.specs.Disks.History.{replayed}
use Rattle.coord_disk.specs.Model.Present.{is_within, whole}
use Rattle.coord_disk.proofs.Copied.{apart, copied, copied_size, with_part}
use Rattle.coord_disk.proofs.Replays.{synced_within, wrote_within}
use Rattle.coord_disk.proofs.TornWrites.{whole_image}
use Rattle.coord_disk.proofs.history.copy_written.Goals as goal

pub loop-n-init : goal.loop-n-init
loop-n-init c = record {
  within = omega arith;
  size = c.requires;
  same = λ first image i lt out.
      sym (image.kept i (omega (arith, lt, c.requires)) (ap (λ (l : List Entry). is_within (replayed (whole first) l).written i) (sym (take_all (length c.args.entries.now) c.args.entries.now (omega arith))) ∙ out));
}

pub returns : goal.returns
returns c first image =
    let none : c.loop-n.n ≡ 0 = omega (arith, c.loop-n-test.false) in
    whole_image c.args.read.now (whole c.args.read.now) refl c.loop-n.synced (record {
      no_shorter = omega (arith, c.loop-n.invariant.size);
      no_longer = omega (arith, c.loop-n.invariant.size);
      kept = λ i lt out. c.loop-n.invariant.same first image i lt (ap (λ (k : ℕ). is_within (replayed (whole first) (take k c.args.entries.now)).written i) none);
    })

pub returns-in-Synced : goal.returns-in-Synced
returns-in-Synced c first image =
    whole_image c.args.read.now (whole c.args.read.now) refl c.loop-n.synced (record {
      no_shorter = omega (arith, c.loop-n.invariant.size);
      no_longer = omega (arith, c.loop-n.invariant.size);
      kept = λ i lt out.
          c.loop-n.invariant.same first image i lt (synced_within c.args.entries.now c.loop-n.n i c.index-entries-n.result c.loop-n-test.true c.loop-n.invariant.within c.index-entries-n.is first c.in-Synced.is);
    })

pub loop-n-preserved : goal.loop-n-preserved
loop-n-preserved c =
    let read = c.args.read.now in
    let synced = c.loop-n.synced in
    let at = c.in-Wrote.at in
    let bytes = c.in-Wrote.bytes in
    let start = c.min-start.result in
    let stop = c.min-start.result + c.min.result in
    let start_is : start ≡ min (length read) at = search rules in
    let stop_is : stop ≡ start + min (length bytes.items) (length read - start) = search rules in
    let order : start ≤ stop = omega arith in
    let within : stop ≤ length read = omega (arith, start_is, stop_is) in
    let is : take start synced ++ (c.copy_from_slice.new.self ++ drop (stop - start) (drop start synced)) ≡ with_part synced read start stop c.loop-n.invariant.size order within =
    ap (λ (l : List ℕ). take start synced ++ (l ++ drop (stop - start) (drop start synced))) c.copy_from_slice.ensures.after in
    record {
      within = omega arith;
      size = ap length is ∙ copied_size synced read start stop c.loop-n.invariant.size order within;
      same = λ first image i lt out.
          ap (λ (l : List ℕ). slice_get l i) is
          ∙ copied synced read start stop c.loop-n.invariant.size order within i (λ outside.
          c.loop-n.invariant.same first image i lt
          (wrote_within c.args.entries.now c.loop-n.n i c.index-entries-n.result c.loop-n-test.true c.loop-n.invariant.within c.index-entries-n.is first at bytes c.in-Wrote.is
          ∙ ap (λ (b : Bool). b || is_within (replayed (whole first) (take (c.loop-n.n - 1) c.args.entries.now)).written i) (apart at (length bytes.items) (length read) start stop i start_is stop_is lt outside)
          ∙ out));
    }
