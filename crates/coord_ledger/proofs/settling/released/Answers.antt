use Rattle.std.proofs.Common.{◌≡◌, ◌<◌, ◌+◌, ◌++◌, length, map, take, sym, ap, ◌∙◌, arith}
use Rattle.std.proofs.lemmas.List.{length-take-le}
use Rattle.coord_ledger.specs.code.Holding.{listed, released_from}
use Rattle.coord_ledger.specs.machine.After.{release_of}
use Rattle.coord_ledger.proofs.follows.Granted.{listed-length, listed_more, released_from-push}
use Rattle.coord_ledger.proofs.settling.released.Goals as goal

pub loop-place-preserved : goal.loop-place-preserved
loop-place-preserved c =
    let first = c.args.first in
    let items = c.args.given.now.items in
    let i = c.loop-place.place in
    let v = c.index.result.now in
    let below : i < length items = omega (arith, c.loop-place-test.true, c.requires.within) in
    let before = take i (listed items) in
    let number : first + i ≡ first + length before = omega (arith, length-take-le i (listed items) (omega (arith, below, listed-length items))) in
    let own : map (release_of (first + i)) c.deref.result.now ≡ map (release_of (first + i)) v.items = ap (map (release_of (first + i))) c.deref.ensures.value in
    c.in_ok-push_all.ensures ∙ ap (λ l. l ++ map (release_of (first + i)) c.deref.result.now) c.loop-place.invariant
    ∙ ap (λ l. released_from first before ++ l) own
    ∙ sym (released_from-push before first (first + i) v.items number) ∙ ap (released_from first) (sym (listed_more items i v below c.index.ensures))
