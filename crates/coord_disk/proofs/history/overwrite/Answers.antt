use Rattle.std.proofs.Common.{◌≡◌, ◌∙◌, ◌+◌, ◌-◌, ◌<◌, max, length, ap, sym, arith, rules, ◌++◌, take, drop, replicate}
use Rattle.std.proofs.lemmas.List.{with_items_is}
use Rattle.coord_disk.proofs.Overwritten.{in_place, length_overwritten}
use Rattle.coord_disk.proofs.history.overwrite.Goals as goal

pub returns-clause-ok : goal.returns-clause-ok
returns-clause-ok c =
    let old = c.args.bytes.now.items in
    let bytes = c.args.new.now in
    let at = c.args.at in
    let grown = c.deref_mut.result.now in
    let some : 0 < length bytes = search rules in
    let size_is : c.max.result ≡ max (length old) (at + length bytes) = search rules in
    let grown_is : grown ≡ take c.max.result old ++ replicate (c.max.result - length old) 0 = search rules in
    let len_is : c.max.result ≡ c.resize.new.self.len = search rules in
    let now = c.copy_from_slice.new.self in
    let k = at + length bytes - at in
    let wrote = in_place old grown now bytes at k c.max.result some (omega arith) c.copy_from_slice.ensures.after size_is grown_is in
    with_items_is c.resize.new.self (take at grown ++ (now ++ drop k (drop at grown))) (ap length wrote ∙ length_overwritten old bytes at some ∙ sym size_is ∙ len_is) ∙ wrote
