use Rattle.std.proofs.Common.{map, take_all, ap, ◌∙◌, subst, string_bytes, List, String}
use Rattle.std.specs.declared.alloc.Global.{Global}
use Rattle.std.specs.List.Sorted.{IsPermutation}
use Rattle.std.proofs.lemmas.List.Sorted.{IsPermutation-map}
use Rattle.coord_kept.specs.Lines.{entry_words}
use Rattle.coord_kept.proofs.lines.lines_of.Goals as goal

pub returns : goal.returns
returns c =
    let text : String Global → List _ = λ line. string_bytes line in
    let made = c.loop-entry.invariant ∙ ap (map entry_words) (take_all c.loop-entry.entry-index c.args.party.now c.loop-entry-test.false) in
    record {
      all = subst (λ all. IsPermutation all (map text c.sort.new.self.items)) made (IsPermutation-map text c.loop-entry.lines.items c.sort.new.self.items c.sort.ensures.permutation);
      in_order = c.in_ok-sort.ensures.sorted;
    }
