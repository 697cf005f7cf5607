use Rattle.std.proofs.Common.{◌≡◌, ◌≢◌, ◌-◌, sym, ◌∙◌, arith}
use Rattle.std.proofs.lemmas.Bool.Decides.{nat_tests}
use Rattle.std.proofs.lemmas.List.{get_or-set_other}
use Rattle.coord_codec.proofs.RowsRead.{both_raised, degree_most, first_push, one_raised, second_push}
use Rattle.coord_codec.proofs.rows_read.LinksRead.push.Goals as goal

pub raise_degree-requires-clause-room : goal.raise_degree-requires-clause-room
raise_degree-requires-clause-room c =
    let known = c.args.self.now.counted c.args.row.a c.number.ensures.least (omega arith) in
    rw c.place_of-first.ensures (omega (arith, known, degree_most c.args.row.a c.args.self.now.rows.items, c.requires))

pub raise_degree-requires-then-first-second-clause-room : goal.raise_degree-requires-then-first-second-clause-room
raise_degree-requires-then-first-second-clause-room c =
    let known = c.args.self.now.counted c.args.row.b c.number-2.ensures.least (omega arith) in
    let apart : c.place_of-second.result ≢ c.place_of-first.result = λ e. grind (arith, nat_tests) in
    rw (c.raise_degree.ensures, get_or-set_other c.args.self.now.degrees c.place_of-first.result c.place_of-second.result _ 0 apart, c.place_of-second.ensures)
    (omega (arith, known, degree_most c.args.row.b c.args.self.now.rows.items, c.requires))

pub invariant_of-self-then-first-second-clause-last_first : goal.invariant_of-self-then-first-second-clause-last_first
invariant_of-self-then-first-second-clause-last_first c = rw c.in_ok-push.ensures.items (c.number.ensures.value ∙ sym (first_push c.args.self.now.rows.items c.args.row))

pub invariant_of-self-then-first-second-clause-last_second : goal.invariant_of-self-then-first-second-clause-last_second
invariant_of-self-then-first-second-clause-last_second c = rw c.in_ok-push.ensures.items (c.number-2.ensures.value ∙ sym (second_push c.args.self.now.rows.items c.args.row))

pub invariant_of-self-then-first-second-clause-counted : goal.invariant_of-self-then-first-second-clause-counted
invariant_of-self-then-first-second-clause-counted c = λ u low high.
    let differ : c.args.row.a - 1 ≢ c.args.row.b - 1 = λ e. let same : c.place_of-first.result ≡ c.place_of-second.result = c.place_of-first.ensures ∙ e ∙ sym c.place_of-second.ensures in grind (arith, nat_tests) in
    rw (c.raise_degree-then-first-second.ensures, c.raise_degree.ensures, c.place_of-second.ensures, c.place_of-first.ensures, c.in_ok-push.ensures.items)
    (both_raised c.args.self.now.degrees c.args.self.now.rows.items c.args.row (omega arith) c.number.ensures.least (omega arith) c.number-2.ensures.least (omega arith) c.args.self.now.counted differ u low high)

pub invariant_of-self-else-first-second-clause-last_first : goal.invariant_of-self-else-first-second-clause-last_first
invariant_of-self-else-first-second-clause-last_first c = rw c.in_ok-push.ensures.items (c.number.ensures.value ∙ sym (first_push c.args.self.now.rows.items c.args.row))

pub invariant_of-self-else-first-second-clause-last_second : goal.invariant_of-self-else-first-second-clause-last_second
invariant_of-self-else-first-second-clause-last_second c = rw c.in_ok-push.ensures.items (c.number-2.ensures.value ∙ sym (second_push c.args.self.now.rows.items c.args.row))

pub invariant_of-self-else-first-second-clause-counted : goal.invariant_of-self-else-first-second-clause-counted
invariant_of-self-else-first-second-clause-counted c = λ u low high.
    let places : c.place_of-first.result ≡ c.place_of-second.result = grind (arith, nat_tests) in
    let same : c.args.row.a - 1 ≡ c.args.row.b - 1 = sym c.place_of-first.ensures ∙ places ∙ c.place_of-second.ensures in
    rw (c.raise_degree.ensures, c.place_of-first.ensures, c.in_ok-push.ensures.items)
    (one_raised c.args.self.now.degrees c.args.self.now.rows.items c.args.row (omega arith) c.number.ensures.least (omega arith) c.number-2.ensures.least (omega arith) c.args.self.now.counted same u low high)
