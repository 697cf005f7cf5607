use Rattle.std.proofs.Common.{◌≡◌, ◌-◌, ◌≤◌, length, take, drop, None, ◌∙◌, arith, rules}
use Rattle.std.specs.Option.{option_copied}
use Rattle.proxy_header.proofs.Scans.{field_skipped, field_taken, first_length, from_drop}
use Rattle.proxy_header.proofs.fields.+only_value.Goals as goal

pub returns-then-of-kind : goal.returns-then-of-kind
returns-then-of-kind t c =
    let bytes = c.args.bytes.now in
    let rest = take (length bytes - 3) (drop 3 bytes) in
    let k = first_length bytes in
    let fits : k ≤ length rest = omega arith in
    c.only_value.ensures
    ∙ field_skipped c.args.kind bytes rest (take (length rest - k) (drop k rest)) (option_copied c.args.found) (from_drop 3 bytes) (from_drop k rest) (omega arith) fits c.if-of-kind.true

pub returns-else-is_some : goal.returns-else-is_some
returns-else-is_some t c =
    let bytes = c.args.bytes.now in
    let rest = take (length bytes - 3) (drop 3 bytes) in
    let k = first_length bytes in
    let fits : k ≤ length rest = omega arith in
    let none : option_copied c.args.found ≡ None = search rules in
    c.only_value-in-len3-up.ensures
    ∙ field_taken c.args.kind bytes rest (take (length rest - k) (drop k rest)) (option_copied c.args.found) (from_drop 3 bytes) (from_drop k rest) (omega arith) fits c.if-of-kind.false none
