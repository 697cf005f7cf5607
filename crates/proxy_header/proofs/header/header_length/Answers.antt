use Rattle.std.proofs.Common.{◌≡◌, ◌-◌, nat_eq, drop, true, sym, ap, subst, ◌∙◌, ℕ, arith, rules}
use Rattle.std.proofs.lemmas.Grind.{common_steps}
use Rattle.std.specs.List.{starts_with}
use Rattle.proxy_header.specs.declared.header.HeaderLength.TheVariants.{Whole}
use Rattle.proxy_header.specs.Headers.{BeginsWith, signature}
use Rattle.proxy_header.proofs.Lengths.{least_after, unfinished, whole}
use Rattle.proxy_header.proofs.Scans.{from_drop}
use Rattle.proxy_header.proofs.header.header_length.Goals as goal

pub returns-then-bytes-length : goal.returns-then-bytes-length
returns-then-bytes-length c =
    let bytes = c.args.bytes.now in
    let starts : starts_with nat_eq bytes signature ≡ true = first_of (search rules, grind (arith, common_steps)) in
    let least : c.least_length-length.result ≡ least_after (drop 12 bytes) = c.least_length-length.ensures ∙ ap least_after (from_drop 12 bytes) in
    unfinished bytes (omega arith) starts (omega arith) (omega arith)

pub returns-else-bytes-length : goal.returns-else-bytes-length
returns-else-bytes-length c =
    let bytes = c.args.bytes.now in
    let starts : starts_with nat_eq bytes signature ≡ true = first_of (search rules, grind (arith, common_steps)) in
    let least : c.least_length-length.result ≡ least_after (drop 12 bytes) = c.least_length-length.ensures ∙ ap least_after (from_drop 12 bytes) in
    subst (λ (n : ℕ). BeginsWith bytes (Whole n)) (sym least) (whole bytes starts (omega arith) (omega arith))
