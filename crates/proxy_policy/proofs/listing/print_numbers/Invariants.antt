use Rattle.std.proofs.Common.{◌≡◌, ◌++◌, take, string_bytes}
use Rattle.proxy_policy.specs.Listing.{numbers_text}
use Rattle.proxy_policy.proofs.listing.print_numbers.Given as goal

abbrev pub invariant-loop-identifier : goal.invariant-loop-identifier
invariant-loop-identifier g l = string_bytes l.text ≡ string_bytes l.initial.text ++ numbers_text (take l.identifier-index l.numbers)
