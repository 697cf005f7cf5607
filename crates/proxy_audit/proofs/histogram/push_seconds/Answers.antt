use Rattle.std.proofs.Common.{◌≡◌, ◌++◌, ℕ, List, OnOk, rules, subst, string_bytes}
use Rattle.proxy_audit.specs.Tallies.{sum_line}
use Rattle.proxy_audit.proofs.histogram.push_seconds.Goals as goal

pub returns : goal.returns
returns c =
    let P : List ℕ → Type 0 = λ sum. OnOk c.writeln.result (string_bytes c.writeln.new.self ≡ string_bytes c.args.text.now ++ sum_line c.args.op.now sum) in
    let printed : P (string_bytes c.in_ok-seconds.seconds) = search rules in
    subst P c.in_ok-seconds.ensures.text printed
