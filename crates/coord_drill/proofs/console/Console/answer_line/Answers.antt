use Rattle.std.proofs.Common.{◌≡◌, ◌++◌, sym, ap, ◌∙◌, rules, string_bytes}
use Rattle.std.specs.Option.{option_copied}
use Rattle.coord_drill.proofs.does.Moments.{passed_on}
use Rattle.coord_drill.proofs.console.Console.answer_line.Goals as goal

pub returns-in_err-drill-clause-cut : goal.returns-in_err-drill-clause-cut
returns-in_err-drill-clause-cut g c =
    let d = c.args.self in
    let line : option_copied c.get.result ≡ d.line = search rules in
    let fault = c.in_err-drill.field-0.0 in
    passed_on c.from_residual.result fault _ c.from_residual.ensures.1 (rw (sym line) c.in_err-drill.ensures.cut)

pub returns-clause-carried : goal.returns-clause-carried
returns-clause-carried g c =
    let d = c.args.self in
    let line : option_copied c.get.result ≡ d.line = search rules in
    let reports = c.in_ok-drill.ensures.carried in
    let text : string_bytes c.respond.new.text ≡ reports.0 = reports.1.0 ∙ ap (λ old. old ++ reports.0) c.clear.ensures.bytes in
    rw text (rw (sym line) reports.1.1)
