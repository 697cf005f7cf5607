use Rattle.std.proofs.Common.{◌≡◌, false, lit<, rules}
use Rattle.std.specs.List.{list_any}
use Rattle.resetd_proxy.specs.Arguments.{is_equals}
use Rattle.resetd_proxy.proofs.Separators.{none_found}
use Rattle.resetd_proxy.proofs.values.named_by.Goals as goal

pub returns-in_err-name : goal.returns-in_err-name
returns-in_err-name c =
    let none : list_any is_equals c.args.text.now ≡ false = none_found is_equals c.args.text.now (c.in_err-name.ensures.byte (lit< tt) (λ w o is. is)) in
    search (rules, none)
