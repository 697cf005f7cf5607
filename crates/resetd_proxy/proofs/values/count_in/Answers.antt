use Rattle.std.proofs.Common.{◌∙◌}
use Rattle.resetd_proxy.proofs.Numbers.{count_read}
use Rattle.resetd_proxy.proofs.values.count_in.Goals as goal

pub returns : goal.returns
returns c = c.ok.ensures.value ∙ count_read c.args.text.now c.parse.result c.parse.ensures.value.0
