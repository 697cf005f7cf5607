use Rattle.std.proofs.Common.{rules, not}
use Rattle.std.proofs.lemmas.Fn.{filter_same}
use Rattle.proxy_core.specs.Pending.{is_from}
use Rattle.proxy_core.proofs.proxy.keep_others.Goals as goal

pub returns : goal.returns
returns c = filter_same _ (λ a. not (is_from c.args.connection a)) _ (λ x b f' k. search rules) _ _ c.retain.ensures.filtered
