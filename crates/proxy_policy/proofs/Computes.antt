-- The worked texts, computed through the definitions.
use Rattle.std.proofs.Common.{refl, arith}
use Rattle.toml.proofs.OnLiterals.{toml_on_literals}
use Rattle.proxy_policy.specs.Keys.{has_right_keys}
use Rattle.proxy_policy.specs.Names.{is_principal}
use Rattle.proxy_policy.specs.Values.{limit_at, list_at, rules_in}
use Rattle.proxy_policy.specs.WorkedTexts.{GoodTexts, WrongKeys, WrongTexts, WrongValues}

pub good_compute : GoodTexts
unfolding toml_on_literals has_right_keys is_principal limit_at list_at rules_in
good_compute = record { blank = refl; look = refl; limited = refl }

pub keys_compute : WrongKeys
unfolding toml_on_literals has_right_keys is_principal limit_at list_at rules_in
keys_compute = record { unknown = refl; unknown_in_a_rule = refl; no_ops = refl }

pub values_compute : WrongValues
unfolding toml_on_literals has_right_keys is_principal limit_at list_at rules_in
values_compute = grind arith

pub texts_compute : WrongTexts
unfolding toml_on_literals has_right_keys is_principal limit_at list_at rules_in
texts_compute = record { open_header = refl }
