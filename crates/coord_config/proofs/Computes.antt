-- The worked texts, computed through the definitions.
use Rattle.std.proofs.Common.{refl, arith}
use Rattle.toml.proofs.OnLiterals.{toml_on_literals}
use Rattle.coord_config.specs.WorkedTexts.{GoodTexts, WrongKeys, WrongTexts, WrongValues}

pub good_compute : GoodTexts
unfolding toml_on_literals
good_compute = record { blank = refl; linked = refl; repeated = refl }

pub keys_compute : WrongKeys
unfolding toml_on_literals
keys_compute = record { unknown = refl; missing = refl; extra = refl }

pub values_compute : WrongValues
unfolding toml_on_literals
values_compute = grind arith

pub texts_compute : WrongTexts
unfolding toml_on_literals
texts_compute = record { open_header = refl; repeated_key = refl; past_an_i64 = refl }
