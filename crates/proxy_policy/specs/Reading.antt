-- The rules of a TOML text.
use Rattle.std.specs.Prelude.{ℕ, nat_le, if◌then◌else◌, List, length, codes, Option, Some, None, Result, Ok, Err}
use Rattle.toml.specs.Data.{Members, get_member}
use Rattle.toml.specs.Parse.{parse_document}
use Rattle.proxy_policy.specs.declared.reading.TheConstants.{MAX_POLICY_BYTES}
use Rattle.proxy_policy.specs.declared.fault.PolicyFault.{PolicyFault}
use Rattle.proxy_policy.specs.declared.fault.PolicyFault.TheVariants.{NotToml, BadKey, BadValue}
use Rattle.proxy_policy.specs.Keys.{has_right_keys}
use Rattle.proxy_policy.specs.Values.{Content, rules_in}

abbrev pub or_bad_value : Option (List Content) → Result (List Content) PolicyFault
or_bad_value None = Err BadValue
or_bad_value (Some rules) = Ok rules

-- the rules in a table, or a fault; the table's keys are checked before its values
abbrev pub rules_of : Members → Result (List Content) PolicyFault
rules_of ms = if has_right_keys ms then or_bad_value (rules_in (get_member (codes "allow") ms)) else Err BadKey

abbrev pub rules_if : Option Members → Result (List Content) PolicyFault
rules_if None = Err NotToml
rules_if (Some ms) = rules_of ms

-- the rules in a text, or a fault; a text longer than MAX_POLICY_BYTES is a fault
abbrev pub reading : List ℕ → Result (List Content) PolicyFault
reading text = if nat_le (length text) MAX_POLICY_BYTES then rules_if (parse_document text) else Err NotToml
