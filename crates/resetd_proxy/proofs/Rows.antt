-- The values of an argument, by the rows of the matches.
use Rattle.std.proofs.Common.{◌≡◌, option_map}
use Rattle.clap.specs.Matches.{first_value, matched_of, raw_values}
use Rattle.clap.specs.declared.parser.matches.Found.{Found}
use Rattle.clap.specs.Words.{Text, all_of, first_of, rows_of}
use Rattle.clap.proofs.WalkLemmas.{first_value-rows, raw_values-rows}

pub first_value_by_rows : (found : Found) (name : Text) → first_value found name ≡ first_of name (rows_of found)
first_value_by_rows found name = first_value-rows found name

pub all_values_by_rows : (found : Found) (name : Text) → option_map raw_values (matched_of found name) ≡ all_of name (rows_of found)
all_values_by_rows found name = raw_values-rows found name
