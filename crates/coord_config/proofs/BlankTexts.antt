-- Texts with nothing but white space and comments.
use Rattle.std.proofs.Common.{◌≡◌, ℕ, suc, List, [], length, Some, arith}
use Rattle.toml.specs.Data.{no_members}
use Rattle.toml.specs.Errors.{IsBlank}
use Rattle.toml.specs.Parse.{parse_document, skip_bom}
use Rattle.toml.specs.Tables.{no_nodes}
use Rattle.toml.proofs.Turns.{document_some, lines_end}

-- a text of blanks and comments spells the empty table
pub parse_document-blank : (text : List ℕ) → IsBlank text → parse_document text ≡ Some no_members
parse_document-blank text blank =
    document_some text (no_nodes, []) (lines_end (suc (length text)) (no_nodes, []) (skip_bom text) (omega arith) blank)
