use Rattle.std.proofs.Common.{◌≡◌, ◌∙◌, ◌++◌, ◌∷◌, ℕ, List, take, drop, get_or, ap, sym, rules, arith}
use Rattle.std.specs.Int.{w64, to_be_bytes}
use Rattle.std.proofs.lemmas.List.{take_rest}
use Rattle.coord_journal.specs.Text.{magic}
use Rattle.coord_journal.proofs.Texts.{header_parts}
use Rattle.coord_journal.proofs.header.split_header.Goals as goal

pub returns-clause-some : goal.returns-clause-some
returns-clause-some c =
    let bytes = c.args.bytes.now in
    let name : take 8 (drop 1 bytes) ≡ magic = search rules in
    header_parts bytes (omega arith)
    ∙ ap (λ (l : List ℕ). get_or bytes 0 0 ∷ (l ++ (take 8 (drop 9 bytes) ++ drop 17 bytes))) name
    ∙ ap (λ (l : List ℕ). get_or bytes 0 0 ∷ (magic ++ (l ++ drop 17 bytes))) (sym c.read_size.ensures)
    ∙ ap (λ (l : List ℕ). get_or bytes 0 0 ∷ (magic ++ (to_be_bytes w64 c.read_size.result ++ l))) (sym (take_rest bytes 17))
