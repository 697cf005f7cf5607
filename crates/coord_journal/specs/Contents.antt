use Rattle.std.specs.Prelude.{ℕ, List, [], ◌∷◌}
use Rattle.std.specs.Borrow.{Bor}
use Rattle.coord_journal.specs.Text.{Content}
use Rattle.coord_journal.specs.declared.contents.Contents.{Contents}

-- the bytes of each borrowed list
abbrev pub bodies : List (Bor (List ℕ)) → List (List ℕ)
bodies [] = []
bodies (v ∷ vs) = v.now ∷ bodies vs

abbrev pub content_of : Contents → Content
content_of contents = record { version = contents.version; snapshot = contents.snapshot.now; batches = bodies contents.batches.items }
