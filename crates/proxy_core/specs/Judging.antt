-- What the rules say about a line from a connection in a role.
use Rattle.std.specs.Prelude.{ℕ, List}
use Rattle.proxy_core.specs.declared.policy.Judgement.{Judgement}
use Rattle.proxy_core.specs.Rules.{Rules}

abbrev pub judgement : Rules → ℕ → List ℕ → Judgement
judgement r role line = record { is_allowed = r.allows role line; is_once = r.is_once line; is_query = r.is_query line; is_unnumbered = r.is_unnumbered line; needs_view = r.needs_view line }
