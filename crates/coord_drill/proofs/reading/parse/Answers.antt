use Rattle.std.proofs.Common.{sym, ap, ◌∙◌}
use Rattle.std.proofs.lemmas.Str.{is_utf8-from_IsUtf8}
use Rattle.coord_drill.specs.Grammar.{request_of}
use Rattle.coord_drill.proofs.requests.Spelled.{no_text}
use Rattle.coord_drill.proofs.reading.parse.Goals as goal

pub returns-in-Ok : goal.returns-in-Ok
returns-in-Ok c = rw (is_utf8-from_IsUtf8 c.args.line.now c.in-Ok.ensures.cases.1) (c.read_line.ensures ∙ ap (request_of c.args.version) c.in-Ok.ensures.cases.0)

pub returns-in-Err : goal.returns-in-Err
returns-in-Err c = sym (no_text c.args.version c.args.line.now c.in-Err.ensures.cases.0)
