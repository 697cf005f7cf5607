use Rattle.std.proofs.lemmas.Bool.Decides.{Decides-eqb}
use Rattle.std.proofs.lemmas.Slice.Eq.{strip_prefix_is}
use Rattle.proxy_request.proofs.UsualLines.{begins}
use Rattle.proxy_request.proofs.usual.after_text.Goals as goal

pub returns : goal.returns
returns c = begins c.args.bytes.now c.args.text.now c.strip_prefix.result (strip_prefix_is Decides-eqb c.args.bytes.now c.args.text.now c.strip_prefix.result c.strip_prefix.ensures.cases)
