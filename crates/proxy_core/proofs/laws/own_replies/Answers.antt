use Rattle.proxy_core.proofs.Session.{own_replies}
use Rattle.proxy_core.proofs.laws.own_replies.Goals as goal

pub returns : goal.returns
returns c = own_replies
