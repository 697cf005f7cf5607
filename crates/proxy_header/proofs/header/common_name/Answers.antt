use Rattle.proxy_header.proofs.Clients.{none_is_named}
use Rattle.proxy_header.proofs.header.common_name.Goals as goal

pub returns-clause-none : goal.returns-clause-none
returns-clause-none c = none_is_named c.args.header.now c.name_in.result c.name_in.ensures
