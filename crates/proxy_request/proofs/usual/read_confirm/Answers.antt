use Rattle.proxy_request.proofs.UsualLines.{confirm_read}
use Rattle.proxy_request.proofs.usual.read_confirm.Goals as goal

pub returns-then-is_end : goal.returns-then-is_end
returns-then-is_end c =
    confirm_read c.args.line.now c.in_ok-node.rest.now c.in_ok-epoch.rest.now c.in_ok-node.node c.in_ok-node-2.node c.in_ok-epoch.epoch
    c.in_ok-node.ensures.text c.in_ok-epoch.ensures.text (c.is_end.ensures c.if-is_end.true)
    c.in_ok-node-2.ensures.value c.in_ok-node-2.ensures.within c.in_ok-epoch.ensures.word
