use Rattle.proxy_request.proofs.UsualLines.{numbered_confirm_read}
use Rattle.proxy_request.proofs.usual.read_numbered_confirm.Goals as goal

pub returns-then-is_end : goal.returns-then-is_end
returns-then-is_end c =
    numbered_confirm_read c.args.line.now c.in_ok-client.rest.now c.in_ok-number.rest.now c.in_ok-node.rest.now c.in_ok-epoch.rest.now
    c.in_ok-client.client c.in_ok-client-2.client c.in_ok-number.number c.in_ok-node.node c.in_ok-node-2.node c.in_ok-epoch.epoch
    c.in_ok-client.ensures.text c.in_ok-number.ensures.text c.in_ok-node.ensures.text c.in_ok-epoch.ensures.text (c.is_end.ensures c.if-is_end.true)
    c.in_ok-client-2.ensures.value c.in_ok-client-2.ensures.within c.in_ok-number.ensures.word
    c.in_ok-node-2.ensures.value c.in_ok-node-2.ensures.within c.in_ok-epoch.ensures.word
