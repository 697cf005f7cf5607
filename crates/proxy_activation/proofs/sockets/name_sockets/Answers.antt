use Rattle.std.proofs.Common.{◌≡◌, ◌++◌, [], ◌∷◌, arith, rules}
use Rattle.std.proofs.lemmas.Grind.{common_steps}
use Rattle.proxy_activation.specs.declared.sockets.PassedSocket.{PassedSocket}
use Rattle.proxy_activation.proofs.Counts.{counted_none, one_more}
use Rattle.proxy_activation.proofs.sockets.name_sockets.Goals as goal

pub loop-name-init : goal.loop-name-init
loop-name-init c = grind (arith, common_steps, counted_none)

pub loop-name-preserved : goal.loop-name-preserved
loop-name-preserved c =
    let inv = c.loop-name.invariant in
    let socket : PassedSocket = record { name = c.as_str-name.result; descriptor = c.loop-name.descriptor } in
    let pushed : c.push.new.self.items ≡ c.loop-name.sockets.items ++ socket ∷ [] = first_of (search rules, grind (arith, common_steps)) in
    (omega arith, grind (arith, common_steps, inv.1, pushed), one_more (λ each. each.descriptor) c.loop-name.sockets.items c.push.new.self.items socket 3 c.loop-name.name-index pushed inv.2 inv.0)
