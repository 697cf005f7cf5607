use Rattle.std.proofs.Common.{◌++◌, ◌∷◌, ap, ◌∙◌, append_assoc}
use Rattle.std.proofs.lemmas.Result.{on_ok_weaker}
use Rattle.std.specs.Int.{w64, to_be_bytes}
use Rattle.coord_batch.specs.Fields.{message, node}
use Rattle.coord_batch.specs.Steps.{data_packet}
use Rattle.coord_batch.proofs.step_writing.put_data_packet.Goals as goal

pub returns-clause-spelled : goal.returns-clause-spelled
unfolding data_packet node
returns-clause-spelled c =
    let p = c.args.packet in
    let out = c.args.out.now.items in
    let front = p.from ∷ p.to ∷ to_be_bytes w64 p.inc in
    let number = to_be_bytes w64 p.number in
    let text = (message c.args.version 18446744073709551615).text p.msg in
    on_ok_weaker c.put_message.result
    (λ spelled. spelled ∙ ap (λ l. l ++ text) c.in_ok-put_address.ensures.spelled ∙ append_assoc (out ++ front) number text ∙ append_assoc out front (number ++ text))
    (c.put_message.ensures.spelled 18446744073709551615)
