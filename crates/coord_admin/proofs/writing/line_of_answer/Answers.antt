use Rattle.std.proofs.Common.{refl}
use Rattle.serde_json.proofs.OnLiterals.{serde_json_on_literals}
use Rattle.coord_admin.specs.declared.answer.Answer.TheVariants.{Replied, Refused, Shown, Resent, Closed, Faulted}
use Rattle.coord_admin.proofs.Stream.{returned-made, returned-fixed}
use Rattle.coord_admin.proofs.writing.line_of_answer.Goals as goal

pub returns-in-Replied : goal.returns-in-Replied
returns-in-Replied c = returned-made c.args.answer.now (Replied c.in-Replied.reply) c.replied.result _ c.in-Replied.is refl c.replied.ensures c.made.ensures

pub returns-in-Refused : goal.returns-in-Refused
returns-in-Refused c = returned-made c.args.answer.now (Refused c.in-Refused.refusal) c.refused.result _ c.in-Refused.is refl c.refused.ensures c.made-in-Refused.ensures

pub returns-in-Shown : goal.returns-in-Shown
returns-in-Shown c = returned-made c.args.answer.now (Shown c.in-Shown.view) c.shown.result _ c.in-Shown.is refl c.shown.ensures c.made-in-Shown.ensures

pub returns-in-Resent : goal.returns-in-Resent
returns-in-Resent c = returned-made c.args.answer.now (Resent c.in-Resent.count) c.resent.result _ c.in-Resent.is refl c.resent.ensures c.made-in-Resent.ensures

pub returns-in-Closed : goal.returns-in-Closed
unfolding serde_json_on_literals
returns-in-Closed c = returned-fixed c.args.answer.now Closed _ c.in-Closed.is refl

pub returns-in-Faulted : goal.returns-in-Faulted
returns-in-Faulted c = returned-fixed c.args.answer.now (Faulted c.in-Faulted.fault) _ c.in-Faulted.is c.line.ensures
