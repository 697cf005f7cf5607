use Rattle.resetd_member.proofs.Puts.{given}
use Rattle.resetd_member.proofs.judge.judge_into.Goals as goal

pub returns : goal.returns
returns c =
    given
    c.args.show.now
    c.in_ok-show.show.now
    c.args.node
    c.in-Some.node
    c.args.file.now
    c.in_ok-file.file.now
    c.args.history.now
    c.args.work
    c.in_ok-judgement.judgement
    c.put_texts.new.out
    c.put_texts.result
    c.in_ok-show.ensures
    c.in-Some.ensures.value
    c.in_ok-file.ensures
    c.in_ok-judgement.ensures
    c.put_texts.ensures
