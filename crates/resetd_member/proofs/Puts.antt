-- The texts of a judgement are those that the specification requires.
use Rattle.std.proofs.Common.{◌≡◌, ℕ, List, Option, Result, Ok, Err, subst}
use Rattle.resetd_member.specs.declared.judge.Judged.{Judged}
use Rattle.resetd_member.specs.declared.judge.Judgement.{Judgement}
use Rattle.resetd_member.specs.declared.status.Fault.{Fault}
use Rattle.resetd_member.specs.declared.status.Fault.TheVariants.{OutOfMemory, NoRoom, BadLine, NoNode, BadStart, BadHistory, BadNumber, InHand, NoText}
use Rattle.resetd_member.specs.Judgement.{IsGivenTo, IsJudgement, IsPutOf}

put_of : (show : List ℕ) (node : ℕ) (file history : List ℕ) (work : Option ℕ) (j : Judgement) (room : List ℕ) (put : Result Judged Fault) → IsJudgement show node file history work j → IsPutOf j room put → IsGivenTo show node file history work room put
put_of show node file history work j room (Ok judged) is out = record { judgement = j; is = is; out = out }
put_of show node file history work j room (Err OutOfMemory) is out = tt
put_of show node file history work j room (Err NoRoom) is out = record { judgement = j; is = is; too_long = out }
put_of show node file history work j room (Err BadLine) is out = absurd out
put_of show node file history work j room (Err NoNode) is out = absurd out
put_of show node file history work j room (Err BadStart) is out = absurd out
put_of show node file history work j room (Err BadHistory) is out = absurd out
put_of show node file history work j room (Err BadNumber) is out = absurd out
put_of show node file history work j room (Err InHand) is out = absurd out
put_of show node file history work j room (Err NoText) is out = absurd out

-- if the texts are those of the bytes
pub given : (show show' : List ℕ) (node node' : ℕ) (file file' history : List ℕ) (work : Option ℕ) (j : Judgement) (room : List ℕ) (put : Result Judged Fault) → show' ≡ show → node' ≡ node → file' ≡ file → IsJudgement show' node' file' history work j → IsPutOf j room put → IsGivenTo show node file history work room put
given show show' node node' file file' history work j room put s n f is out =
    put_of show node file history work j room put
    (subst (λ x. IsJudgement x node file history work j) s (subst (λ x. IsJudgement show' x file history work j) n (subst (λ x. IsJudgement show' node' x history work j) f is)))
    out
