-- The line of a reply to the third step names three steps, and no text of two is that line.
use Rattle.std.proofs.Common.{◌≡◌, ◌⊎◌, ℕ, zero, suc, ◌≤◌, List, [], ◌∷◌, ◌++◌, get_or, inl, inr, refl, sym, ap, ◌∙◌, append_assoc, append-nil, arith}
use Rattle.std.specs.List.{AllByRecursion}
use Rattle.std.specs.Fmt.{digits}
use Rattle.serde_json.proofs.OnLiterals.{serde_json_on_literals}
use Rattle.coord_types.specs.declared.steps.Kind.{Kind}
use Rattle.coord_types.specs.declared.steps.Kind.TheVariants.{Done, Started, Finished, Joined, Taken, Cleared}
use Rattle.coord_lines.specs.Written.{IsFirstPart}
use Rattle.coord_admin.specs.Replies.{reply_line, reply_lines}
use Rattle.coord_admin.specs.declared.answer.Answer.{Answer}
use Rattle.coord_admin.specs.declared.answer.Answer.TheVariants as answer
use Rattle.coord_server.specs.Returned.{AnswersUpTo}
use Rattle.coord_server.specs.WorkedReturned.{ReturnUpToThird, third_line, third_reply}

line_is : third_line ≡ reply_lines (third_reply ∷ []) ++ []
unfolding serde_json_on_literals digits
line_is = refl

-- A text that begins with the line of another answer than that has another character at some place: which one is named
replied : (step : ℕ) (kind : Kind) → step ≤ 2 → (more rest : List ℕ) → reply_line (answer.Replied (record { step = step; kind = kind })) ++ more ≡ third_line ++ rest → ⊥
unfolding serde_json_on_literals digits
replied step Done le more rest same = let at : 100 ≡ 115 = ap (λ l. get_or l 9 0) same in omega (arith, at)
replied step Finished le more rest same = let at : 102 ≡ 115 = ap (λ l. get_or l 9 0) same in omega (arith, at)
replied step Joined le more rest same = let at : 106 ≡ 115 = ap (λ l. get_or l 9 0) same in omega (arith, at)
replied step Taken le more rest same = let at : 116 ≡ 115 = ap (λ l. get_or l 9 0) same in omega (arith, at)
replied step Cleared le more rest same = let at : 99 ≡ 115 = ap (λ l. get_or l 9 0) same in omega (arith, at)
replied zero Started le more rest same = let at : 48 ≡ 51 = ap (λ l. get_or l 25 0) same in omega (arith, at)
replied (suc zero) Started le more rest same = let at : 49 ≡ 51 = ap (λ l. get_or l 25 0) same in omega (arith, at)
replied (suc (suc zero)) Started le more rest same = let at : 50 ≡ 51 = ap (λ l. get_or l 25 0) same in omega (arith, at)
replied (suc (suc (suc n))) Started le more rest same = omega (arith, le)

other_line : (a : Answer) → AnswersUpTo 2 a → (more rest : List ℕ) → reply_line a ++ more ≡ third_line ++ rest → ⊥
unfolding serde_json_on_literals digits
other_line (answer.Replied r) up more rest same = replied r.step r.kind up more rest same
other_line (answer.Refused r) up more rest same = let at : 110 ≡ 107 = ap (λ l. get_or l 2 0) same in omega (arith, at)
other_line (answer.Shown v) up more rest same = let at : 97 ≡ 107 = ap (λ l. get_or l 2 0) same in omega (arith, at)
other_line (answer.Resent n) up more rest same = let at : 99 ≡ 107 = ap (λ l. get_or l 2 0) same in omega (arith, at)
other_line answer.Closed up more rest same = let at : 99 ≡ 115 = ap (λ l. get_or l 9 0) same in omega (arith, at)
other_line (answer.Faulted f) up more rest same = let at : 102 ≡ 107 = ap (λ l. get_or l 2 0) same in omega (arith, at)

other_text : (returned : List Answer) (part : List ℕ) → AllByRecursion (AnswersUpTo 2) returned → (part ≡ []) ⊎ ((last : Answer) × AnswersUpTo 2 last × IsFirstPart part (reply_line last)) → third_line ≡ reply_lines returned ++ part → ⊥
other_text [] part up (inl none) is = cc
other_text [] part up (inr at) is = other_line at.0 at.1 [] at.2.0 (append-nil (reply_line at.0) ∙ at.2.1 ∙ ap (λ p. p ++ at.2.0) (sym is))
other_text (a ∷ returned) part up broken is = other_line a up.0 (reply_lines returned ++ part) [] (sym (append_assoc (reply_line a) (reply_lines returned) part) ∙ sym is ∙ sym (append-nil third_line))

pub return_up_to_third : ReturnUpToThird
return_up_to_third = record {
  returned = (omega arith, (omega arith, (tt, tt)));
  written = record { returned = third_reply ∷ []; up_to = (omega arith, tt); part = []; broken = inl refl; text_is = line_is };
  replied_third = λ le. omega (arith, le);
  shown_third = λ le. omega (arith, le);
  written_third = λ is. other_text is.returned is.part is.up_to is.broken is.text_is;
}
