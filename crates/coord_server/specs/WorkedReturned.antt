-- Worked examples of the steps that answers name.
use Rattle.std.specs.List.{AllByRecursion}
use Rattle.std.specs.Prelude.{ℕ, List, [], ◌∷◌, codes}
use Rattle.coord_types.specs.declared.steps.Kind.TheVariants.{Started}
use Rattle.coord_admin.specs.declared.answer.Answer.{Answer}
use Rattle.coord_admin.specs.declared.answer.Answer.TheVariants.{Closed, Replied, Shown}
use Rattle.coord_server.specs.Returned.{AnswersUpTo, WritesUpTo}

-- the reply to the third step, its line, and a view of a world with three settled steps of five accepted ones
abbrev pub third_reply : Answer
third_reply = Replied (record { step = 3; kind = Started })

abbrev pub third_line : List ℕ
third_line = codes "{\"kind\":\"started\",\"step\":3}\n"

abbrev pub third_world : Answer
third_world = Shown (record { accepted = 5; settled = 3; nodes = []; links = [] })

-- These answers name the third step, and no later one. The reply's line, read alone, does too.
pub record ReturnUpToThird : Type 0 where
  pub returned : AllByRecursion (AnswersUpTo 3) (third_reply ∷ third_world ∷ Closed ∷ [])
  pub written : WritesUpTo 3 third_line
  pub replied_third : ¬ AnswersUpTo 2 third_reply
  pub shown_third : ¬ AnswersUpTo 2 third_world
  pub written_third : ¬ WritesUpTo 2 third_line
