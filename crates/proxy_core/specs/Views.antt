-- When a line that needs a view is sent.
use Rattle.std.specs.Prelude.{◌≡◌, ℕ, ◌+◌, true, List, Contains}
use Rattle.proxy_core.specs.Rules.{Rules}
use Rattle.proxy_core.specs.Run.{Request, Sent, Answer, Run}

-- the server's answer to the line that was written just before `s` permits `line`, and it was heard before `s` was written
pub record IsPermitted (r : Rules) (answers : List Answer) (s : Sent) (line : List ℕ) : Type 0 where
  pub view : Answer
  pub was_heard : Contains answers view
  pub just_before : view.sent.serial + 1 ≡ s.serial
  pub in_time : view.heard ≡ s.serial
  pub permits : r.permits view.answer line ≡ true

-- each line sent for a request that needs a view is permitted by the answer to the line sent just before it
abbrev pub FollowViews : Rules → Run → Type 0
FollowViews r w = (s : Sent) (ask : Request) → Contains w.sent s → Contains w.requests ask → ask.place ≡ s.place → r.needs_view ask.line ≡ true → IsPermitted r w.answers s ask.line
