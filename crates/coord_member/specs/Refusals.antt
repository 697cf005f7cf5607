-- Two members that refuse each other's messages: they talk in different runs, although both see the same party.
use Rattle.std.specs.Prelude.{◌≡◌, false, List, Some}
use Rattle.coord_member.specs.declared.view.Entry.{Entry}
use Rattle.coord_member.specs.declared.view.Row.{Row}
use Rattle.coord_member.specs.declared.rule.Due.{Due}
use Rattle.coord_member.specs.declared.rule.Due.TheVariants.{Talk, Reset}
use Rattle.coord_member.specs.Rule.{Kept, due, due_when_refused, kept_after, same_party, tag_for}

-- the due action of a member that rejected a message and looked again; `own` is the member's tag, `tag` the message's tag, and
-- `shown` the party that the message's sender saw
abbrev pub due_at_refusal : Kept → Row → List Entry → List Entry → List Entry → List Entry → Due
due_at_refusal kept row now own tag shown = due_when_refused (due kept row now) (same_party own tag) (same_party now shown)

-- the member talks, with this tag
pub record TalksBy (kept : Kept) (row : Row) (now tag : List Entry) : Type 0 where
  pub talks : due kept row now ≡ Talk
  pub by : tag_for (kept_after kept row now) Talk ≡ Some tag

-- both members ask for a reset, so they do not wait for each other forever
abbrev pub RefusersAsk : Type 0
RefusersAsk = (k l : Kept) (r s : Row) (now own other : List Entry) → TalksBy k r now own → TalksBy l s now other → same_party own other ≡ false →
    (due_at_refusal k r now own other now ≡ Reset) × (due_at_refusal l s now other own now ≡ Reset)
