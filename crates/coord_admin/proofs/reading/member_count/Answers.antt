use Rattle.std.proofs.Common.{sym, ap, ◌∙◌}
use Rattle.serde_json.proofs.Views.{members_len-members_view}
use Rattle.coord_admin.specs.Requests.{len_if}
use Rattle.coord_admin.proofs.reading.member_count.Goals as goal

pub returns-in-Some : goal.returns-in-Some
returns-in-Some c = c.len.ensures.len ∙ sym (members_len-members_view c.in-Some.members.now.entries) ∙ ap len_if c.in-Some.ensures
