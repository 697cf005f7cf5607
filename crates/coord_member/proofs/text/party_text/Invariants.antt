use Rattle.std.proofs.Common.{◌≡◌, take, string_bytes}
use Rattle.coord_member.specs.Text.{party_text}
use Rattle.coord_member.proofs.text.party_text.Given as goal

abbrev pub invariant-loop-entry : goal.invariant-loop-entry
invariant-loop-entry l = string_bytes l.text ≡ party_text (take l.entry-index l.party)
