-- Members that refuse each other ask for a reset.
use Rattle.std.proofs.Common.{◌≡◌, true, false, Bool, List, refl, ap, ◌∙◌}
use Rattle.coord_member.specs.declared.view.Entry.{Entry}
use Rattle.coord_member.specs.declared.rule.Due.{Due}
use Rattle.coord_member.specs.declared.rule.Due.TheVariants.{Talk, Reset}
use Rattle.coord_member.specs.Rule.{due, due_when_refused, same_party}
use Rattle.coord_member.specs.Refusals.{RefusersAsk}
use Rattle.coord_member.proofs.Holding.{same_party_itself, same_parties}

asks : (d : Due) (same_tag same_view : Bool) → d ≡ Talk → same_tag ≡ false → same_view ≡ true → due_when_refused d same_tag same_view ≡ Reset
asks d same_tag same_view talks other same = ap (λ d. due_when_refused d same_tag same_view) talks ∙ (ap (λ b. due_when_refused Talk b same_view) other ∙ ap (λ b. due_when_refused Talk false b) same)

-- the other way round
turned : (p q : List Entry) (b : Bool) → same_party p q ≡ false → same_party q p ≡ b → b ≡ false
turned p q false e f = refl
turned p q true e f = absurd (let same : q ≡ p = same_parties q p f in let itself : same_party p q ≡ true = ap (λ x. same_party p x) same ∙ same_party_itself p in cc)

pub refusers_ask : RefusersAsk
refusers_ask k l r s now own other talks_k talks_l e = (
  asks (due k r now) (same_party own other) (same_party now now) talks_k.talks e (same_party_itself now),
  asks (due l s now) (same_party other own) (same_party now now) talks_l.talks (turned own other (same_party other own) e refl) (same_party_itself now),
)
