use Rattle.std.proofs.Common.{◌≡◌, ◌≤◌, Some, length, refl, rules, ap, ◌∙◌, inl, inr, string_bytes}
use Rattle.std.proofs.lemmas.Map.Text.{btree_map_updates_text}
use Rattle.std.specs.BTreeMap.{get_by_text}
use Rattle.std.specs.Map.{update}
use Rattle.std.specs.Str.{bytes_eq}
use Rattle.proxy_audit.specs.Tallies.{count_of, one_more}
use Rattle.proxy_audit.specs.declared.tally.TheConstants.{MOST_SERIES}
use Rattle.proxy_audit.proofs.tally.count_one.Goals as goal

pub returns-then-len-ge-MOST_SERIES : goal.returns-then-len-ge-MOST_SERIES
returns-then-len-ge-MOST_SERIES c =
    let none : count_of c.args.answers.now (string_bytes c.args.labels) ≡ 0 = search rules in
    let full : MOST_SERIES ≤ length c.args.answers.now.entries = search rules in
    inr (refl, none, full)

pub returns : goal.returns
returns c =
    let sets = btree_map_updates_text (string_bytes c.args.labels) c.args.answers.now c.insert.new.self _ c.in_ok-insert.ensures.updates in
    let next : c.saturating_add.result ≡ one_more (count_of c.args.answers.now (string_bytes c.args.labels)) = search rules in
    inl (λ other. sets other ∙ ap (λ n. update bytes_eq (get_by_text c.args.answers.now) (string_bytes c.args.labels) (Some n) other) next)
