use Rattle.std.proofs.Common.{◌≡◌, rules, ap, subst, ◌∙◌}
use Rattle.std.specs.List.{list_all}
use Rattle.coord_view.specs.Shown.{Shown}
use Rattle.coord_look.specs.Reading.{AreConnected, is_quiet, is_through}
use Rattle.coord_look.proofs.reading.look_of.Goals as goal

pub returns-clause-read : goal.returns-clause-read
returns-clause-read c =
    let s = c.connected-reached.result in
    let row = c.in-Some.row.now in
    let view = c.args.view.now in
    let nodes = ap (λ (v : Shown). v.nodes) c.view.view_is in
    let links : c.deref-2.result.now ≡ view.links = c.deref-2.ensures.value ∙ ap (λ (v : Shown). v.links) c.view.view_is in
    let first : c.deref-3.result.now ≡ view.nodes = c.deref-3.ensures.value ∙ nodes in
    let second : c.deref-4.result.now ≡ view.nodes = c.deref-4.ensures.value ∙ nodes in
    let through : c.are_through.result ≡ list_all (is_through s) view.nodes = c.are_through.ensures ∙ ap (list_all (is_through s)) first in
    let quiet : c.are_quiet.result ≡ list_all (is_quiet s) view.nodes = c.are_quiet.ensures ∙ ap (list_all (is_quiet s)) second in (
      row,
      (
        search rules,
        record {
          reached = s;
          connected = subst (λ ls. AreConnected ls c.args.node s) links c.connected-reached.ensures;
          row_is = λ i. record { epoch = row.epoch; confirmed = row.confirmed; through = through i; quiet = quiet i };
          party_is = search rules;
        },
      ),
    )
