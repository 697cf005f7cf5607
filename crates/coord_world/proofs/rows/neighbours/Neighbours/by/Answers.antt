use Rattle.std.proofs.Common.{◌≡◌, ◌+◌, ◌-◌, ◌<◌, ◌≤◌, ◌∷◌, length, drop, sym, ap, ◌∙◌, arith}
use Rattle.std.proofs.lemmas.List.{drop_all, drop_more, get_or-replicate, length-replicate, length-set}
use Rattle.coord_types.specs.NodeSet.{NodeSet, empty}
use Rattle.coord_world.specs.code.Assembly.{near_in, near_with}
use Rattle.coord_tables.specs.declared.links.LinkRow.{LinkRow}
use Rattle.coord_world.proofs.listings.Near.{both_noted, noted}
use Rattle.coord_world.proofs.rows.neighbours.Neighbours.by.Goals as goal

pub loop-link-init : goal.loop-link-init
loop-link-init c = rw c.new-sets.ensures (record {
  long = length-replicate 64 empty;
  near = λ u node. ap (λ s. near_with u s c.args.links.now) (get_or-replicate {A = NodeSet} 64 (u - 1) empty empty (let least = node.0 in let most = node.1 in omega arith));
})

pub loop-link-preserved : goal.loop-link-preserved
loop-link-preserved c =
    let r : LinkRow = c.link-item.result in
    let links = c.args.links.now in
    let sets = c.loop-link.sets in
    let n = c.loop-link.link-index in
    let within : n < length links = c.loop-link-test.true in
    let rest : drop n links ≡ r ∷ drop (n + 1) links = drop_more links n r within ∙ ap (λ x. x ∷ drop (n + 1) links) (sym c.link-item.is) in
    let two = c.note-in-loop-link.ensures.set ∙ ap (λ s. noted s r.b r.a) c.note.ensures.set in
    rw two (record {
      long = length-set (noted sets r.a r.b) (r.b - 1) _ ∙ length-set sets (r.a - 1) _ ∙ c.loop-link.invariant.long;
      near = λ u node. ap (λ s. near_with u s (drop (n + 1) links)) (both_noted sets r c.loop-link.invariant.long c.note.ensures.node c.note-in-loop-link.ensures.node u node)
          ∙ ap (near_with u (near_in sets u)) (sym rest) ∙ c.loop-link.invariant.near u node;
    })

pub returns : goal.returns
returns c = λ u node.
    let links = c.args.links.now in
    let done : length links ≤ c.loop-link.link-index = c.loop-link-test.false in
    ap (near_with u (near_in c.loop-link.sets u)) (sym (drop_all c.loop-link.link-index links done)) ∙ c.loop-link.invariant.near u node
