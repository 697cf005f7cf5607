use Rattle.std.proofs.Common.{◌≡◌, find, Some, rules, ap, subst, sym, ◌∙◌}
use Rattle.coord_types.specs.NodeSet.{insert}
use Rattle.coord_look.specs.Reading.{crosses}
use Rattle.coord_look.proofs.Reached.{Reaches, reaches_itself, reaches_more}
use Rattle.coord_look.proofs.reach.connected.Goals as goal

pub loop-link-init : goal.loop-link-init
loop-link-init c = subst (Reaches c.args.links.now c.args.node) (sym (c.with-reached.ensures ∙ ap (λ s. insert s c.args.node) c.new.ensures)) (reaches_itself c.args.links.now c.args.node)

pub loop-link-preserved : goal.loop-link-preserved
loop-link-preserved c =
    let found : find (crosses c.loop-link.reached) c.args.links.now ≡ Some c.in-Some.link.now = search rules in
    let more = reaches_more c.args.links.now c.args.node c.loop-link.reached c.in-Some.link.now found c.loop-link.invariant in
    subst (Reaches c.args.links.now c.args.node) (sym (c.with-reached-in-Some.ensures ∙ ap (λ s. insert s c.in-Some.link.now.b) c.with.ensures)) more
