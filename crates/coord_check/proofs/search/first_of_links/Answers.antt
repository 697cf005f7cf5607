-- Place by place.
use Rattle.std.proofs.Common.{sym, ap, ◌∙◌, arith}
use Rattle.coord_check.specs.Faults.{first, faults_from}
use Rattle.coord_check.proofs.Faults.{passed, met, all_passed}
use Rattle.coord_check.proofs.search.first_of_links.Goals as goal

pub returns-in-Some : goal.returns-in-Some
returns-in-Some c =
    sym (met (faults_from c.args.world.now) c.loop-number.number c.in-Some.fault (omega arith) (ap (λ u. first (faults_from c.args.world.now u)) (sym c.in_ok-a.ensures.value) ∙ sym c.in-Some.ensures)) ∙ c.loop-number.invariant

pub loop-number-preserved : goal.loop-number-preserved
loop-number-preserved c =
    passed (faults_from c.args.world.now) c.loop-number.number (omega arith) (ap (λ u. first (faults_from c.args.world.now u)) (sym c.in_ok-a.ensures.value) ∙ sym c.first_of_links_from.ensures ∙ c.in_default.is) ∙ c.loop-number.invariant

pub returns : goal.returns
returns c = sym (all_passed (faults_from c.args.world.now) c.loop-number.number (omega arith)) ∙ c.loop-number.invariant
