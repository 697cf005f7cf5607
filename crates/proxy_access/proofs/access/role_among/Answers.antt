use Rattle.std.proofs.Common.{◌≡◌, ◌≢◌, Some, ap, ◌∙◌, arith, rules}
use Rattle.std.proofs.lemmas.Grind.{common_steps}
use Rattle.std.specs.Prelude.{string_bytes}
use Rattle.proxy_access.proofs.Roles.{absent_on, no_role, role_of_item}
use Rattle.proxy_access.proofs.access.role_among.Goals as goal

pub returns-then-eq-clause-some : goal.returns-then-eq-clause-some
returns-then-eq-clause-some c =
    let same : string_bytes c.index-principals-place.result ≡ c.args.principal.now = first_of (search rules, grind (arith, common_steps)) in
    role_of_item c.args.principals.now c.loop-place.place c.index-principals-place.result (omega arith) c.index-principals-place.is ∙ ap Some same

pub loop-place-preserved : goal.loop-place-preserved
loop-place-preserved c =
    let other : string_bytes c.index-principals-place.result ≢ c.args.principal.now = first_of (search rules, grind (arith, common_steps)) in
    absent_on c.args.principals.now c.args.principal.now c.loop-place.place c.index-principals-place.result (omega arith) c.index-principals-place.is other c.loop-place.invariant

pub returns-clause-none : goal.returns-clause-none
returns-clause-none c = no_role c.args.principals.now c.args.principal.now (λ i within. c.loop-place.invariant i (omega (arith, within)))
