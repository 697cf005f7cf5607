use Rattle.std.proofs.Common.{◌≡◌, true, [], ◌∷◌, length, Option, Some, nat_cmp, rules, sym, subst, ◌∙◌}
use Rattle.std.proofs.lemmas.List.Elements.{All-append}
use Rattle.std.proofs.lemmas.Map.Entries.{btree_map_get_place}
use Rattle.std.proofs.lemmas.Map.Iter.{iter_end, iter_turn}
use Rattle.std.specs.BTreeMap.{get}
use Rattle.std.specs.Cmp.{nat_cmp_total}
use Rattle.std.specs.Duration.{as_nanos}
use Rattle.std.specs.Map.Iter.{deref_pair}
use Rattle.std.specs.Option.{IsSome}
use Rattle.proxy_audit.specs.Quotas.{Quota, is_due, quota_in}
use Rattle.proxy_audit.proofs.Due.{IsNotDue, none_due, one}
use Rattle.proxy_audit.proofs.quotas.Quotas.due_role.Goals as goal

pub returns-then-is_due-clause-some : goal.returns-then-is_due-clause-some
returns-then-is_due-clause-some c =
    let all = c.args.self.now.all in
    let role = c.in-Some.role.now in
    let given = c.into_iter-role-iterator.ensures.into_iter_gives in
    let turn = iter_turn deref_pair all.entries c.loop-role.yielded c.into_iter-role-iterator.result c.loop-role.role-iterator c.next.new.self c.next.result given.0 c.loop-role.yielded_by
    (c.in-Some.role, c.in-Some.quota) c.in-Some.is c.next.ensures.steps in
    let found : get nat_cmp c.args.self.now.all c.in-Some.role.now ≡ Some c.in-Some.quota.now =
    btree_map_get_place nat_cmp_total all (length c.loop-role.yielded) role c.in-Some.quota.now given.5 turn.1 in
    let P : Option Quota → Type 0 = λ o. IsSome o × (is_due (as_nanos c.args.now) (quota_in o) ≡ true) in
    let holds : P (Some c.in-Some.quota.now) = (search rules, sym c.is_due.ensures ∙ c.if-is_due.true) in
    subst P (sym found) holds

pub loop-role-preserved : goal.loop-role-preserved
loop-role-preserved c =
    All-append (IsNotDue (as_nanos c.args.now)) c.loop-role.yielded ((c.in-Some.role, c.in-Some.quota) ∷ []) c.loop-role.invariant
    (one (IsNotDue (as_nanos c.args.now)) (c.in-Some.role, c.in-Some.quota) (sym c.is_due.ensures ∙ c.if-is_due.false))

pub returns-clause-none : goal.returns-clause-none
returns-clause-none c = λ _.
    let all = c.args.self.now.all in
    let given = c.into_iter-role-iterator.ensures.into_iter_gives in
    let ended = iter_end deref_pair all.entries c.loop-role.yielded c.into_iter-role-iterator.result c.loop-role.role-iterator c.next.new.self c.next.result given.0 c.loop-role.yielded_by c.in-None.is c.next.ensures.steps in
    none_due (as_nanos c.args.now) c.loop-role.yielded all.entries ended.0 c.loop-role.invariant
