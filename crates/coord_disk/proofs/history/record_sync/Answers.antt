use Rattle.std.proofs.Common.{◌≡◌, ◌∙◌, ℕ, ◌-◌, List, [], ◌∷◌, ◌++◌, ap, drop, length, refl, rules, take}
use Rattle.std.specs.Vec.{with_items}
use Rattle.std.proofs.lemmas.List.{take_rest, with_items_is}
use Rattle.coord_disk.specs.declared.history.Entry.{Entry}
use Rattle.coord_disk.specs.declared.history.Entry.TheVariants.{Synced}
use Rattle.coord_disk.proofs.Replays.{is_ready, sync_led, sync_adds}
use Rattle.coord_disk.proofs.history.record_sync.Goals as goal

settled : (c : goal.After-push_reserved) → (with_items c.extend_from_slice.new.self c.copy_written.new.synced).items ≡ c.args.read.now.items
settled c =
    let old = c.args.history.now in
    let following = c.deref.result.now in
    let start : c.len-before.result ≡ length old.synced.items = search rules in
    let tail = take (length following - c.len-before.result) (drop c.len-before.result following) in
    let tail_is = take_rest following c.len-before.result ∙ ap (λ (n : ℕ). drop n following) start ∙ ap (λ (l : List ℕ). drop (length old.synced.items) l) c.deref.ensures.value in
    let synced_is : c.deref_mut.result.now ≡ old.synced.items ++ tail = search rules in
    let ready = is_ready old c.args.read.now.items c.deref-3.result.now tail c.deref_mut.result.now c.deref-2.result.now c.requires.led c.deref-3.ensures.value (c.deref-2.ensures.value ∙ c.reserve.ensures.items) tail_is synced_is in
    with_items_is c.extend_from_slice.new.self c.copy_written.new.synced (c.copy_written.auto.synced ∙ c.deref_mut.ensures.len) ∙ c.copy_written.ensures old.first.items ready ∙ c.deref-3.ensures.value

pub returns-clause-led : goal.returns-clause-led
returns-clause-led c =
    let entries = c.push_reserved.ensures.items ∙ ap (λ (l : List Entry). l ++ Synced ∷ []) c.reserve.ensures.items in
    sync_led c.args.history.now _ c.args.read.now.items c.requires.led refl entries (settled c)

pub returns-clause-ok : goal.returns-clause-ok
returns-clause-ok c =
    let old = c.args.history.now in
    let entries = c.push_reserved.ensures.items ∙ ap (λ (l : List Entry). l ++ Synced ∷ []) c.reserve.ensures.items in
    sync_adds old (record { first = old.first; synced = with_items c.extend_from_slice.new.self c.copy_written.new.synced; entries = c.push_reserved.new.self }) c.args.read.now.items c.requires.led refl entries (settled c)
