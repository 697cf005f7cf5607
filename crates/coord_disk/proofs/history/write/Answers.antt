use Rattle.std.proofs.Common.{◌≡◌, ◌∙◌, List, [], ◌∷◌, ◌++◌, ap, refl, rules}
use Rattle.coord_disk.specs.declared.history.Entry.{Entry}
use Rattle.coord_disk.specs.declared.history.Entry.TheVariants.{Wrote}
use Rattle.coord_disk.proofs.Replays.{write_led, write_adds}
use Rattle.coord_disk.proofs.history.write.Goals as goal

pub returns-clause-led : goal.returns-clause-led
returns-clause-led c =
    let recorded = c.in_ok-recorded.recorded in
    let same : recorded.items ≡ c.args.bytes.now = search rules in
    let entries = c.push_reserved.ensures.items ∙ ap (λ (l : List Entry). l ++ Wrote c.args.at recorded ∷ []) c.reserve.ensures.items in
    write_led c.args.history.now _ c.args.read.now.items c.overwrite.new.bytes.items c.args.bytes.now c.args.at recorded c.requires.led refl entries refl same c.in_ok-overwrite.ensures.ok

pub returns-clause-ok : goal.returns-clause-ok
returns-clause-ok c =
    let old = c.args.history.now in
    let recorded = c.in_ok-recorded.recorded in
    let same : recorded.items ≡ c.args.bytes.now = search rules in
    let entries = c.push_reserved.ensures.items ∙ ap (λ (l : List Entry). l ++ Wrote c.args.at recorded ∷ []) c.reserve.ensures.items in
    write_adds old (record { first = old.first; synced = old.synced; entries = c.push_reserved.new.self }) c.args.read.now.items c.overwrite.new.bytes.items c.args.bytes.now c.args.at recorded c.requires.led refl entries refl same c.in_ok-overwrite.ensures.ok
