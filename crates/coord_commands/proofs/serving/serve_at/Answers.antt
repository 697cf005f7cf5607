use Rattle.std.proofs.Common.{◌≡◌, Err, IfOk, Ok, ap, false, inl, rules, subst, sym, ◌∙◌}
use Rattle.std.proofs.KnownBytes.{Keeps-refl}
use Rattle.coord_engine.specs.Released.{GivesSignal}
use Rattle.coord_store.specs.Kept.{has_stopped}
use Rattle.coord_commands.proofs.Endings.{err_last}
use Rattle.coord_commands.proofs.Opening.{ended, not_begun, not_bound, served_whole}
use Rattle.coord_commands.specs.Faults.{fault_of_server}
use Rattle.coord_commands.specs.Serving.{EndsServing, ServedWithOutput}
use Rattle.coord_commands.proofs.serving.serve_at.Goals as goal

-- there was no memory for a server to begin with
pub returns-in-Err-served-clause-fault : goal.returns-in-Err-served-clause-fault
returns-in-Err-served-clause-fault g c =
    let old = g.W.Write.contents c.args.output.now in
    let new = g.W.Write.contents c.serve_open-served.new.output in
    not_begun g.F.Disk.Disk.model (g.F.Folder.holds c.args.folder.now c.args.file.now) (g.F.Folder.holds c.close-in-Err-served.new.self c.args.file.now) old new c.in_ok-store.store c.in-Err-served.store c.into_disk.result c.in_ok-store.ensures.opened (search rules) (search rules) (search rules) (search rules)

pub returns-in_err-store-clause-fault : goal.returns-in_err-store-clause-fault
returns-in_err-store-clause-fault g c =
    let before = g.F.Folder.holds c.args.folder.now c.args.file.now in
    let after = g.F.Folder.holds c.opened.new.folder c.args.file.now in
    let old = g.W.Write.contents c.args.output.now in
    let fault = c.in_err-store.field-0.0 in
    let answered : c.from_residual.result ≡ Err fault = search rules in
    err_last (EndsServing g.F.Disk.Disk.model before after old old) c.from_residual.result fault answered (inl (inl c.in_err-store.ensures.fault, Keeps-refl old))

pub returns-in-Err-clause-fault : goal.returns-in-Err-clause-fault
returns-in-Err-clause-fault g c =
    not_bound g.F.Disk.Disk.model (g.F.Folder.holds c.args.folder.now c.args.file.now) (g.F.Folder.holds c.close-in-Err.new.self c.args.file.now) (g.W.Write.contents c.args.output.now) c.in_ok-store.store c.into_disk-in-Err.result c.in_ok-store.ensures.opened c.into_disk-in-Err.ensures.disk c.close-in-Err.ensures

-- a line has closed it
pub returns-in-Ok-Ok-clause-served : goal.returns-in-Ok-Ok-clause-served
returns-in-Ok-Ok-clause-served g c =
    let m = g.F.Disk.Disk.model in
    let store = c.in_ok-store.store in
    let old = g.W.Write.contents c.args.output.now in
    let new = g.W.Write.contents c.serve_open-served.new.output in
    let answered = c.serve_open-served.ensures in
    let is = c.in-Ok-Ok.is ∙ ap (λ v. Ok v) c.in-Ok-Ok.field-0-is in
    served_whole m (g.F.Folder.holds c.args.folder.now c.args.file.now) (g.F.Folder.holds c.close.new.self c.args.file.now) old new store c.in-Ok-Ok.closed c.left.result c.in_ok-store.ensures.opened (subst (λ r. IfOk r (ServedWithOutput m (GivesSignal store.world) store old new)) is answered.served)
    (c.left.ensures.bytes (subst (λ r. IfOk r (λ answered. IfOk answered (λ closed. has_stopped closed.store ≡ false))) is answered.going)) c.left.ensures.disk c.close.ensures

-- a server that has ended with a fault
pub returns-in-Ok-Err-clause-fault : goal.returns-in-Ok-Err-clause-fault
returns-in-Ok-Err-clause-fault g c =
    let m = g.F.Disk.Disk.model in
    let store = c.in_ok-store.store in
    let before = g.F.Folder.holds c.args.folder.now c.args.file.now in
    let after = g.F.Folder.holds c.close-in-Ok-Err.new.self c.args.file.now in
    let old = g.W.Write.contents c.args.output.now in
    let new = g.W.Write.contents c.serve_open-served.new.output in
    let fault = c.in-Ok-Err.fault in
    let left = c.left-in-Ok-Err in
    let answered : c.into.result ≡ fault_of_server fault = search rules in
    subst (EndsServing m before after old new) (sym answered)
    (ended m before after old new store (fault, c.in-Ok-Err.closed) left.result c.in_ok-store.ensures.opened (subst (λ r. IfOk r (ServedWithOutput m (GivesSignal store.world) store old new)) (c.in-Ok-Err.is ∙ ap (λ v. Ok v) c.in-Ok-Err.field-0-is) c.serve_open-served.ensures.served) left.ensures.disk c.close-in-Ok-Err.ensures)
