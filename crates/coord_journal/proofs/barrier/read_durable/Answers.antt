use Rattle.std.proofs.Common.{◌≡◌, ◌∙◌, List, ℕ, Result, length, take, drop, ap, sym, subst, arith, vec_len}
use Rattle.std.proofs.lemmas.List.{take_all, take_at}
use Rattle.coord_disk.specs.Model.Calls.{HasRead, Measured, Measures, Reads, Synced, Syncs}
use Rattle.coord_disk.specs.Model.DiskModel.{DiskModel, IsModel}
use Rattle.coord_disk.specs.Model.Present.{Present, FitsNoMore, IsImage}
use Rattle.coord_disk.proofs.MomentLemmas.{Quiet, and_quiet, at_first}
use Rattle.coord_journal.proofs.barrier.read_durable.Goals as goal

-- a call that leaves the disk unchanged adds nothing
same : (p q : Present) → q ≡ p → FitsNoMore p q
same p q is image now = subst (λ r. IsImage r image) is now

after_sync : {D T E : Type 0} (m : DiskModel D) → IsModel m → {disk new : D} {r : Result T E} → Syncs m disk new r → Quiet m disk new
after_sync m laws {disk = disk} {new = new} {r = r} syncs = and_quiet m {P = Synced r} disk disk new (at_first m laws disk) syncs (λ p q does. does.crash)

after_len : {D E : Type 0} (m : DiskModel D) {disk mid new : D} {n : Result ℕ E} → Quiet m disk mid → Measures m mid new n → Quiet m disk new
after_len m {disk = disk} {mid = mid} {new = new} {n = n} quiet measures = and_quiet m {P = Measured n} disk mid new quiet measures (λ p q does. same p q does.same)

after_read : {D T E : Type 0} (m : DiskModel D) {disk mid new : D} {at : ℕ} {buffer filled : List ℕ} {r : Result T E} → Quiet m disk mid → Reads m at buffer filled mid new r → Quiet m disk new
after_read m {disk = disk} {mid = mid} {new = new} {at = at} {buffer = buffer} {filled = filled} {r = r} quiet reads = and_quiet m {P = HasRead at buffer filled r} disk mid new quiet reads (λ p q does. same p q does.same)

pub returns-in_err-sync-clause-any_moment : goal.returns-in_err-sync-clause-any_moment
returns-in_err-sync-clause-any_moment g c = (after_sync g.D.Disk.model g.met.D.Disk.laws c.sync.ensures.call).any_moment

pub returns-in_err-size-clause-any_moment : goal.returns-in_err-size-clause-any_moment
returns-in_err-size-clause-any_moment g c =
    let m = g.D.Disk.model in
    (after_len m (after_sync m g.met.D.Disk.laws c.sync.ensures.call) c.len.ensures.call).any_moment

pub returns-in_err-resize-clause-any_moment : goal.returns-in_err-resize-clause-any_moment
returns-in_err-resize-clause-any_moment g c =
    let m = g.D.Disk.model in
    (after_len m (after_sync m g.met.D.Disk.laws c.sync.ensures.call) c.len.ensures.call).any_moment

pub returns-in_err-read-clause-any_moment : goal.returns-in_err-read-clause-any_moment
returns-in_err-read-clause-any_moment g c =
    let m = g.D.Disk.model in
    (after_read m (after_len m (after_sync m g.met.D.Disk.laws c.sync.ensures.call) c.len.ensures.call) c.read.ensures.call).any_moment

pub returns-clause-any_moment : goal.returns-clause-any_moment
returns-clause-any_moment g c =
    let m = g.D.Disk.model in
    (after_read m (after_len m (after_sync m g.met.D.Disk.laws c.sync.ensures.call) c.len.ensures.call) c.read.ensures.call).any_moment

pub returns-clause-bytes : goal.returns-clause-bytes
returns-clause-bytes g c k =
    let k1 = c.sync.ensures.call.model ∙ k in
    let k2 = c.len.ensures.call.model ∙ k1 in
    let bytes = (g.D.Disk.model.present c.args.disk.now).read in
    let settled = ap (λ p. p.read) (c.in_ok-sync.ensures.call.change k).durable in
    let now_read = ap (λ p. p.read) (c.len.ensures.call.change k1).same ∙ settled in
    let size : vec_len c.resize.new.self ≡ length bytes = c.in_ok-resize.ensures.len ∙ (c.in_ok-size.ensures.call.change k1).value ∙ ap length settled in
    let room : length c.deref_mut.result.now ≡ length bytes = c.deref_mut.ensures.len ∙ size in
    let buf : c.read.new.buf ≡ bytes =
    (c.in_ok-read.ensures.call.change k2).value
    ∙ ap (λ (l : List ℕ). take (length c.deref_mut.result.now) l) now_read
    ∙ take_all (length c.deref_mut.result.now) bytes (omega (arith, room)) in
    take_at c.read.new.buf (drop (length c.read.new.buf) c.resize.new.self.items) c.resize.new.self.len (ap length buf ∙ sym size) ∙ buf
