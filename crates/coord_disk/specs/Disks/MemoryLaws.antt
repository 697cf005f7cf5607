-- Laws that derive the state of a disk in memory from its history.
use Rattle.std.specs.Prelude.{ℕ, ◌≤◌, List, length, Option, Some, None, refl}
use Rattle.std.specs.Option.{ForSome}
use Rattle.std.proofs.Common.{arith, subst, sym}
use Rattle.std.proofs.lemmas.List.{take_all}
use Rattle.coord_disk.specs.Disks.History.{Past, LedTo, LeftSince, past_with, present_after, recorded, replayed}
use Rattle.coord_disk.specs.Model.DiskModel.{IsModel}
use Rattle.coord_disk.specs.Model.Present.{IsImage, whole}
use Rattle.coord_disk.specs.declared.history.Entry.{Entry}
use Rattle.coord_disk.specs.declared.history.History.{History}

counts_now : (past : Past) (t : ℕ) (image : List ℕ) → t ≤ length past.entries → IsImage (present_after past) image → LeftSince past t image
counts_now past t image le now =
    (length past.entries, le, omega arith, subst (λ (l : List Entry). IsImage (replayed (whole past.first) l) image) (sym (take_all (length past.entries) past.entries (omega arith))) now)

only_now : (past : Past) (image : List ℕ) → LeftSince past (length past.entries) image → IsImage (present_after past) image
only_now past image left = subst (λ (l : List Entry). IsImage (replayed (whole past.first) l) image) (take_all left.0 past.entries left.1) left.3

pub reads_image : (read : List ℕ) (history : Option History) → ForSome history (λ h. LedTo h read) → IsImage (present_after (past_with read history)) (present_after (past_with read history)).read
reads_image read None led = record { no_shorter = omega arith; no_longer = omega arith; kept = λ i lt out. refl }
reads_image read (Some history) led =
    let here = led history refl in subst (λ (l : List ℕ). IsImage (present_after (past_with read (Some history))) l) (sym here.reads) here.image

-- a model computed from a recorded past satisfies `IsModel` if the bytes that a read gives are always
-- an image
pub recorded_is_model : {D : Type 0} (past : D → Past) (failures : D → ℕ) → ((d : D) → IsImage (present_after (past d)) (present_after (past d)).read) → IsModel (recorded past failures)
recorded_is_model past failures reads = record {
  counts_now = λ d t image _ le now. counts_now (past d) t image le now;
  only_now = λ d image _ left. only_now (past d) image left;
  reads_image = λ d _. reads d;
}
