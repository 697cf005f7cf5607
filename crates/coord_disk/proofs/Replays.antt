-- What one more write or sync makes of a disk in memory.
use Rattle.std.proofs.Common.{◌≡◌, ◌⊎◌, inl, inr, length-append, ℕ, ◌+◌, ◌<◌, List, [], ◌∷◌, ◌++◌, length, take, drop, get_or, refl, sym, ◌∙◌, ap, arith, ◌-◌, ◌≤◌, false, ◌&&◌, ◌||◌, nat_le, nat_lt, Vec, Some, Global}
use Rattle.std.proofs.lemmas.List.{take_all, take_more, take-append-le}
use Rattle.std.proofs.lemmas.Bool.{cases_lt}
use Rattle.coord_disk.specs.Disks.History.{Past, LedTo, LeftSince, Adds, after, past_with, present_after, replayed}
use Rattle.coord_disk.specs.Model.Moments.{Elapses}
use Rattle.coord_disk.specs.Model.Present.{Present, IsImage, is_within, overwritten, whole, written_at}
use Rattle.coord_disk.specs.declared.history.Entry.{Entry}
use Rattle.coord_disk.specs.declared.history.Entry.TheVariants.{Wrote, Synced}
use Rattle.coord_disk.specs.declared.history.History.{History}
use Rattle.coord_disk.proofs.Copied.{grown}
use Rattle.coord_disk.proofs.Overwritten.{wrote_reads}

pub replayed-push : (disk : Present) (entries : List Entry) (entry : Entry) → replayed disk (entries ++ entry ∷ []) ≡ after (replayed disk entries) entry
replayed-push disk [] entry = refl
replayed-push disk (d ∷ entries) entry = replayed-push (after disk d) entries entry

-- up to the n-th of them, and with it
pub replayed-take : (disk : Present) (entries : List Entry) (n : ℕ) (entry : Entry) → n < length entries → entry ≡ get_or entries n entry → replayed disk (take (n + 1) entries) ≡ after (replayed disk (take n entries)) entry
replayed-take disk entries n entry lt is = rw (take_more entries n entry lt, replayed-push, ← is)

-- whether a place is written, once one more thing was done
module _ (entries : List Entry) (n place : ℕ) (entry : Entry) (some : 0 < n) (few : n ≤ length entries) (is : entry ≡ get_or entries (n - 1) entry) (first : List ℕ) where
  step : replayed (whole first) (take n entries) ≡ after (replayed (whole first) (take (n - 1) entries)) entry
  step = grind (arith, replayed-take)

  pub synced_within : entry ≡ Synced → is_within (replayed (whole first) (take n entries)).written place ≡ false
  synced_within synced = ap (λ (p : Present). is_within p.written place) (step ∙ ap (λ (d : Entry). after (replayed (whole first) (take (n - 1) entries)) d) synced)

  pub wrote_within : (at : ℕ) (v : Vec ℕ Global) → entry ≡ Wrote at v
      → is_within (replayed (whole first) (take n entries)).written place ≡ (nat_le at place && nat_lt place (at + length v.items) || is_within (replayed (whole first) (take (n - 1) entries)).written place)
  wrote_within at v wrote = ap (λ (p : Present). is_within p.written place) (step ∙ ap (λ (d : Entry). after (replayed (whole first) (take (n - 1) entries)) d) wrote)

pub present-push : (old new : Past) (entry : Entry) → new.first ≡ old.first → new.entries ≡ old.entries ++ entry ∷ [] → present_after new ≡ after (present_after old) entry
present-push old new entry first entries = rw (entries, first) (replayed-push (whole old.first) old.entries entry)

-- the synced bytes once they are as long as the current ones, if nothing was recorded since
pub is_ready : (old : History) (read read_now tail synced : List ℕ) (entries : List Entry) → LedTo old read → read_now ≡ read → entries ≡ old.entries.items → tail ≡ drop (length old.synced.items) read → synced ≡ old.synced.items ++ tail
    → IsImage (record (replayed (whole old.first.items) entries) { synced = synced }) read_now
is_ready old read read_now tail synced entries led read_is entries_is tail_is synced_is =
    let disk = present_after (past_with read (Some old)) in
    let rest = tail_is ∙ ap (λ (l : List ℕ). drop (length l) read) (sym led.syncs) in
    let bytes = ap (λ (l : List ℕ). l ++ tail) led.syncs ∙ sym synced_is in
    rw (read_is, entries_is, ← bytes) (grown disk read tail led.image rest)

-- one more sync
module _ (old new : History) (read : List ℕ) (led : LedTo old read) (first : new.first.items ≡ old.first.items) (entries : new.entries.items ≡ old.entries.items ++ Synced ∷ []) (synced : new.synced.items ≡ read) where
  settled : present_after (past_with read (Some new)) ≡ whole read
  settled = present-push (past_with read (Some old)) (past_with read (Some new)) Synced first entries ∙ ap whole led.reads

  pub sync_led : LedTo new read
  sync_led = record {
    reads = ap (λ (p : Present). p.read) settled;
    syncs = ap (λ (p : Present). p.synced) settled ∙ sym synced;
    image = rw settled (record { no_shorter = omega arith; no_longer = omega arith; kept = λ i lt out. refl });
  }

  pub sync_adds : Adds (past_with read (Some old)) (past_with read (Some new)) (whole read)
  sync_adds = record { added = Synced; first = first; entries = entries; present = settled }

-- one more write
module _ (old new : History) (read next bytes : List ℕ) (at : ℕ) (v : Vec ℕ Global) (led : LedTo old read) (first : new.first.items ≡ old.first.items) (entries : new.entries.items ≡ old.entries.items ++ Wrote at v ∷ []) (synced : new.synced.items ≡ old.synced.items) (is : v.items ≡ bytes)
    (next_is : next ≡ overwritten read at bytes) where
  abbrev before : Present
  before = present_after (past_with read (Some old))

  written : present_after (past_with next (Some new)) ≡ written_at at bytes before
  written = present-push (past_with read (Some old)) (past_with next (Some new)) (Wrote at v) first entries ∙ ap (λ (b : List ℕ). written_at at b before) is

  reads : (present_after (past_with next (Some new))).read ≡ next
  reads = ap (λ (p : Present). p.read) written ∙ ap (λ (r : List ℕ). overwritten r at bytes) led.reads ∙ sym next_is

  pub write_led : LedTo new next
  write_led = grind (arith, reads, written, wrote_reads)

  pub write_adds : Adds (past_with read (Some old)) (past_with next (Some new)) (written_at at bytes before)
  write_adds = record { added = Wrote at v; first = first; entries = entries; present = written }

-- time goes on by one write or sync
pub adds_time : (old new : Past) (now : Present) → Adds old new now → Elapses (length old.entries) (length new.entries) (LeftSince old) (LeftSince new) (IsImage (present_after new))
adds_time old new now adds = record {
  later = omega (arith, size);
  soon = omega (arith, size);
  nothing_else = λ t image le left. since t image left (cases_lt left.0 (length new.entries));
  keeps = λ t image le left. (left.0, left.1, omega (arith, left.2, size), rw (front left.0 left.2) left.3);
}
  where
    size : length new.entries ≡ length old.entries + 1
    size = ap length adds.entries ∙ length-append old.entries (adds.added ∷ [])

    front : (k : ℕ) → k ≤ length old.entries → replayed (whole new.first) (take k new.entries) ≡ replayed (whole old.first) (take k old.entries)
    front k le =
        ap (λ (l : List Entry). replayed (whole new.first) (take k l)) adds.entries
        ∙ ap (λ (l : List Entry). replayed (whole new.first) l) (take-append-le k old.entries (adds.added ∷ []) le)
        ∙ ap (λ (f : List ℕ). replayed (whole f) (take k old.entries)) adds.first

    since : (t : ℕ) (image : List ℕ) (left : LeftSince new t image) → (left.0 < length new.entries) ⊎ (length new.entries ≤ left.0) → LeftSince old t image ⊎ IsImage (present_after new) image
    since t image left (inl before) = let le : left.0 ≤ length old.entries = omega (arith, before, size) in inl (left.0, left.1, le, rw (sym (front left.0 le)) left.3)
    since t image left (inr following) = inr (rw (sym (take_all left.0 new.entries following)) left.3)
