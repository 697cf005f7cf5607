-- How a run of disk calls goes on.
use Rattle.std.proofs.Common.{◌≡◌, ◌⊎◌, inl, ◌∙◌, refl, ℕ, List, arith, true}
use Rattle.coord_disk.specs.Model.DiskModel.{DiskModel, IsModel}
use Rattle.coord_disk.specs.Model.Calls.{Calls}
use Rattle.coord_disk.specs.Model.Moments.{AddsNothing, LeavesOnly, Passes}
use Rattle.coord_disk.specs.Model.Present.{Present, IsImage, FitsNoMore}

module _ {D : Type 0} (m : DiskModel D) where
  -- before the first call
  pub started : IsModel m → (old : D) (P : List ℕ → Type 0) → m.keeps_model old ≡ true → ((c : List ℕ) → IsImage (m.present old) c → P c) → LeavesOnly m old old P
  started laws old P keeps here = record { later = omega arith; each = λ c left. here c (laws.only_now old c keeps left); before = λ t c le left. inl left }

  -- one more call, after which a crash leaves only bytes that have P
  pub goes_on : (old mid new : D) (P : List ℕ → Type 0) → LeavesOnly m old mid P → Passes m mid new → ((c : List ℕ) → IsImage (m.present new) c → P c) → LeavesOnly m old new P
  goes_on old mid new P so_far time here = grind arith

  -- P implies Q
  pub weaker : (old new : D) (P Q : List ℕ → Type 0) → LeavesOnly m old new P → ((c : List ℕ) → P c → Q c) → LeavesOnly m old new Q
  weaker old new P Q leaves implies = grind arith

  -- one run of calls, and then another
  pub and_then : (old mid new : D) (P Q : List ℕ → Type 0) → LeavesOnly m old mid P → LeavesOnly m mid new Q → LeavesOnly m old new (λ c. P c ⊎ Q c)
  and_then old mid new P Q one other = grind arith

  -- ---- runs that add nothing

  -- From the first disk to this one a crash has left nothing that it could not have left at first.
  pub record Quiet (first now : D) : Type 0 where
    pub model : m.keeps_model now ≡ m.keeps_model first
    pub any_moment : AddsNothing m first now
    pub fits : m.keeps_model first ≡ true → FitsNoMore (m.present first) (m.present now)

  pub at_first : IsModel m → (first : D) → Quiet first first
  at_first laws first = record { model = refl; any_moment = λ k. started laws first _ k (λ image is. is); fits = λ k image is. is }

  -- one call more, which adds nothing
  pub and_quiet : {P : Present → Present → Type 0} (first mid new : D) → Quiet first mid → Calls m mid new P → ((p q : Present) → P p q → FitsNoMore p q) → Quiet first new
  and_quiet {P} first mid new quiet call adds_nothing =
      let fits : m.keeps_model first ≡ true → FitsNoMore (m.present first) (m.present new) = λ k image is. quiet.fits k image (adds_nothing (m.present mid) (m.present new) (call.change (quiet.model ∙ k)) image is) in
      record {
        model = call.model ∙ quiet.model;
        any_moment = λ k. goes_on first mid new _ (quiet.any_moment k) (call.time (quiet.model ∙ k)) (fits k);
        fits = fits;
      }
