use Rattle.std.proofs.Common.{◌≡◌, ◌⊎◌, inl, inr, ◌∙◌, ◌<◌, ◌≤◌, ℕ, List, length, take, min, true, ap, refl, rules, sym, arith}
use Rattle.std.proofs.lemmas.Bool.{cases_lt}
use Rattle.std.proofs.lemmas.List.{take_all}
use Rattle.coord_disk.specs.Disks.Failing.{inner_of}
use Rattle.coord_disk.specs.Model.Present.{written_at}
use Rattle.coord_disk.proofs.failing.FailingDiskDisk.write_at.Goals as goal

no_more : (bytes : List ℕ) (kept n : ℕ) → n ≡ min kept (length bytes) → take n bytes ≡ take kept bytes
no_more bytes kept n is = by_size (cases_lt kept (length bytes))
  where
    by_size : (kept < length bytes) ⊎ (length bytes ≤ kept) → take n bytes ≡ take kept bytes
    by_size (inl lt) = let same : n ≡ kept = omega (arith, is, lt) in ap (λ (k : ℕ). take k bytes) same
    by_size (inr le) = take_all n bytes (omega (arith, is, le)) ∙ sym (take_all kept bytes le)

-- a write that is torn
pub returns-in_ok-write_at-in-Some-clause-counted : goal.returns-in_ok-write_at-in-Some-clause-counted
returns-in_ok-write_at-in-Some-clause-counted g c = record {
  counted = search rules;
  fails = true;
  said = search rules;
  failed = λ _. (
    refl,
    rw (sym c.tears.ensures ∙ c.in-Some.is) (λ keeps same.
        let m = g.D.Disk.model in
        let bytes = c.args.bytes.now in
        let inner = c.counts.ensures.inner in
        (c.in_ok-write_at-in-Some.ensures.call.change (ap m.keeps_model inner ∙ keeps)).written
        ∙ ap (λ d. written_at c.args.at (take c.min.result bytes) (m.present d)) inner
        ∙ ap (λ (b : List ℕ). written_at c.args.at b (m.present (inner_of c.args.self.now))) (no_more bytes c.in-Some.kept c.min.result (omega (arith, c.min.ensures)))),
  );
  passed = λ e. absurd cc;
}
