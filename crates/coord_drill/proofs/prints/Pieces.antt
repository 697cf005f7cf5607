-- Pieces of the input, one after the other.
use Rattle.std.proofs.Common.{◌≡◌, ◌⊎◌, ℕ, ◌+◌, List, [], ◌∷◌, ◌++◌, Some, None, refl, sym, ap, ◌∙◌, subst, arith, inl, inr, append-nil, append_assoc}
use Rattle.coord_disk.specs.Model.DiskModel.{DiskModel}
use Rattle.coord_ledger.specs.Facade.{disk_held}
use Rattle.coord_lines.specs.Lines.{IsWithin, Line, before_line_feed, after_line_feed, extended, lines_on}
use Rattle.coord_lines.proofs.LinesOn.{extended-nothing, lines_on-ended, lines_on-unended}
use Rattle.coord_drill.specs.Facade.{Breaks, CarriesLine, CarriesOut, Console, CutsLine, EndsEarly, EndsWith, Fault, FirstCutShort, IsOfWriting, IsShortPart, LinesBreakOff, Place, StopsDrill, StopsWork, TakesPiece}
use Rattle.coord_drill.specs.declared.fault.Fault.TheVariants.{Read, TooManyReads}
use Rattle.coord_drill.proofs.course.Lines.{goes_both, goes_one}
use Rattle.coord_drill.proofs.prints.FirstParts.{short_after, short_longer}

module _ {D : Type 0} (disk : DiskModel D) (crashes : D → D → Type 0) where
  -- ---- lines that were carried out, and more after them

  first_cut_more : (q : Place D) (ls more : List Line) (refused : Fault × D) → FirstCutShort disk crashes q ls refused → FirstCutShort disk crashes q (ls ++ more) refused
  first_cut_more q [] more refused cut = absurd cut
  first_cut_more q (l ∷ ls) more refused cut = cut

  work_more : (refused : Fault × D) (more : List Line) (q : Place D) (ls : List Line) (written : List ℕ) → StopsWork disk crashes q ls written refused → StopsWork disk crashes q (ls ++ more) written refused
  work_more refused more q ls written (inl line) = inl (record { wrote = line.wrote; cut = first_cut_more q ls more refused line.cut })
  work_more refused more q ls written (inr short) = inr (record { cause = short.cause; wrote = short.wrote; given_back = back short.given_back })
    where
      back : (refused.1 ≡ q.disk) ⊎ ((why : Fault) × FirstCutShort disk crashes q ls (why, refused.1)) → (refused.1 ≡ q.disk) ⊎ ((why : Fault) × FirstCutShort disk crashes q (ls ++ more) (why, refused.1))
      back (inl same) = inl same
      back (inr cut) = inr (cut.0, first_cut_more q ls more (cut.0, refused.1) cut.1)

  -- for another reason, which that one gives
  breaks_so : (c : Console D) (ls : List Line) (t u : List ℕ) (Why So : Place D → List Line → List ℕ → Type 0) → ((p q : Place D) (others : List Line) → Why q others (p.printed ++ t) → So q others (p.printed ++ u)) → Breaks disk crashes c ls t Why → Breaks disk crashes c ls u So
  breaks_so c ls t u Why So so breaks = record {
    ended = breaks.ended;
    others = breaks.others;
    split = breaks.split;
    goes = λ p at. let one = breaks.goes p at in (one.0, one.1, so p one.0 breaks.others one.2);
  }

  pub works_early : (c : Console D) (ls : List Line) (refused : Fault × D) (t : List ℕ) → LinesBreakOff disk crashes c ls refused t → EndsEarly disk crashes c ls refused t
  works_early c ls refused t breaks = breaks_so c ls t t _ _ (λ p q others work. inr (inr work)) breaks

  carries_none : (c : Console D) → CarriesOut disk crashes c [] [] c
  carries_none c p at = (p, at, sym (append-nil p.printed), (refl, at.0.survives))

  module _ (c mid : Console D) (ls ks : List Line) (t u : List ℕ) (first : CarriesOut disk crashes c ls t mid) where
    carries_after : (new : Console D) → CarriesOut disk crashes mid ks u new → CarriesOut disk crashes c (ls ++ ks) (t ++ u) new
    carries_after new more p at =
        let one = first p at in
        let two = more one.0 one.1 in
        (two.0, two.1, two.2 ∙ ap (λ x. x ++ u) one.2 ∙ append_assoc p.printed t u, goes_both disk crashes p one.0 two.0 ls ks one.3 two.3)

    ends_after : (last : D) → EndsWith disk crashes mid ks u last → EndsWith disk crashes c (ls ++ ks) (t ++ u) last
    ends_after last more p at =
        let one = first p at in
        let two = more one.0 one.1 in
        (two.0, two.1, two.2 ∙ ap (λ x. x ++ u) one.2 ∙ append_assoc p.printed t u, goes_both disk crashes p one.0 two.0 ls ks one.3 two.3)

    breaks_after : (Why : Place D → List Line → List ℕ → Type 0) (more all : List Line) → all ≡ ls ++ (ks ++ more) → ((q : Place D) (others : List Line) (written : List ℕ) → Why q others written → Why q (others ++ more) written) → Breaks disk crashes mid ks u Why →
        Breaks disk crashes c all (t ++ u) Why
    breaks_after Why more all whole so breaks = record {
      ended = ls ++ breaks.ended;
      others = breaks.others ++ more;
      split = whole ∙ ap (λ k. ls ++ (k ++ more)) breaks.split ∙ ap (λ k. ls ++ k) (append_assoc breaks.ended breaks.others more) ∙ sym (append_assoc ls breaks.ended (breaks.others ++ more));
      goes = λ p at.
          let one = first p at in
          let two = breaks.goes one.0 one.1 in
          (two.0, goes_both disk crashes p one.0 two.0 ls breaks.ended one.3 two.1, subst (Why two.0 (breaks.others ++ more)) (ap (λ x. x ++ u) one.2 ∙ append_assoc p.printed t u) (so two.0 breaks.others (one.0.printed ++ u) two.2));
    }

  -- the disk is given back after them
  breaks_later : (c new : Console D) (ls others all : List Line) (t u : List ℕ) (lost : D) (Why : Place D → List Line → List ℕ → Type 0) → all ≡ ls ++ others → CarriesOut disk crashes c ls t new → disk_held new.drill.driver ≡ Some lost →
      ((p q : Place D) → lost ≡ q.disk → q.printed ≡ p.printed ++ t → Why q others (p.printed ++ u)) → Breaks disk crashes c all u Why
  breaks_later c new ls others all t u lost Why split out there why = record {
    ended = ls;
    others = others;
    split = split;
    goes = λ p at. let one = out p at in (one.0, one.3, why p one.0 (cc (there, one.1.0.holds)) one.2);
  }

  -- ---- a line

  pub carries_line : (c new : Console D) (line : Line) (text : List ℕ) → CarriesLine disk crashes c.drill (c.number + 1) line text new.drill → new.number ≡ c.number + 1 → CarriesOut disk crashes c (line ∷ []) text new
  carries_line c new line text carries number p at =
      let one = carries p at.0 (omega (arith, at.1)) in
      (one.0, (one.1, omega (arith, one.3.lines, at.1, number)), one.2, goes_one disk crashes p one.0 line one.3 one.1.survives)

  -- its text was not written whole
  pub line_unwritten : (c new : Console D) (line : Line) (text part : List ℕ) (refused : Fault × D) → CarriesLine disk crashes c.drill (c.number + 1) line text new.drill → new.number ≡ c.number + 1 → IsShortPart part text → IsOfWriting refused.0 → disk_held new.drill.driver ≡ Some refused.1 → LinesBreakOff disk crashes c (line ∷ []) refused part
  line_unwritten c new line text part refused carries number short writing there =
      breaks_later c new (line ∷ []) [] (line ∷ []) text part refused.1 _ refl (carries_line c new line text carries number) there
      (λ p q same printed. inr (record { cause = writing; wrote = short_after p.printed text part q.printed printed short; given_back = inl same }))

  -- it was cut short
  pub line_cut : (c : Console D) (line : Line) (refused : Fault × D) → CutsLine disk crashes c.drill line refused → LinesBreakOff disk crashes c (line ∷ []) refused []
  line_cut c line refused cuts = record {
    ended = [];
    others = line ∷ [];
    split = refl;
    goes = λ p at. (p, (refl, at.0.survives), inl (record { wrote = append-nil p.printed; cut = cuts p at.0 }));
  }

  -- ---- the last line

  last_line : (line : Line) → IsWithin line → lines_on line [] ≡ line ∷ []
  last_line line within = ap (λ l. l ∷ []) (extended-nothing line within)

  pub last_breaks : (c : Console D) (refused : Fault × D) (t : List ℕ) → IsWithin c.line → EndsEarly disk crashes c (c.line ∷ []) refused t → EndsEarly disk crashes c (lines_on c.line []) refused t
  last_breaks c refused t within breaks = rw (last_line c.line within) breaks

  pub last_ends : (c new : Console D) (t : List ℕ) (last : D) → IsWithin c.line → CarriesOut disk crashes c (c.line ∷ []) t new → disk_held new.drill.driver ≡ Some last → EndsWith disk crashes c (lines_on c.line []) t last
  last_ends c new t last within out there = subst (λ ls. EndsWith disk crashes c ls t last) (sym (last_line c.line within)) (λ p at. let one = out p at in (one.0, cc (there, one.1.0.holds), one.2, one.3))

  -- the writer could not be flushed after it
  pub last_unflushed : (c new : Console D) (t : List ℕ) (refused : Fault × D) → IsWithin c.line → CarriesOut disk crashes c (c.line ∷ []) t new → IsOfWriting refused.0 → disk_held new.drill.driver ≡ Some refused.1 → EndsEarly disk crashes c (lines_on c.line []) refused t
  last_unflushed c new t refused within out writing there =
      last_breaks c refused t within
      (breaks_later c new (c.line ∷ []) [] (c.line ∷ []) t t refused.1 _ refl out there
      (λ p q same printed. inr (inl (record { cause = writing; wrote = sym printed; ended = refl; same = same }))))

  -- ---- pieces

  pub takes_none : (c : Console D) (piece : List ℕ) → TakesPiece disk crashes c piece piece [] c
  takes_none c piece = record { ended = []; lines = λ more. refl; out = carries_none c }

  module _ (c : Console D) (piece rest t : List ℕ) (now : Console D) (taken : TakesPiece disk crashes c piece rest t now) where
    -- all of it
    whole : lines_on c.line piece ≡ taken.ended ++ lines_on now.line rest
    whole = ap (lines_on c.line) (sym (append-nil piece)) ∙ taken.lines [] ∙ ap (λ r. taken.ended ++ lines_on now.line r) (append-nil rest)

    -- a line feed ends a line
    module _ (following : List ℕ) (longer : Line) (feed : Some following ≡ after_line_feed rest) (is : longer ≡ extended now.line (before_line_feed rest)) where
      at_feed : (more : List ℕ) → lines_on now.line (rest ++ more) ≡ longer ∷ lines_on (Some []) (following ++ more)
      at_feed more = lines_on-ended now.line rest more following (sym feed) ∙ ap (λ l. l ∷ lines_on (Some []) (following ++ more)) (sym is)

      pub takes_line : (u : List ℕ) (new : Console D) → new.line ≡ Some [] → CarriesOut disk crashes (record now { line = longer }) (longer ∷ []) u new → TakesPiece disk crashes c piece following (t ++ u) new
      takes_line u new empty out = record {
        ended = taken.ended ++ longer ∷ [];
        lines = λ more.
            taken.lines more ∙ ap (λ l. taken.ended ++ l) (at_feed more) ∙ sym (append_assoc taken.ended (longer ∷ []) (lines_on (Some []) (following ++ more)))
            ∙ ap (λ l. (taken.ended ++ longer ∷ []) ++ lines_on l (following ++ more)) (sym empty);
        out = carries_after c now taken.ended (longer ∷ []) t u taken.out new out;
      }

      pub takes_cut : (refused : Fault × D) (u : List ℕ) → LinesBreakOff disk crashes (record now { line = longer }) (longer ∷ []) refused u → LinesBreakOff disk crashes c (lines_on c.line piece) refused (t ++ u)
      takes_cut refused u breaks =
          let more = lines_on (Some []) (following ++ []) in
          let all = ap (lines_on c.line) (sym (append-nil piece)) ∙ taken.lines [] ∙ ap (λ l. taken.ended ++ l) (at_feed []) in
          breaks_after c (record now { line = longer }) taken.ended (longer ∷ []) t u taken.out _ more (lines_on c.line piece) all (work_more refused more) breaks

    -- with none the line goes on
    pub takes_rest : (longer : Line) → None ≡ after_line_feed rest → longer ≡ extended now.line (before_line_feed rest) → TakesPiece disk crashes c piece [] t (record now { line = longer })
    takes_rest longer none is = record {
      ended = taken.ended;
      lines = λ more. taken.lines more ∙ ap (λ l. taken.ended ++ l) (lines_on-unended now.line rest more (sym none) ∙ ap (λ l. lines_on l more) (sym is));
      out = taken.out;
    }

  module _ (c : Console D) (piece t : List ℕ) (now : Console D) (taken : TakesPiece disk crashes c piece [] t now) where
    all : lines_on c.line piece ≡ taken.ended ++ lines_on now.line []
    all = whole c piece [] t now taken

    -- nothing more can be read
    pub takes_breaks : (refused : Fault × D) → (refused.0 ≡ Read) ⊎ (refused.0 ≡ TooManyReads) → disk_held now.drill.driver ≡ Some refused.1 → EndsEarly disk crashes c (lines_on c.line piece) refused t
    takes_breaks refused reading there =
        breaks_later c now taken.ended (lines_on now.line []) (lines_on c.line piece) t t refused.1 _ all taken.out there
        (λ p q same printed. inl (record { cause = reading; wrote = sym printed; unended = refl; same = same }))

    pub takes_ends : (u : List ℕ) (last : D) → EndsWith disk crashes now (lines_on now.line []) u last → EndsWith disk crashes c (lines_on c.line piece) (t ++ u) last
    takes_ends u last ends = rw all (ends_after c now taken.ended (lines_on now.line []) t u taken.out last ends)

    -- the next piece
    both : (came more : List ℕ) → lines_on c.line ((piece ++ came) ++ more) ≡ taken.ended ++ lines_on now.line (came ++ more)
    both came more = ap (lines_on c.line) (append_assoc piece came more) ∙ taken.lines (came ++ more)

    pub takes_piece : (came u : List ℕ) (new : Console D) → TakesPiece disk crashes now came [] u new → TakesPiece disk crashes c (piece ++ came) [] (t ++ u) new
    takes_piece came u new next = record {
      ended = taken.ended ++ next.ended;
      lines = λ more. both came more ∙ ap (λ l. taken.ended ++ l) (next.lines more) ∙ sym (append_assoc taken.ended next.ended (lines_on new.line more));
      out = carries_after c now taken.ended next.ended t u taken.out new next.out;
    }

    pub takes_break : (came u : List ℕ) (refused : Fault × D) → EndsEarly disk crashes now (lines_on now.line came) refused u → EndsEarly disk crashes c (lines_on c.line (piece ++ came)) refused (t ++ u)
    takes_break came u refused breaks =
        let split = ap (lines_on c.line) (sym (append-nil (piece ++ came))) ∙ both came [] ∙ ap (λ r. taken.ended ++ lines_on now.line r) (append-nil came) ∙ ap (λ l. taken.ended ++ l) (sym (append-nil (lines_on now.line came))) in
        breaks_after c now taken.ended (lines_on now.line came) t u taken.out _ [] (lines_on c.line (piece ++ came)) split
        (λ q others written stops. subst (λ ls. StopsDrill disk crashes q ls written refused) (sym (append-nil others)) stops) breaks

    -- not all of the text of a piece was written
    pub takes_unwritten : (part : List ℕ) (refused : Fault × D) → IsShortPart part t → IsOfWriting refused.0 → disk_held now.drill.driver ≡ Some refused.1 → LinesBreakOff disk crashes c (lines_on c.line piece) refused part
    takes_unwritten part refused short writing there =
        breaks_later c now taken.ended (lines_on now.line []) (lines_on c.line piece) t part refused.1 _ all taken.out there
        (λ p q same printed. inr (record { cause = writing; wrote = short_after p.printed t part q.printed printed short; given_back = inl same }))

  -- or if a line failed before, and then the writer's fault is reported
  pub breaks_unwritten : (c : Console D) (ls : List Line) (fault later : Fault) (lost : D) (t part : List ℕ) → IsOfWriting later → LinesBreakOff disk crashes c ls (fault, lost) t → IsShortPart part t → LinesBreakOff disk crashes c ls (later, lost) part
  breaks_unwritten c ls fault later lost t part writing breaks short = breaks_so c ls t part _ _ put breaks
    where
      put : (p q : Place D) (others : List Line) → StopsWork disk crashes q others (p.printed ++ t) (fault, lost) → StopsWork disk crashes q others (p.printed ++ part) (later, lost)
      put p q others (inl line) = inr (record { cause = writing; wrote = short_after p.printed t part q.printed (sym line.wrote) short; given_back = inr (fault, line.cut) })
      put p q others (inr more) =
          let rest = more.wrote.0 in
          inr (record { cause = writing; wrote = short_after p.printed (t ++ rest) part q.printed (more.wrote.1 ∙ append_assoc p.printed t rest) (short_longer part t rest short); given_back = more.given_back })
