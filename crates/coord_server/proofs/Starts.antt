-- What is printed first, and after it.
use Rattle.std.proofs.Common.{◌≡◌, ◌⊎◌, ℕ, Bool, true, false, List, [], ◌∷◌, ◌++◌, Option, None, Some, inl, inr, refl, sym, ap, ◌∙◌, subst, append-nil, append_assoc}
use Rattle.std.proofs.lemmas.Bool.{false≢true}
use Rattle.std.proofs.lemmas.Grind.{flat_map-append}
use Rattle.std.specs.List.{AllByRecursion}
use Rattle.std.specs.Io.KnownBytes.{Appends}
use Rattle.std.specs.declared.net.socket_addr.SocketAddr.{SocketAddr}
use Rattle.coord_types.specs.declared.steps.Step.{Step}
use Rattle.coord_engine.specs.Facade.{StartsWith}
use Rattle.coord_server.specs.Lines.{after_line, is_next}
use Rattle.coord_server.specs.Printed.{BreaksIn, Follow, HasPrinted, IsPrinted, IsTornAddress, IsTornSignal, PrinterState, Prints, PrintsEach, PrintsAddress, signal_lines, listening_line, signal_line, with_lost}
use Rattle.coord_server.specs.Signals.{StepSignal}
use Rattle.coord_server.specs.declared.last_line.LastLine.{LastLine}

-- what some steps give out is given out by steps that begin with them
pub on_more : (gives : List Step → ℕ → ℕ → ℕ → Type 0) (lasts : (first more : List Step) (step node epoch : ℕ) → gives first step node epoch → gives (first ++ more) step node epoch) (first steps : List Step) → StartsWith steps first
    → (step node epoch : ℕ) → gives first step node epoch → gives steps step node epoch
on_more gives lasts first steps starts step node epoch is = subst (λ l. gives l step node epoch) (sym starts.1) (lasts first starts.0 step node epoch is)

module _ {W : Type 0} (contents : W → Option (List ℕ)) where
  prints_last : (p m q : PrinterState W) (came : List StepSignal) (s : StepSignal) → PrintsEach contents p came m → Prints contents m s q → PrintsEach contents p (came ++ s ∷ []) q
  prints_last p m q [] s is last = (q, rw (sym is) last, refl)
  prints_last p m q (x ∷ came) s is last = (is.0, is.1, prints_last is.0 m q came s is.2 last)

  -- what printing a signal says
  pub printed : (m q : PrinterState W) (s : StepSignal) (is_written : Bool) → (is_written ≡ true → Appends (contents m.output) (contents q.output) (signal_line s.node s.epoch)) → (is_written ≡ true → (is_next m.last s.step s.node ≡ true) × (q.last ≡ after_line m.last s.step s.node)) → (is_written ≡ true → (q.is_broken ≡ false) × (q.lost ≡ m.lost))
      → (is_written ≡ false → q.is_broken ≡ false → (is_next m.last s.step s.node ≡ false) × (q ≡ with_lost m)) → q.is_broken ≡ false → Prints contents m s q
  printed m q s true written next whole failed going = inl ((next refl).0, written refl, (whole refl).0, (whole refl).1, (next refl).1)
  printed m q s false written next whole failed going = inr (failed refl going)

  -- one more signal is printed
  pub prints_next : (p m q : PrinterState W) (came : List StepSignal) (s : StepSignal) → PrintsEach contents p came m → Prints contents m s q → PrintsEach contents p (came ++ s ∷ []) q
  prints_next p m q came s is one = prints_last p m q came s is one

  -- an output that works now has worked before
  pub still_works : (m q : PrinterState W) (was_broken : Bool) → m.is_broken ≡ was_broken → (m.is_broken ≡ true → q ≡ m) → q.is_broken ≡ false → m.is_broken ≡ false
  still_works m q true was same works = ap (λ (x : PrinterState W). x.is_broken) (sym (same was)) ∙ works
  still_works m q false was same works = was

  appends_none : (b : Option (List ℕ)) → Appends b b []
  appends_none None = tt
  appends_none (Some xs) = sym (append-nil xs)

  -- one text after another
  appends_both : (a b c : Option (List ℕ)) (xs ys : List ℕ) → Appends a b xs → Appends b c ys → Appends a c (xs ++ ys)
  appends_both None b c xs ys one other = tt
  appends_both (Some front) None c xs ys one other = absurd one
  appends_both (Some front) (Some bs) None xs ys one other = absurd other
  appends_both (Some front) (Some bs) (Some cs) xs ys one other = other ∙ ap (λ l. l ++ ys) one ∙ append_assoc front xs ys

  follow_last : (first m : LastLine) (signals : List StepSignal) (s : StepSignal) → Follow first signals m → is_next m s.step s.node ≡ true → Follow first (signals ++ s ∷ []) (after_line m s.step s.node)
  follow_last first m [] s is next = (subst (λ l. is_next l s.step s.node ≡ true) is next, ap (λ l. after_line l s.step s.node) is)
  follow_last first m (x ∷ signals) s is next = (is.0, follow_last (after_line first x.step x.node) m signals s is.1 next)

  module _ (may : ℕ → ℕ → ℕ → Type 0) where
    each_may : (signals : List StepSignal) (s : StepSignal) → AllByRecursion (λ x. may x.step x.node x.epoch) signals → may s.step s.node s.epoch → AllByRecursion (λ x. may x.step x.node x.epoch) (signals ++ s ∷ [])
    each_may [] s all one = (one, tt)
    each_may (x ∷ signals) s all one = (all.0, each_may signals s all.1 one)

    -- what may be printed may be printed after more steps
    module _ (more : ℕ → ℕ → ℕ → Type 0) (on : (step node epoch : ℕ) → may step node epoch → more step node epoch) where
      each_more : (signals : List StepSignal) → AllByRecursion (λ x. may x.step x.node x.epoch) signals → AllByRecursion (λ x. more x.step x.node x.epoch) signals
      each_more [] all = tt
      each_more (x ∷ signals) all = (on x.step x.node x.epoch all.0, each_more signals all.1)

      torn_more : (q : PrinterState W) (torn : List ℕ) → IsTornSignal may q torn → IsTornSignal more q torn
      torn_more q torn is = record { broken = is.broken; signal = is.signal; may_be_printed = on is.signal.step is.signal.node is.signal.epoch is.may_be_printed; next = is.next; part = is.part }

      whole_more : (q : PrinterState W) (torn : List ℕ) → (torn ≡ []) ⊎ IsTornSignal may q torn → (torn ≡ []) ⊎ IsTornSignal more q torn
      whole_more q torn (inl none) = inl none
      whole_more q torn (inr is) = inr (torn_more q torn is)

      pub returned_more : (p q : PrinterState W) → HasPrinted contents may p q → HasPrinted contents more p q
      returned_more p q returned = record {
        signals = returned.signals;
        torn = returned.torn;
        bytes = returned.bytes;
        may_be_printed = each_more returned.signals returned.may_be_printed;
        follow = returned.follow;
        whole = whole_more q returned.torn returned.whole;
      }

      opened_more : (q : PrinterState W) (first torn : List ℕ) (signals : List StepSignal) → ((first ≡ []) × (signals ≡ []) × ((torn ≡ []) ⊎ IsTornAddress q torn)) ⊎ ((address : SocketAddr) × (first ≡ listening_line address) × ((torn ≡ []) ⊎ IsTornSignal may q torn))
          → ((first ≡ []) × (signals ≡ []) × ((torn ≡ []) ⊎ IsTornAddress q torn)) ⊎ ((address : SocketAddr) × (first ≡ listening_line address) × ((torn ≡ []) ⊎ IsTornSignal more q torn))
      opened_more q first torn signals (inl none) = inl none
      opened_more q first torn signals (inr is) = inr (is.0, is.1, whole_more q torn is.2)

      pub printed_more : (p q : PrinterState W) → IsPrinted contents may p q → IsPrinted contents more p q
      printed_more p q is = record {
        first = is.first;
        signals = is.signals;
        torn = is.torn;
        bytes = is.bytes;
        opened = opened_more q is.first is.torn is.signals is.opened;
        may_be_printed = each_more is.signals is.may_be_printed;
        follow = is.follow;
      }

    -- nothing was printed yet
    pub returned_none : (p : PrinterState W) → HasPrinted contents may p p
    returned_none p = record { signals = []; torn = []; bytes = appends_none (contents p.output); may_be_printed = tt; follow = refl; whole = inl refl }

    -- while the output works, each line was written whole
    whole_lines : (p m : PrinterState W) (returned : HasPrinted contents may p m) → m.is_broken ≡ false → Appends (contents p.output) (contents m.output) (signal_lines returned.signals)
    whole_lines p m returned works =
        let left : returned.torn ≡ [] = none_torn returned.torn works returned.whole in
        subst (Appends (contents p.output) (contents m.output)) (ap (λ l. signal_lines returned.signals ++ l) left ∙ append-nil (signal_lines returned.signals)) returned.bytes
      where
        none_torn : (torn : List ℕ) → m.is_broken ≡ false → (torn ≡ []) ⊎ IsTornSignal may m torn → torn ≡ []
        none_torn torn works (inl none) = none
        none_torn torn works (inr broken) = absurd (false≢true (sym works ∙ broken.broken))

    -- one more signal that may be printed
    pub returned_next : (p m q : PrinterState W) (s : StepSignal) → HasPrinted contents may p m → m.is_broken ≡ false → may s.step s.node s.epoch → Prints contents m s q → HasPrinted contents may p q
    returned_next p m q s returned works one (inl is) = record {
      signals = returned.signals ++ s ∷ [];
      torn = [];
      bytes =
          let lines : signal_lines (returned.signals ++ s ∷ []) ≡ signal_lines returned.signals ++ signal_line s.node s.epoch = flat_map-append (λ (x : StepSignal). signal_line x.node x.epoch) returned.signals (s ∷ []) ∙ ap (λ l. signal_lines returned.signals ++ l) (append-nil (signal_line s.node s.epoch)) in
          subst (Appends (contents p.output) (contents q.output)) (sym (append-nil (signal_lines (returned.signals ++ s ∷ [])) ∙ lines)) (appends_both (contents p.output) (contents m.output) (contents q.output) (signal_lines returned.signals) (signal_line s.node s.epoch) (whole_lines p m returned works) is.1);
      may_be_printed = each_may returned.signals s returned.may_be_printed one;
      follow = subst (Follow p.last (returned.signals ++ s ∷ [])) (sym is.4) (follow_last p.last m.last returned.signals s returned.follow is.0);
      whole = inl refl;
    }
    returned_next p m q s returned works one (inr is) = record {
      signals = returned.signals;
      torn = [];
      bytes = subst (λ (x : PrinterState W). Appends (contents p.output) (contents x.output) (signal_lines returned.signals ++ [])) (sym is.1) (subst (Appends (contents p.output) (contents m.output)) (sym (append-nil (signal_lines returned.signals))) (whole_lines p m returned works));
      may_be_printed = returned.may_be_printed;
      follow = subst (λ (x : PrinterState W). Follow p.last returned.signals x.last) (sym is.1) returned.follow;
      whole = inl refl;
    }

    -- the output failed in the line of a signal that may be printed
    returned_torn : (p m q : PrinterState W) (s : StepSignal) → HasPrinted contents may p m → m.is_broken ≡ false → may s.step s.node s.epoch → is_next m.last s.step s.node ≡ true → BreaksIn contents m (signal_line s.node s.epoch) q → HasPrinted contents may p q
    returned_torn p m q s returned works one next breaks = record {
      signals = returned.signals;
      torn = breaks.0.0;
      bytes = appends_both (contents p.output) (contents m.output) (contents q.output) (signal_lines returned.signals) breaks.0.0 (whole_lines p m returned works) breaks.0.1;
      may_be_printed = returned.may_be_printed;
      follow = subst (Follow p.last returned.signals) (sym breaks.3) returned.follow;
      whole = inr (record { broken = breaks.1; signal = s; may_be_printed = one; next = subst (λ l. is_next l s.step s.node ≡ true) (sym breaks.3) next; part = breaks.0.2 });
    }

    -- the output had failed before, or failed in this line
    pub returned_last : (p m q : PrinterState W) (s : StepSignal) (is_broken : Bool) → m.is_broken ≡ is_broken → HasPrinted contents may p m → may s.step s.node s.epoch → q.is_broken ≡ true → (m.is_broken ≡ true → q ≡ m) → (m.is_broken ≡ false → q.is_broken ≡ true → (is_next m.last s.step s.node ≡ true) × BreaksIn contents m (signal_line s.node s.epoch) q) → HasPrinted contents may p q
    returned_last p m q s true was returned one fails same torn = subst (HasPrinted contents may p) (sym (same was)) returned
    returned_last p m q s false was returned one fails same torn = returned_torn p m q s returned was one (torn was fails).0 (torn was fails).1

    -- nothing was printed
    pub printed_none : (p q : PrinterState W) → q ≡ p → IsPrinted contents may p q
    printed_none p q same = record {
      first = [];
      signals = [];
      torn = [];
      bytes = subst (λ (x : PrinterState W). Appends (contents p.output) (contents x.output) []) (sym same) (appends_none (contents p.output));
      opened = inl (refl, refl, inl refl);
      may_be_printed = tt;
      follow = ap (λ (x : PrinterState W). x.last) same;
    }

    -- the first line was not printed
    pub printed_failed : (p q : PrinterState W) (address : SocketAddr) → (q ≡ p) ⊎ BreaksIn contents p (listening_line address) q → IsPrinted contents may p q
    printed_failed p q address (inl same) = printed_none p q same
    printed_failed p q address (inr breaks) = record {
      first = [];
      signals = [];
      torn = breaks.0.0;
      bytes = breaks.0.1;
      opened = inl (refl, refl, inr (record { broken = breaks.1; address = address; part = breaks.0.2 }));
      may_be_printed = tt;
      follow = breaks.3;
    }

    -- the first line, and then signals
    pub printed_all : (p m q : PrinterState W) → PrintsAddress contents p m → HasPrinted contents may m q → IsPrinted contents may p q
    printed_all p m q opened returned = record {
      first = listening_line opened.0;
      signals = returned.signals;
      torn = returned.torn;
      bytes = appends_both (contents p.output) (contents m.output) (contents q.output) (listening_line opened.0) (signal_lines returned.signals ++ returned.torn) opened.1 returned.bytes;
      opened = inr (opened.0, refl, returned.whole);
      may_be_printed = returned.may_be_printed;
      follow = subst (λ l. Follow l returned.signals q.last) opened.3 returned.follow;
    }
