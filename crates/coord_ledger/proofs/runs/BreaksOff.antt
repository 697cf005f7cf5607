-- A run that ends early: within an event, before the first one or after the last one.
use Rattle.std.proofs.Common.{◌≡◌, ◌≤◌, List, ◌++◌, length, ap, ◌∙◌, ℕ, ◌<◌, Bool, [], get_or, Option, Some, None, refl, sym, subst, arith, inl, inr, slice_get, take, IsSomeAnd}
use Rattle.std.specs.Option.{option_map}
use Rattle.std.proofs.lemmas.Option.{slice_get_past}
use Rattle.coord_ledger.specs.Facade.{Answer, Event, Follows, IsLeftOut, IsOneOf, Machine, Release, Run, after, answers, EndedEarly, EndsAt, FlightOut, FlightState, Good, HasCauseToEnd, IsCommitted, IsConsistent, IsCutShort, IsEventFault, IsGivenBack, IsGivenUp, IsLost, IsPromised, LedgerState, Promised, RunFaultKind, disk_held, flight_out, model_held, run, started}
use Rattle.coord_disk.specs.Model.DiskModel.{DiskModel}
use Rattle.coord_ledger.specs.declared.trace.RunFaultKind.TheVariants.{OutOfMemory, Store}
use Rattle.coord_ledger.proofs.follows.Follows.{flight_is}
use Rattle.coord_ledger.proofs.runs.SoFar.{Holds, LoopInvariant, event_promised, event_there, model_there, same_model}

-- ---- within an event

-- some of its releases were made, and some not
pub cut_within : {D : Type 0} (h : Run D) (s : Machine) (e : Event) (a : Answer) (released more rest : List Release) → Follows h s → IsOneOf a (answers s e) → released ≡ h.released.items ++ more → (after s e a).released ≡ released ++ rest → 1 ≤ length rest → IsLeftOut s e released
cut_within h s e a released more rest follows allowed begins ends some =
    record { answer = a; allowed = allowed; more = more; rest = rest; begins = begins ∙ ap (λ l. l ++ more) follows.released; ends = ends; some = some }

-- ---- before or after one

-- the flight that is held was committed
committed : {D : Type 0} (f : Option (FlightState D)) (o : Option FlightOut) → option_map flight_out f ≡ o → IsSomeAnd f (λ g. g.mark ≡ Good) → IsCommitted o
committed None o is none = absurd none
committed (Some f) o is good = (length f.steps, sym is ∙ ap (λ m. Some (record { size = length f.steps; mark = m })) good)

module _ {D : Type 0} (model : DiskModel D) (crashes : D → D → Type 0) where
  -- out of memory, with the disk as it is held
  given_up : (on : Bool) (first lost : D) (start : LedgerState D) (events : List Event) (given : List Answer) (h : Run D) (kind : RunFaultKind) (released : List Release) → (all : Holds model crashes on first start events given h) → kind ≡ OutOfMemory → released ≡ h.released.items → disk_held h.driver ≡ Some lost →
      IsGivenUp (run (started start) events given) kind released all.so_far.disk lost
  given_up on first lost start events given h kind released all memory kept there = record { memory = memory; released_is = kept ∙ all.follows.released; same = let same : lost ≡ all.so_far.disk = cc (there, all.so_far.holds) in same }

  -- ---- in the loop

  module _ (start : LedgerState D) (events : List Event) (at : ℕ) (given : List Answer) (h : Run D) (loop : LoopInvariant model crashes start events at given h) where
    -- after the last event
    pub ended_after : (at2 : ℕ) (given2 : List Answer) (kind : RunFaultKind) (released : List Release) (lost : D) → at ≡ length events → at2 ≡ at → given2 ≡ given → kind ≡ OutOfMemory → released ≡ h.released.items → disk_held h.driver ≡ Some lost → IsSomeAnd h.driver.flight (λ f. f.mark ≡ Good) →
        (before : D) → start.disk ≡ Some before → Promised (model.keeps_model before) events (EndedEarly model crashes (started start) events at2 given2 released kind (model.keeps_model before) before lost)
    ended_after at2 given2 kind released lost last here same memory kept there good before disk promised =
        let all = loop.holds before disk promised in
        let so_far = all.so_far in
        let s = run (started start) (take at events) given in
        let past : slice_get events at ≡ None = slice_get_past events at (omega (arith, last)) in
        let ends : EndsAt model crashes (model.keeps_model before) s None kind released so_far.disk lost =
        (given_up (model.keeps_model before) before lost start (take at events) given h kind released all memory kept there, committed h.driver.flight s.flight (flight_is h.driver s so_far.represents) good) in
        let one : EndedEarly model crashes (started start) events at given released kind (model.keeps_model before) before lost =
        record {
          within = omega (arith, last);
          answered = so_far.answered;
          disk = so_far.disk;
          moments = so_far.moments;
          why = inr (rw past ends);
        } in
        rw here (rw same one)

    module _ (e : Event) (below : at < length events) (is : e ≡ get_or events at e) where
      -- an event was cut short
      pub ended_at : (at2 : ℕ) (given2 : List Answer) (kind : RunFaultKind) (released : List Release) (lost : D) → at2 ≡ at → given2 ≡ given → ((s : Machine) → IsConsistent s → Follows h s → IsPromised (model_held model h.driver) e → IsCutShort s e kind released) →
          ((s : Machine) → IsConsistent s → Follows h s → IsLost model crashes s e kind (disk_held h.driver) lost) →
          (before : D) → start.disk ≡ Some before → Promised (model.keeps_model before) events (EndedEarly model crashes (started start) events at2 given2 released kind (model.keeps_model before) before lost)
      ended_at at2 given2 kind released lost here same cut back before disk promised =
          let all = loop.holds before disk promised in
          let so_far = all.so_far in
          let s = run (started start) (take at events) given in
          let on = event_promised model crashes start events at given h loop e below is before disk promised in
          let there = event_there model crashes start events at given h loop e below is in
          let alike = same_model model crashes start events at given h loop before so_far.disk disk so_far.holds in
          let its = subst (λ b. IsGivenBack model crashes b s e kind so_far.disk lost) alike (back s so_far.consistent all.follows so_far.disk so_far.holds) in
          let ends : EndsAt model crashes (model.keeps_model before) s (Some e) kind released so_far.disk lost = (cut s so_far.consistent all.follows on, its) in
          let one : EndedEarly model crashes (started start) events at given released kind (model.keeps_model before) before lost =
          record {
            within = omega (arith, below);
            answered = so_far.answered;
            disk = so_far.disk;
            moments = so_far.moments;
            why = inr (rw there ends);
          } in
          rw here (rw same one)

      pub caused : (at2 : ℕ) (kind : RunFaultKind) (released : List Release) → at2 ≡ at → IsEventFault (model_held model h.driver) e kind → (before : D) → start.disk ≡ Some before → HasCauseToEnd (model.keeps_model before) events at2 released kind
      caused at2 kind released here cause before disk = rw here (by_kind kind cause)
        where
          there : slice_get events at ≡ Some e
          there = event_there model crashes start events at given h loop e below is

          by_kind : (k : RunFaultKind) → IsEventFault (model_held model h.driver) e k → HasCauseToEnd (model.keeps_model before) events at released k
          by_kind OutOfMemory cause = inr (inr (e, (there, cause)))
          by_kind (Store fault) cause =
              (there ∙ ap Some cause.0, cause.1, λ on. cause.2 (model_there model crashes start events at given h loop e below is before disk ∙ ap Some on))

  -- before the first event
  pub ended_first : (start : LedgerState D) (events : List Event) (at2 : ℕ) (given2 : List Answer) (h : Run D) (kind : RunFaultKind) (released : List Release) (lost : D) → at2 ≡ 0 → given2 ≡ [] → kind ≡ OutOfMemory → released ≡ h.released.items → disk_held h.driver ≡ Some lost → LoopInvariant model crashes start events 0 [] h →
      (before : D) → start.disk ≡ Some before → Promised (model.keeps_model before) events (EndedEarly model crashes (started start) events at2 given2 released kind (model.keeps_model before) before lost)
  ended_first start events at2 given2 h kind released lost here same memory kept there loop before disk promised =
      let all = loop.holds before disk promised in
      let so_far = all.so_far in
      let one : EndedEarly model crashes (started start) events 0 [] released kind (model.keeps_model before) before lost =
      record {
        within = omega arith;
        answered = so_far.answered;
        disk = so_far.disk;
        moments = so_far.moments;
        why = inl (refl, given_up (model.keeps_model before) before lost start [] [] h kind released all memory kept there);
      } in
      rw here (rw same one)
