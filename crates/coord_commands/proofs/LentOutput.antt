-- What is known of an output that was lent.
use Rattle.std.proofs.Common.{◌≡◌, ◌⊎◌, ◌∙◌, ℕ, List, [], ◌++◌, Option, Some, None, Result, Ok, Err, IfErr, IfOk, false, true, ◌≤◌, inl, inr, refl, subst, sym, ap}
use Rattle.std.specs.Io.KnownBytes.{Appends}
use Rattle.std.specs.declared.net.socket_addr.SocketAddr.{SocketAddr}
use Rattle.coord_admin.specs.declared.timeouts.Timeouts.{Timeouts}
use Rattle.coord_engine.specs.Facade.{first_settled}
use Rattle.coord_engine.specs.declared.closed.Closed.{Closed}
use Rattle.coord_server.specs.Lines.{is_next}
use Rattle.coord_server.specs.Instances.{all_steps}
use Rattle.coord_server.specs.Printed.{IsPrinted, IsTornAddress, IsTornSignal, PrinterState, listening_line, new_printer, signal_lines}
use Rattle.coord_server.specs.ServerRun.{HasServedUsual}
use Rattle.coord_server.specs.Signals.{StepSignal}
use Rattle.coord_server.specs.declared.fault.ServerFault.{ServerFault}
use Rattle.coord_server.specs.declared.server_end.ServerEnd.{ServerEnd}
use Rattle.coord_disk.specs.Model.DiskModel.{DiskModel}
use Rattle.coord_store.specs.Kept.{Kept}
use Rattle.coord_types.specs.declared.steps.Step.{Step}
use Rattle.coord_commands.specs.Serving.{RunsWithOutput, ServedWithOutput, ReportedAtEnd, fault_of_end}
use Rattle.coord_commands.specs.Streams.{known_as}

-- what printed to an output of which this is known
abbrev known_printer : {W : Type 0} → Option (List ℕ) → PrinterState W → PrinterState (Option (List ℕ))
known_printer known p = record { output = known; is_broken = p.is_broken; lost = p.lost; last = p.last }

-- how a server ended, by what is known of its output
abbrev pub known_end : {D V W : Type 0} → Option (List ℕ) → ServerEnd D V W → ServerEnd D V (Option (List ℕ))
known_end known e = record { closed = e.closed; callers = e.callers; served = e.served; printer = known_printer known e.printer }

-- what grew after a number is what grew
grown : (first later : ℕ) (old new : Option (List ℕ)) (text : List ℕ) → Appends (known_as first old) (known_as later new) text → Appends old new text
grown first later None new text is = tt
grown first later (Some xs) None text is = absurd is
grown first later (Some xs) (Some ys) text is = cc

-- the number stays, so it is the same output
same_number : (first later : ℕ) (xs : List ℕ) (new : Option (List ℕ)) (text : List ℕ) → Appends (known_as first (Some xs)) (known_as later new) text → later ≡ first
same_number first later xs None text is = absurd is
same_number first later xs (Some ys) text is = cc

-- so what was lent has grown by that
through : (first later : ℕ) (old now new : Option (List ℕ)) (text : List ℕ) → (later ≡ first → new ≡ now) → Appends (known_as first old) (known_as later now) text → Appends old new text
through first later None now new text same is = tt
through first later (Some xs) now new text same is = subst (λ o. Appends (Some xs) o text) (sym (same (same_number first later xs now text is))) (grown first later (Some xs) now text is)

-- what is left of a line in which an output failed is the same of another output that has come as far
address_back : {V W : Type 0} (p : PrinterState V) (q : PrinterState W) (torn : List ℕ) → q.is_broken ≡ p.is_broken → (torn ≡ []) ⊎ IsTornAddress p torn → (torn ≡ []) ⊎ IsTornAddress q torn
address_back p q torn broken (inl whole) = inl whole
address_back p q torn broken (inr is) = inr (record { broken = broken ∙ is.broken; address = is.address; part = is.part })

signal_back : {V W : Type 0} (may : ℕ → ℕ → ℕ → Type 0) (p : PrinterState V) (q : PrinterState W) (torn : List ℕ) → q.is_broken ≡ p.is_broken → q.last ≡ p.last → (torn ≡ []) ⊎ IsTornSignal may p torn → (torn ≡ []) ⊎ IsTornSignal may q torn
signal_back may p q torn broken last (inl whole) = inl whole
signal_back may p q torn broken last (inr is) = inr (record { broken = broken ∙ is.broken; signal = is.signal; may_be_printed = is.may_be_printed; next = subst (λ l. is_next l is.signal.step is.signal.node ≡ true) (sym last) is.next; part = is.part })

opened_back : {V W : Type 0} (may : ℕ → ℕ → ℕ → Type 0) (p : PrinterState V) (q : PrinterState W) (first torn : List ℕ) (signals : List StepSignal) → q.is_broken ≡ p.is_broken → q.last ≡ p.last
    → ((first ≡ []) × (signals ≡ []) × ((torn ≡ []) ⊎ IsTornAddress p torn)) ⊎ ((address : SocketAddr) × (first ≡ listening_line address) × ((torn ≡ []) ⊎ IsTornSignal may p torn))
    → ((first ≡ []) × (signals ≡ []) × ((torn ≡ []) ⊎ IsTornAddress q torn)) ⊎ ((address : SocketAddr) × (first ≡ listening_line address) × ((torn ≡ []) ⊎ IsTornSignal may q torn))
opened_back may p q first torn signals broken last (inl is) = inl (is.0, is.1, address_back p q torn broken is.2)
opened_back may p q first torn signals broken last (inr is) = inr (is.0, is.1, signal_back may p q torn broken last is.2)

-- What was printed to an output that was lent was printed to this very output: `home` is what came back out of what printed, and `new` is what the lender has at last, which is what stands after it where it is the one that was lent.
printed_back : {V W : Type 0} (contents : V → Option (List ℕ)) (of : W → Option (List ℕ)) (may : ℕ → ℕ → ℕ → Type 0) (since : ℕ) (lent home : V) (ended printer : PrinterState V) (first later : ℕ) (old : Option (List ℕ)) (now new : W) → IsPrinted contents may (new_printer lent since) ended
    → printer ≡ ended → home ≡ printer.output → contents lent ≡ known_as first old → contents home ≡ known_as later (of now) → (later ≡ first → new ≡ now) → IsPrinted (λ known. known) may (new_printer old since) (known_printer (of new) ended)
printed_back {V} contents of may since lent home ended printer first later old now new is came out at_first at_last same =
    let text = is.first ++ (signal_lines is.signals ++ is.torn) in
    let given : home ≡ ended.output = out ∙ ap (λ (p : PrinterState V). p.output) came in
    let held : contents ended.output ≡ known_as later (of now) = ap contents (sym given) ∙ at_last in
    record {
      first = is.first;
      signals = is.signals;
      torn = is.torn;
      bytes = through first later old (of now) (of new) text (λ named. ap of (same named)) (subst (λ o. Appends (known_as first old) o text) held (subst (λ o. Appends o (contents ended.output) text) at_first is.bytes));
      opened = opened_back may ended (known_printer (of new) ended) is.first is.torn is.signals refl refl is.opened;
      may_be_printed = is.may_be_printed;
      follow = is.follow;
    }

-- so a server that printed to it ran with this output
pub run_back : {D V W : Type 0} (m : DiskModel D) (contents : V → Option (List ℕ)) (of : W → Option (List ℕ)) (gives : List Step → ℕ → ℕ → ℕ → Type 0) (store : Kept D) (lent home : V) (given : PrinterState V) (ended : ServerEnd D Timeouts V) (printer : PrinterState V) (first later : ℕ) (old : Option (List ℕ)) (now new : W) → HasServedUsual m contents gives store given ended
    → given ≡ new_printer lent store.world.count → printer ≡ ended.printer → home ≡ printer.output → contents lent ≡ known_as first old → contents home ≡ known_as later (of now) → (later ≡ first → new ≡ now) → RunsWithOutput m gives store old (of new) (known_end (of new) ended)
run_back m contents of gives store lent home given ended printer first later old now new is made came out at_first at_last same =
    let run = is.2 in
    let may = gives (first_settled store.world (all_steps run.instances) ended.closed.settled) in
    let printed : IsPrinted contents may (new_printer lent store.world.count) ended.printer = subst (λ p. IsPrinted contents may p ended.printer) made run.printed in (
      (
        is.0,
        is.1,
        record {
          instances = run.instances;
          served = run.served;
          trail = run.trail;
          counted = run.counted;
          settled = run.settled;
          along = run.along;
          printed = printed_back contents of may store.world.count lent home ended.printer printer first later old now new printed came out at_first at_last same;
          cause = run.cause;
        },
      ),
      refl,
    )

-- what a server that has ended returns
returned_of : {D V W : Type 0} (known : Option (List ℕ)) (ended : ServerEnd D V W) (answered : Result (Closed D) (ServerFault × Closed D)) → IfOk answered (λ closed. (closed ≡ ended.closed) × (fault_of_end ended ≡ None)) → IfErr answered (λ t. (t.1 ≡ ended.closed) × (fault_of_end ended ≡ Some t.0)) → ReportedAtEnd (known_end known ended) answered
returned_of known ended (Ok closed) is fault = is
returned_of known ended (Err answered) is fault = fault

-- a server ran with this output, and returned this
pub served_with : {D W : Type 0} (m : DiskModel D) (gives : List Step → ℕ → ℕ → ℕ → Type 0) (store : Kept D) (old known : Option (List ℕ)) (ended : ServerEnd D Timeouts W) (answered : Result (Closed D) (ServerFault × Closed D)) → RunsWithOutput m gives store old known (known_end known ended) → IfOk answered (λ closed. (closed ≡ ended.closed) × (fault_of_end ended ≡ None)) → IfErr answered (λ t. (t.1 ≡ ended.closed) × (fault_of_end ended ≡ Some t.0)) → ServedWithOutput m gives store old known answered
served_with m gives store old known ended answered run is fault = record { ended = known_end known ended; run = run; reports = returned_of known ended answered is fault }
