-- The lines that a server prints, and the state of its printer.
use Rattle.std.specs.List.{AllByRecursion}
use Rattle.std.specs.Prelude.{◌≡◌, ◌⊎◌, ℕ, Bool, false, true, List, [], ◌∷◌, ◌++◌, Option, None, Some, ◌||◌, codes, decimal, flat_map, nat_le, not}
use Rattle.std.specs.Io.KnownBytes.{Appends}
use Rattle.std.specs.Net.Text.{socket_text}
use Rattle.std.specs.declared.net.socket_addr.SocketAddr.{SocketAddr}
use Rattle.coord_lines.specs.Written.{IsFirstPart, WritesFirstPart}
use Rattle.coord_engine.specs.Working.{one_more}
use Rattle.coord_server.specs.declared.fault.ServerFault.{ServerFault}
use Rattle.coord_server.specs.declared.fault.ServerFault.TheVariants as fault
use Rattle.coord_server.specs.declared.last_line.LastLine.{LastLine}
use Rattle.coord_server.specs.Lines.{after_line, is_next, nothing_since}
use Rattle.coord_server.specs.Signals.{StepSignal}

-- the line that states the address at which the server listens
abbrev pub listening_line : SocketAddr → List ℕ
listening_line address = codes "listening " ++ socket_text address ++ codes "\n"

-- the line that states that a reset has ended at this node and this epoch has begun
abbrev pub signal_line : ℕ → ℕ → List ℕ
signal_line node epoch = codes "signal " ++ decimal node ++ codes " " ++ decimal epoch ++ codes "\n"

-- The state of a printer: its output as contracts see it, whether a line could not be written, the number of
-- signals that were lost because they may not follow the last one, and the last printed signal.
pub record PrinterState (W : Type 0) : Type 0 where
  pub output : W
  pub is_broken : Bool
  pub lost : ℕ
  pub last : LastLine

-- the state of a printer that has printed nothing yet, and prints only signals of steps after this one
abbrev pub new_printer : {W : Type 0} → W → ℕ → PrinterState W
new_printer output since = record { output = output; is_broken = false; lost = 0; last = nothing_since since }

-- the lines of these signals, in order
abbrev pub signal_lines : List StepSignal → List ℕ
signal_lines signals = flat_map (λ s. signal_line s.node s.epoch) signals

-- Each of these signals may follow the one before it, and the first may follow `first`. `last` is the state after all of them.
abbrev pub Follow : LastLine → List StepSignal → LastLine → Type 0
Follow first [] last = last ≡ first
Follow first (s ∷ later) last = (is_next first s.step s.node ≡ true) × Follow (after_line first s.step s.node) later last

-- the state after one more signal was lost
abbrev pub with_lost : {W : Type 0} → PrinterState W → PrinterState W
with_lost p = record p { lost = one_more p.lost }

-- whether a line could not be written, or a signal of a step that is not settled was printed
abbrev pub is_amiss : {W : Type 0} → PrinterState W → ℕ → Bool
is_amiss p settled = p.is_broken || not (nat_le p.last.step settled)

-- the faults with which the printing of a line may fail
abbrev pub IsOfPrinting : ServerFault → Type 0
IsOfPrinting returned = (returned ≡ fault.OutOfMemory) ⊎ (returned ≡ fault.Write)

-- The output failed within the line of an address. `torn`, the written part, is a prefix of the line.
pub record IsTornAddress {W : Type 0} (q : PrinterState W) (torn : List ℕ) : Type 0 where
  pub broken : q.is_broken ≡ true
  pub address : SocketAddr
  pub part : IsFirstPart torn (listening_line address)

-- The output failed within the line of a signal. `torn`, the written part, is a prefix of the line. The signal may be printed,
-- and may follow the last one.
pub record IsTornSignal {W : Type 0} (may : ℕ → ℕ → ℕ → Type 0) (q : PrinterState W) (torn : List ℕ) : Type 0 where
  pub broken : q.is_broken ≡ true
  pub signal : StepSignal
  pub may_be_printed : may signal.step signal.node signal.epoch
  pub next : is_next q.last signal.step signal.node ≡ true
  pub part : IsFirstPart torn (signal_line signal.node signal.epoch)

-- If the first line was requested and not printed, the reason: memory ran out, or the output failed.
abbrev pub IsUnprintedFor : {W : Type 0} → PrinterState W → Option ServerFault → Type 0
IsUnprintedFor p None = Unit {0}
IsUnprintedFor p (Some fault.OutOfMemory) = Unit {0}
IsUnprintedFor p (Some fault.Write) = p.is_broken ≡ true
IsUnprintedFor p (Some other) = ⊥

-- `contents`: the bytes that an output holds, if they are known
module _ {W : Type 0} (contents : W → Option (List ℕ)) where
  -- The line of an address was printed.
  abbrev pub PrintsAddress : PrinterState W → PrinterState W → Type 0
  PrintsAddress p q = (address : SocketAddr) × Appends (contents p.output) (contents q.output) (listening_line address) × (q.is_broken ≡ false) × (q.last ≡ p.last)

  -- A prefix of this line was written, and then the output failed. No more lines are printed.
  abbrev pub BreaksIn : PrinterState W → List ℕ → PrinterState W → Type 0
  BreaksIn p line q = WritesFirstPart (contents p.output) (contents q.output) line × (q.is_broken ≡ true) × (q.lost ≡ p.lost) × (q.last ≡ p.last)

  -- The signal's line was printed if the signal may follow the last one; otherwise nothing was printed, and
  -- the signal counts as lost.
  abbrev pub Prints : PrinterState W → StepSignal → PrinterState W → Type 0
  Prints p s q =
      ((is_next p.last s.step s.node ≡ true) × Appends (contents p.output) (contents q.output) (signal_line s.node s.epoch) × (q.is_broken ≡ false) × (q.lost ≡ p.lost) × (q.last ≡ after_line p.last s.step s.node))
      ⊎ ((is_next p.last s.step s.node ≡ false) × (q ≡ with_lost p))

  -- These signals arrived in order. Each was printed once, or was lost because it may not follow the last printed signal.
  abbrev pub PrintsEach : PrinterState W → List StepSignal → PrinterState W → Type 0
  PrintsEach p [] q = q ≡ p
  PrintsEach p (s ∷ later) q = (m : PrinterState W) × Prints p s m × PrintsEach m later q

  -- `may`: the signals that may be printed, by step, node and epoch
  module _ (may : ℕ → ℕ → ℕ → Type 0) where
    -- The lines of permitted signals were printed, and each signal may follow the one before. If the output failed within a
    -- further line, a prefix of that line was written too.
    pub record HasPrinted (p q : PrinterState W) : Type 0 where
      pub signals : List StepSignal
      pub torn : List ℕ
      pub bytes : Appends (contents p.output) (contents q.output) (signal_lines signals ++ torn)
      pub may_be_printed : AllByRecursion (λ s. may s.step s.node s.epoch) signals
      pub follow : Follow p.last signals q.last
      pub whole : (torn ≡ []) ⊎ IsTornSignal may q torn

    -- Either the line of an address was printed, and then lines of permitted signals, perhaps with a prefix of one more; or only
    -- a prefix of the address line was written, possibly empty.
    pub record IsPrinted (p q : PrinterState W) : Type 0 where
      pub first : List ℕ
      pub signals : List StepSignal
      pub torn : List ℕ
      pub bytes : Appends (contents p.output) (contents q.output) (first ++ (signal_lines signals ++ torn))
      pub opened :
          ((first ≡ []) × (signals ≡ []) × ((torn ≡ []) ⊎ IsTornAddress q torn))
          ⊎ ((address : SocketAddr) × (first ≡ listening_line address) × ((torn ≡ []) ⊎ IsTornSignal may q torn))
      pub may_be_printed : AllByRecursion (λ s. may s.step s.node s.epoch) signals
      pub follow : Follow p.last signals q.last
