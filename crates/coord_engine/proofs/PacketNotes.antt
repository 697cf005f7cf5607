-- Notes of packets' steps.
use Rattle.std.proofs.Common.{◌≡◌, List, [], ◌++◌, Result, sym, ap, ◌∙◌, subst, All, arith}
use Rattle.std.proofs.lemmas.List.{append-nil, append_assoc}
use Rattle.std.proofs.lemmas.List.Elements.{All-append, All-nil, All-push}
use Rattle.coord_types.specs.declared.packets.Packet.{Packet}
use Rattle.coord_types.specs.declared.refusals.Refusal.{Refusal}
use Rattle.coord_types.specs.declared.steps.Step.{Step}
use Rattle.coord_world.specs.declared.verdicts.Verdict.{Verdict}
use Rattle.coord_ledger.specs.declared.ticket.Note.{Note}
use Rattle.coord_ledger.specs.ledger.State.{Claim}
use Rattle.coord_engine.specs.Facade.{AddsPackets, AnswersStep, Basis, IsOfPacket, LedgerAndNotes, engine_verdict, step_of}
use Rattle.coord_engine.specs.Threads.{AtSomeMoment, Submits}

-- no note was added
pub adds_none : (notes later : List Note) → later ≡ notes → AddsPackets notes later
adds_none notes later same = record { added = []; are = same ∙ sym (append-nil notes); packets = All-nil IsOfPacket }

-- some were added, and then some more
pub adds_more : (a b c : List Note) → AddsPackets a b → AddsPackets b c → AddsPackets a c
adds_more a b c f g =
    record {
      added = f.added ++ g.added;
      are = g.are ∙ ap (λ (l : List Note). l ++ g.added) f.are ∙ append_assoc a f.added g.added;
      packets = All-append IsOfPacket f.added g.added f.packets g.packets;
    }

-- where all notes were of packets, they still are
pub all_of_packets : (notes later : List Note) → AddsPackets notes later → All IsOfPacket notes → All IsOfPacket later
all_of_packets notes later adds all = subst (All IsOfPacket) (sym adds.are) (All-append IsOfPacket notes adds.added all adds.packets)

-- what is added with an answer to a packet's step
answered : (D : Type 0) (p : Packet) (s : Step) → s ≡ step_of p → (v : Result Verdict Refusal) (before : LedgerAndNotes D) (answer : Result Claim Refusal) (after : LedgerAndNotes D) → AnswersStep s v before answer after → AddsPackets before.notes after.notes
answered D p s h1 v before answer after h2 = grind (arith, All-push, All-nil, adds_none)

-- what is added where it was submitted
pub adds_packet : {D : Type 0} (b : Basis D) (p : Packet) (s : Step) → s ≡ step_of p → (answer : Result Claim Refusal) (notes later : List Note) → AtSomeMoment b (Submits {D = D} s answer notes later) → AddsPackets notes later
adds_packet {D} b p s is answer notes later moment = answered D p s is (engine_verdict moment.state s) (record { ledger = moment.state.ledger; notes = notes }) answer (record { ledger = moment.so.0; notes = later }) moment.so.1
