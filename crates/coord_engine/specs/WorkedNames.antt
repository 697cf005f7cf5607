-- Worked examples: notes compared with steps.
use Rattle.std.specs.Prelude.{List, [], ◌∷◌}
use Rattle.coord_types.specs.declared.steps.Command.TheVariants.{Reset}
use Rattle.coord_types.specs.declared.steps.Kind.{Kind}
use Rattle.coord_types.specs.declared.steps.Kind.TheVariants.{Joined, Started}
use Rattle.coord_types.specs.declared.steps.Step.{Step}
use Rattle.coord_types.specs.declared.steps.Step.TheVariants.{Order}
use Rattle.coord_ledger.specs.declared.ticket.Note.{Note}
use Rattle.coord_engine.specs.Named.{IsAmong, IsNamed}

-- two steps that follow two other steps, the kinds of their replies, and their notes
abbrev pub first : Step
first = Order 1 3 (Reset 1)

abbrev pub second : Step
second = Order 2 1 (Reset 2)

abbrev pub both_kinds : List Kind
both_kinds = Started ∷ Joined ∷ []

abbrev pub third_note : Note
third_note = record { step = 3; what = first; kind = Started }

abbrev pub fourth_note : Note
fourth_note = record { step = 4; what = second; kind = Joined }

-- Two shares with one note each name the two steps.
abbrev pub NamedByTwo : Type 0
NamedByTwo = IsNamed ((fourth_note ∷ []) ∷ (third_note ∷ []) ∷ []) 2 (first ∷ second ∷ []) both_kinds

-- One share with both notes in the wrong order does not name the two steps.
abbrev pub NotInOrder : Type 0
NotInOrder = ¬ IsNamed ((fourth_note ∷ third_note ∷ []) ∷ []) 2 (first ∷ second ∷ []) both_kinds

-- Without one of the notes, the two steps are not named.
abbrev pub NotOneShort : Type 0
NotOneShort = ¬ IsNamed ((third_note ∷ []) ∷ []) 2 (first ∷ second ∷ []) both_kinds

-- A note with another kind of reply does not name its step.
abbrev pub NotOfAnotherKind : Type 0
NotOfAnotherKind = ¬ IsNamed ((record third_note { kind = Joined } ∷ []) ∷ []) 2 (first ∷ []) (Started ∷ [])

-- After a base of two steps, the fourth step is the second of this list. A note of the same step with another
-- number isn't among the steps.
abbrev pub NamesInPlace : Type 0
NamesInPlace = IsAmong 2 (first ∷ second ∷ []) fourth_note × ¬ IsAmong 2 (first ∷ second ∷ []) (record { step = 2; what = second; kind = Joined })
