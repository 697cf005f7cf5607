-- The meaning of an answer for its order.
use Rattle.coord_types.specs.declared.refusals.Refusal.{Refusal}
use Rattle.coord_types.specs.declared.refusals.Refusal.TheVariants.{Stopped, OutOfMemory, Exhausted, OutOfTurn, NumberReused, UnknownNode, NodeExists, HasLinks, SameNode, OtherGroup, LinkExists, NoLink, DegreeFull, LinksFull, BadEpoch, Old, Early, Differs, NotReleased, PendingFull, Behind, Stranger}
use Rattle.coord_orders.specs.declared.meaning.Answer.{Answer}
use Rattle.coord_orders.specs.declared.meaning.Answer.TheVariants.{Replied, Refused}
use Rattle.coord_orders.specs.declared.meaning.Meaning.{Meaning}
use Rattle.coord_orders.specs.declared.meaning.Meaning.TheVariants.{Done, NotDone, SendAgain, CountLost}

abbrev pub meaning_of_refusal : Refusal → Meaning
meaning_of_refusal OutOfTurn = CountLost
meaning_of_refusal NumberReused = CountLost
meaning_of_refusal Exhausted = NotDone
meaning_of_refusal UnknownNode = NotDone
meaning_of_refusal NodeExists = NotDone
meaning_of_refusal HasLinks = NotDone
meaning_of_refusal SameNode = NotDone
meaning_of_refusal OtherGroup = NotDone
meaning_of_refusal LinkExists = NotDone
meaning_of_refusal NoLink = NotDone
meaning_of_refusal DegreeFull = NotDone
meaning_of_refusal LinksFull = NotDone
meaning_of_refusal BadEpoch = NotDone
meaning_of_refusal Stopped = SendAgain
meaning_of_refusal OutOfMemory = SendAgain
meaning_of_refusal PendingFull = SendAgain
meaning_of_refusal Old = SendAgain
meaning_of_refusal Early = SendAgain
meaning_of_refusal Differs = SendAgain
meaning_of_refusal NotReleased = SendAgain
meaning_of_refusal (Behind settled) = SendAgain
meaning_of_refusal Stranger = SendAgain

abbrev pub meaning_of : Answer → Meaning
meaning_of (Replied reply) = Done reply
meaning_of (Refused refusal) = meaning_of_refusal refusal
