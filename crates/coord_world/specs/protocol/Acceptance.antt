-- The steps that a world accepts, and the reason for each refusal: a list of tests, each with its refusal. The first test that
-- holds gives the refusal, so the order of the list is the order of the refusals.
use Rattle.std.specs.Prelude.{◌≡◌, ℕ, ◌+◌, ◌==◌, ◌&&◌, ◌||◌, not, nat_le, nat_lt, Bool, false, true, [], ◌∷◌, ◌++◌, Option, Some, None, Result, Ok, if◌then◌else◌}
use Rattle.coord_types.specs.NodeSet as set
use Rattle.coord_types.specs.Table.{get, has, len}
use Rattle.coord_types.specs.Facade.{NodeState, is_nil, same_command}
use Rattle.coord_types.specs.declared.limits.TheConstants.{MAX_DEGREE, MAX_LINKS, MAX_STEPS}
use Rattle.coord_types.specs.declared.packets.DataPacket.{DataPacket}
use Rattle.coord_types.specs.declared.packets.ReceiptPacket.{ReceiptPacket}
use Rattle.coord_types.specs.declared.steps.Command.{Command}
use Rattle.coord_types.specs.declared.steps.Command.TheVariants.{Add, Remove, Join, Drop, Reset, Confirm}
use Rattle.coord_types.specs.declared.steps.Step.{Step}
use Rattle.coord_types.specs.declared.steps.Step.TheVariants.{Order, Take, Clear}
use Rattle.coord_types.specs.declared.steps.Session.{Session}
use Rattle.coord_types.specs.declared.refusals.Refusal.{Refusal}
use Rattle.coord_types.specs.declared.refusals.Refusal.TheVariants.{Exhausted, OutOfTurn, NumberReused, UnknownNode, NodeExists, HasLinks, SameNode, OtherGroup, LinkExists, NoLink, DegreeFull, LinksFull, BadEpoch, NotReleased}
use Rattle.coord_link.specs.LaneMachine.{Lane, Tests, refused_or, against_take, against_clear}
use Rattle.coord_node.specs.Facade.{is_empty, kind}
use Rattle.coord_world.specs.declared.verdicts.Verdict.{Verdict}
use Rattle.coord_world.specs.declared.verdicts.Verdict.TheVariants.{Fresh, Repeat}
use Rattle.coord_world.specs.protocol.NumberedWorld.{World, lane_at, state, is_linked}

abbrev pub is_unknown : World → ℕ → Bool
is_unknown w u = not (has w.nodes u)

-- whether a node has the maximum number of links
abbrev pub is_full : NodeState → Bool
is_full r = nat_le MAX_DEGREE (set.len r.neighbours)

-- whether a world has the maximum number of links
abbrev pub has_all_links : World → Bool
has_all_links w = nat_le MAX_LINKS (len w.links)

-- the tests of a command; they depend only on the front world
abbrev pub against_command : World → Command → Tests
against_command w (Add u g) = (has w.nodes u, NodeExists) ∷ []
against_command w (Remove u) = (is_unknown w u, UnknownNode) ∷ (not (is_empty (state w u).neighbours), HasLinks) ∷ []
against_command w (Join a b) =
    (is_unknown w a || is_unknown w b, UnknownNode) ∷ (a == b, SameNode) ∷ (not ((state w a).group == (state w b).group), OtherGroup) ∷ (is_linked w a b, LinkExists)
    ∷ (is_full (state w a) || is_full (state w b), DegreeFull) ∷ (has_all_links w, LinksFull) ∷ []
against_command w (Drop a b) = (is_unknown w a || is_unknown w b, UnknownNode) ∷ (a == b, SameNode) ∷ (not (is_linked w a b), NoLink) ∷ []
against_command w (Reset u) = (is_unknown w u, UnknownNode) ∷ []
against_command w (Confirm u e) = (is_unknown w u, UnknownNode) ∷ (not (nat_lt (state w u).confirmed e && nat_le e (state w u).epoch), BadEpoch) ∷ []

abbrev pub of_incarnation : ℕ → Option Lane → Option Lane
of_incarnation i None = None
of_incarnation i (Some l) = if l.inc == i then Some l else None

-- the lane from u to v, if its incarnation is i
abbrev pub lane : World → ℕ → ℕ → ℕ → Option Lane
lane w u v i = of_incarnation i (lane_at w.links u v)

-- whether a lane of the settled world has released the data packet with this number
abbrev pub has_sent : Option Lane → ℕ → Bool
has_sent None n = false
has_sent (Some l) n = (n == l.base + 1) && not (is_nil l.queue)

-- whether a lane of the settled world has released the receipt with this number
abbrev pub has_receipted : Option Lane → ℕ → Bool
has_receipted None n = false
has_receipted (Some l) n = nat_le n l.got

-- the tests of a data packet: first against its lane in the front world, then against its lane in the settled world
abbrev pub against_data : Option Lane → Option Lane → DataPacket → Tests
against_data None settled p = (true, NoLink) ∷ []
against_data (Some l) settled p = against_take l p.number p.msg ++ (not (has_sent settled p.number), NotReleased) ∷ []

abbrev pub against_receipt : Option Lane → Option Lane → ReceiptPacket → Tests
against_receipt None settled p = (true, NoLink) ∷ []
against_receipt (Some l) settled p = against_clear l p.number ++ (not (has_receipted settled p.number), NotReleased) ∷ []

-- the number of a client's last order; 0 if it has none
abbrev pub last_number : Option Session → ℕ
last_number None = 0
last_number (Some s) = s.number

-- the tests of the number of an order that is not a repeat. OutOfTurn: the number is 0, or neither the client's last number nor
-- the next one; NumberReused: the number is the client's last one
abbrev pub against_number : ℕ → ℕ → Tests
against_number last n = (not (n == last + 1) && (not (n == last) || (n == 0)), OutOfTurn) ∷ (n == last, NumberReused) ∷ []

abbrev pub against : World → World → Step → Tests
against front settled (Order c n x) = against_number (last_number (get front.sessions c)) n ++ against_command front x
against front settled (Take p) = against_data (lane front p.from p.to p.inc) (lane settled p.from p.to p.inc) p
against front settled (Clear p) = against_receipt (lane front p.from p.to p.inc) (lane settled p.from p.to p.inc) p

abbrev pub is_exhausted : World → Bool
is_exhausted w = nat_le MAX_STEPS w.count

-- the verdict on a step that is not a repeat
abbrev pub judged : World → World → Step → Result Verdict Refusal
judged front settled s = refused_or (Fresh (kind (state front) s)) ((is_exhausted front, Exhausted) ∷ against front settled s)

-- the client's last order, sent again, is answered with the kept reply; any other order gets this verdict
abbrev pub or_repeat : Option Session → ℕ → Command → Result Verdict Refusal → Result Verdict Refusal
or_repeat None n x verdict = verdict
or_repeat (Some o) n x verdict = if (o.number == n) && same_command o.command x then Ok (Repeat o.reply) else verdict

-- acceptance: the front world's verdict on a step, given the settled world
abbrev pub accepts : World → World → Step → Result Verdict Refusal
accepts front settled (Order c n x) = or_repeat (get front.sessions c) n x (judged front settled (Order c n x))
accepts front settled (Take p) = judged front settled (Take p)
accepts front settled (Clear p) = judged front settled (Clear p)

-- the front world accepts this step, given the settled world, and it is not a repeat
abbrev pub IsFresh : World → World → Step → Type 0
IsFresh front settled s = accepts front settled s ≡ Ok (Fresh (kind (state front) s))
