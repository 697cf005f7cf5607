-- Members whose histories have more parties than their starts have talked with.
--
-- A member writes the shown party into its history before it knows whether its start will talk with that party. After a power
-- cut, the member no longer knows which parties it wrote in advance, so it treats each of them as a party that a start has talked
-- with.
use Rattle.std.specs.Prelude.{◌≡◌, ◌⊎◌, ℕ, suc, Bool, List, [], ◌∷◌, ◌++◌}
use Rattle.coord_member.specs.declared.view.Entry.{Entry}
use Rattle.coord_member.specs.declared.view.Row.{Row}
use Rattle.coord_member.specs.declared.rule.Due.{Due}
use Rattle.coord_member.specs.declared.rule.Due.TheVariants.{Wait, Reset}
use Rattle.coord_member.specs.Rule.{Kept, due, due_of, kept_for, was_before}
use Rattle.coord_member.specs.Members.{Event, Look, MemberWorld, happens, looked, member_for, new_world}
use Rattle.coord_member.specs.NoMix.{IsUnmixed}
use Rattle.coord_member.specs.Honest.{nothing_shown}
use Rattle.coord_member.specs.Fair.{IsFair}

-- the due action if the history also had these parties
abbrev pub due_with : List (List Entry) → Kept → Row → List Entry → Due
due_with more kept row now = due_of kept.begun kept.party (was_before now (more ++ kept.history)) row now

-- more parties in the history do not change the due action, or turn it into waiting or a reset
abbrev pub MoreOnlyForbids : Type 0
MoreOnlyForbids = (more : List (List Entry)) (kept : Kept) (row : Row) (now : List Entry) → (due_with more kept row now ≡ due kept row now) ⊎ ((due_with more kept row now ≡ Wait) ⊎ (due_with more kept row now ≡ Reset))

-- the world after an event, if the history of the looking member also had these parties
abbrev pub happens_with : MemberWorld → List (List Entry) → Event → MemberWorld
happens_with w more (Look i row now) =
    let m = w.member i in let d = due_with more m.kept row now in looked w i (member_for m (kept_for m.kept now d) row d)
happens_with w more event = happens w event

-- the world after these events, if histories have additional parties, which may differ from event to event
abbrev pub run_with : (ℕ → List (List Entry)) → MemberWorld → List Event → MemberWorld
run_with more w [] = w
run_with more w (event ∷ events) = run_with (λ k. more (suc k)) (happens_with w (more 0) event) events

-- no runs are mixed, whichever members may lose their files, and whatever additional parties histories have at each
-- look
abbrev pub NoMixWithMore : Type 0
NoMixWithMore = (keeps : ℕ → Bool) (made : ℕ → Entry → ℕ) (more : ℕ → List (List Entry)) (events : List Event) → IsFair keeps made nothing_shown events → IsUnmixed (run_with more new_world events)
