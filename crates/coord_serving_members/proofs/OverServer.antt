-- What a server shows over all its connections are the worlds of one history, none older than the one before.
use Rattle.std.proofs.Common.{◌≡◌, ℕ, zero, suc, ◌+◌, ◌==◌, ◌≤◌, Bool, true, false, List, [], ◌∷◌, ◌++◌, Option, Some, Result, Ok, Err, map, take, length, slice_get, sym, ap, subst, ◌∙◌, arith, append-nil, length-append, if◌then◌else◌}
use Rattle.std.proofs.Math.Seq.{take-append-add}
use Rattle.std.specs.List.{AllByRecursion}
use Rattle.coord_disk.specs.Model.DiskModel.{DiskModel}
use Rattle.coord_types.specs.declared.steps.Step.{Step}
use Rattle.coord_view.specs.Shown.{Shown, shown}
use Rattle.coord_world.specs.Facade.{World, fold}
use Rattle.coord_world.specs.laws.Trails.{IsSound}
use Rattle.coord_world.proofs.Facade.{trail_each_fresh, trail_is_cut}
use Rattle.coord_member.specs.Members as member
use Rattle.coord_member.specs.declared.view.Entry.{Entry}
use Rattle.coord_member.specs.declared.view.Row.{Row}
use Rattle.coord_look.specs.Shown.{IsShownTo}
use Rattle.coord_look.proofs.Worlds.{look_is_shown}
use Rattle.coord_following.specs.Histories.{IsHistory, Takes, Turn, world_at}
use Rattle.coord_following.specs.Stores.{AreShown}
use Rattle.coord_following.proofs.Lives.{sound_at}
use Rattle.coord_following.proofs.OverLedgers.{history_of, world_of_steps}
use Rattle.coord_following.proofs.OverStores.{no_mix_over_a_store}
use Rattle.coord_admin.specs.Connections.{Connection, Talk}
use Rattle.coord_admin.specs.Requests.{asked_by}
use Rattle.coord_admin.specs.declared.answer.Answer.TheVariants as answer
use Rattle.coord_admin.specs.declared.fault.LineFault.{LineFault}
use Rattle.coord_admin.specs.declared.request.Request.{Request}
use Rattle.coord_admin.specs.declared.request.Request.TheVariants as request
use Rattle.coord_engine.proofs.Histories.{first_of_first}
use Rattle.coord_engine.specs.Facade.{StartsWith, first_settled}
use Rattle.coord_server.proofs.RunReturned.{leads, run_answers_from_one_history}
use Rattle.coord_server.specs.InOrder.{AllInOrder, BearOut, GoOn, IsBorneOut, Returned}
use Rattle.coord_server.specs.Instances.{all_steps}
use Rattle.coord_serving_members.specs.Server.{AreReadIn, IsLookAt, NoMixOverAServer, returned_over}

-- ---- answers, one after the other

go_on_after : (first now last : List Step) (returned later : List Returned) → GoOn first returned now → GoOn now later last → GoOn first (returned ++ later) last
go_on_after first now last [] [] is on = first_of_first first now last is on
go_on_after first now last [] (t ∷ later) is on = (first_of_first first now t.after is on.0, on.1)
go_on_after first now last (t ∷ returned) later is on = (is.0, go_on_after t.after now last returned later is.1 on)

both : (P : Returned → Type 0) (xs ys : List Returned) → AllByRecursion P xs → AllByRecursion P ys → AllByRecursion P (xs ++ ys)
both P [] ys is also = also
both P (x ∷ xs) ys is also = (is.0, both P xs ys is.1 also)

go_on_over : (world : World) (first : List Step) (cs : List Connection) (last : List Step) → (is : AllInOrder world first cs last) → GoOn first (returned_over world first cs last is) last
go_on_over world first [] last is = is
go_on_over world first (c ∷ cs) last is = go_on_after first is.0 last (is.1.returned ++ is.1.torn) (returned_over world is.0 cs last is.2) is.1.go_on (go_on_over world is.0 cs last is.2)

borne_out_over : (world : World) (first : List Step) (cs : List Connection) (last : List Step) → (is : AllInOrder world first cs last) → AllByRecursion (IsBorneOut world) (returned_over world first cs last is)
borne_out_over world first [] last is = tt
borne_out_over world first (c ∷ cs) last is = both (IsBorneOut world) (is.1.returned ++ is.1.torn) (returned_over world is.0 cs last is.2) is.1.borne_out (borne_out_over world is.0 cs last is.2)

-- by how many steps the answer at a place was given
abbrev count_at : List Returned → ℕ → ℕ
count_at [] place = 0
count_at (t ∷ returned) zero = length t.after
count_at (t ∷ returned) (suc place) = count_at returned place

same_of : (t u : Returned) → Some t ≡ Some u → t ≡ u
same_of t u is = cc is

-- an answer, the steps by which it was given, and what they bear out
record IsAnswer (world : World) (last : List Step) (returned : List Returned) (place : ℕ) (t : Returned) : Type 0 where
  on : StartsWith last t.after
  count : count_at returned place ≡ length t.after
  borne_out : IsBorneOut world t

answer_at : (world : World) (first last : List Step) (returned : List Returned) (place : ℕ) (t : Returned) → GoOn first returned last → AllByRecursion (IsBorneOut world) returned → slice_get returned place ≡ Some t → IsAnswer world last returned place t
answer_at world first last [] place t on is there = absurd cc
answer_at world first last (u ∷ returned) zero t on is there =
    let same : u ≡ t = same_of u t there in
    record {
      on = subst (λ (x : Returned). StartsWith last x.after) same (leads u.after returned last on.1);
      count = ap (λ (x : Returned). length x.after) same;
      borne_out = subst (IsBorneOut world) same is.0;
    }
answer_at world first last (u ∷ returned) (suc place) t on is there =
    let later = answer_at world u.after last returned place t on.1 is.1 there in
    record { on = later.on; count = later.count; borne_out = later.borne_out }

longer : (steps first : List Step) → StartsWith steps first → length first ≤ length steps
longer steps first is = let long : length steps ≡ length first + length is.0 = ap length is.1 ∙ length-append first is.0 in omega (arith, long)

-- from an answer on, none is given by fewer
no_fewer : (first last : List Step) (returned : List Returned) (place : ℕ) (t : Returned) → GoOn first returned last → slice_get returned place ≡ Some t → length first ≤ count_at returned place
no_fewer first last [] place t on there = absurd cc
no_fewer first last (u ∷ returned) zero t on there = longer u.after first on.0
no_fewer first last (u ∷ returned) (suc place) t on there =
    let one = longer u.after first on.0 in
    let more = no_fewer u.after last returned place t on.1 there in
    omega (arith, one, more)

grows : (first last : List Step) (returned : List Returned) (p q : ℕ) (t : Returned) → GoOn first returned last → slice_get returned q ≡ Some t → p ≤ q → count_at returned p ≤ count_at returned q
grows first last [] p q t on there le = absurd cc
grows first last (u ∷ returned) zero zero t on there le = omega arith
grows first last (u ∷ returned) zero (suc q) t on there le = no_fewer u.after last returned q t on.1 there
grows first last (u ∷ returned) (suc p) zero t on there le = absurd (omega (arith, le))
grows first last (u ∷ returned) (suc p) (suc q) t on there le = grows u.after last returned p q t on.1 there (omega (arith, le))

-- ---- shown worlds

-- a view is that of the world after the steps by which it was given
shows : (world : World) (steps : List Step) (asked : Result Request LineFault) (view : Shown) → BearOut world steps asked (answer.Shown view) → (accepted : ℕ) × (view ≡ shown accepted (fold world steps))
shows world steps (Ok request.Show) view is = is
shows world steps (Ok (request.Order client number command)) view is = absurd is
shows world steps (Ok request.Resend) view is = absurd is
shows world steps (Ok request.Close) view is = absurd is
shows world steps (Err f) view is = absurd is

take_all : (first others : List Step) → take (length first) (first ++ others) ≡ first
take_all first others =
    let same : length first ≡ length first + 0 = omega arith in
    ap (λ n. take n (first ++ others)) same ∙ take-append-add first others 0 ∙ append-nil first

module _ (world : World) (settled : List Step) (returned : List Returned) (sound : IsSound world) (history : IsHistory world (map Takes settled)) (on : GoOn [] returned settled) (borne_out : AllByRecursion (IsBorneOut world) returned) where
  abbrev turns : List Turn
  turns = map Takes settled

  -- the world after the steps by which an answer was given is one of the history
  world_there : (steps : List Step) → StartsWith settled steps → world_at world (length steps) turns ≡ fold world steps
  world_there steps is = world_of_steps world (length steps) settled ∙ ap (fold world) (ap (take (length steps)) is.1 ∙ take_all steps is.0)

  look_shown : (place i : ℕ) (row : Row) (now : List Entry) (t : Returned) (view : Shown) → slice_get returned place ≡ Some t → t.answer ≡ answer.Shown view → IsLookAt view i row now → IsShownTo (world_at world (count_at returned place) turns) i row now
  look_shown place i row now t view there is look =
      let at = answer_at world [] settled returned place t on borne_out there in
      let view_is = shows world t.after (asked_by t.line) view (subst (BearOut world t.after (asked_by t.line)) is at.borne_out) in
      let here : world_at world (count_at returned place) turns ≡ fold world t.after = ap (λ n. world_at world n turns) at.count ∙ world_there t.after at.on in
      let sound_there : IsSound (fold world t.after) = subst IsSound (world_there t.after at.on) (sound_at world (length t.after) turns sound history) in
      let read : IsLookAt (shown view_is.0 (fold world t.after)) i row now = subst (λ v. IsLookAt v i row now) view_is.1 look in
      subst (λ w. IsShownTo w i row now) (sym here) (look_is_shown (fold world t.after) view_is.0 i read.own row now sound_there.in_range read.there read.read)

  -- of the place that is looked at, or of one before it
  still_below : (b : Bool) (place low last : ℕ) → low ≤ count_at returned last → (if b then count_at returned place else low) ≤ count_at returned (if b then place else last)
  still_below true place low last le = omega arith
  still_below false place low last le = le

  are_shown : (low last : ℕ → ℕ) (looks : List member.Event) → ((j : ℕ) → low j ≤ count_at returned (last j)) → AreReadIn returned last looks → AreShown world turns low looks
  are_shown low last [] below read = tt
  are_shown low last (member.Look i row now ∷ looks) below (place, (le, (t, (there, (view, (is, (look, rest))))))) =
      let more = grows [] settled returned (last i) place t on there le in
      let before = below i in (
        count_at returned place,
        (
          omega (arith, before, more),
          (
            look_shown place i row now t view there is look,
            are_shown (λ j. if j == i then count_at returned place else low j) (λ j. if j == i then place else last j) looks (λ j. still_below (j == i) place (low j) (last j) (below j)) rest,
          ),
        ),
      )
  are_shown low last (member.Load i ∷ looks) below read = are_shown low last looks below read
  are_shown low last (member.Crash i ∷ looks) below read = are_shown low last looks below read
  are_shown low last (member.Forget i ∷ looks) below read = are_shown low last looks below read
  are_shown low last (member.Lose i ∷ looks) below read = are_shown low last looks below read
  are_shown low last (member.Send i ∷ looks) below read = are_shown low last looks below read
  are_shown low last (member.Hear i k ∷ looks) below read = are_shown low last looks below read

pub no_mix_over_a_server : {D V W : Type 0} (m : DiskModel D) (talked : V → List Talk → V → Type 0) (failed : V → V → Type 0) (contents : W → Option (List ℕ)) (gives : List Step → ℕ → ℕ → ℕ → Type 0) → NoMixOverAServer m talked failed contents gives
no_mix_over_a_server m talked failed contents gives most store v printer ended run =
    let steps = all_steps run.instances in
    let settled = first_settled store.world steps ended.closed.settled in
    let is = run_answers_from_one_history m talked failed contents gives most store v printer ended run in
    let returned = returned_over store.world [] is.connections settled is.returned in
    let history : IsHistory store.world (map Takes settled) = history_of store.world settled (trail_each_fresh store.world settled (trail_is_cut store.world steps _ run.trail).first) in
    let on = go_on_over store.world [] is.connections settled is.returned in
    let borne_out = borne_out_over store.world [] is.connections settled is.returned in (
      is,
      λ looks read. no_mix_over_a_store store.world (map Takes settled) looks run.trail.sound history (are_shown store.world settled returned run.trail.sound history on borne_out (λ j. 0) (λ j. 0) looks (λ j. omega arith) read),
    )
