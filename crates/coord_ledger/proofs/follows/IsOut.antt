-- A flight that is the ledger's own, and how the ledger takes it back.
use Rattle.std.proofs.Common.{◌≡◌, ℕ, ◌+◌, false, List, ◌≤◌, length, take, drop, Option, Some, None, Vec, is_some, refl, sym, ap, ◌∙◌, arith, Global}
use Rattle.std.proofs.lemmas.Bool.Decides.{nat_tests}
use Rattle.std.proofs.lemmas.List.{length-take}
use Rattle.coord_store.specs.Kept.{Kept}
use Rattle.coord_ledger.specs.Facade.{FlightState, Good, IsOut, Kind, LedgerState, Log, Mark, Output, Step, Torn, pending, releases_of, settled_count, settled_world, with_doubt, with_settled}
use Rattle.coord_world.specs.Facade.{World, fold, outs}
use Rattle.coord_ledger.specs.code.Holding.{IsCarried, IsLedger, disk_at, listed, out_of, released_from}
use Rattle.coord_ledger.proofs.follows.Granted.{listed-length, outputs_of-length, outputs_of-take, released_are}
use Rattle.coord_ledger.proofs.follows.Kept.{back_good, back_torn}
use Rattle.coord_ledger.proofs.machine.Logs.{count_after}

module _ {D : Type 0} where
  -- what a ledger and a flight are to contracts, of their parts
  abbrev pub ledger_of : Log → ℕ → Option (Kept D) → LedgerState D
  ledger_of log out store = record { log = log; out = out_of store out; disk = disk_at store }

  abbrev pub flight_of : ℕ → List Step → World → Mark → Kept D → FlightState D
  flight_of first steps world mark kept = record { first = first; steps = steps; world = world; mark = mark; disk = kept.disk }

  -- a ledger of which a flight is out
  away_of : (log : Log) (kinds : List Kind) (given : List (List Output)) (front settled : World) (out n : ℕ) (store : Option (Kept D)) → IsLedger log kinds given front settled out store → out_of store out ≡ Some n
      → IsLedger {D = D} log kinds given front settled n None
  away_of log kinds given front settled out n None is flown = let same : out ≡ n = cc in rw (sym same) is
  away_of log kinds given front settled out n (Some kept) is flown = cc

  module _ (log : Log) (kinds : List Kind) (given : List (List Output)) (front settled : World) (out : ℕ) (store : Option (Kept D)) (l : LedgerState D) (seen : ledger_of log out store ≡ l) (is : IsLedger log kinds given front settled out store) (f : FlightState D) (kept : Kept D) (later : Option (Kept D)) (carried : IsCarried f kept) (own : IsOut l f) (home : later ≡ Some kept) where
    parts : IsOut (ledger_of log out store) f
    parts = rw seen own

    away : IsLedger {D = D} log kinds given front settled (length f.steps) None
    away = away_of log kinds given front settled out (length f.steps) store is parts.size

    pub took_torn : (n : ℕ) → n ≡ length f.steps → f.mark ≡ Torn → IsLedger (with_doubt log n) kinds given front settled out later
    took_torn n size torn =
        rw home
        (rw size (back_torn log kinds given front settled (length f.steps) out kept f away carried torn parts.world refl parts.steps))

    pub took_good : (n : ℕ) (left : List (List Output)) (led : World) → n ≡ length f.steps → f.mark ≡ Good → left ≡ drop n given → led ≡ fold f.world f.steps → IsLedger (with_settled log n) kinds left front led out later
    took_good n left led size good rest folded =
        rw home (rw size
        (back_good log kinds given left front settled led (length f.steps) out kept f away carried good parts.world refl parts.steps (rest ∙ ap (λ m. drop m given) size) folded))

  -- ---- whether it is the own one

  module _ (log : Log) (kinds : List Kind) (given : List (List Output)) (front settled : World) (out : ℕ) (store : Option (Kept D)) (is : IsLedger log kinds given front settled out store) (first : ℕ) (steps : List Step) (world : World) (mark : Mark) (kept : Kept D) where
    pub own_is : is_some store ≡ false → length steps ≡ out → first ≡ settled_count log + 1 → world ≡ settled → steps ≡ take out (drop log.settled log.trail) → IsOut (ledger_of log out store) (flight_of first steps world mark kept)
    own_is gone size number at same = grind (arith, nat_tests)

    pub own_steps : length steps ≡ out → IsOut (ledger_of log out store) (flight_of first steps world mark kept) → steps ≡ take out (drop log.settled log.trail)
    own_steps size own = own.steps ∙ ap (λ n. take n (pending log)) size

  -- ---- its releases

  module _ (log : Log) (kinds : List Kind) (front settled : World) (out : ℕ) (store : Option (Kept D)) (f : FlightState D) (own : IsOut (ledger_of log out store) f) where
    -- each step of the flight has given something out
    pub given_within : (vs : List (Vec Output Global)) → IsLedger log kinds (listed vs) front settled out store → length f.steps ≤ length vs
    given_within vs is =
        omega (arith, listed-length vs, ap length is.given_is, outputs_of-length (pending log) (settled_world log), ap length own.steps, length-take (length f.steps) (pending log))

    -- what the steps of the flight have given out is what the flight releases
    pub gives_out : (given : List (List Output)) (first size : ℕ) → IsLedger log kinds given front settled out store → first ≡ settled_count log + 1 → size ≡ length f.steps → released_from first (take size given) ≡ releases_of (outs f.world f.steps)
    gives_out given first size is number all = grind (arith, nat_tests, count_after, outputs_of-take, released_are)
