-- The work of a server: it serves one connection after another, each as a stream of lines.
use Rattle.std.specs.Prelude.{◌≡◌, ℕ, ◌*◌, List, [], ◌∷◌, ◌++◌, map, Bool, true, false, Result, Ok, Err}
use Rattle.coord_admin.specs.declared.request.Request.{Request}
use Rattle.coord_admin.specs.declared.answer.Answer.{Answer}
use Rattle.coord_admin.specs.declared.fault.ServeFault.{ServeFault}
use Rattle.coord_admin.specs.declared.session.Ended.{Ended}
use Rattle.coord_admin.specs.declared.session.Ended.TheVariants.{Input, Closed, Cut}
use Rattle.coord_admin.specs.InstanceLimit.{HasKept, HasKeptFewer}
use Rattle.coord_admin.specs.Stream.{Served}

-- the bytes that were read from a connection, and the bytes that were written to it
pub record Talk : Type 0 where
  pub bytes_read : List ℕ
  pub bytes_written : List ℕ

-- a served connection: the bytes read and written, and how it ended
pub record Connection : Type 0 where
  pub talk : Talk
  pub ended : Result Ended ServeFault

-- the bytes read and written over each of these connections
abbrev pub talks : List Connection → List Talk
talks cs = map (λ c. c.talk) cs

-- whether a line closed the desk
abbrev pub has_closed : Result Ended ServeFault → Bool
has_closed (Ok Closed) = true
has_closed (Ok Input) = false
has_closed (Ok Cut) = false
has_closed (Err f) = false

-- `keeps d n`: the desk d may keep n steps. `most`: the number of kept steps at which the desk's instance
-- is old
module _ {D : Type 0} (answers : D → Request → Answer → D → Type 0) (keeps : D → ℕ → Type 0) (most : ℕ) where
  -- A connection began while the desk kept fewer steps than `most`, and was served. It was cut only if the
  -- desk kept at least twice `most` steps when the connection ended.
  abbrev pub IsServed : D → Connection → D → Type 0
  IsServed d c e = HasKeptFewer keeps d most × Served answers d c.talk.bytes_read c.talk.bytes_written c.ended e × (c.ended ≡ Ok Cut → HasKept keeps e (2 * most))

  -- These connections were served one after another, and none of them closed the desk.
  abbrev pub AllServed : D → List Connection → D → Type 0
  AllServed d [] e = e ≡ d
  AllServed d (c ∷ cs) e = (f : D) × IsServed d c f × (has_closed c.ended ≡ false) × AllServed f cs e

  -- `talked v talks w`: the callers were in the state v, had these talks, and then are in the state w
  module _ {V : Type 0} (talked : V → List Talk → V → Type 0) where
    -- Connections were served up to one that closed the desk.
    abbrev pub ServedToClose : V → D → V → D → Type 0
    ServedToClose v d w e = (cs : List Connection) × (last : Connection) × (f : D) × talked v (talks (cs ++ last ∷ [])) w × AllServed d cs f × IsServed f last e × (has_closed last.ended ≡ true)

    -- Connections were served, and none of them closed the desk.
    abbrev pub ServedOpen : V → D → V → D → Type 0
    ServedOpen v d w e = (cs : List Connection) × talked v (talks cs) w × AllServed d cs e
