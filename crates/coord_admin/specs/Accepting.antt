-- How the server reacts when it fails to accept a connection, by the error numbers of Linux's accept(2).
use Rattle.std.specs.Prelude.{ℕ, ℤ, pos, int_lt, unsigned_abs, List, [], ◌∷◌, Option, Some, None, if◌then◌else◌, ◌==◌}
use Rattle.std.specs.declared.io.ErrorKind.{ErrorKind}
use Rattle.std.specs.declared.io.ErrorKind.TheVariants as kind
use Rattle.coord_admin.specs.declared.accepting.Failure.{Failure}
use Rattle.coord_admin.specs.declared.accepting.Failure.TheVariants.{OfClient, OfMeans, OfListener}

-- The reaction to each error number. Errors of a client are EPERM, EINTR, ENONET, EPROTO, ENOPROTOOPT,
-- EOPNOTSUPP, ENETDOWN, ENETUNREACH, ECONNABORTED, ECONNRESET, EHOSTDOWN and EHOSTUNREACH. Resources are
-- lacking after ENOMEM, ENFILE, EMFILE and ENOBUFS.
abbrev pub numbered : List (ℕ × Failure)
numbered =
    (1, OfClient) ∷ (4, OfClient) ∷ (64, OfClient) ∷ (71, OfClient) ∷ (92, OfClient) ∷ (95, OfClient)
    ∷ (100, OfClient) ∷ (101, OfClient) ∷ (103, OfClient) ∷ (104, OfClient) ∷ (112, OfClient) ∷ (113, OfClient)
    ∷ (12, OfMeans) ∷ (23, OfMeans) ∷ (24, OfMeans) ∷ (105, OfMeans) ∷ []

abbrev pub failure_in : List (ℕ × Failure) → ℕ → Failure
failure_in [] code = OfListener
failure_in (row ∷ rows) code = if code == row.0 then row.1 else failure_in rows code

abbrev pub failure_of_number : ℤ → Failure
failure_of_number code = if int_lt code (pos 0) then OfListener else failure_in numbered (unsigned_abs code)

-- the reaction to an error that has no number
abbrev pub failure_of_kind : ErrorKind → Failure
failure_of_kind kind.ConnectionAborted = OfClient
failure_of_kind kind.ConnectionReset = OfClient
failure_of_kind kind.Interrupted = OfClient
failure_of_kind kind.OutOfMemory = OfMeans
failure_of_kind k = OfListener

abbrev pub failure_of : Option ℤ → ErrorKind → Failure
failure_of (Some code) k = failure_of_number code
failure_of None k = failure_of_kind k
