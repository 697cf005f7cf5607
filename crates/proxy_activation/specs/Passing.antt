-- The sockets that the service manager passes: their number, and the descriptor of each.
use Rattle.std.specs.Prelude.{ℕ, ◌&&◌, ◌^◌, ◌+◌, ◌++◌, zero, suc, nat_lt, nat_eq, if◌then◌else◌, List, [], ◌∷◌, length, Option, None, Some, option_and_then, Result, Ok, Err}
use Rattle.std.specs.Str.{all_ascii_digits}
use Rattle.std.specs.Str.Parse.{digits_value}
use Rattle.proxy_activation.specs.declared.fault.ActivationFault.{ActivationFault}
use Rattle.proxy_activation.specs.declared.fault.ActivationFault.TheVariants.{NotActivated, OtherProcess, NotACount}

-- the value of one or more decimal digits, if it is below 2^32
unfoldable pub number_of : List ℕ → Option ℕ
number_of text = if all_ascii_digits text && (nat_lt 0 (length text) && nat_lt (digits_value 10 text) (2 ^ 32))
    then Some (digits_value 10 text)
    else None

-- the value of one or more decimal digits, if it is below 65,536
abbrev pub count_of : List ℕ → Option ℕ
count_of text = option_and_then (λ n. if nat_lt n (2 ^ 16) then Some n else None) (number_of text)

-- the number of sockets passed to a process, given LISTEN_PID and LISTEN_FDS, each None if it is not a number
abbrev pub opened_for : ℕ → Option ℕ → Option ℕ → Result ℕ ActivationFault
opened_for process (Some pid) (Some count) = if nat_eq pid process then Ok count else Err OtherProcess
opened_for process (Some pid) None = if nat_eq pid process then Err NotACount else Err OtherProcess
opened_for process None _ = Err OtherProcess

-- the number of sockets passed to a process, given the texts of both variables, each None if the variable is missing
abbrev pub opened : ℕ → Option (List ℕ) → Option (List ℕ) → Result ℕ ActivationFault
opened process (Some pid) (Some count) = opened_for process (number_of pid) (count_of count)
opened process (Some pid) None = Err NotActivated
opened process None _ = Err NotActivated

-- the numbers from `first` on, this many of them, in increasing order
unfoldable pub counted_from : ℕ → ℕ → List ℕ
counted_from first zero = []
counted_from first (suc more) = counted_from first more ++ (first + more) ∷ []
