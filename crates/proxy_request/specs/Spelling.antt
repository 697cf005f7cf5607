-- The line of an order that the proxy numbers.
use Rattle.std.specs.Prelude.{ℕ, ◌-◌, List, length, take}
use Rattle.coord_types.specs.declared.steps.Command.{Command}
use Rattle.coord_wire.specs.OrderLine.{command_line}
use Rattle.proxy_request.specs.declared.request.TheConstants.{PROXY_CLIENT}

abbrev pub without_last : List ℕ → List ℕ
without_last bytes = take (length bytes - 1) bytes

-- the line, without its line feed, that a client prints for an order of the proxy's client with this number and command
abbrev pub spelled : ℕ → Command → List ℕ
spelled n x = without_last (command_line PROXY_CLIENT n x)
