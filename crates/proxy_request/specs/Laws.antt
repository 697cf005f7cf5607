-- A request of the server keeps its meaning.
use Rattle.std.specs.Prelude.{◌≡◌, Ok}
use Rattle.coord_lines.specs.Lines.{Line}
use Rattle.coord_admin.specs.Requests as admin
use Rattle.coord_admin.specs.declared.request.Request as admin_request
use Rattle.proxy_request.specs.Requests.{asked_by, of_server}

-- If the server reads a line as a request, the proxy reads it as the same request.
abbrev pub ServerRequestsPass : Type 0
ServerRequestsPass = (line : Line) (r : admin_request.Request) → admin.asked_by line ≡ Ok r → asked_by line ≡ Ok (of_server r)
