-- Two answers, without their line feeds.
use Rattle.std.specs.Prelude.{ℕ, List, codes}

-- the proxy's answer to a line that its sender may not send
abbrev pub not_allowed : List ℕ
not_allowed = codes "{\"fault\":\"NotAllowed\"}"

-- the server's answer to every order when its disk has failed or it is ending
abbrev pub stopped : List ℕ
stopped = codes "{\"name\":\"Stopped\",\"refused\":1}"
