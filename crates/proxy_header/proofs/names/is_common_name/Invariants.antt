use Rattle.std.proofs.Common.{◌≡◌, drop}
use Rattle.std.specs.List.{list_all}
use Rattle.proxy_header.specs.Names.{is_common_byte}
use Rattle.proxy_header.proofs.names.is_common_name.Given as goal

abbrev pub invariant-loop-byte : goal.invariant-loop-byte
invariant-loop-byte l = list_all is_common_byte l.name ≡ list_all is_common_byte (drop l.byte-index l.name)
