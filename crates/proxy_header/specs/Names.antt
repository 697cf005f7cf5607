-- Common names of certificates.
use Rattle.std.specs.Prelude.{ℕ, ◌&&◌, nat_le, Bool, List, length}
use Rattle.std.specs.List.{list_all}
use Rattle.proxy_header.specs.declared.names.TheConstants.{MOST_NAME_BYTES}

-- whether a byte is printable ASCII
abbrev pub is_common_byte : ℕ → Bool
is_common_byte byte = nat_le 32 byte && nat_le byte 126

abbrev pub is_common_name : List ℕ → Bool
is_common_name name = nat_le 1 (length name) && nat_le (length name) MOST_NAME_BYTES && list_all is_common_byte name
