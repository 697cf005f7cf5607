-- The names of principals.
use Rattle.std.specs.Prelude.{ℕ, ◌==◌, ◌&&◌, ◌||◌, nat_eq, nat_le, if◌then◌else◌, Bool, List, length, drop, codes}
use Rattle.std.specs.List.{list_all, starts_with}
use Rattle.proxy_header.specs.Names.{is_common_name}
use Rattle.proxy_header.specs.declared.names.TheConstants.{MOST_NAME_BYTES}

-- whether a name has 1 to 64 bytes
abbrev pub is_short : List ℕ → Bool
is_short name = nat_le 1 (length name) && nat_le (length name) MOST_NAME_BYTES

abbrev pub is_within : ℕ → ℕ → ℕ → Bool
is_within least most byte = nat_le least byte && nat_le byte most

-- whether a byte is one of `a-z A-Z 0-9 . _ -`
abbrev pub is_socket_byte : ℕ → Bool
is_socket_byte byte = is_within 97 122 byte || is_within 65 90 byte || is_within 48 57 byte || byte == 46 || byte == 95 || byte == 45

abbrev pub is_socket_name : List ℕ → Bool
is_socket_name name = is_short name && list_all is_socket_byte name

abbrev pub certificate : List ℕ
certificate = codes "certificate:"

unfoldable pub is_principal : List ℕ → Bool
is_principal name =
    if starts_with nat_eq name certificate then is_common_name (drop (length certificate) name) else is_socket_name name
