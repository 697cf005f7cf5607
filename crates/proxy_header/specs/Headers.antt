-- The header of the PROXY protocol, version 2, and the client that it names.
use Rattle.std.specs.Prelude.{◌≡◌, ◌≢◌, ◌≤◌, ℕ, ◌/◌, ◌%◌, ◌==◌, nat_lt, true, if◌then◌else◌, List, [], ◌∷◌, ◌++◌, length, take, Option, Some, None}
use Rattle.proxy_header.specs.declared.header.HeaderLength.{HeaderLength}
use Rattle.proxy_header.specs.declared.header.HeaderLength.TheVariants.{Unfinished, Refused, Whole}
use Rattle.proxy_header.specs.declared.header.TheConstants.{MOST_HEADER_BYTES}
use Rattle.proxy_header.specs.Names.{is_common_name}
use Rattle.proxy_header.specs.Fields.{HasOne, length_in}

-- ---- the header

abbrev pub signature : List ℕ
signature = 13 ∷ 10 ∷ 13 ∷ 10 ∷ 0 ∷ 13 ∷ 10 ∷ 81 ∷ 85 ∷ 73 ∷ 84 ∷ 10 ∷ []

-- A header consists of the signature, a byte for the version and the command, a byte for the family and the protocol,
-- two bytes for the length of the rest, and the rest.
pub record IsHeader (bytes : List ℕ) (command family : ℕ) (rest : List ℕ) : Type 0 where
  pub high : ℕ
  pub low : ℕ
  pub bytes_are : bytes ≡ signature ++ (command ∷ family ∷ high ∷ low ∷ rest)
  pub length_is : length rest ≡ length_in high low

abbrev pub IsAnyHeader : List ℕ → Type 0
IsAnyHeader bytes = (command family : ℕ) × (rest : List ℕ) × IsHeader bytes command family rest

-- How the bytes received so far begin:
abbrev pub BeginsWith : List ℕ → HeaderLength → Type 0
-- with a whole header of this length
BeginsWith bytes (Whole n) = (n ≤ length bytes) × (n ≤ MOST_HEADER_BYTES) × IsAnyHeader (take n bytes)
-- with a part of a header
BeginsWith bytes Unfinished = (more : List ℕ) × (1 ≤ length more) × (length (bytes ++ more) ≤ MOST_HEADER_BYTES) × IsAnyHeader (bytes ++ more)
-- not with a header, whatever bytes follow
BeginsWith bytes Refused = (header more after : List ℕ) → IsAnyHeader header → length header ≤ MOST_HEADER_BYTES → header ++ more ≡ bytes ++ after → ⊥

-- ---- the client

-- the number of bytes of the addresses, for no family (0), IPv4 (1), IPv6 (2) and Unix (3)
abbrev pub family_length : ℕ → Option ℕ
family_length family = if family == 0 then Some 0 else (if family == 1 then Some 12 else (if family == 2 then Some 36 else (if family == 3 then Some 216 else None)))

-- The number of bytes of the addresses, for a byte with the family in its upper half and the protocol in its lower
-- half. The protocol is none, stream or datagram.
abbrev pub address_length : ℕ → Option ℕ
address_length family = if nat_lt 2 (family % 16) then None else family_length (family / 16)

-- the byte for version 2 and the command PROXY
abbrev pub proxy_command : ℕ
proxy_command = 33

-- the type of the SSL field; common_name_kind is the type of the field in it that contains the common name
abbrev pub ssl_kind : ℕ
ssl_kind = 32

abbrev pub common_name_kind : ℕ
common_name_kind = 34

-- The value is the SSL field of a verified client with this common name. The client used TLS and showed a certificate,
-- in this connection or in the session that it resumed, and the certificate was verified (result 0).
pub record IsVerified (value name : List ℕ) : Type 0 where
  pub client : ℕ
  pub fields : List ℕ
  pub value_is : value ≡ client ∷ 0 ∷ 0 ∷ 0 ∷ 0 ∷ fields
  pub uses_tls : client % 2 ≡ 1
  pub has_certificate : client / 2 % 4 ≢ 0
  pub one_name : HasOne common_name_kind name fields
  pub name_is_common : is_common_name name ≡ true

-- This is the header of a connection whose client has a verified certificate with this common name.
pub record NamesClient (header name : List ℕ) : Type 0 where
  pub family : ℕ
  pub addresses : List ℕ
  pub fields : List ℕ
  pub ssl : List ℕ
  pub header_is : IsHeader header proxy_command family (addresses ++ fields)
  pub addresses_are : address_length family ≡ Some (length addresses)
  pub one_ssl : HasOne ssl_kind ssl fields
  pub verified : IsVerified ssl name
