-- How the fields of a header are found, from left to right.
use Rattle.std.specs.Prelude.{ℕ, suc, ◌%◌, ◌/◌, ◌==◌, ◌&&◌, ◌||◌, not, nat_eq, nat_le, nat_lt, Bool, if◌then◌else◌, List, [], ◌∷◌, length, take, drop, slice_index, Option, Some, None, option_and_then}
use Rattle.std.specs.List.{starts_with}
use Rattle.std.specs.Str.{bytes_eq}
use Rattle.proxy_header.specs.Fields.{length_in}
use Rattle.proxy_header.specs.Headers.{address_length, common_name_kind, proxy_command, signature, ssl_kind}
use Rattle.proxy_header.specs.Names.{is_common_name}

-- the value, if no value was found before; if one was found, the result is None
abbrev pub if_first : Option (List ℕ) → Option (List ℕ) → Option (List ℕ)
if_first None value = value
if_first (Some found) value = None

-- the only value of this type, in bytes of at most `most` fields; `found` is the value found in earlier bytes
abbrev pub only_among : ℕ → ℕ → List ℕ → Option (List ℕ) → Option (List ℕ)
only_among most kind [] found = found
only_among (suc most) kind (of ∷ high ∷ low ∷ rest) found =
    if nat_le (length_in high low) (length rest) then
    (if of == kind then if_first found (only_among most kind (drop (length_in high low) rest) (Some (take (length_in high low) rest)))
    else only_among most kind (drop (length_in high low) rest) found)
    else None
only_among most kind bytes found = None

-- The number of fields is at most the number of bytes, so this bound is enough.
unfoldable pub only_value : ℕ → List ℕ → Option (List ℕ) → Option (List ℕ)
only_value kind bytes found = only_among (length bytes) kind bytes found

abbrev pub is_verified : ℕ → List ℕ → Bool
is_verified client verify = client % 2 == 1 && not (client / 2 % 4 == 0) && bytes_eq verify (0 ∷ 0 ∷ 0 ∷ 0 ∷ [])

abbrev pub if_common : List ℕ → Option (List ℕ)
if_common name = if is_common_name name then Some name else None

-- the common name in the value of an SSL field
abbrev pub ssl_name : List ℕ → Option (List ℕ)
ssl_name value =
    if nat_lt (length value) 5 || not (is_verified (slice_index value 0) (take 4 (drop 1 value))) then None
    else option_and_then if_common (only_value common_name_kind (drop 5 value) None)

-- the common name in the SSL field that follows the addresses
abbrev pub name_after : List ℕ → ℕ → Option (List ℕ)
name_after rest addresses = if nat_lt (length rest) addresses then None else option_and_then ssl_name (only_value ssl_kind (drop addresses rest) None)

-- the common name in the bytes after the signature, if their command is PROXY and their stated length is right
abbrev pub name_after_signature : List ℕ → Option (List ℕ)
name_after_signature bytes =
    if nat_lt (length bytes) 4 then None
    else (if slice_index bytes 0 == proxy_command && length_in (slice_index bytes 2) (slice_index bytes 3) == length (drop 4 bytes) then option_and_then (name_after (drop 4 bytes)) (address_length (slice_index bytes 1))
    else None)

abbrev pub name_in : List ℕ → Option (List ℕ)
name_in header = if starts_with nat_eq header signature then name_after_signature (drop 12 header) else None
