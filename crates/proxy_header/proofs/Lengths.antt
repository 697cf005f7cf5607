-- What the bytes that have arrived begin with.
use Rattle.std.proofs.Common.{◌≡◌, ℕ, ◌+◌, ◌*◌, ◌-◌, ◌≤◌, ◌<◌, nat_eq, List, [], ◌∷◌, ◌++◌, length, take, drop, slice_index, true, false, refl, sym, ap, ◌∙◌, arith, append_assoc, length-append}
use Rattle.std.proofs.lemmas.Bool.Decides.{Decides-eqb}
use Rattle.std.proofs.lemmas.List.{append_cancel_left, length-replicate, length-take-le}
use Rattle.std.proofs.lemmas.Slice.Eq.{starts_is}
use Rattle.std.proofs.Math.Seq.{take-append-add}
use Rattle.std.specs.List.{starts_with}
use Rattle.std.specs.Prelude.{replicate}
use Rattle.proxy_header.specs.declared.header.HeaderLength.TheVariants.{Unfinished, Refused, Whole}
use Rattle.proxy_header.specs.Fields.{length_in}
use Rattle.proxy_header.specs.Headers.{BeginsWith, signature}

-- ---- the signature

-- the shorter of two beginnings of a list begins the longer one
prefix_of : (s x b y : List ℕ) → s ++ x ≡ b ++ y → length b ≤ length s → (z : List ℕ) × (s ≡ b ++ z)
prefix_of s x [] y is within = (s, refl)
prefix_of [] x (c ∷ b) y is within = absurd (omega arith)
prefix_of (d ∷ s) x (c ∷ b) y is within =
    let head : d ≡ c = cc in
    let tail : s ++ x ≡ b ++ y = cc in
    let shorter : length b ≤ length s = omega arith in
    let more = prefix_of s x b y tail shorter in
    let same : s ≡ b ++ more.0 = more.1 in
    (more.0, cc)

begins : (s p rest : List ℕ) → s ≡ p ++ rest → starts_with nat_eq s p ≡ true
begins s p rest is = (starts_is Decides-eqb s p (starts_with nat_eq s p) refl).1 rest is

split_at : (s p : List ℕ) → starts_with nat_eq s p ≡ true → s ≡ p ++ drop (length p) s
split_at s p is = (starts_is Decides-eqb s p (starts_with nat_eq s p) refl).0 is

pub refused_signature : (bytes : List ℕ) → length bytes < 12 → starts_with nat_eq signature bytes ≡ false → BeginsWith bytes Refused
refused_signature bytes short not = λ header more after is within same.
    let h = is.3 in
    let tail = is.0 ∷ is.1 ∷ h.high ∷ h.low ∷ is.2 in
    let whole : signature ++ (tail ++ more) ≡ bytes ++ after = sym (ap (λ x. x ++ more) h.bytes_are ∙ append_assoc signature tail more) ∙ same in
    let part = prefix_of signature (tail ++ more) bytes after whole (omega arith) in
    let other : starts_with nat_eq signature bytes ≡ true = begins signature bytes part.0 part.1 in
    cc

pub refused_other : (bytes : List ℕ) → 12 ≤ length bytes → starts_with nat_eq bytes signature ≡ false → BeginsWith bytes Refused
refused_other bytes long not = λ header more after is within same.
    let h = is.3 in
    let tail = is.0 ∷ is.1 ∷ h.high ∷ h.low ∷ is.2 in
    let whole : signature ++ (tail ++ more) ≡ bytes ++ after = sym (ap (λ x. x ++ more) h.bytes_are ∙ append_assoc signature tail more) ∙ same in
    let part = prefix_of bytes after signature (tail ++ more) (sym whole) (omega arith) in
    let other : starts_with nat_eq bytes signature ≡ true = begins bytes signature part.0 part.1 in
    cc

pub unfinished_signature : (bytes : List ℕ) → length bytes < 12 → starts_with nat_eq signature bytes ≡ true → BeginsWith bytes Unfinished
unfinished_signature bytes short is =
    let z = drop (length bytes) signature in
    let zeros : List ℕ = 0 ∷ 0 ∷ 0 ∷ 0 ∷ [] in
    let parts : signature ≡ bytes ++ z = split_at signature bytes is in
    let all : bytes ++ (z ++ zeros) ≡ signature ++ zeros = sym (append_assoc bytes z zeros) ∙ ap (λ s. s ++ zeros) (sym parts) in
    let size : length (bytes ++ (z ++ zeros)) ≡ 16 = ap length all in
    let sum : length (bytes ++ (z ++ zeros)) ≡ length bytes + length (z ++ zeros) = length-append bytes (z ++ zeros) in
    (z ++ zeros, omega arith, omega arith, (0, 0, [], record { high = 0; low = 0; bytes_are = all; length_is = refl }))

-- ---- the length

abbrev pub least_after : List ℕ → ℕ
least_after rest = 16 + length_in (slice_index rest 2) (slice_index rest 3)

-- bytes after the signature that begin these have no greater length
least_within : (t after rest : List ℕ) (c f high low : ℕ) → c ∷ f ∷ high ∷ low ∷ rest ≡ t ++ after → least_after t ≤ 16 + length_in high low
least_within [] after rest c f high low is = omega arith
least_within (a ∷ []) after rest c f high low is = omega arith
least_within (a ∷ b ∷ []) after rest c f high low is = omega arith
least_within (a ∷ b ∷ h ∷ []) after rest c f high low is = let same : h ≡ high = cc in omega arith
least_within (a ∷ b ∷ h ∷ l ∷ r) after rest c f high low is =
    let same_high : h ≡ high = cc in
    let same_low : l ≡ low = cc in
    omega arith

pub refused_long : (bytes : List ℕ) → starts_with nat_eq bytes signature ≡ true → 2048 < least_after (drop 12 bytes) → BeginsWith bytes Refused
refused_long bytes starts long = λ header more after is within same.
    let h = is.3 in
    let t = drop 12 bytes in
    let tail = is.0 ∷ is.1 ∷ h.high ∷ h.low ∷ is.2 in
    let parts : bytes ≡ signature ++ t = split_at bytes signature starts in
    let left : header ++ more ≡ signature ++ (tail ++ more) = ap (λ x. x ++ more) h.bytes_are ∙ append_assoc signature tail more in
    let right : bytes ++ after ≡ signature ++ (t ++ after) = ap (λ x. x ++ after) parts ∙ append_assoc signature t after in
    let whole : tail ++ more ≡ t ++ after = append_cancel_left signature (tail ++ more) (t ++ after) (sym left ∙ same ∙ right) in
    let least : least_after t ≤ 16 + length_in h.high h.low = least_within t after (is.2 ++ more) is.0 is.1 h.high h.low whole in
    let size : length header ≡ 16 + length is.2 = ap length h.bytes_are ∙ omega arith in
    let rest : length is.2 ≡ length_in h.high h.low = h.length_is in
    omega arith

-- bytes that complete those after a signature
record Completion (t : List ℕ) : Type 0 where
  more : List ℕ
  some : 1 ≤ length more
  command : ℕ
  family : ℕ
  high : ℕ
  low : ℕ
  rest : List ℕ
  bytes_are : t ++ more ≡ command ∷ family ∷ high ∷ low ∷ rest
  length_is : length rest ≡ length_in high low
  least : 16 + length rest ≡ least_after t

completion : (t : List ℕ) → 12 + length t < least_after t → Completion t
completion [] short = record { more = 0 ∷ 0 ∷ 0 ∷ 0 ∷ []; some = omega arith; command = 0; family = 0; high = 0; low = 0; rest = []; bytes_are = refl; length_is = refl; least = refl }
completion (a ∷ []) short = record { more = 0 ∷ 0 ∷ 0 ∷ []; some = omega arith; command = a; family = 0; high = 0; low = 0; rest = []; bytes_are = refl; length_is = refl; least = refl }
completion (a ∷ b ∷ []) short = record { more = 0 ∷ 0 ∷ []; some = omega arith; command = a; family = b; high = 0; low = 0; rest = []; bytes_are = refl; length_is = refl; least = refl }
completion (a ∷ b ∷ h ∷ []) short =
    let rest = replicate (h * 256) 0 in
    let size : length rest ≡ h * 256 = length-replicate (h * 256) 0 in
    record { more = 0 ∷ rest; some = omega arith; command = a; family = b; high = h; low = 0; rest = rest; bytes_are = refl; length_is = omega arith; least = omega arith }
completion (a ∷ b ∷ h ∷ l ∷ r) short =
    let more = replicate (length_in h l - length r) 0 in
    let size : length more ≡ length_in h l - length r = length-replicate (length_in h l - length r) 0 in
    let sum : length (r ++ more) ≡ length r + length more = length-append r more in
    record { more = more; some = omega arith; command = a; family = b; high = h; low = l; rest = r ++ more; bytes_are = refl; length_is = omega arith; least = omega arith }

pub unfinished : (bytes : List ℕ) → 12 ≤ length bytes → starts_with nat_eq bytes signature ≡ true → least_after (drop 12 bytes) ≤ 2048 → length bytes < least_after (drop 12 bytes) → BeginsWith bytes Unfinished
unfinished bytes long starts within short =
    let t = drop 12 bytes in
    let parts : bytes ≡ signature ++ t = split_at bytes signature starts in
    let size : length bytes ≡ 12 + length t = ap length parts ∙ omega arith in
    let c = completion t (omega arith) in
    let all : bytes ++ c.more ≡ signature ++ (c.command ∷ c.family ∷ c.high ∷ c.low ∷ c.rest) = ap (λ x. x ++ c.more) parts ∙ append_assoc signature t c.more ∙ ap (λ x. signature ++ x) c.bytes_are in
    let whole : length (bytes ++ c.more) ≡ 16 + length c.rest = ap length all ∙ omega arith in
    (c.more, c.some, omega arith, (c.command, c.family, c.rest, record { high = c.high; low = c.low; bytes_are = all; length_is = c.length_is }))

whole_after : (bytes t : List ℕ) → bytes ≡ signature ++ t → least_after t ≤ 12 + length t → least_after t ≤ 2048 → BeginsWith bytes (Whole (least_after t))
whole_after bytes [] is long within = absurd (omega arith)
whole_after bytes (a ∷ []) is long within = absurd (omega arith)
whole_after bytes (a ∷ b ∷ []) is long within = absurd (omega arith)
whole_after bytes (a ∷ b ∷ h ∷ []) is long within = absurd (omega arith)
whole_after bytes (a ∷ b ∷ h ∷ l ∷ r) is long within =
    let k = length_in h l in
    let size : length bytes ≡ 16 + length r = ap length is ∙ omega arith in
    let front = signature ++ (a ∷ b ∷ h ∷ l ∷ []) in
    let taken : take (16 + k) bytes ≡ signature ++ (a ∷ b ∷ h ∷ l ∷ take k r) = ap (take (16 + k)) is ∙ take-append-add front r k in
    let fits : k ≤ length r = omega arith in
    (omega arith, within, (a, b, take k r, record { high = h; low = l; bytes_are = taken; length_is = length-take-le k r fits }))

pub whole : (bytes : List ℕ) → starts_with nat_eq bytes signature ≡ true → least_after (drop 12 bytes) ≤ 2048 → least_after (drop 12 bytes) ≤ length bytes → BeginsWith bytes (Whole (least_after (drop 12 bytes)))
whole bytes starts within long =
    let t = drop 12 bytes in
    let parts : bytes ≡ signature ++ t = split_at bytes signature starts in
    let size : length bytes ≡ 12 + length t = ap length parts ∙ omega arith in
    whole_after bytes t parts (omega arith) within
