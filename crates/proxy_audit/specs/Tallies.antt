-- The counts of answers, and their text for Prometheus.
use Rattle.std.specs.Prelude.{◌≡◌, ◌≤◌, ◌⊎◌, ℕ, ◌+◌, ◌-◌, ◌^◌, ◌==◌, ◌&&◌, ◌||◌, Bool, nat_le, min, if◌then◌else◌, List, ◌++◌, length, codes, decimal, String, string_bytes, Some, unwrap_or}
use Rattle.std.specs.BTreeMap.{BTreeMap, get_by_text}
use Rattle.std.specs.Duration.{as_nanos}
use Rattle.std.specs.List.{flat_map}
use Rattle.std.specs.Map.{update}
use Rattle.std.specs.Str.{bytes_eq}
use Rattle.proxy_audit.specs.Seconds.{seconds_text}
use Rattle.proxy_audit.specs.declared.histogram.Bucket.{Bucket}
use Rattle.proxy_audit.specs.declared.histogram.Histogram.{Histogram}
use Rattle.proxy_audit.specs.declared.tally.TheConstants.{ANSWERS_HEAD, MOST_SERIES, TIMES_HEAD}

-- the count plus one, at most the greatest 64-bit number
abbrev pub one_more : ℕ → ℕ
one_more count = min (count + 1) (2 ^ 64 - 1)

-- whether the byte is an ASCII letter, a digit or a space
abbrev pub is_plain : ℕ → Bool
is_plain byte = nat_le 97 byte && nat_le byte 122 || nat_le 65 byte && nat_le byte 90 || nat_le 48 byte && nat_le byte 57 || byte == 32

abbrev pub labels_of : List ℕ → List ℕ → List ℕ
labels_of op name = codes "op=\"" ++ (op ++ (codes "\",answer=\"" ++ (name ++ codes "\"")))

module _ {Y : Type 0} where
  abbrev pub count_of : BTreeMap (String Y) ℕ → List ℕ → ℕ
  count_of counts labels = unwrap_or (get_by_text counts labels) 0

  -- the series with these labels counts one more, and every other series stays; or this would be one series too many,
  -- and all stay
  abbrev pub CountsOneMore : BTreeMap (String Y) ℕ → BTreeMap (String Y) ℕ → List ℕ → Type 0
  CountsOneMore old new labels =
      ((other : List ℕ) → get_by_text new other ≡ update bytes_eq (get_by_text old) labels (Some (one_more (count_of old labels))) other)
      ⊎ ((new ≡ old) × (count_of old labels ≡ 0) × (MOST_SERIES ≤ length old.entries))

-- ---- text

unfoldable pub bucket_line : List ℕ → Bucket → List ℕ
bucket_line op b = codes "resetd_front_answer_seconds_bucket{op=\"" ++ (op ++ (codes "\",le=\"" ++ (b.name.now ++ (codes "\"} " ++ (decimal b.count ++ codes "\n")))))

abbrev pub bucket_lines : List ℕ → List Bucket → List ℕ
bucket_lines op bs = flat_map (bucket_line op) bs

abbrev pub last_line : List ℕ → ℕ → List ℕ
last_line op count = codes "resetd_front_answer_seconds_bucket{op=\"" ++ (op ++ (codes "\",le=\"+Inf\"} " ++ (decimal count ++ codes "\n")))

abbrev pub total_line : List ℕ → ℕ → List ℕ
total_line op count = codes "resetd_front_answer_seconds_count{op=\"" ++ (op ++ (codes "\"} " ++ (decimal count ++ codes "\n")))

abbrev pub sum_line : List ℕ → List ℕ → List ℕ
sum_line op sum = codes "resetd_front_answer_seconds_sum{op=\"" ++ (op ++ (codes "\"} " ++ (sum ++ codes "\n")))

abbrev pub seconds_line : List ℕ → ℕ → List ℕ
seconds_line op nanos = sum_line op (seconds_text nanos)

abbrev pub sum_lines : List ℕ → ℕ → ℕ → List ℕ
sum_lines op count nanos = last_line op count ++ (total_line op count ++ seconds_line op nanos)

abbrev pub count_line : List ℕ → ℕ → List ℕ
count_line labels count = codes "resetd_front_answers_total{" ++ (labels ++ (codes "} " ++ (decimal count ++ codes "\n")))

module _ {Y : Type 0} where
  abbrev pub answer_line : String Y × ℕ → List ℕ
  answer_line entry = count_line (string_bytes entry.0) entry.1

  abbrev pub answers_text : List (String Y × ℕ) → List ℕ
  answers_text entries = ANSWERS_HEAD.now ++ flat_map answer_line entries

  abbrev pub histogram_lines : String Y × Histogram → List ℕ
  histogram_lines entry = bucket_lines (string_bytes entry.0) entry.1.buckets.items ++ sum_lines (string_bytes entry.0) entry.1.count (as_nanos entry.1.sum)

  abbrev pub times_text : List (String Y × Histogram) → List ℕ
  times_text entries = TIMES_HEAD.now ++ flat_map histogram_lines entries
