-- The file of a start, in JSON. For the node, the file has the epoch that is begun, the lines of the party with
-- which the start first talked, and the number of steps that were settled then. As long as the start has not
-- talked, the file has `loaded` with the epoch instead of `begun`, and the name of the machine's boot. The file
-- is not synced in this form, so after a power cut it may have this form even if the start has talked.
use Rattle.std.specs.Prelude.{ℕ, ◌-◌, ◌==◌, ◌&&◌, not, Bool, false, List, [], ◌∷◌, ◌++◌, codes, decimal, length, map, slice_index, is_some, if◌then◌else◌, Option, Some, None, option_and_then, String, string_bytes}
use Rattle.std.specs.declared.alloc.Global.{Global}
use Rattle.std.specs.List.{flat_map}
use Rattle.std.specs.Option.{option_map}
use Rattle.std.specs.Str.{bytes_eq}
use Rattle.serde_json.specs.Data.{Data, Items, no_items, item}
use Rattle.serde_json.specs.Find.{as_array, as_null, as_number, as_object, as_str, as_u64, get}
use Rattle.serde_json.specs.Read.{read}
use Rattle.coord_kept.specs.declared.start.Start.{Start}

-- ---- its meaning

abbrev pub Line : Type 0
Line = List ℕ

-- the epoch that is begun, the lines of the party, and the number of settled steps when the start first talked with
-- that party
abbrev pub Seen : Type 0
Seen = Option ℕ × Option (List Line) × Option ℕ

-- the meaning of a file that says that nothing is begun
abbrev pub nothing : Seen
nothing = (None, None, None)

abbrev pub texts : List (String Global) → List Line
texts lines = map (λ line. string_bytes line) lines

abbrev pub seen : Start → Seen
seen start = (start.begun, option_map (λ lines. texts lines.items) start.party, start.count)

abbrev pub begun_of : Data → Option (Option ℕ)
begun_of d = if is_some (as_null d) then Some None else option_map Some (option_and_then as_u64 (as_number d))

abbrev pub in_front : Option Line → Option (List Line) → Option (List Line)
in_front None rest = None
in_front (Some line) rest = option_map (λ lines. line ∷ lines) rest

abbrev pub lines_in : Items → Option (List Line)
lines_in no_items = Some []
lines_in (item d ds) = in_front (as_str d) (lines_in ds)

abbrev pub party_of : Data → Option (Option (List Line))
party_of d = if is_some (as_null d) then Some None else option_map Some (option_and_then lines_in (as_array d))

-- the number of settled steps; files of earlier versions do not have it
abbrev pub count_of : Option Data → Option (Option ℕ)
count_of None = Some None
count_of (Some d) = option_map Some (option_and_then as_u64 (as_number d))

abbrev pub seen_with : Option (Option ℕ) → Option (Option (List Line)) → Option (Option ℕ) → Option Seen
seen_with None party count = None
seen_with (Some begun) None count = None
seen_with (Some begun) (Some party) None = None
seen_with (Some begun) (Some party) (Some count) = Some (begun, party, count)

abbrev pub is_named : List ℕ → Option Line → Bool
is_named boot None = false
is_named boot (Some name) = bytes_eq name boot

-- whether a row names this boot; if the row does not, its `loaded` is ignored
abbrev pub is_of_boot : List ℕ → Data → Bool
is_of_boot boot d = not (length boot == 0) && is_named boot (option_and_then as_str (get (codes "boot") d))

abbrev pub loaded_of : Data → Option ℕ
loaded_of d = option_and_then as_u64 (option_and_then as_number (get (codes "loaded") d))

-- a start that was loaded for an epoch and has not talked
abbrev pub loaded_in : Option ℕ → Option Seen
loaded_in epoch = option_map (λ e. (Some e, None, None)) epoch

abbrev pub at_boot : List ℕ → Data → Option Seen → Option Seen
at_boot boot d None = None
at_boot boot d (Some known) = if is_of_boot boot d then loaded_in (loaded_of d) else Some known

-- the start in a row of the file; nothing is begun if the node has no row
abbrev pub carried_of : List ℕ → Option Data → Option Seen
carried_of boot None = Some nothing
carried_of boot (Some d) = at_boot boot d (seen_with (option_and_then begun_of (get (codes "begun") d)) (option_and_then party_of (get (codes "party") d)) (count_of (get (codes "count") d)))

abbrev pub carried_at : List ℕ → ℕ → Data → Option Seen
carried_at boot node d = if is_some (as_object d) then carried_of boot (get (decimal node) d) else None

-- whether a text ends with a line feed; otherwise a power cut has torn it, or its file does not exist
abbrev pub is_whole : List ℕ → Bool
is_whole text = not (length text == 0) && (slice_index text (length text - 1) == 10)

-- the start in a file's text, as read in the boot with this name; None if the text cannot be read
unfoldable pub carried_in : List ℕ → ℕ → List ℕ → Option Seen
carried_in boot node text = if is_whole text then option_and_then (carried_at boot node) (read text) else Some nothing

-- the start in a file's text, read without the name of a boot: work that was only loaded counts as not begun
abbrev pub seen_in : ℕ → List ℕ → Option Seen
seen_in node text = carried_in [] node text

-- ---- its text

abbrev pub begun_text : Option ℕ → List ℕ
begun_text None = codes "null"
begun_text (Some epoch) = decimal epoch

abbrev pub quoted : String Global → List ℕ
quoted line = codes "\"" ++ (string_bytes line ++ codes "\"")

abbrev pub lines_text : List (String Global) → List ℕ
lines_text [] = codes "[]"
lines_text (line ∷ lines) = codes "[" ++ (quoted line ++ (flat_map (λ l. codes ", " ++ quoted l) lines ++ codes "]"))

abbrev pub party_text : Option (List (String Global)) → List ℕ
party_text None = codes "null"
party_text (Some lines) = lines_text lines

abbrev pub count_text : Option ℕ → List ℕ
count_text None = []
count_text (Some count) = codes ", \"count\": " ++ decimal count

abbrev pub start_text : ℕ → Option ℕ → Option (List (String Global)) → Option ℕ → List ℕ
start_text node begun party count =
    codes "{\"" ++ (decimal node ++ (codes "\": {\"begun\": " ++ (begun_text begun ++ (codes ", \"party\": " ++ (party_text party ++ (count_text count ++ codes "}}\n"))))))

-- the text of the file once work is loaded for an epoch, in the boot with this name
abbrev pub loaded_text : ℕ → ℕ → List ℕ → List ℕ
loaded_text node epoch boot =
    codes "{\"" ++ (decimal node ++ (codes "\": {\"begun\": null, \"party\": null, \"loaded\": " ++ (decimal epoch ++ (codes ", \"foreseen\": [], \"boot\": \"" ++ (boot ++ codes "\"}}\n")))))
