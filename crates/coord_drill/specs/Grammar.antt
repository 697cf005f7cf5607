-- The grammar of a drill's lines: a table of verbs and their fields. An Abort is followed by its distance
-- only in version 2.
use Rattle.std.specs.Prelude.{ℕ, ◌^◌, ◌==◌, ◌&&◌, nat_le, nat_lt, Bool, List, [], ◌∷◌, ◌++◌, length, map, codes, decimal, bytes_eq, Option, Some, None, if◌then◌else◌}
use Rattle.std.specs.List.{slice_split, join_with_byte}
use Rattle.std.specs.Str.{all_ascii_digits}
use Rattle.std.specs.Str.Parse.{digits_value}
use Rattle.coord_types.specs.declared.limits.TheConstants.{MAX_CLIENTS, MAX_GROUPS, MAX_NODES}
use Rattle.coord_types.specs.declared.messages.Msg.{Msg}
use Rattle.coord_types.specs.declared.messages.Msg.TheVariants.{Abort, Ack, Ready}
use Rattle.coord_types.specs.declared.steps.Command.{Command}
use Rattle.coord_types.specs.declared.steps.Command.TheVariants.{Add, Remove, Join, Drop, Reset, Confirm}
use Rattle.coord_drill.specs.declared.request.Request.{Request}
use Rattle.coord_drill.specs.declared.request.Request.TheVariants.{Next, Order, Take, Clear, Data, Receipt, Resend, Check, Show, Hold, Flush, Crash, Version2}
use Rattle.coord_drill.specs.Format.{◌>>=◌, Word, Format, field, nothing, ◌&◌, made, Row, one_of}

-- ---- words

abbrev pub is_space : ℕ → Bool
is_space c = c == 32

-- the words of a line: the parts before, between and after its spaces, some possibly empty
abbrev pub words_of : List ℕ → List Word
words_of line = slice_split is_space line

-- ---- fields

-- whether a word is one or more decimal digits whose value fits into 64 bits
abbrev pub is_number : Word → Bool
is_number word = all_ascii_digits word && (nat_lt 0 (length word) && nat_lt (digits_value 10 word) (2 ^ 64))

unfoldable pub number_of : Word → Option ℕ
number_of word = if is_number word then Some (digits_value 10 word) else None

abbrev pub up_to : ℕ → ℕ → Option ℕ
up_to most n = if nat_le 1 n && nat_le n most then Some n else None

unfoldable pub number : Format ℕ
number = field (λ n. if nat_lt n (2 ^ 64) then Some (decimal n) else None) number_of

-- a number from 1 to this maximum
abbrev pub number_to : ℕ → Format ℕ
number_to most = field (λ n. up_to most n >>= λ m. Some (decimal m)) (λ word. number_of word >>= up_to most)

unfoldable pub node : Format ℕ
node = number_to MAX_NODES

unfoldable pub group : Format ℕ
group = number_to MAX_GROUPS

unfoldable pub client : Format ℕ
client = number_to MAX_CLIENTS

-- the distance of an Abort: a number in version 2; no word in version 1, where the distance is 0
unfoldable pub distance : ℕ → Format ℕ
distance version = record {
  spell = λ k. if version == 2 then number.spell k else (if k == 0 then Some [] else None);
  read = λ ws. if version == 2 then number.read ws else Some (0, ws);
}

-- ---- the tables

-- the row of the grammar for this verb: `make` builds the value from its fields, and `parts` takes such a value apart
abbrev pub row : {A B : Type 0} → Word → Format A → (A → B) → (B → Option A) → Row B
row verb fields make parts = record { verb = verb; fields = made make parts fields }

unfoldable pub messages : ℕ → List (Row Msg)
messages version =
    row (codes "abort") (distance version) Abort (λ m. elim m [ Abort k ↦ Some k | _ ↦ None ])
    ∷ row (codes "ack") nothing (λ _. Ack) (λ m. elim m [ Ack ↦ Some tt | _ ↦ None ])
    ∷ row (codes "ready") nothing (λ _. Ready) (λ m. elim m [ Ready ↦ Some tt | _ ↦ None ])
    ∷ []

unfoldable pub commands : List (Row Command)
commands =
    row (codes "add") (node & group) (λ p. Add p.0 p.1) (λ x. elim x [ Add u g ↦ Some (u, g) | _ ↦ None ])
    ∷ row (codes "remove") node Remove (λ x. elim x [ Remove u ↦ Some u | _ ↦ None ])
    ∷ row (codes "join") (node & node) (λ p. Join p.0 p.1) (λ x. elim x [ Join a b ↦ Some (a, b) | _ ↦ None ])
    ∷ row (codes "drop") (node & node) (λ p. Drop p.0 p.1) (λ x. elim x [ Drop a b ↦ Some (a, b) | _ ↦ None ])
    ∷ row (codes "reset") node Reset (λ x. elim x [ Reset u ↦ Some u | _ ↦ None ])
    ∷ row (codes "confirm") (node & number) (λ p. Confirm p.0 p.1) (λ x. elim x [ Confirm u e ↦ Some (u, e) | _ ↦ None ])
    ∷ []

-- the row of a bare command, which is an order of the operator
abbrev pub next_row : Row Command → Row Request
next_row r = row r.verb r.fields Next (λ x. elim x [ Next c ↦ Some c | _ ↦ None ])

unfoldable pub order_fields : Format Request
order_fields = made (λ p. Order p.0 p.1.0 p.1.1) (λ x. elim x [ Order c n y ↦ Some (c, (n, y)) | _ ↦ None ]) (client & (number & one_of commands))

unfoldable pub data_fields : ℕ → Format Request
data_fields version = made (λ p. Data (record { from = p.0; to = p.1.0; inc = p.1.1.0; number = p.1.1.1.0; msg = p.1.1.1.1 }))
    (λ x. elim x [ Data d ↦ Some (d.from, (d.to, (d.inc, (d.number, d.msg)))) | _ ↦ None ])
    (node & (node & (number & (number & one_of (messages version)))))

unfoldable pub receipt_fields : Format Request
receipt_fields = made (λ p. Receipt (record { from = p.0; to = p.1.0; inc = p.1.1.0; number = p.1.1.1 }))
    (λ x. elim x [ Receipt r ↦ Some (r.from, (r.to, (r.inc, r.number))) | _ ↦ None ])
    (node & (node & (number & number)))

-- the field of the verb `version`: the word `2`, in no other spelling
unfoldable pub version_fields : Format Request
version_fields = made (λ _. Version2) (λ x. elim x [ Version2 ↦ Some tt | _ ↦ None ])
    (field (λ _. Some (codes "2")) (λ word. if bytes_eq word (codes "2") then Some (tt {0}) else None))

unfoldable pub other_requests : ℕ → List (Row Request)
other_requests version =
    record { verb = codes "order"; fields = order_fields }
    ∷ row (codes "take") (node & node) (λ p. Take p.0 p.1) (λ x. elim x [ Take u v ↦ Some (u, v) | _ ↦ None ])
    ∷ row (codes "clear") (node & node) (λ p. Clear p.0 p.1) (λ x. elim x [ Clear u v ↦ Some (u, v) | _ ↦ None ])
    ∷ record { verb = codes "data"; fields = data_fields version }
    ∷ record { verb = codes "receipt"; fields = receipt_fields }
    ∷ row (codes "resend") nothing (λ _. Resend) (λ x. elim x [ Resend ↦ Some tt | _ ↦ None ])
    ∷ row (codes "check") nothing (λ _. Check) (λ x. elim x [ Check ↦ Some tt | _ ↦ None ])
    ∷ row (codes "show") nothing (λ _. Show) (λ x. elim x [ Show ↦ Some tt | _ ↦ None ])
    ∷ row (codes "hold") nothing (λ _. Hold) (λ x. elim x [ Hold ↦ Some tt | _ ↦ None ])
    ∷ row (codes "flush") nothing (λ _. Flush) (λ x. elim x [ Flush ↦ Some tt | _ ↦ None ])
    ∷ row (codes "crash") nothing (λ _. Crash) (λ x. elim x [ Crash ↦ Some tt | _ ↦ None ])
    ∷ record { verb = codes "version"; fields = version_fields }
    ∷ []

abbrev pub requests : ℕ → List (Row Request)
requests version = other_requests version ++ map next_row commands

-- ---- lines

abbrev pub all_read : {A : Type 0} → A × List Word → Option A
all_read (x, []) = Some x
all_read (x, w ∷ ws) = None

-- the request that a line encodes in a drill of this version; None for a bad line
unfoldable pub request_of : ℕ → List ℕ → Option Request
request_of version line = (one_of (requests version)).read (words_of line) >>= all_read

-- the line of a request: its words, separated by single spaces
unfoldable pub spelled : ℕ → Request → Option (List ℕ)
spelled version request = (one_of (requests version)).spell request >>= λ words. Some (join_with_byte 32 words)
