-- The spelling of a line, a request, a command or a field is read as that.
use Rattle.std.proofs.Common.{◌≡◌, ℕ, ◌<◌, List, [], ◌∷◌, length, ap, sym, ◌∙◌, arith, Bool, true, false, Option, None, refl, cond, Some, map, bytes_eq, ◌+◌, ◌^◌, not, ltb, leb, ◌&&◌, ◌++◌, decimal, subst, codes, ◌==◌, if◌then◌else◌, append-nil}
use Rattle.std.specs.List.{position_or_len, before_first, after_first, AllByRecursion, join_with_byte}
use Rattle.std.proofs.lemmas.List.Splits.{slice_split_first, slice_split_none}
use Rattle.std.proofs.lemmas.List.Sums.{fails_before_first}
use Rattle.std.proofs.lemmas.Str.{IsUtf8-from_is_utf8}
use Rattle.std.specs.Str.{is_utf8, IsUtf8, all_ascii_digits}
use Rattle.std.specs.Str.Parse.{digits_value}
use Rattle.std.proofs.lemmas.Bool.{ne_eqb}
use Rattle.std.proofs.lemmas.Bool.Decides.{nat_tests}
use Rattle.std.proofs.lemmas.Fmt.{decimal_is_IsNumeral}
use Rattle.std.proofs.lemmas.Grind.{common_steps}
use Rattle.std.proofs.lemmas.Str.Parse.{numerals_by_value, tells_all_ascii_digits}
use Rattle.std.proofs.lemmas.Option.{none-some}
use Rattle.coord_drill.specs.Grammar.{is_space, words_of, next_row, distance, number_of, up_to, number, number_to, node, group, client, commands, messages, order_fields, data_fields, receipt_fields, version_fields, other_requests, requests, request_of, spelled, all_read}
use Rattle.coord_drill.specs.Drilled.{parsed}
use Rattle.coord_types.specs.declared.steps.Command.{Command}
use Rattle.coord_drill.specs.declared.request.Request.TheVariants.{Next, Order, Take, Clear, Data, Receipt, Resend, Check, Show, Hold, Flush, Crash, Version2}
use Rattle.coord_drill.specs.Format.{◌>>=◌, Read, Row, Word, read_by, field, one_of, read_first}
use Rattle.coord_drill.proofs.requests.Formats.{ArePlain, IsPlain, IsFormat, field_format, made_of, both, by_parts, IsTable, IsRow, nothing_format, one_of_format, words_of-joined, found_by}
use Rattle.coord_types.specs.declared.steps.Command.TheVariants.{Add, Remove, Join, Drop, Reset, Confirm}
use Rattle.coord_types.specs.declared.messages.Msg.{Msg}
use Rattle.coord_types.specs.declared.messages.Msg.TheVariants.{Abort, Ack, Ready}
use Rattle.coord_drill.specs.Facade.{Request}
use Rattle.coord_drill.specs.Laws.{SpelledIsRead}

-- ---- the first word of a line, and the words after it

pub words_of-first : (text word rest : List ℕ) → word ≡ before_first is_space text → rest ≡ after_first is_space text → position_or_len is_space text < length text → words_of text ≡ word ∷ words_of rest
words_of-first text word rest e f below = slice_split_first is_space text 0 below ∙ ap (λ w. w ∷ words_of (after_first is_space text)) (sym e) ∙ ap (λ r. word ∷ words_of r) (sym f)

pub words_of-one : (text : List ℕ) → position_or_len is_space text ≡ length text → words_of text ≡ text ∷ []
words_of-one text e = slice_split_none is_space text (λ k d below. fails_before_first is_space text k d (omega arith))

-- ---- a line that is no text asks for nothing

neither : {A : Type 0} (b : Bool) (x : Option A) → (b ≡ true → ⊥) → (cond b x None) ≡ None
neither true x h = absurd (h refl)
neither false x h = refl

pub no_text : (version : ℕ) (line : List ℕ) → (IsUtf8 line → ⊥) → parsed version line ≡ None
no_text version line h = neither (is_utf8 line) _ (λ e. h (IsUtf8-from_is_utf8 line e))

-- ---- the rows of commands, read as orders of the operator

by_verb : {A B : Type 0} (make : A × List Word → B) (b : Bool) (x y : Read A) (z : Read B) → z ≡ (y >>= λ p. Some (make p, p.1)) → cond b (x >>= λ p. Some (make p, p.1)) z ≡ (cond b x y >>= λ p. Some (make p, p.1))
by_verb make true x y z e = refl
by_verb make false x y z e = e

pub read_by_next : (rows : List (Row Command)) (verb : Word) (ws : List Word) → read_by (map next_row rows) verb ws ≡ (read_by rows verb ws >>= λ p. Some (Next p.0, p.1))
read_by_next [] verb ws = refl
read_by_next (row ∷ rows) verb ws = by_verb (λ p. Next p.0) (bytes_eq verb row.verb) _ _ _ (read_by_next rows verb ws)

-- ---- fields

-- digits are no spaces
digits_plain : (w : Word) → all_ascii_digits w ≡ true → IsPlain w
digits_plain [] e = refl
digits_plain (c ∷ cs) e =
    let k = tells_all_ascii_digits.parts c cs e in
    let other : is_space c ≡ false = ne_eqb c 32 (λ f. omega (arith, k.0)) in
    ap (λ b. cond (not b) (1 + position_or_len is_space cs) 0) other ∙ omega (arith, digits_plain cs k.1)

-- one or more digits are read by their value
number_is : (d : Word) (n : ℕ) → all_ascii_digits d ≡ true → 0 < length d → digits_value 10 d ≡ n → n < 2 ^ 64 → number_of d ≡ Some n
unfolding number_of
number_is d n digits some value below = grind (arith, common_steps)

-- a printed number is read as that number
decimal_is : (n : ℕ) → n < 2 ^ 64 → (number_of (decimal n) ≡ Some n) × IsPlain (decimal n)
decimal_is n below =
    let numeral = decimal_is_IsNumeral n below in
    let digits : all_ascii_digits (decimal n) ≡ true = (numerals_by_value _ tells_all_ascii_digits).from (decimal n) numeral.0.1 in
    (number_is (decimal n) n digits numeral.0.0 numeral.1 below, digits_plain (decimal n) digits)

-- a number of 64 bits
number_agrees : (n : ℕ) (w : Word) (t : Bool) → ltb n (2 ^ 64) ≡ t → cond t (Some (decimal n)) None ≡ Some w → (number_of w ≡ Some n) × IsPlain w
number_agrees n w true e f = let same : decimal n ≡ w = cc in subst (λ v. (number_of v ≡ Some n) × IsPlain v) same (decimal_is n (grind (arith, nat_tests)))
number_agrees n w false e f = absurd cc

pub number_format : IsFormat number
unfolding number
number_format = field_format _ _ (λ n w e. number_agrees n w _ refl e)

-- a number from 1 to another one
number_to_agrees : (most n : ℕ) (w : Word) → most < 2 ^ 64 → (t : Bool) → (leb 1 n && leb n most) ≡ t → (cond t (Some n) None >>= λ m. Some (decimal m)) ≡ Some w → ((number_of w >>= up_to most) ≡ Some n) × IsPlain w
number_to_agrees most n w low true e f =
    let same : decimal n ≡ w = cc in
    let is = decimal_is n (grind (arith, nat_tests)) in
    subst (λ v. ((number_of v >>= up_to most) ≡ Some n) × IsPlain v) same (ap (λ o. o >>= up_to most) is.0 ∙ ap (λ b. cond b (Some n) None) e, is.1)
number_to_agrees most n w low false e f = absurd cc

number_to_format : (most : ℕ) → most < 2 ^ 64 → IsFormat (number_to most)
number_to_format most low = field_format _ _ (λ n w e. number_to_agrees most n w low _ refl e)

pub node_format : IsFormat node
unfolding node
node_format = number_to_format 64 (omega arith)

pub group_format : IsFormat group
unfolding group
group_format = number_to_format 16 (omega arith)

pub client_format : IsFormat client
unfolding client
client_format = number_to_format 16 (omega arith)

-- a distance: in version 2 a number, and in version 1 no word
abbrev read_none : List Word → Read ℕ
read_none ws = Some (0, ws)

distance_again : (version k : ℕ) (ws rest : List Word) (b : Bool) → cond b (number.spell k) (cond (k == 0) (Some []) None) ≡ Some ws → cond b (number.read (ws ++ rest)) (read_none (ws ++ rest)) ≡ Some (k, rest)
distance_again version k ws rest true e = number_format.again k ws rest e
distance_again version k ws rest false e = zero_again (k == 0) refl e
  where
    zero_again : (z : Bool) → (k == 0) ≡ z → cond z (Some []) None ≡ Some ws → read_none (ws ++ rest) ≡ Some (k, rest)
    zero_again true none f =
        let same : [] ≡ ws = cc in
        let zero : 0 ≡ k = grind (arith, nat_tests, none) in
        subst (λ vs. read_none (vs ++ rest) ≡ Some (k, rest)) same (subst (λ n. read_none rest ≡ Some (n, rest)) zero refl)
    zero_again false none f = absurd cc

distance_plain : (version k : ℕ) (ws : List Word) (b : Bool) → cond b (number.spell k) (cond (k == 0) (Some []) None) ≡ Some ws → ArePlain ws
distance_plain version k ws true e = number_format.plain k ws e
distance_plain version k ws false e = zero_plain (k == 0) e
  where
    zero_plain : (z : Bool) → cond z (Some []) None ≡ Some ws → ArePlain ws
    zero_plain true f = let same : [] ≡ ws = cc in subst ArePlain same tt
    zero_plain false f = absurd cc

pub distance_format : (version : ℕ) → IsFormat (distance version)
unfolding distance
distance_format version = record { again = λ k ws rest e. distance_again version k ws rest (version == 2) e; plain = λ k ws e. distance_plain version k ws (version == 2) e }

-- the word 2
two_agrees : (x : Unit {0}) (w : Word) → Some (codes "2") ≡ Some w → (cond (bytes_eq w (codes "2")) (Some (tt {0})) None ≡ Some x) × IsPlain w
two_agrees x w e = let same : codes "2" ≡ w = cc in subst (λ v. (cond (bytes_eq v (codes "2")) (Some (tt {0})) None ≡ Some x) × IsPlain v) same (refl, refl)

pub two_format : IsFormat (field (λ (_ : Unit {0}). Some (codes "2")) (λ word. if bytes_eq word (codes "2") then Some (tt {0}) else None))
two_format = field_format _ _ two_agrees

-- ---- commands

-- of the parts that the table gives of a command, that command is made
add_parts : (y : Command) (x : ℕ × ℕ) → (elim y [ Add u g ↦ Some (u, g) | _ ↦ None ]) ≡ Some x → Add x.0 x.1 ≡ y
add_parts (Add u g) x e = made_of (λ p. Add p.0 p.1) (u, g) x e
add_parts _ x e = absurd (none-some x e)

remove_parts : (y : Command) (x : ℕ) → (elim y [ Remove u ↦ Some u | _ ↦ None ]) ≡ Some x → Remove x ≡ y
remove_parts (Remove u) x e = made_of Remove u x e
remove_parts _ x e = absurd (none-some x e)

join_parts : (y : Command) (x : ℕ × ℕ) → (elim y [ Join a b ↦ Some (a, b) | _ ↦ None ]) ≡ Some x → Join x.0 x.1 ≡ y
join_parts (Join a b) x e = made_of (λ p. Join p.0 p.1) (a, b) x e
join_parts _ x e = absurd (none-some x e)

drop_parts : (y : Command) (x : ℕ × ℕ) → (elim y [ Drop a b ↦ Some (a, b) | _ ↦ None ]) ≡ Some x → Drop x.0 x.1 ≡ y
drop_parts (Drop a b) x e = made_of (λ p. Drop p.0 p.1) (a, b) x e
drop_parts _ x e = absurd (none-some x e)

reset_parts : (y : Command) (x : ℕ) → (elim y [ Reset u ↦ Some u | _ ↦ None ]) ≡ Some x → Reset x ≡ y
reset_parts (Reset u) x e = made_of Reset u x e
reset_parts _ x e = absurd (none-some x e)

confirm_parts : (y : Command) (x : ℕ × ℕ) → (elim y [ Confirm u e ↦ Some (u, e) | _ ↦ None ]) ≡ Some x → Confirm x.0 x.1 ≡ y
confirm_parts (Confirm u n) x e = made_of (λ p. Confirm p.0 p.1) (u, n) x e
confirm_parts _ x e = absurd (none-some x e)

-- the verbs of commands differ, and each row's spelling is read as that row
pub commands_table : IsTable commands
unfolding commands
commands_table = record {
  each = ((by_parts _ _ add_parts (both node_format group_format), refl), ((by_parts _ _ remove_parts node_format, refl), ((by_parts _ _ join_parts (both node_format node_format), refl), ((by_parts _ _ drop_parts (both node_format node_format), refl), ((by_parts _ _ reset_parts node_format, refl), ((by_parts _ _ confirm_parts (both node_format number_format), refl), tt))))));
  apart = refl;
}

-- ---- requests

-- of the parts that the table gives of a request, that request is made
next_parts : (y : Request) (x : Command) → (elim y [ Next c ↦ Some c | _ ↦ None ]) ≡ Some x → Next x ≡ y
next_parts (Next c) x e = made_of Next c x e
next_parts _ x e = absurd (none-some x e)

-- the rows of the commands are rows of requests
next_rows : (rows : List (Row Command)) → AllByRecursion IsRow rows → AllByRecursion IsRow (map next_row rows)
next_rows [] h = tt
next_rows (r ∷ rs) h = ((by_parts _ _ next_parts h.0.0, h.0.1), next_rows rs h.1)

order_parts : (y : Request) (x : ℕ × (ℕ × Command)) → (elim y [ Order c n o ↦ Some (c, (n, o)) | _ ↦ None ]) ≡ Some x → Order x.0 x.1.0 x.1.1 ≡ y
order_parts (Order c n o) x e = made_of (λ p. Order p.0 p.1.0 p.1.1) (c, (n, o)) x e
order_parts _ x e = absurd (none-some x e)

order_format : IsFormat order_fields
unfolding order_fields
order_format = by_parts _ _ order_parts (both client_format (both number_format (one_of_format commands commands_table)))

take_parts : (y : Request) (x : ℕ × ℕ) → (elim y [ Take u v ↦ Some (u, v) | _ ↦ None ]) ≡ Some x → Take x.0 x.1 ≡ y
take_parts (Take u v) x e = made_of (λ p. Take p.0 p.1) (u, v) x e
take_parts _ x e = absurd (none-some x e)

clear_parts : (y : Request) (x : ℕ × ℕ) → (elim y [ Clear u v ↦ Some (u, v) | _ ↦ None ]) ≡ Some x → Clear x.0 x.1 ≡ y
clear_parts (Clear u v) x e = made_of (λ p. Clear p.0 p.1) (u, v) x e
clear_parts _ x e = absurd (none-some x e)

abort_parts : (y : Msg) (x : ℕ) → (elim y [ Abort k ↦ Some k | _ ↦ None ]) ≡ Some x → Abort x ≡ y
abort_parts (Abort k) x e = made_of Abort k x e
abort_parts _ x e = absurd (none-some x e)

ack_parts : (y : Msg) (x : Unit {0}) → (elim y [ Ack ↦ Some tt | _ ↦ None ]) ≡ Some x → Ack ≡ y
ack_parts Ack x e = refl
ack_parts _ x e = absurd (none-some x e)

ready_parts : (y : Msg) (x : Unit {0}) → (elim y [ Ready ↦ Some tt | _ ↦ None ]) ≡ Some x → Ready ≡ y
ready_parts Ready x e = refl
ready_parts _ x e = absurd (none-some x e)

-- the names of messages differ, and each row's spelling is read as that row
messages_table : (version : ℕ) → IsTable (messages version)
unfolding messages
messages_table version = record {
  each = ((by_parts _ _ abort_parts (distance_format version), refl), ((by_parts _ _ ack_parts nothing_format, refl), ((by_parts _ _ ready_parts nothing_format, refl), tt)));
  apart = refl;
}

data_parts : (y : Request) (x : ℕ × (ℕ × (ℕ × (ℕ × Msg)))) → (elim y [ Data d ↦ Some (d.from, (d.to, (d.inc, (d.number, d.msg)))) | _ ↦ None ]) ≡ Some x
    → Data (record { from = x.0; to = x.1.0; inc = x.1.1.0; number = x.1.1.1.0; msg = x.1.1.1.1 }) ≡ y
data_parts (Data d) x e =
    made_of (λ p. Data (record { from = p.0; to = p.1.0; inc = p.1.1.0; number = p.1.1.1.0; msg = p.1.1.1.1 })) (d.from, (d.to, (d.inc, (d.number, d.msg)))) x e
data_parts _ x e = absurd (none-some x e)

data_format : (version : ℕ) → IsFormat (data_fields version)
unfolding data_fields
data_format version = by_parts _ _ data_parts (both node_format (both node_format (both number_format (both number_format (one_of_format (messages version) (messages_table version))))))

receipt_parts : (y : Request) (x : ℕ × (ℕ × (ℕ × ℕ))) → (elim y [ Receipt r ↦ Some (r.from, (r.to, (r.inc, r.number))) | _ ↦ None ]) ≡ Some x
    → Receipt (record { from = x.0; to = x.1.0; inc = x.1.1.0; number = x.1.1.1 }) ≡ y
receipt_parts (Receipt r) x e = made_of (λ p. Receipt (record { from = p.0; to = p.1.0; inc = p.1.1.0; number = p.1.1.1 })) (r.from, (r.to, (r.inc, r.number))) x e
receipt_parts _ x e = absurd (none-some x e)

receipt_format : IsFormat receipt_fields
unfolding receipt_fields
receipt_format = by_parts _ _ receipt_parts (both node_format (both node_format (both number_format number_format)))

resend_parts : (y : Request) (x : Unit {0}) → (elim y [ Resend ↦ Some tt | _ ↦ None ]) ≡ Some x → Resend ≡ y
resend_parts Resend x e = refl
resend_parts _ x e = absurd (none-some x e)

check_parts : (y : Request) (x : Unit {0}) → (elim y [ Check ↦ Some tt | _ ↦ None ]) ≡ Some x → Check ≡ y
check_parts Check x e = refl
check_parts _ x e = absurd (none-some x e)

show_parts : (y : Request) (x : Unit {0}) → (elim y [ Show ↦ Some tt | _ ↦ None ]) ≡ Some x → Show ≡ y
show_parts Show x e = refl
show_parts _ x e = absurd (none-some x e)

hold_parts : (y : Request) (x : Unit {0}) → (elim y [ Hold ↦ Some tt | _ ↦ None ]) ≡ Some x → Hold ≡ y
hold_parts Hold x e = refl
hold_parts _ x e = absurd (none-some x e)

flush_parts : (y : Request) (x : Unit {0}) → (elim y [ Flush ↦ Some tt | _ ↦ None ]) ≡ Some x → Flush ≡ y
flush_parts Flush x e = refl
flush_parts _ x e = absurd (none-some x e)

crash_parts : (y : Request) (x : Unit {0}) → (elim y [ Crash ↦ Some tt | _ ↦ None ]) ≡ Some x → Crash ≡ y
crash_parts Crash x e = refl
crash_parts _ x e = absurd (none-some x e)

version_parts : (y : Request) (x : Unit {0}) → (elim y [ Version2 ↦ Some tt | _ ↦ None ]) ≡ Some x → Version2 ≡ y
version_parts Version2 x e = refl
version_parts _ x e = absurd (none-some x e)

version_format : IsFormat version_fields
unfolding version_fields
version_format = by_parts _ _ version_parts two_format

-- the formats of requests are a table
pub requests_table : (version : ℕ) → IsTable (requests version)
unfolding other_requests commands
requests_table version = record {
  each = ((order_format, refl), ((by_parts _ _ take_parts (both node_format node_format), refl), ((by_parts _ _ clear_parts (both node_format node_format), refl), ((data_format version, refl), ((receipt_format, refl), ((by_parts _ _ resend_parts nothing_format, refl), ((by_parts _ _ check_parts nothing_format, refl), ((by_parts _ _ show_parts nothing_format, refl), ((by_parts _ _ hold_parts nothing_format, refl), ((by_parts _ _ flush_parts nothing_format, refl), ((by_parts _ _ crash_parts nothing_format, refl), ((version_format, refl), next_rows commands commands_table.each))))))))))));
  apart = refl;
}

-- ---- lines

-- the words of the line are those that were spelled, and the table reads them
spelled_line : (version : ℕ) (request : Request) (line : List ℕ) (o : Option (List Word)) → (one_of (requests version)).spell request ≡ o → (o >>= λ words. Some (join_with_byte 32 words)) ≡ Some line
    → ((one_of (requests version)).read (words_of line) >>= all_read) ≡ Some request
spelled_line version request line None e f = absurd cc
spelled_line version request line (Some ws) e f =
    let found = found_by (requests version) (requests_table version) request ws [] e in
    let same : join_with_byte 32 ws ≡ line = cc in
    let words : words_of line ≡ found.verb ∷ found.following =
    ap words_of (sym same) ∙ ap (λ v. words_of (join_with_byte 32 v)) found.is ∙ words_of-joined found.verb found.following found.plain
    in
    ap (λ v. read_first (requests version) v >>= all_read) words
    ∙ ap (λ v. read_by (requests version) found.verb v >>= all_read) (sym (append-nil found.following))
    ∙ ap (λ o. o >>= all_read) found.reads

pub spelled_is_read : SpelledIsRead
unfolding spelled request_of
spelled_is_read version request line e = spelled_line version request line _ refl e
