-- The line of an order is read as that order.
use Rattle.std.proofs.Common.{◌≡◌, ◌≤◌, ◌<◌, ◌^◌, ◌+◌, ℕ, zero, suc, true, nat_lt, ◌&&◌, List, [], ◌∷◌, ◌++◌, length, take, codes, decimal, Option, Some, Ok, refl, sym, ap, subst, ◌∙◌, arith, append_assoc}
use Rattle.std.proofs.Math.Seq.{take-append_seam}
use Rattle.std.proofs.lemmas.List.{append_cancel_right}
use Rattle.std.proofs.lemmas.Bool.Decides.{nat_tests}
use Rattle.std.proofs.lemmas.Fmt.{IsAscii-decimal}
use Rattle.std.proofs.lemmas.Str.{IsAscii-append, IsAscii-take, IsUtf8-from_ascii, is_utf8-from_IsUtf8}
use Rattle.std.proofs.lemmas.Str.Ascii.{IsAscii-nil}
use Rattle.std.specs.List.{list_all}
use Rattle.std.specs.Str.{IsAscii, is_utf8}
use Rattle.json.specs.Tree.{depth}
use Rattle.serde_json.specs.Data.{Data, member, no_members, object, string}
use Rattle.serde_json.specs.Read.{max_depth, of_json, read}
use Rattle.serde_json.specs.Written.{compact_text, outline}
use Rattle.serde_json.proofs.OnLiterals.{serde_json_on_literals}
use Rattle.coord_types.specs.declared.limits.TheConstants.{MAX_CLIENTS, MAX_GROUPS, MAX_NODES}
use Rattle.coord_types.specs.declared.steps.Command.{Command}
use Rattle.coord_types.specs.declared.steps.Command.TheVariants.{Add, Remove, Join, Drop, Reset, Confirm}
use Rattle.coord_admin.specs.Replies.{num}
use Rattle.coord_admin.specs.Requests.{asked_by, asked_in, from_1_to, request_if, request_of}
use Rattle.coord_admin.specs.declared.request.Request.TheVariants.{Order}
use Rattle.coord_wire.specs.OrderLine.{add_line, command_line, confirm_line, head, link_line, node_line, number_member}
use Rattle.coord_heard.specs.Heard.{IsCommand, IsIn, IsWord, OrderIsRead}
use Rattle.coord_heard.proofs.Lines.{IsPlain, IsSame, number_same, text_read}

-- a printed order, with one more member, and with two
abbrev pub with_one : List ℕ → Data → Data → List ℕ → Data → Data
with_one op c n k v = object (member (codes "op") (string op) (member (codes "client") c (member (codes "number") n (member k v no_members))))

abbrev pub with_two : List ℕ → Data → Data → List ℕ → Data → List ℕ → Data → Data
with_two op c n k v l w = object (member (codes "op") (string op) (member (codes "client") c (member (codes "number") n (member k v (member l w no_members)))))

abbrev pub printed : ℕ → ℕ → Command → Data
printed c n (Add u g) = with_two (codes "add") (num c) (num n) (codes "node") (num u) (codes "group") (num g)
printed c n (Remove u) = with_one (codes "remove") (num c) (num n) (codes "node") (num u)
printed c n (Join a b) = with_two (codes "join") (num c) (num n) (codes "a") (num a) (codes "b") (num b)
printed c n (Drop a b) = with_two (codes "drop") (num c) (num n) (codes "a") (num a) (codes "b") (num b)
printed c n (Reset u) = with_one (codes "reset") (num c) (num n) (codes "node") (num u)
printed c n (Confirm u e) = with_two (codes "confirm") (num c) (num n) (codes "node") (num u) (codes "epoch") (num e)

-- ---- its text

pub text_printed : (c n : ℕ) (x : Command) → command_line c n x ≡ compact_text (printed c n x) ++ (10 ∷ [])
unfolding head number_member add_line confirm_line node_line link_line serde_json_on_literals
text_printed c n (Add u g) = simp append_assoc
text_printed c n (Remove u) = simp append_assoc
text_printed c n (Join a b) = simp append_assoc
text_printed c n (Drop a b) = simp append_assoc
text_printed c n (Reset u) = simp append_assoc
text_printed c n (Confirm u e) = simp append_assoc

-- ---- its value, with its members in the order of their names

abbrev node_value : List ℕ → Data → Data → Data → Data
node_value op c n u = object (member (codes "client") c (member (codes "node") u (member (codes "number") n (member (codes "op") (string op) no_members))))

abbrev add_value : Data → Data → Data → Data → Data
add_value c n u g = object (member (codes "client") c (member (codes "group") g (member (codes "node") u (member (codes "number") n (member (codes "op") (string (codes "add")) no_members)))))

abbrev link_value : List ℕ → Data → Data → Data → Data → Data
link_value op c n a b = object (member (codes "a") a (member (codes "b") b (member (codes "client") c (member (codes "number") n (member (codes "op") (string op) no_members)))))

abbrev confirm_value : Data → Data → Data → Data → Data
confirm_value c n u e = object (member (codes "client") c (member (codes "epoch") e (member (codes "node") u (member (codes "number") n (member (codes "op") (string (codes "confirm")) no_members)))))

node_sorted : (op : List ℕ) (c n u : Data) → IsSame c → IsSame n → IsSame u → of_json (outline (with_one op c n (codes "node") u)) ≡ Some (node_value op c n u)
node_sorted op c n u ec en eu = rw (ec, en, eu) refl

add_sorted : (c n u g : Data) → IsSame c → IsSame n → IsSame u → IsSame g → of_json (outline (with_two (codes "add") c n (codes "node") u (codes "group") g)) ≡ Some (add_value c n u g)
add_sorted c n u g ec en eu eg = rw (ec, en, eu, eg) refl

link_sorted : (op : List ℕ) (c n a b : Data) → IsSame c → IsSame n → IsSame a → IsSame b → of_json (outline (with_two op c n (codes "a") a (codes "b") b)) ≡ Some (link_value op c n a b)
link_sorted op c n a b ec en ea eb = rw (ec, en, ea, eb) refl

confirm_sorted : (c n u e : Data) → IsSame c → IsSame n → IsSame u → IsSame e → of_json (outline (with_two (codes "confirm") c n (codes "node") u (codes "epoch") e)) ≡ Some (confirm_value c n u e)
confirm_sorted c n u e ec en eu ee = rw (ec, en, eu, ee) refl

-- ---- its request

pub within : (most n : ℕ) → IsIn most n → from_1_to most n ≡ Some n
within most n is = grind arith

client_word : (n : ℕ) → IsIn MAX_CLIENTS n → IsWord n
client_word n is = grind arith

pub node_word : (n : ℕ) → IsIn MAX_NODES n → IsWord n
node_word n is = grind arith

group_word : (n : ℕ) → IsIn MAX_GROUPS n → IsWord n
group_word n is = grind arith

value_asks : (c n : ℕ) (x : Command) → IsIn MAX_CLIENTS c → IsWord n → IsCommand x → request_if (of_json (outline (printed c n x))) ≡ Ok (Order c n x)
value_asks c n (Add u g) ic iw ix =
    ap request_if (add_sorted (num c) (num n) (num u) (num g) (number_same c (client_word c ic)) (number_same n iw) (number_same u (node_word u ix.0)) (number_same g (group_word g ix.1)))
    ∙ rw (within MAX_CLIENTS c ic, within MAX_NODES u ix.0, within MAX_GROUPS g ix.1) refl
value_asks c n (Remove u) ic iw ix =
    ap request_if (node_sorted (codes "remove") (num c) (num n) (num u) (number_same c (client_word c ic)) (number_same n iw) (number_same u (node_word u ix)))
    ∙ rw (within MAX_CLIENTS c ic, within MAX_NODES u ix) refl
value_asks c n (Join a b) ic iw ix =
    ap request_if (link_sorted (codes "join") (num c) (num n) (num a) (num b) (number_same c (client_word c ic)) (number_same n iw) (number_same a (node_word a ix.0)) (number_same b (node_word b ix.1)))
    ∙ rw (within MAX_CLIENTS c ic, within MAX_NODES a ix.0, within MAX_NODES b ix.1) refl
value_asks c n (Drop a b) ic iw ix =
    ap request_if (link_sorted (codes "drop") (num c) (num n) (num a) (num b) (number_same c (client_word c ic)) (number_same n iw) (number_same a (node_word a ix.0)) (number_same b (node_word b ix.1)))
    ∙ rw (within MAX_CLIENTS c ic, within MAX_NODES a ix.0, within MAX_NODES b ix.1) refl
value_asks c n (Reset u) ic iw ix =
    ap request_if (node_sorted (codes "reset") (num c) (num n) (num u) (number_same c (client_word c ic)) (number_same n iw) (number_same u (node_word u ix)))
    ∙ rw (within MAX_CLIENTS c ic, within MAX_NODES u ix) refl
value_asks c n (Confirm u e) ic iw ix =
    ap request_if (confirm_sorted (num c) (num n) (num u) (num e) (number_same c (client_word c ic)) (number_same n iw) (number_same u (node_word u ix.0)) (number_same e ix.1))
    ∙ rw (within MAX_CLIENTS c ic, within MAX_NODES u ix.0) refl

plain : (c n : ℕ) (x : Command) → IsIn MAX_CLIENTS c → IsWord n → IsCommand x → IsPlain (printed c n x)
plain c n (Add u g) ic iw ix = (tt, (client_word c ic, (iw, (node_word u ix.0, (group_word g ix.1, tt)))))
plain c n (Remove u) ic iw ix = (tt, (client_word c ic, (iw, (node_word u ix, tt))))
plain c n (Join a b) ic iw ix = (tt, (client_word c ic, (iw, (node_word a ix.0, (node_word b ix.1, tt)))))
plain c n (Drop a b) ic iw ix = (tt, (client_word c ic, (iw, (node_word a ix.0, (node_word b ix.1, tt)))))
plain c n (Reset u) ic iw ix = (tt, (client_word c ic, (iw, (node_word u ix, tt))))
plain c n (Confirm u e) ic iw ix = (tt, (client_word c ic, (iw, (node_word u ix.0, (ix.1, tt)))))

shallow : (c n : ℕ) (x : Command) → depth (outline (printed c n x)) ≤ max_depth
shallow c n (Add u g) = omega arith
shallow c n (Remove u) = omega arith
shallow c n (Join a b) = omega arith
shallow c n (Drop a b) = omega arith
shallow c n (Reset u) = omega arith
shallow c n (Confirm u e) = omega arith

text_asks : (c n : ℕ) (x : Command) → IsIn MAX_CLIENTS c → IsWord n → IsCommand x → asked_in (compact_text (printed c n x)) ≡ Ok (Order c n x)
unfolding asked_in
text_asks c n x ic iw ix = ap request_if (text_read (printed c n x) (plain c n x ic iw ix) (shallow c n x)) ∙ value_asks c n x ic iw ix

-- ---- its bytes are ASCII

ascii_cons : (b : ℕ) (bs : List ℕ) → b < 128 → IsAscii bs → IsAscii (b ∷ bs)
ascii_cons b bs low is zero = low
ascii_cons b bs low is (suc i) = is i

pub ascii_if : (bs : List ℕ) → list_all (λ b. nat_lt b 128) bs ≡ true → IsAscii bs
ascii_if [] is = IsAscii-nil
ascii_if (b ∷ bs) is = ascii_cons b bs (grind (arith, nat_tests)) (ascii_if bs (grind (arith, nat_tests)))

pub literal_then : (text rest : List ℕ) → list_all (λ b. nat_lt b 128) text ≡ true → IsAscii rest → IsAscii (text ++ rest)
literal_then text rest is more = IsAscii-append text rest (ascii_if text is) more

head_ascii : (op : List ℕ) (c n : ℕ) → IsAscii op → IsWord c → IsWord n → IsAscii (head op c n)
unfolding head
head_ascii op c n is ic iw =
    let number = codes ",\"number\":" ++ decimal n in
    let client = codes "\",\"client\":" ++ (decimal c ++ number) in
    literal_then (codes "{\"op\":\"") (op ++ client) refl
    (IsAscii-append op client is
    (literal_then (codes "\",\"client\":") (decimal c ++ number) refl
    (IsAscii-append (decimal c) number (IsAscii-decimal c ic) (literal_then (codes ",\"number\":") (decimal n) refl (IsAscii-decimal n iw)))))

member_ascii : (name : List ℕ) (n : ℕ) → IsAscii name → IsWord n → IsAscii (number_member name n)
unfolding number_member
member_ascii name n is iw =
    let value = codes "\":" ++ decimal n in
    literal_then (codes ",\"") (name ++ value) refl (IsAscii-append name value is (literal_then (codes "\":") (decimal n) refl (IsAscii-decimal n iw)))

node_ascii : (op : List ℕ) (c n u : ℕ) → IsAscii op → IsWord c → IsWord n → IsWord u → IsAscii (node_line op c n u)
unfolding node_line
node_ascii op c n u is ic iw iu =
    IsAscii-append _ _ (head_ascii op c n is ic iw) (IsAscii-append _ _ (member_ascii (codes "node") u (ascii_if (codes "node") refl) iu) (ascii_if (codes "}\n") refl))

link_ascii : (op : List ℕ) (c n a b : ℕ) → IsAscii op → IsWord c → IsWord n → IsWord a → IsWord b → IsAscii (link_line op c n a b)
unfolding link_line
link_ascii op c n a b is ic iw ia ib =
    IsAscii-append _ _ (head_ascii op c n is ic iw)
    (IsAscii-append _ _ (member_ascii (codes "a") a (ascii_if (codes "a") refl) ia)
    (IsAscii-append _ _ (member_ascii (codes "b") b (ascii_if (codes "b") refl) ib) (ascii_if (codes "}\n") refl)))

add_ascii : (c n u g : ℕ) → IsWord c → IsWord n → IsWord u → IsWord g → IsAscii (add_line c n u g)
unfolding add_line
add_ascii c n u g ic iw iu ig =
    IsAscii-append _ _ (head_ascii (codes "add") c n (ascii_if (codes "add") refl) ic iw)
    (IsAscii-append _ _ (member_ascii (codes "node") u (ascii_if (codes "node") refl) iu)
    (IsAscii-append _ _ (member_ascii (codes "group") g (ascii_if (codes "group") refl) ig) (ascii_if (codes "}\n") refl)))

confirm_ascii : (c n u e : ℕ) → IsWord c → IsWord n → IsWord u → IsWord e → IsAscii (confirm_line c n u e)
unfolding confirm_line
confirm_ascii c n u e ic iw iu ie =
    IsAscii-append _ _ (head_ascii (codes "confirm") c n (ascii_if (codes "confirm") refl) ic iw)
    (IsAscii-append _ _ (member_ascii (codes "node") u (ascii_if (codes "node") refl) iu)
    (IsAscii-append _ _ (member_ascii (codes "epoch") e (ascii_if (codes "epoch") refl) ie) (ascii_if (codes "}\n") refl)))

line_ascii : (c n : ℕ) (x : Command) → IsIn MAX_CLIENTS c → IsWord n → IsCommand x → IsAscii (command_line c n x)
line_ascii c n (Add u g) ic iw ix = add_ascii c n u g (client_word c ic) iw (node_word u ix.0) (group_word g ix.1)
line_ascii c n (Remove u) ic iw ix = node_ascii (codes "remove") c n u (ascii_if (codes "remove") refl) (client_word c ic) iw (node_word u ix)
line_ascii c n (Join a b) ic iw ix = link_ascii (codes "join") c n a b (ascii_if (codes "join") refl) (client_word c ic) iw (node_word a ix.0) (node_word b ix.1)
line_ascii c n (Drop a b) ic iw ix = link_ascii (codes "drop") c n a b (ascii_if (codes "drop") refl) (client_word c ic) iw (node_word a ix.0) (node_word b ix.1)
line_ascii c n (Reset u) ic iw ix = node_ascii (codes "reset") c n u (ascii_if (codes "reset") refl) (client_word c ic) iw (node_word u ix)
line_ascii c n (Confirm u e) ic iw ix = confirm_ascii c n u e (client_word c ic) iw (node_word u ix.0) ix.1

pub text_utf8 : (text more : List ℕ) → IsAscii (text ++ more) → is_utf8 text ≡ true
text_utf8 text more is =
    let P : List ℕ → Type 0 = IsAscii in
    is_utf8-from_IsUtf8 text (IsUtf8-from_ascii text (subst P (take-append_seam text more) (IsAscii-take (text ++ more) (length text) is)))

pub order_is_read : OrderIsRead
order_is_read client line text ic iw ix is =
    let same : text ≡ compact_text (printed client line.number line.command) =
    append_cancel_right text (compact_text (printed client line.number line.command)) (10 ∷ []) (is ∙ text_printed client line.number line.command) in
    let P : List ℕ → Type 0 = IsAscii in
    let utf8 : is_utf8 text ≡ true = text_utf8 text (10 ∷ []) (subst P (sym is) (line_ascii client line.number line.command ic iw ix)) in
    rw utf8 (ap asked_in same ∙ text_asks client line.number line.command ic iw ix)
