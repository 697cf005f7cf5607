-- Lines that are spelled as clients print them are read as their requests.
use Rattle.std.proofs.Common.{◌≡◌, ◌≢◌, Bor, Option, None, IfSome, MatchOption, ◌<◌, ◌^◌, ℕ, true, List, [], ◌∷◌, ◌++◌, codes, decimal, Some, Ok, refl, sym, ap, ◌∙◌, arith, append_assoc}
use Rattle.std.proofs.lemmas.Fmt.{IsAscii-decimal}
use Rattle.std.proofs.lemmas.Str.{IsAscii-append, IsUtf8-from_ascii, is_utf8-from_IsUtf8}
use Rattle.std.specs.Str.{IsAscii, is_utf8}
use Rattle.serde_json.specs.Data.{Data, member, no_members, object, string}
use Rattle.serde_json.specs.Read.{of_json, read}
use Rattle.serde_json.specs.Written.{compact_text, outline}
use Rattle.serde_json.proofs.OnLiterals.{serde_json_on_literals}
use Rattle.coord_types.specs.declared.limits.TheConstants.{MAX_CLIENTS, MAX_NODES}
use Rattle.coord_types.specs.declared.steps.Command.TheVariants as command
use Rattle.coord_admin.specs.Replies.{num}
use Rattle.coord_wire.specs.OrderLine.{command_line, confirm_line, head, node_line, number_member}
use Rattle.coord_heard.specs.Heard.{IsIn, IsWord}
use Rattle.coord_heard.proofs.Lines.{IsSame, number_same, text_read}
use Rattle.coord_heard.proofs.Orders.{ascii_if, literal_then, node_word, order_is_read, within}
use Rattle.proxy_request.specs.declared.request.Request.{Request}
use Rattle.proxy_request.specs.declared.request.Request.TheVariants.{Order, Confirm, Reset, ResetAt}
use Rattle.proxy_request.specs.Requests.{asked_by, asked_in, request_if}
use Rattle.proxy_request.proofs.Passes.{server_requests_pass}

-- ---- orders without a client and a number

abbrev at_node : List ℕ → ℕ → Data
at_node op u = object (member (codes "op") (string op) (member (codes "node") (num u) no_members))

abbrev at_epoch : List ℕ → ℕ → ℕ → Data
at_epoch op u e = object (member (codes "op") (string op) (member (codes "node") (num u) (member (codes "epoch") (num e) no_members)))

abbrev reset_text : ℕ → List ℕ
reset_text u = codes "{\"op\":\"reset\",\"node\":" ++ (decimal u ++ codes "}")

abbrev reset_at_text : ℕ → ℕ → List ℕ
reset_at_text u e = codes "{\"op\":\"reset\",\"node\":" ++ (decimal u ++ (codes ",\"epoch\":" ++ (decimal e ++ codes "}")))

abbrev confirm_text : ℕ → ℕ → List ℕ
confirm_text u e = codes "{\"op\":\"confirm\",\"node\":" ++ (decimal u ++ (codes ",\"epoch\":" ++ (decimal e ++ codes "}")))

reset_printed : (u : ℕ) → reset_text u ≡ compact_text (at_node (codes "reset") u)
unfolding serde_json_on_literals
reset_printed u = simp append_assoc

reset_at_printed : (u e : ℕ) → reset_at_text u e ≡ compact_text (at_epoch (codes "reset") u e)
unfolding serde_json_on_literals
reset_at_printed u e = simp append_assoc

confirm_printed : (u e : ℕ) → confirm_text u e ≡ compact_text (at_epoch (codes "confirm") u e)
unfolding serde_json_on_literals
confirm_printed u e = simp append_assoc

-- their members in the order of their names
node_sorted : (op : List ℕ) (u : Data) → IsSame u → of_json (outline (object (member (codes "op") (string op) (member (codes "node") u no_members))))
    ≡ Some (object (member (codes "node") u (member (codes "op") (string op) no_members)))
node_sorted op u eu = rw eu refl

epoch_sorted : (op : List ℕ) (u e : Data) → IsSame u → IsSame e
    → of_json (outline (object (member (codes "op") (string op) (member (codes "node") u (member (codes "epoch") e no_members)))))
    ≡ Some (object (member (codes "epoch") e (member (codes "node") u (member (codes "op") (string op) no_members))))
epoch_sorted op u e eu ee = rw (eu, ee) refl

reset_in : (u : ℕ) → IsIn MAX_NODES u → asked_in (compact_text (at_node (codes "reset") u)) ≡ Ok (Reset u)
unfolding asked_in
reset_in u is =
    ap request_if (text_read (at_node (codes "reset") u) (tt, (node_word u is, tt)) (omega arith) ∙ node_sorted (codes "reset") (num u) (number_same u (node_word u is)))
    ∙ rw (within MAX_NODES u is) refl

reset_at_in : (u e : ℕ) → IsIn MAX_NODES u → IsWord e → asked_in (compact_text (at_epoch (codes "reset") u e)) ≡ Ok (ResetAt u e)
unfolding asked_in
reset_at_in u e is ie =
    ap request_if (text_read (at_epoch (codes "reset") u e) (tt, (node_word u is, (ie, tt))) (omega arith)
    ∙ epoch_sorted (codes "reset") (num u) (num e) (number_same u (node_word u is)) (number_same e ie))
    ∙ rw (within MAX_NODES u is) refl

confirm_in : (u e : ℕ) → IsIn MAX_NODES u → IsWord e → asked_in (compact_text (at_epoch (codes "confirm") u e)) ≡ Ok (Confirm u e)
unfolding asked_in
confirm_in u e is ie =
    ap request_if (text_read (at_epoch (codes "confirm") u e) (tt, (node_word u is, (ie, tt))) (omega arith)
    ∙ epoch_sorted (codes "confirm") (num u) (num e) (number_same u (node_word u is)) (number_same e ie))
    ∙ rw (within MAX_NODES u is) refl

-- their bytes are ASCII
end_ascii : (u : ℕ) → IsWord u → IsAscii (decimal u ++ codes "}")
end_ascii u iu = IsAscii-append _ _ (IsAscii-decimal u iu) (ascii_if (codes "}") refl)

two_ascii : (u e : ℕ) → IsWord u → IsWord e → IsAscii (decimal u ++ (codes ",\"epoch\":" ++ (decimal e ++ codes "}")))
two_ascii u e iu ie = IsAscii-append _ _ (IsAscii-decimal u iu) (literal_then (codes ",\"epoch\":") _ refl (end_ascii e ie))

asked : (text : List ℕ) → IsAscii text → asked_by (Some text) ≡ asked_in text
asked text is = rw (is_utf8-from_IsUtf8 text (IsUtf8-from_ascii text is)) refl

pub reset_asks : (u : ℕ) → IsIn MAX_NODES u → asked_by (Some (reset_text u)) ≡ Ok (Reset u)
reset_asks u is =
    asked (reset_text u) (literal_then (codes "{\"op\":\"reset\",\"node\":") _ refl (end_ascii u (node_word u is)))
    ∙ ap asked_in (reset_printed u) ∙ reset_in u is

pub reset_at_asks : (u e : ℕ) → IsIn MAX_NODES u → IsWord e → asked_by (Some (reset_at_text u e)) ≡ Ok (ResetAt u e)
reset_at_asks u e is ie =
    asked (reset_at_text u e) (literal_then (codes "{\"op\":\"reset\",\"node\":") _ refl (two_ascii u e (node_word u is) ie))
    ∙ ap asked_in (reset_at_printed u e) ∙ reset_at_in u e is ie

pub confirm_asks : (u e : ℕ) → IsIn MAX_NODES u → IsWord e → asked_by (Some (confirm_text u e)) ≡ Ok (Confirm u e)
confirm_asks u e is ie =
    asked (confirm_text u e) (literal_then (codes "{\"op\":\"confirm\",\"node\":") _ refl (two_ascii u e (node_word u is) ie))
    ∙ ap asked_in (confirm_printed u e) ∙ confirm_in u e is ie

-- ---- orders with a client and a number

abbrev numbered_reset_text : ℕ → ℕ → ℕ → List ℕ
numbered_reset_text c n u = codes "{\"op\":\"reset\",\"client\":" ++ (decimal c ++ (codes ",\"number\":" ++ (decimal n ++ (codes ",\"node\":" ++ (decimal u ++ codes "}")))))

abbrev numbered_confirm_text : ℕ → ℕ → ℕ → ℕ → List ℕ
numbered_confirm_text c n u e =
    codes "{\"op\":\"confirm\",\"client\":" ++ (decimal c ++ (codes ",\"number\":" ++ (decimal n ++ (codes ",\"node\":" ++ (decimal u ++ (codes ",\"epoch\":" ++ (decimal e ++ codes "}")))))))

numbered_reset_line : (c n u : ℕ) → numbered_reset_text c n u ++ (10 ∷ []) ≡ command_line c n (command.Reset u)
unfolding head number_member node_line
numbered_reset_line c n u = simp append_assoc

numbered_confirm_line : (c n u e : ℕ) → numbered_confirm_text c n u e ++ (10 ∷ []) ≡ command_line c n (command.Confirm u e)
unfolding head number_member confirm_line
numbered_confirm_line c n u e = simp append_assoc

pub numbered_reset_asks : (c n u : ℕ) → IsIn MAX_CLIENTS c → IsWord n → IsIn MAX_NODES u
    → asked_by (Some (numbered_reset_text c n u)) ≡ Ok (Order c n (command.Reset u))
numbered_reset_asks c n u ic iw iu =
    server_requests_pass (Some (numbered_reset_text c n u)) _
    (order_is_read c (record { number = n; command = command.Reset u }) (numbered_reset_text c n u) ic iw iu (numbered_reset_line c n u))

pub numbered_confirm_asks : (c n u e : ℕ) → IsIn MAX_CLIENTS c → IsWord n → IsIn MAX_NODES u → IsWord e
    → asked_by (Some (numbered_confirm_text c n u e)) ≡ Ok (Order c n (command.Confirm u e))
numbered_confirm_asks c n u e ic iw iu ie =
    server_requests_pass (Some (numbered_confirm_text c n u e)) _
    (order_is_read c (record { number = n; command = command.Confirm u e }) (numbered_confirm_text c n u e) ic iw (iu, ie) (numbered_confirm_line c n u e))

-- ---- as the parts of a line show them

pub begins : (s p : List ℕ) (r : Option (Bor (List ℕ))) → MatchOption r ((rest : List ℕ) → s ≢ p ++ rest) (λ x. s ≡ p ++ x.now) → IfSome r (λ x. s ≡ p ++ x.now)
begins s p None is = tt
begins s p (Some x) is = is

pub reset_read : (line rest : List ℕ) (u v : ℕ) → line ≡ codes "{\"op\":\"reset\",\"node\":" ++ (decimal u ++ rest) → rest ≡ codes "}" → v ≡ u → IsIn MAX_NODES u
    → asked_by (Some line) ≡ Ok (Reset v)
reset_read line rest u v whole end same is = rw (whole, end, same) (reset_asks u is)

pub reset_at_read : (line rest last : List ℕ) (u v e : ℕ) → line ≡ codes "{\"op\":\"reset\",\"node\":" ++ (decimal u ++ rest)
    → rest ≡ codes ",\"epoch\":" ++ (decimal e ++ last) → last ≡ codes "}" → v ≡ u → IsIn MAX_NODES u → IsWord e
    → asked_by (Some line) ≡ Ok (ResetAt v e)
reset_at_read line rest last u v e whole more end same is ie = rw (whole, more, end, same) (reset_at_asks u e is ie)

pub confirm_read : (line rest last : List ℕ) (u v e : ℕ) → line ≡ codes "{\"op\":\"confirm\",\"node\":" ++ (decimal u ++ rest)
    → rest ≡ codes ",\"epoch\":" ++ (decimal e ++ last) → last ≡ codes "}" → v ≡ u → IsIn MAX_NODES u → IsWord e
    → asked_by (Some line) ≡ Ok (Confirm v e)
confirm_read line rest last u v e whole more end same is ie = rw (whole, more, end, same) (confirm_asks u e is ie)

pub numbered_reset_read : (line one two last : List ℕ) (c d n u v : ℕ) → line ≡ codes "{\"op\":\"reset\",\"client\":" ++ (decimal c ++ one)
    → one ≡ codes ",\"number\":" ++ (decimal n ++ two) → two ≡ codes ",\"node\":" ++ (decimal u ++ last) → last ≡ codes "}"
    → d ≡ c → IsIn MAX_CLIENTS c → IsWord n → v ≡ u → IsIn MAX_NODES u
    → asked_by (Some line) ≡ Ok (Order d n (command.Reset v))
numbered_reset_read line one two last c d n u v whole first second end by ic iw same iu = rw (whole, first, second, end, by, same) (numbered_reset_asks c n u ic iw iu)

pub numbered_confirm_read : (line one two three last : List ℕ) (c d n u v e : ℕ) → line ≡ codes "{\"op\":\"confirm\",\"client\":" ++ (decimal c ++ one)
    → one ≡ codes ",\"number\":" ++ (decimal n ++ two) → two ≡ codes ",\"node\":" ++ (decimal u ++ three) → three ≡ codes ",\"epoch\":" ++ (decimal e ++ last)
    → last ≡ codes "}" → d ≡ c → IsIn MAX_CLIENTS c → IsWord n → v ≡ u → IsIn MAX_NODES u → IsWord e
    → asked_by (Some line) ≡ Ok (Order d n (command.Confirm v e))
numbered_confirm_read line one two three last c d n u v e whole first second third end by ic iw same iu ie =
    rw (whole, first, second, third, end, by, same) (numbered_confirm_asks c n u e ic iw iu ie)
