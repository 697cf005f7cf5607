-- What the server reads as a request the proxy reads as the same.
use Rattle.std.proofs.Common.{◌≡◌, ℕ, ◌<◌, ◌==◌, ◌&&◌, if◌then◌else◌, Bool, true, false, List, codes, Option, Some, None, option_and_then, Result, Ok, Err, refl, sym, ap, ◌∙◌, arith}
use Rattle.std.proofs.lemmas.Bool.{eqb-true}
use Rattle.std.proofs.lemmas.Slice.Eq.{bytes_eq-Decides}
use Rattle.std.specs.Str.{bytes_eq, is_utf8}
use Rattle.serde_json.specs.Data.{Data}
use Rattle.serde_json.specs.Find.{get, as_str}
use Rattle.serde_json.specs.Read.{read}
use Rattle.coord_admin.specs.Requests as admin
use Rattle.coord_admin.specs.declared.op.Op.TheVariants as op
use Rattle.coord_admin.specs.declared.request.Request as admin_request
use Rattle.coord_admin.specs.declared.fault.LineFault.{LineFault}
use Rattle.coord_admin.specs.declared.fault.LineFault.TheVariants.{BadRequest, BadText}
use Rattle.proxy_request.specs.Requests.{asked_in, from_server, of_server, request_by, request_if, request_named}
use Rattle.proxy_request.specs.Laws.{ServerRequestsPass}

-- a test that a request passed
passed_if : (b : Bool) (x : Result admin_request.Request LineFault) (r : admin_request.Request) → (if b then x else Err BadRequest) ≡ Ok r → b ≡ true
passed_if true x r is = refl
passed_if false x r is = cc

-- an order of the server's has as many members as its op has
confirm_members : (d : Data) (r : admin_request.Request) → admin.request_of_op d (Some op.Confirm) ≡ Ok r → (admin.member_count d == 5) ≡ true
confirm_members d r is = passed_if (admin.member_count d == 5) (admin.or_bad_request (admin.request_by op.Confirm d)) r is

reset_members : (d : Data) (r : admin_request.Request) → admin.request_of_op d (Some op.Reset) ≡ Ok r → (admin.member_count d == 4) ≡ true
reset_members d r is = passed_if (admin.member_count d == 4) (admin.or_bad_request (admin.request_by op.Reset d)) r is

same_text : (a b : List ℕ) → bytes_eq a b ≡ true → a ≡ b
same_text a b is = (bytes_eq-Decides a b).0 is

both : (a b : Bool) → (a && b) ≡ true → (a ≡ true) × (b ≡ true)
both true b is = (refl, is)
both false b is = absurd (cc)

false_if : (b : Bool) → (b ≡ true → ⊥) → b ≡ false
false_if true is_not = absurd (is_not refl)
false_if false is_not = refl

-- with a text in the place of an equal one
named_as : (text name : List ℕ) (d : Data) (r : admin_request.Request) → bytes_eq name text ≡ true
    → admin.request_of_op d (admin.op_named name) ≡ Ok r → admin.request_of_op d (admin.op_named text) ≡ Ok r
named_as text name d r same is = ap (λ n. admin.request_of_op d (admin.op_named n)) (sym (same_text name text same)) ∙ is

not_watch : (name : List ℕ) (d : Data) (r : admin_request.Request) → admin.request_of_op d (admin.op_named name) ≡ Ok r → bytes_eq name (codes "watch") ≡ false
not_watch name d r is =
    false_if _ (λ e. let unknown : admin.request_of_op d None ≡ Ok r = named_as (codes "watch") name d r e is in cc)

not_confirm : (name : List ℕ) (d : Data) (r : admin_request.Request) → admin.request_of_op d (admin.op_named name) ≡ Ok r
    → (bytes_eq name (codes "confirm") && admin.member_count d == 3) ≡ false
not_confirm name d r is =
    false_if _ (λ e.
    let parts = both (bytes_eq name (codes "confirm")) (admin.member_count d == 3) e in
    let five = confirm_members d r (named_as (codes "confirm") name d r parts.0 is) in
    let is_5 : admin.member_count d ≡ 5 = eqb-true (admin.member_count d) 5 five in
    let is_3 : admin.member_count d ≡ 3 = eqb-true (admin.member_count d) 3 parts.1 in
    omega arith)

not_reset : (few : ℕ) → few < 4 → (name : List ℕ) (d : Data) (r : admin_request.Request) → admin.request_of_op d (admin.op_named name) ≡ Ok r
    → (bytes_eq name (codes "reset") && admin.member_count d == few) ≡ false
not_reset few less name d r is =
    false_if _ (λ e.
    let parts = both (bytes_eq name (codes "reset")) (admin.member_count d == few) e in
    let four = reset_members d r (named_as (codes "reset") name d r parts.0 is) in
    let is_4 : admin.member_count d ≡ 4 = eqb-true (admin.member_count d) 4 four in
    let is_few : admin.member_count d ≡ few = eqb-true (admin.member_count d) few parts.1 in
    omega arith)

by_name : (name : List ℕ) (d : Data) (r : admin_request.Request) → admin.request_of_op d (admin.op_named name) ≡ Ok r → admin.request_of d ≡ Ok r
    → request_by name (admin.member_count d) d ≡ Ok (of_server r)
by_name name d r named is =
    rw (not_watch name d r named, not_confirm name d r named, not_reset 2 (omega arith) name d r named, not_reset 3 (omega arith) name d r named) (ap from_server is)

of_named : (o : Option (List ℕ)) (d : Data) (r : admin_request.Request) → admin.request_named d o ≡ Ok r → admin.request_of d ≡ Ok r
    → request_named d o ≡ Ok (of_server r)
of_named None d r named is = cc
of_named (Some name) d r named is = by_name name d r named is

of_read : (o : Option Data) (r : admin_request.Request) → admin.request_if o ≡ Ok r → request_if o ≡ Ok (of_server r)
of_read None r is = cc
of_read (Some d) r is = of_named (option_and_then as_str (get (codes "op") d)) d r is is

in_text : (text : List ℕ) (r : admin_request.Request) → admin.asked_in text ≡ Ok r → asked_in text ≡ Ok (of_server r)
unfolding admin.asked_in asked_in
in_text text r is = of_read (read text) r is

if_utf8 : (b : Bool) (bytes : List ℕ) (r : admin_request.Request) → (if b then admin.asked_in bytes else Err BadText) ≡ Ok r
    → (if b then asked_in bytes else Err BadText) ≡ Ok (of_server r)
if_utf8 true bytes r is = in_text bytes r is
if_utf8 false bytes r is = cc

pub server_requests_pass : ServerRequestsPass
server_requests_pass None r is = cc
server_requests_pass (Some bytes) r is = if_utf8 (is_utf8 bytes) bytes r is
