-- The audit lines about requests and connections.
use Rattle.std.specs.Prelude.{◌≡◌, ℕ, Bool, true, false, List, [], Option, Some, None, unwrap_or}
use Rattle.std.specs.Borrow.{Bor}
use Rattle.std.specs.Duration.{as_nanos}
use Rattle.std.specs.declared.time.Duration.{Duration}
use Rattle.std.specs.Time.{system_time_nanos}
use Rattle.proxy_access.specs.Access.{principal_of}
use Rattle.proxy_audit.specs.Audits.{AddsEvent, AddsWithin}
use Rattle.proxy_audit.specs.declared.audit_log.Audit.{Audit}
use Rattle.proxy_audit.specs.declared.event.ClientLine.{ClientLine}
use Rattle.proxy_audit.specs.declared.event.ClientLine.TheVariants as line
use Rattle.proxy_audit.specs.declared.event.Event.{Event}
use Rattle.proxy_audit.specs.declared.event.Event.TheVariants as event
use Rattle.proxy_audit.specs.declared.quota.LineKind.TheVariants.{Connection, Refusal}
use Rattle.proxy_loop.specs.declared.gateway.Exchange.{Exchange}
use Rattle.proxy_loop.specs.declared.gateway.ExchangeKind.{ExchangeKind}
use Rattle.proxy_loop.specs.declared.gateway.ExchangeKind.TheVariants.{Query, Order, Denied, Fault}
use Rattle.proxy_loop.specs.declared.gateway.Moment.{Moment}

-- the client's line as the audit records it: a line with a fault is not a request, and a line that was not kept was too long
abbrev pub client_line : ExchangeKind → Option (Bor (List ℕ)) → ClientLine
client_line kind None = line.TooLong
client_line Fault (Some bytes) = line.Other bytes
client_line Query (Some bytes) = line.Request bytes
client_line Order (Some bytes) = line.Request bytes
client_line Denied (Some bytes) = line.Request bytes

abbrev pub event_of_kind : ExchangeKind → Bor (List ℕ) → Exchange → Event
event_of_kind Denied who e = event.Denied who (client_line e.kind e.line) e.answer e.waited
event_of_kind Query who e = event.Answered who (client_line e.kind e.line) e.answer e.waited
event_of_kind Order who e = event.Answered who (client_line e.kind e.line) e.answer e.waited
event_of_kind Fault who e = event.Answered who (client_line e.kind e.line) e.answer e.waited

abbrev pub event_of : Bor (List ℕ) → Exchange → Event
event_of who e = event_of_kind e.kind who e

-- A query adds no audit line. An order always adds one. A denial or a fault adds one only within the principal's quota.
abbrev pub RecordsKind : ExchangeKind → Exchange → Event → Audit → Audit → Type 0
RecordsKind Query e x old new = new ≡ old
RecordsKind Order e x old new = AddsEvent (system_time_nanos e.at.time) x old new
RecordsKind Denied e x old new = AddsWithin e.role Refusal (as_nanos e.at.now) (system_time_nanos e.at.time) x old new
RecordsKind Fault e x old new = AddsWithin e.role Refusal (as_nanos e.at.now) (system_time_nanos e.at.time) x old new

abbrev pub RecordsExchange : Bor (List ℕ) → Exchange → Audit → Audit → Type 0
RecordsExchange who e old new = RecordsKind e.kind e (event_of who e) old new

abbrev pub RecordsConnection : ℕ → Moment → Event → Audit → Audit → Type 0
RecordsConnection role at x old new = AddsWithin role Connection (as_nanos at.now) (system_time_nanos at.time) x old new

-- ---- principals

-- the name of the principal of a role; empty if the role has none
abbrev pub name_of : List (List ℕ) → ℕ → List ℕ
name_of names role = unwrap_or (principal_of names role) []

-- what an exchange adds to the audit, if the principal of its role has this name
abbrev pub RecordsFor : List ℕ → Exchange → Audit → Audit → Type 0
RecordsFor name e old new = (who : Bor (List ℕ)) × (who.now ≡ name) × RecordsExchange who e old new

-- the beginning and the end of a connection each add an audit line within the quota, but only if its principal may order
abbrev pub RecordsBegin : Bool → List ℕ → ℕ → Moment → Audit → Audit → Type 0
RecordsBegin true name role at old new = (who : Bor (List ℕ)) × (who.now ≡ name) × RecordsConnection role at (event.Begins who) old new
RecordsBegin false name role at old new = new ≡ old

abbrev pub RecordsEnd : Bool → List ℕ → ℕ → Duration → Moment → Audit → Audit → Type 0
RecordsEnd true name role lasted at old new = (who : Bor (List ℕ)) × (who.now ≡ name) × RecordsConnection role at (event.Ends who lasted) old new
RecordsEnd false name role lasted at old new = new ≡ old
