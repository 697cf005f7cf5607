-- The line of an event: a JSON object, and a line feed.
use Rattle.std.specs.Prelude.{ℕ, List, [], ◌∷◌, ◌++◌, codes, decimal, Option, Some, None, if◌then◌else◌}
use Rattle.std.specs.Duration.{as_nanos}
use Rattle.std.specs.Fmt.{take_chars}
use Rattle.std.specs.Str.{is_utf8}
use Rattle.std.specs.Str.Lossy.{utf8_lossy}
use Rattle.json.specs.Json.{Json, document, number, string, object, Members, no_members, member}
use Rattle.json.specs.Print.{print}
use Rattle.json.specs.Tree.{json_tokens}
use Rattle.proxy_audit.specs.Seconds.{seconds_text}
use Rattle.proxy_audit.specs.declared.event.Event.{Event}
use Rattle.proxy_audit.specs.declared.event.Event.TheVariants.{Starts, Begins, Ends, Answered, Denied, Unanswered, More}
use Rattle.proxy_audit.specs.declared.event.ClientLine.{ClientLine}
use Rattle.proxy_audit.specs.declared.event.ClientLine.TheVariants.{Request, Other, TooLong}
use Rattle.proxy_audit.specs.declared.event.TheConstants.{MOST_TEXT_CHARS}

-- the first MOST_TEXT_CHARS characters of bytes that need not be valid UTF-8
abbrev pub excerpt : List ℕ → List ℕ
excerpt bytes = take_chars MOST_TEXT_CHARS (utf8_lossy bytes)

abbrev pub or_excerpt : List ℕ → Option Json → Json
or_excerpt bytes None = string (excerpt bytes)
or_excerpt bytes (Some j) = j

-- the JSON value of the bytes, or a string of their first characters if they are not JSON
abbrev pub value_or_excerpt : List ℕ → Json
value_or_excerpt bytes = or_excerpt bytes (if is_utf8 bytes then document bytes else None)

abbrev pub line_value : ClientLine → Json
line_value (Request bytes) = value_or_excerpt bytes.now
line_value (Other bytes) = string (excerpt bytes.now)
line_value TooLong = string []

abbrev pub event_member : List ℕ → Members → Members
event_member name ms = member (codes "event") (string name) ms

abbrev pub who_member : List ℕ → Members → Members
who_member who ms = member (codes "who") (string who) ms

abbrev pub line_member : ClientLine → Members → Members
line_member line ms = member (codes "line") (line_value line) ms

-- the member `seconds`, for a duration in nanoseconds
abbrev pub seconds_member : ℕ → Members
seconds_member nanos = member (codes "seconds") (number (seconds_text nanos)) no_members

abbrev pub members_of_answer : List ℕ → ClientLine → List ℕ → ℕ → Members
members_of_answer who line answer nanos =
    who_member who (line_member line (member (codes "answer") (value_or_excerpt answer) (seconds_member nanos)))

abbrev pub members_of : Event → Members
members_of Starts = event_member (codes "starts") no_members
members_of (Begins who) = event_member (codes "begins") (who_member who.now no_members)
members_of (Ends who lasted) = event_member (codes "ends") (who_member who.now (seconds_member (as_nanos lasted)))
members_of (Answered who line answer waited) = event_member (codes "answered") (members_of_answer who.now line answer.now (as_nanos waited))
members_of (Denied who line answer waited) = event_member (codes "denied") (members_of_answer who.now line answer.now (as_nanos waited))
members_of (Unanswered who line waited) = event_member (codes "unanswered") (who_member who.now (line_member line (seconds_member (as_nanos waited))))
members_of (More who count) = event_member (codes "more") (who_member who.now (member (codes "count") (number (decimal count)) no_members))

-- the JSON object of an event that happened at a time
abbrev pub entry : List ℕ → Event → Json
entry time e = object (member (codes "time") (string time) (members_of e))

abbrev pub text_of : List ℕ → Event → List ℕ
text_of time e = print (json_tokens (entry time e))

abbrev pub line_of : List ℕ → Event → List ℕ
line_of time e = text_of time e ++ 10 ∷ []
