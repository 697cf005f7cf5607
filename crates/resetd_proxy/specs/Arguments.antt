-- The task that the program's arguments request.
use Rattle.std.specs.Prelude.{◌≡◌, ◌*◌, ◌^◌, ◌&&◌, ℕ, ◌==◌, bytes_eq, nat_le, nat_lt, List, [], ◌∷◌, Bool, true, false, ⊤, length, map, codes, Option, Some, None, option_and_then, option_map, unwrap_or, if◌then◌else◌, Result, Ok, Err, pos, string_bytes}
use Rattle.std.specs.List.{after_first, before_first, flat_map, list_all, list_any, slice_split}
use Rattle.std.specs.Str.{all_ascii_digits}
use Rattle.std.specs.Str.Parse.{digits_value, without_leading_plus}
use Rattle.std.specs.Float.Parse.{parse_float}
use Rattle.std.specs.Duration.{as_nanos, nanos_of_secs}
use lib.Ieee.{Float, binary64, fin, le, lt}
use Rattle.clap.specs.Words.{App, Kinds, Row, Rule, Text, all_of, fault_of, first_of, new_app, new_rule, subcommand_of, with_rule, with_subcommand}
use Rattle.clap.specs.Simple.{on_top}
use Rattle.clap.specs.declared.builder.action.ArgAction.TheVariants.{Append, Set}
use Rattle.proxy_loop.specs.declared.settings.Settings.{Settings}
use Rattle.proxy_policy.specs.Names.{is_socket_name}
use Rattle.resetd_proxy.specs.declared.arguments.Arguments.{Arguments}
use Rattle.resetd_proxy.specs.declared.arguments.SocketArguments.{SocketArguments}
use Rattle.resetd_proxy.specs.declared.arguments.Task.{Task}
use Rattle.resetd_proxy.specs.declared.arguments.Task.TheVariants as task
use Rattle.resetd_proxy.specs.declared.values.TheConstants.{MOST_SERVERS}
use Rattle.resetd_proxy.specs.declared.values.ArgumentsFault.{ArgumentsFault}
use Rattle.resetd_proxy.specs.declared.values.ArgumentsFault.TheVariants.{OutOfMemory, Usage}

-- A call returns what the arguments request. The call returns `Usage` only if the arguments request nothing.
abbrev pub Requested : {A B : Type 0} → (A → B) → Option B → Result A ArgumentsFault → Type 0
Requested of asked (Ok value) = asked ≡ Some (of value)
Requested of asked (Err Usage) = asked ≡ None
Requested of asked (Err OutOfMemory) = ⊤

-- the value, if it passes
abbrev pub if_passes : {A : Type 0} → Bool → A → Option A
if_passes passes value = if passes then Some value else None

-- ---- numbers

-- this number of seconds in nanoseconds, if the number is from 0 to below 2^64 and the result is above 0
abbrev pub nanos_of_float : Float → Option ℕ
nanos_of_float x =
    if_passes (le (fin false 0 (pos 0)) x && (lt x (fin false 1 (pos 64)) && nat_lt 0 (nanos_of_secs x))) (nanos_of_secs x)

-- the nanoseconds that a text gives as a number of seconds, which may have a fraction
abbrev pub seconds_in : Text → Option ℕ
seconds_in text = option_and_then nanos_of_float (parse_float binary64 text)

abbrev pub seconds_or : ℕ → Option Text → Option ℕ
seconds_or usual None = Some (usual * 1_000_000_000)
seconds_or usual (Some text) = seconds_in text

-- the text is at least one decimal digit, with a value below 2^64
abbrev pub is_count : Text → Bool
is_count digits = all_ascii_digits digits && (nat_lt 0 (length digits) && nat_lt (digits_value 10 digits) (2 ^ 64))

-- the number that a text gives in decimal digits, maybe after a plus sign
abbrev pub count_in : Text → Option ℕ
count_in text = if_passes (is_count (without_leading_plus text)) (digits_value 10 (without_leading_plus text))

abbrev pub count_or : ℕ → Option Text → Option ℕ
count_or usual None = Some usual
count_or usual (Some text) = count_in text

-- ---- sockets and servers

abbrev pub is_equals : ℕ → Bool
is_equals byte = byte == 61

-- the text is NAME=PATH, where NAME is a valid name of a socket
abbrev pub is_named : Text → Bool
is_named text = list_any is_equals text && is_socket_name (before_first is_equals text)

abbrev pub named_by : Text → Text × Text
named_by text = (before_first is_equals text, after_first is_equals text)

abbrev pub named_sockets : List Text → Option (List (Text × Text))
named_sockets texts = if_passes (list_all is_named texts) (map named_by texts)

-- the parts of a text between its commas and colons
abbrev pub separated : Text → List Text
separated text = flat_map (slice_split (λ byte. byte == 58)) (slice_split (λ byte. byte == 44) text)

abbrev pub passed_names : Text → Option (List Text)
passed_names text = if_passes (list_all is_socket_name (separated text)) (separated text)

abbrev pub passed_in : Option Text → Option (Option (List Text))
passed_in None = Some None
passed_in (Some text) = option_map (λ names. Some names) (passed_names text)

abbrev pub few_servers : List Text → Option (List Text)
few_servers texts = if_passes (nat_le (length texts) MOST_SERVERS) texts

-- ---- `serve`

pub record AskedSettings : Type 0 where
  -- the first three are in nanoseconds
  pub answer_timeout : ℕ
  pub stuck : ℕ
  pub server_silent : ℕ
  pub connections : ℕ

abbrev pub settings_of : Settings → AskedSettings
settings_of s = record {
  answer_timeout = as_nanos s.answer_timeout;
  stuck = as_nanos s.stuck;
  server_silent = as_nanos s.server_silent;
  connections = s.connections;
}

-- the settings that the arguments give; without an argument, 30, 10 and 5 seconds, and 1,000 connections
abbrev pub settings_in : List Row → Option AskedSettings
settings_in rows =
    option_and_then (λ timeout. option_and_then (λ stuck. option_and_then (λ silent. option_map (λ most. record {
      answer_timeout = timeout;
      stuck = stuck;
      server_silent = silent;
      connections = most;
    })
    (count_or 1000 (first_of (codes "connections") rows)))
    (seconds_or 5 (first_of (codes "server-silent") rows)))
    (seconds_or 10 (first_of (codes "stuck") rows)))
    (seconds_or 30 (first_of (codes "patience") rows))

pub record AskedSockets : Type 0 where
  pub named : List (Text × Text)
  pub certificates : Option Text
  pub passed : Option (List Text)

abbrev pub sockets_of : SocketArguments → AskedSockets
sockets_of s = record {
  named = map (λ each. (string_bytes each.0, string_bytes each.1)) s.named.items;
  certificates = option_map string_bytes s.certificates;
  passed = option_map (λ names. map string_bytes names.items) s.passed;
}

abbrev pub sockets_in : List Row → Option AskedSockets
sockets_in rows = option_and_then (λ named. option_map (λ passed. record {
  named = named;
  certificates = first_of (codes "certificates") rows;
  passed = passed;
})
    (passed_in (first_of (codes "listen-fds") rows)))
    (named_sockets (unwrap_or (all_of (codes "listen") rows) []))

pub record AskedServe : Type 0 where
  pub servers : List Text
  pub sockets : AskedSockets
  pub settings : AskedSettings
  pub signals : Option Text
  pub policy : Text
  pub audit : Option Text
  pub metrics : Option Text

abbrev pub serve_of : Arguments → AskedServe
serve_of a = record {
  servers = map string_bytes a.servers.items;
  sockets = sockets_of a.sockets;
  settings = settings_of a.settings;
  signals = option_map string_bytes a.signals;
  policy = string_bytes a.policy;
  audit = option_map string_bytes a.audit;
  metrics = option_map string_bytes a.metrics;
}

abbrev pub serve_in : List Row → Option AskedServe
serve_in rows =
    option_and_then (λ settings. option_and_then (λ servers. option_and_then (λ sockets. option_map (λ policy. record {
      servers = servers;
      sockets = sockets;
      settings = settings;
      signals = first_of (codes "signals") rows;
      policy = policy;
      audit = first_of (codes "audit") rows;
      metrics = first_of (codes "metrics") rows;
    })
    (first_of (codes "policy") rows))
    (sockets_in rows))
    (option_and_then few_servers (all_of (codes "server") rows)))
    (settings_in rows)

-- ---- the task

pub data AskedTask : Type 0 where
  serve : AskedServe → AskedTask
  check : Text → AskedTask

abbrev pub asked_of : Task → AskedTask
asked_of (task.Serve arguments) = serve (serve_of arguments)
asked_of (task.Check file) = check (string_bytes file)

-- what the named command requests
abbrev pub asked_of_name : Text → List Row → Option AskedTask
asked_of_name name rows =
    if bytes_eq name (codes "check") then option_map check (first_of (codes "file") rows)
    else option_map serve (serve_in rows)

-- ---- the grammar given to `clap`

-- an option with a value
abbrev pub option_rule : Text → Rule
option_rule name = record (new_rule name) { long = Some name; action = Some Set }

abbrev pub repeated_rule : Text → Rule
repeated_rule name = record (option_rule name) { action = Some Append }

abbrev pub with_options : App → List Rule → App
with_options app [] = app
with_options app (rule ∷ rules) = with_options (with_rule app rule) rules

abbrev pub serve_options : List Rule
serve_options =
    record (repeated_rule (codes "server")) { required = true }
    ∷ repeated_rule (codes "listen")
    ∷ option_rule (codes "listen-fds")
    ∷ record (option_rule (codes "policy")) { required = true }
    ∷ option_rule (codes "certificates")
    ∷ option_rule (codes "signals")
    ∷ option_rule (codes "audit")
    ∷ option_rule (codes "metrics")
    ∷ option_rule (codes "patience")
    ∷ option_rule (codes "stuck")
    ∷ option_rule (codes "server-silent")
    ∷ option_rule (codes "connections")
    ∷ []

abbrev pub file_rule : Rule
file_rule = record (new_rule (codes "file")) { action = Some Set; required = true }

abbrev pub resetd_proxy : App
resetd_proxy =
    with_subcommand
    (with_subcommand (on_top (λ s. record s { subcommand_required = true }) (new_app (codes "resetd-proxy")))
    (with_options (new_app (codes "serve")) serve_options).top)
    (with_rule (new_app (codes "check")) file_rule).top

-- what the arguments request, if `clap` finds no fault in them
abbrev pub without_fault : Kinds → Option AskedTask → Option AskedTask
without_fault [] asked = asked
without_fault (kind ∷ kinds) asked = None

abbrev pub asked_in : Option (Text × List Row) → Option AskedTask
asked_in found = option_and_then (λ each. asked_of_name each.0 each.1) found

-- what the arguments request; the first argument is the program's name
abbrev pub task_of : List Text → Option AskedTask
task_of arguments = without_fault (fault_of resetd_proxy arguments) (asked_in (subcommand_of resetd_proxy arguments))
