-- The text of the metrics: the counts and times of the answers, and the metrics that have a single number each.
use Rattle.std.specs.Prelude.{ℕ, Bool, true, false, List, [], ◌++◌, codes, decimal, Option, Some, None}
use Rattle.proxy_audit.specs.Tallies.{answers_text, times_text}
use Rattle.proxy_audit.specs.declared.tally.Tally.{Tally}
use Rattle.proxy_loop.specs.declared.gateway.Counts.{Counts}

unfoldable pub counter_lines : List ℕ → List ℕ → ℕ → List ℕ
counter_lines name about count =
    codes "# HELP resetd_front_" ++ (name ++ (codes "_total " ++ (about ++ codes "\n")))
    ++ (codes "# TYPE resetd_front_" ++ (name ++ codes "_total counter\n"))
    ++ (codes "resetd_front_" ++ (name ++ (codes "_total " ++ (decimal count ++ codes "\n"))))

unfoldable pub gauge_lines : List ℕ → List ℕ → ℕ → List ℕ
gauge_lines name about count =
    codes "# HELP resetd_front_" ++ (name ++ (codes " " ++ (about ++ codes "\n")))
    ++ (codes "# TYPE resetd_front_" ++ (name ++ codes " gauge\n"))
    ++ (codes "resetd_front_" ++ (name ++ (codes " " ++ (decimal count ++ codes "\n"))))

abbrev pub answering_lines : Option Bool → List ℕ
answering_lines None = []
answering_lines (Some true) = gauge_lines (codes "server_answers") (codes "1 if the server answers, 0 if not") 1
answering_lines (Some false) = gauge_lines (codes "server_answers") (codes "1 if the server answers, 0 if not") 0

abbrev pub counters_text : Counts → List ℕ
counters_text c =
    counter_lines (codes "connections") (codes "connections since the start") c.connections
    ++ (counter_lines (codes "flights") (codes "flights") c.flights
    ++ counter_lines (codes "resends") (codes "lines sent again to the server") c.resends)

abbrev pub gauges_text : Counts → List ℕ
gauges_text c =
    gauge_lines (codes "open_connections") (codes "open connections") c.open
    ++ (gauge_lines (codes "watchers") (codes "connections that watch") c.watchers ++ answering_lines c.is_answering)

abbrev pub totals_text : Counts → ℕ → List ℕ
totals_text c lost = counters_text c ++ (counter_lines (codes "audit_lost") (codes "audit lines that could not be written") lost ++ gauges_text c)

abbrev pub metrics_text : Tally → Counts → ℕ → List ℕ
metrics_text tally counts lost = (answers_text tally.answers.entries ++ times_text tally.times.entries) ++ totals_text counts lost
