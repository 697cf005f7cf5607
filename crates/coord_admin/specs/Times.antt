-- The timeouts of a client (docs/OPERATING.md lists them).
use Rattle.std.specs.Prelude.{◌≡◌, ℕ, ◌*◌}
use Rattle.std.specs.Duration.{as_nanos}
use Rattle.coord_admin.specs.declared.timeouts.Timeouts.{Timeouts}
use Rattle.coord_admin.specs.declared.timeouts.TheConstants.{ACCEPT_TRIES, DISCARD_READS}

abbrev pub seconds : ℕ → ℕ
seconds n = n * 1000000000

abbrev pub milliseconds : ℕ → ℕ
milliseconds n = n * 1000000

-- the usual timeouts: for a line, for a reply, between two lines, for a connection, after a close, and
-- between two attempts to accept
pub record IsUsual (p : Timeouts) : Type 0 where
  pub line : as_nanos p.line ≡ seconds 10
  pub reply : as_nanos p.reply ≡ seconds 10
  pub silence : as_nanos p.silence ≡ seconds 15
  pub connection : as_nanos p.connection ≡ seconds 600
  pub discard : as_nanos p.discard ≡ seconds 1
  pub accept_rest : as_nanos p.accept_rest ≡ milliseconds 100

-- the usual numbers of further attempts to accept, and of reads of 512 bytes after a close
pub record CountsAreUsual : Type 0 where
  pub tries : ACCEPT_TRIES ≡ 100
  pub reads : DISCARD_READS ≡ 128
