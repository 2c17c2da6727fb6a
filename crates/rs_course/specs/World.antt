-- The state of a world: its sites, the datagrams that were sent, and what is reported so far.
use Rattle.std.specs.Prelude.{ℕ, ◌-◌, List, [], Option}
use Rattle.std.specs.List.{slice_get}
use Rattle.rs_base.specs.Reading.{◌>>=◌}
use Rattle.rs_course.specs.declared.datagram.Datagram.{Datagram}
use Rattle.rs_course.specs.declared.outs.Decided.{Decided}
use Rattle.rs_course.specs.declared.outs.RunOf.{RunOf}
use Rattle.rs_course.specs.declared.report.ReportedReply.{ReportedReply}

-- the place of a site, and the site's state while it is up
pub record Place (Site : Type 0) : Type 0 where
  pub up : Option Site

-- The places of sites 1 and up; each datagram ever sent, the first with number 1; the numbers of those that were delivered
-- or lost, rising; and what is reported so far: the replies, the history, and the runs of stored sections.
pub record World (Site : Type 0) : Type 0 where
  pub sites : List (Place Site)
  pub sent : List Datagram
  pub gone : List ℕ
  pub replies : List ReportedReply
  pub history : List Decided
  pub runs : List RunOf

-- before the first event there is no site, and nothing was sent
abbrev pub start : {Site : Type 0} → World Site
start = record { sites = []; sent = []; gone = []; replies = []; history = []; runs = [] }

-- the state of the site of this number, if it is up
abbrev pub site_at : {Site : Type 0} → World Site → ℕ → Option Site
site_at world number = slice_get world.sites (number - 1) >>= λ place. place.up
