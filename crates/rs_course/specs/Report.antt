-- The report of a world.
use Rattle.std.specs.Prelude.{ℕ, [], map, Option, Some, None}
use Rattle.std.specs.List.{enumerate_from}
use Rattle.rs_course.specs.declared.report.Report.{Report}
use Rattle.rs_course.specs.declared.report.SiteView.{SiteView}
use Rattle.rs_course.specs.Rules.{Rules}
use Rattle.rs_course.specs.World.{World, Place}

module _ {Site : Type 0} (rules : Rules Site) where
  -- a site that is up shows its epoch and its tables, and one that is down shows none
  abbrev pub view_when : ℕ → Option Site → SiteView
  view_when number None = record { site = number; up = None; tables = [] }
  view_when number (Some site) = record { site = number; up = Some (rules.epoch site); tables = rules.tables number site }

  abbrev pub view_of : ℕ × Place Site → SiteView
  view_of (number, place) = view_when number place.up

  abbrev pub report_of : World Site → Report
  report_of world = record {
    replies = world.replies;
    history = world.history;
    runs = world.runs;
    sites = map view_of (enumerate_from 1 world.sites);
  }
