-- The course of a world of sites, by their rules.
use Rattle.std.specs.Prelude.{ℕ, true, List, Option}
use Rattle.rs_sched.specs.declared.event.Event.{Event}
use Rattle.rs_course.specs.declared.input.Input.{Input}
use Rattle.rs_course.specs.declared.outs.Decided.{Decided}
use Rattle.rs_course.specs.Course.{Action}
use Rattle.rs_course.specs.Course as generic
use Rattle.rs_course.specs.Rules.{Rules}
use Rattle.rs_site.specs.Planned.{done}
use Rattle.rs_site.specs.State.{SiteState, opened}
use Rattle.rs_site.specs.Step.{planned_step}
use Rattle.rs_site.specs.Tables.{tables_at}
use Rattle.rs_site.specs.World.{World}

-- A site takes an input by what comes of its planned step. The logs of sites that are up have all items that are appended, so
-- far.
abbrev pub site_rules : Rules SiteState
site_rules = record {
  opened = opened;
  step = λ site input. done (planned_step site input) true;
  epoch = λ site. site.who.epoch;
  tables = λ number site. tables_at number site.held.database;
}

abbrev pub stepped : World → ℕ → Input → Option SiteState → World
stepped = generic.stepped site_rules

abbrev pub stepped_by : World → Option (ℕ × Input) → World
stepped_by = generic.stepped_by site_rules

abbrev pub decided_in : Input → Option SiteState → List Decided
decided_in = generic.decided_in site_rules

abbrev pub decided_by : World → Option (ℕ × Input) → List Decided
decided_by = generic.decided_by site_rules

abbrev pub moved : World → Action → World
moved = generic.moved site_rules

abbrev pub act : World → Action → World
act = generic.act site_rules

abbrev pub world_step : World → Event → World
world_step = generic.world_step site_rules

abbrev pub course : List Event → World
course = generic.course site_rules
