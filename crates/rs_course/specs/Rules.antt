-- What a course asks of the sites of its world, whatever a site is.
use Rattle.std.specs.Prelude.{ℕ, List, Option}
use Rattle.rs_course.specs.declared.input.Input.{Input}
use Rattle.rs_course.specs.declared.outs.Outs.{Outs}
use Rattle.rs_course.specs.declared.report.TableView.{TableView}

-- A site as it is opened, by its number and the number of sites; its step over an input: the site after it, unless it is down
-- then, and the output; and what it shows: its epoch, and the tables that it stores, by its number.
pub record Rules (Site : Type 0) : Type 0 where
  pub opened : ℕ → ℕ → Site
  pub step : Site → Input → Option Site × Outs
  pub epoch : Site → ℕ
  pub tables : ℕ → Site → List TableView
