-- The report of a world of sites.
use Rattle.std.specs.Prelude.{ℕ, Option}
use Rattle.rs_course.specs.declared.report.Report.{Report}
use Rattle.rs_course.specs.declared.report.SiteView.{SiteView}
use Rattle.rs_course.specs.Report as generic
use Rattle.rs_site.specs.Course.{site_rules}
use Rattle.rs_site.specs.State.{SiteState}
use Rattle.rs_site.specs.World.{World, Place}

abbrev pub view_when : ℕ → Option SiteState → SiteView
view_when = generic.view_when site_rules

abbrev pub view_of : ℕ × Place → SiteView
view_of = generic.view_of site_rules

abbrev pub report_of : World → Report
report_of = generic.report_of site_rules
