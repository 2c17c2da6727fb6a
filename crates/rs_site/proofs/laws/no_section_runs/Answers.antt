use Rattle.rs_site.proofs.Lawful.{no_section_runs}
use Rattle.rs_site.proofs.laws.no_section_runs.Goals as goal

pub returns : goal.returns
returns c = no_section_runs
