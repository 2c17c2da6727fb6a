use Rattle.rs_site.proofs.Lawful.{numbers_rise}
use Rattle.rs_site.proofs.laws.numbers_rise.Goals as goal

pub returns : goal.returns
returns c = numbers_rise
