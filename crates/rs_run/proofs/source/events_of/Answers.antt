use Rattle.rs_run.proofs.ReadingOf.{found_source, refused_source}
use Rattle.rs_run.proofs.source.events_of.Goals as goal

pub returns-clause-found : goal.returns-clause-found
returns-clause-found c = found_source c.args.bytes.now c.read_source.result c.read_source.ensures

pub returns-clause-refused : goal.returns-clause-refused
returns-clause-refused c = refused_source c.args.bytes.now c.read_source.result c.read_source.ensures
