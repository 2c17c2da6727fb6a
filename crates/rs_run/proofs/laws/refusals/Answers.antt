use Rattle.rs_run.proofs.ReadingOf.{source_is_played, refused_once, played_or_refused}
use Rattle.rs_run.proofs.laws.refusals.Goals as goal

pub returns-clause-played : goal.returns-clause-played
returns-clause-played c = source_is_played

pub returns-clause-once : goal.returns-clause-once
returns-clause-once c = refused_once

pub returns-clause-either : goal.returns-clause-either
returns-clause-either c = played_or_refused
