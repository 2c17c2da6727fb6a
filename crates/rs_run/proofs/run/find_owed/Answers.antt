use Rattle.std.proofs.Common.{rules}
use Rattle.std.proofs.lemmas.Result.{IfOk-weaker}
use Rattle.rs_run.specs.declared.run.Owed.{Owed}
use Rattle.rs_run.specs.Run.{FoundIn, Finds}
use Rattle.rs_run.proofs.RunLaws.{finds_read}
use Rattle.rs_run.proofs.run.find_owed.Goals as goal

pub returns-clause-found : goal.returns-clause-found
returns-clause-found g c =
    let left = g.S.Source.left c.args.source.now in
    let after = g.S.Source.left c.read_to_end.new.source in
    let bytes = c.in_ok-bytes.bytes in
    let read = c.in_ok-bytes.ensures in
    IfOk-weaker c.find_in.result (λ (owed : Owed). FoundIn bytes owed.finding owed.text) (λ (owed : Owed). Finds c.args.words.now left after owed.finding owed.text)
    (λ owed found. finds_read c.args.words.now left after bytes owed.finding owed.text (c.is_replay.ensures.0 (search rules)) read.consumed read.within read.at_end found)
    c.find_in.ensures.found
