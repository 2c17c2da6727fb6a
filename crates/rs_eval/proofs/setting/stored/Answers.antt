use Rattle.std.proofs.Common.{FitsSigned, w64, rules}
use Rattle.rs_eval.proofs.IntegerLaws.{test_from_fits}
use Rattle.rs_eval.proofs.setting.stored.Goals as goal

pub returns-in-Int-clause-stored : goal.returns-in-Int-clause-stored
returns-in-Int-clause-stored c =
    let fits : FitsSigned w64 c.in-Int.integer = search rules in
    rw c.in-Int.is (test_from_fits c.in-Int.integer fits)
