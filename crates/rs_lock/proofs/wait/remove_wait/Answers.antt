use Rattle.std.proofs.Common.{rules, not}
use Rattle.std.proofs.lemmas.Fn.{filter_same}
use Rattle.rs_lock.specs.Waits.{waits_for}
use Rattle.rs_lock.proofs.wait.remove_wait.Goals as goal

pub returns : goal.returns
returns c = filter_same _ (λ wait. not (waits_for c.args.who.now wait)) _ (λ x b f' k. (search rules, search rules)) _ _ c.retain.ensures.filtered
