use Rattle.std.proofs.Common.{rules, not}
use Rattle.std.proofs.lemmas.Fn.{filter_same}
use Rattle.rs_lock.specs.Claims.{is_by}
use Rattle.rs_lock.proofs.claim.remove_claims.Goals as goal

pub returns-clause-items : goal.returns-clause-items
returns-clause-items c = filter_same _ (λ claim. not (is_by c.args.who.now claim)) _ (λ x b f' k. (search rules, search rules)) _ _ c.retain.ensures.filtered
