use Rattle.std.proofs.lemmas.Result.{IfOk-weaker}
use Rattle.rs_mean.proofs.Meanings.{means}
use Rattle.rs_mean.proofs.database.Database.effect_of.Goals as goal

pub returns-clause-meaning : goal.returns-clause-meaning
returns-clause-meaning c = IfOk-weaker c.effect.result _ _ (λ effect is. means c.args.self.now c.args.execution.now effect is) c.effect.ensures
