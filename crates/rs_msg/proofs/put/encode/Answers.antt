use Rattle.std.proofs.lemmas.Result.{on_ok_weaker}
use Rattle.rs_msg.proofs.Whole.{written_message}
use Rattle.rs_msg.proofs.put.encode.Goals as goal

pub returns-clause-encoded : goal.returns-clause-encoded
returns-clause-encoded c = λ room. on_ok_weaker c.extend.result (λ e. written_message c.args.message.now (c.in_ok-put_message.ensures.within room)) c.extend.ensures.ok
