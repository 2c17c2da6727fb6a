use Rattle.rs_msg.proofs.Whole.{message_read}
use Rattle.rs_msg.specs.declared.message.Message.TheVariants as messages
use Rattle.rs_site.proofs.Lawful.{repeats_run_nothing}
use Rattle.rs_site.proofs.laws.repeats_run_nothing.Goals as goal

pub returns : goal.returns
returns c = λ site from bytes ask is low. let stays = repeats_run_nothing site from bytes ask ((message_read bytes (messages.Ask ask)).0 is) low in (stays.same, stays.none)
