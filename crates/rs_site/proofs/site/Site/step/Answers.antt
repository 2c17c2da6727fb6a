use Rattle.rs_msg.proofs.Whole.{message_read}
use Rattle.rs_site.proofs.NoOutput.{step_has_no_output}
use Rattle.rs_site.proofs.site.Site.step.Goals as goal

pub returns-clause-dropped : goal.returns-clause-dropped
returns-clause-dropped c = λ from bytes at dropped.
    step_has_no_output message_read c.args.self.now c.on_input.new.self from bytes c.args.input.now c.on_input.result at dropped c.on_input.ensures.ok
