use Rattle.rs_session.proofs.Divided.{parts_are_text}
use Rattle.rs_session.proofs.part_laws.parts_are_text.Goals as goal

pub returns : goal.returns
returns c = parts_are_text
