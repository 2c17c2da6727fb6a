-- What is asked is read as it was asked.
use Rattle.std.proofs.Common.{◌≡◌, Some}
use Rattle.rs_msg.specs.declared.message.Ask.{Ask}
use Rattle.rs_msg.specs.declared.message.Message.TheVariants as messages
use Rattle.rs_msg.specs.Limits.{IsAskWithin}
use Rattle.rs_msg.specs.Reader.{message_of}
use Rattle.rs_msg.specs.Written.{message_bytes}
use Rattle.rs_msg.proofs.Whole.{written_read}

pub ask_is_read : (ask : Ask) → IsAskWithin ask → message_of (message_bytes (messages.Ask ask)) ≡ Some (messages.Ask ask)
ask_is_read ask within = written_read (messages.Ask ask) within
