-- One step of a site: its plan, by the site's state and one input alone.
use Rattle.std.specs.Prelude.{ℕ, nat_lt, List, length, Option, Some, None}
use Rattle.rs_base.specs.declared.peer.Peer.{Peer}
use Rattle.rs_msg.specs.declared.message.Message.{Message}
use Rattle.rs_msg.specs.declared.message.Message.TheVariants as messages
use Rattle.rs_msg.specs.Reader.{message_of}
use Rattle.rs_course.specs.declared.input.Input.{Input}
use Rattle.rs_course.specs.declared.input.Input.TheVariants as inputs
use Rattle.rs_course.specs.declared.outs.Outs.{Outs}
use Rattle.rs_site.specs.Asking.{on_ask}
use Rattle.rs_site.specs.Planned.{Planned, idle, when}
use Rattle.rs_site.specs.State.{SiteState}

-- the largest datagram, in bytes
abbrev pub most_bytes : ℕ
most_bytes = 32768

abbrev pub on_message : SiteState → Peer → Message → Planned
on_message site from (messages.Ask ask) = on_ask site from ask
on_message site from (messages.Reply part) = idle site

abbrev pub on_read : SiteState → Peer → Option Message → Planned
on_read site from None = idle site
on_read site from (Some message) = on_message site from message

abbrev pub on_datagram : SiteState → Peer → List ℕ → Planned
on_datagram site from bytes = when (nat_lt most_bytes (length bytes)) (idle site) (on_read site from (message_of bytes))

unfoldable pub planned_step : SiteState → Input → Planned
planned_step site (inputs.Datagram from bytes) = on_datagram site from bytes
planned_step site inputs.Tick = idle site

-- what a step without a log does: the new state, and the output
abbrev pub site_step : SiteState → Input → SiteState × Outs
site_step site input = ((planned_step site input).after, (planned_step site input).outs)
