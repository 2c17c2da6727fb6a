use Rattle.std.proofs.Common.{sym}
use Rattle.rs_codec.specs.Encoding.{IsCount}
use Rattle.rs_codec.specs.Reader.{count_at}
use Rattle.rs_codec.proofs.Readers.{count_read, ends_there}
use Rattle.rs_codec.proofs.fields.Fields.take_count.Goals as goal

pub returns-in_err-n-clause-end : goal.returns-in_err-n-clause-end
returns-in_err-n-clause-end c = rw (c.from_residual.ensures, sym c.self.view_is) (ends_there IsCount count_at count_read c.self.inside.left.now c.in_err-n.ensures.none)

pub returns-clause-read : goal.returns-clause-read
returns-clause-read c = rw (sym c.self.view_is) ((count_read c.self.inside.left.now c.in_ok-n.rest.now c.in_ok-n.n).0 c.in_ok-n.ensures.found)
