use Rattle.std.proofs.Common.{sym}
use Rattle.rs_codec.specs.Encoding.{IsText}
use Rattle.rs_codec.specs.Reader.{text_at}
use Rattle.rs_codec.proofs.Readers.{text_read, ends_there}
use Rattle.rs_codec.proofs.Encodings.{none_no_count, none_short, takes_text}
use Rattle.rs_codec.proofs.fields.Fields.take_text.Goals as goal

pub returns-then-rest-len-clause-none : goal.returns-then-rest-len-clause-none
returns-then-rest-len-clause-none c =
    rw (sym c.self.view_is) (none_short c.self.inside.left.now c.in_ok-len.rest.now c.in_ok-len.len c.in_ok-len.ensures.found c.if-rest-len.true)

pub returns-clause-found : goal.returns-clause-found
returns-clause-found c =
    rw (sym c.self.view_is) (takes_text c.self.inside.left.now c.in_ok-len.rest.now c.split_at.result.0.now c.split_at.result.1.now c.in_ok-len.len c.in_ok-len.ensures.found c.if-rest-len.false c.split_at.ensures.front c.split_at.ensures.back)

pub returns-in_err-len-clause-end : goal.returns-in_err-len-clause-end
returns-in_err-len-clause-end c =
    rw (c.from_residual.ensures, sym c.self.view_is) (ends_there IsText text_at text_read c.self.inside.left.now (none_no_count c.self.inside.left.now c.in_err-len.ensures.none))

pub returns-then-rest-len-clause-end : goal.returns-then-rest-len-clause-end
returns-then-rest-len-clause-end c =
    rw (sym c.self.view_is) (ends_there IsText text_at text_read c.self.inside.left.now (none_short c.self.inside.left.now c.in_ok-len.rest.now c.in_ok-len.len c.in_ok-len.ensures.found c.if-rest-len.true))

pub returns-clause-read : goal.returns-clause-read
returns-clause-read c =
    rw (sym c.self.view_is) ((text_read c.self.inside.left.now c.split_at.result.1.now c.split_at.result.0.now).0
    (takes_text c.self.inside.left.now c.in_ok-len.rest.now c.split_at.result.0.now c.split_at.result.1.now c.in_ok-len.len c.in_ok-len.ensures.found c.if-rest-len.false c.split_at.ensures.front c.split_at.ensures.back))
