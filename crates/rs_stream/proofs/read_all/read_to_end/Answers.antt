use Rattle.std.proofs.Common.{◌≤◌, ◌++◌, length, take, arith, length-append}
use Rattle.std.proofs.lemmas.List.{length-take}
use Rattle.std.proofs.KnownBytes.{Consumes-trans}
use Rattle.rs_stream.proofs.read_all.read_to_end.Goals as goal

pub returns-in_err-extend-clause-reads : goal.returns-in_err-extend-clause-reads
returns-in_err-extend-clause-reads g c =
    let piece = take c.in_ok-n.n c.read.new.into in
    let within = c.in_ok-n.ensures.within in
    let long : length (c.loop-piece.bytes ++ piece) ≤ c.args.limit = omega (arith, within, length-append c.loop-piece.bytes piece, length-take c.in_ok-n.n c.read.new.into, simp length-take at within) in
    (c.loop-piece.bytes ++ piece, Consumes-trans _ _ _ _ _ c.loop-piece.invariant.consumed c.in_ok-n.ensures.bytes.0, long)
