use Rattle.std.proofs.Common.{◌≡◌, ◌++◌, take}
use Rattle.std.specs.Prelude.{flat_map}
use Rattle.rs_sched.specs.Encoding.{hex_byte}
use Rattle.rs_sched.proofs.print.put_hex_bytes.Given as goal

abbrev pub invariant-loop-byte : goal.invariant-loop-byte
invariant-loop-byte l = l.out ≡ l.fn.out ++ flat_map hex_byte (take l.byte-index l.bytes)
