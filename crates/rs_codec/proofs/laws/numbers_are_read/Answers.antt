use Rattle.rs_codec.proofs.Readers.{u32_read, u64_read}
use Rattle.rs_codec.proofs.laws.numbers_are_read.Goals as goal

pub returns-clause-u32 : goal.returns-clause-u32
returns-clause-u32 c = u32_read

pub returns-clause-u64 : goal.returns-clause-u64
returns-clause-u64 c = u64_read
