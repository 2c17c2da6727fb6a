use Rattle.std.proofs.Common.{◌≡◌, ◌++◌, ◌<◌, length, sym, rules, arith}
use Rattle.std.specs.Int.{w32, to_be_bytes}
use Rattle.std.proofs.lemmas.Grind.{common_steps}
use Rattle.rs_codec.proofs.Readers.{short_u32, found_u32}
use Rattle.rs_codec.proofs.fields.Fields.take_u32.Goals as goal

pub returns-in_err-prefix-clause-end : goal.returns-in_err-prefix-clause-end
returns-in_err-prefix-clause-end c =
    let short : length c.self.inside.left.now < 4 = first_of (search rules, grind (arith, common_steps)) in
    rw (c.from_residual.ensures, sym c.self.view_is) (short_u32 c.self.inside.left.now short)

pub returns-clause-read : goal.returns-clause-read
returns-clause-read c =
    let parts : c.self.inside.left.now ≡ to_be_bytes w32 c.u32_of.result ++ c.in_ok-prefix.rest.now = first_of (search rules, grind (arith, common_steps)) in
    rw (sym c.self.view_is) (found_u32 c.self.inside.left.now c.in_ok-prefix.rest.now c.u32_of.result c.u32_of.type_inv parts)
