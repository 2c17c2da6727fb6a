-- Arithmetic on integers of 64 bits, as on all integers.
use Rattle.std.specs.Prelude.{ℤ, ◌+ℤ◌, ◌-ℤ◌, ◌*ℤ◌}
use Rattle.rs_ast.specs.declared.change.Arith.{Arith}
use Rattle.rs_ast.specs.declared.change.Arith.TheVariants as ariths

abbrev pub computed : Arith → ℤ → ℤ → ℤ
computed ariths.Add x y = x +ℤ y
computed ariths.Sub x y = x -ℤ y
computed ariths.Mul x y = x *ℤ y
