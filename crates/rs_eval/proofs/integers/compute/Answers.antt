use Rattle.std.proofs.Common.{FitsSigned, w64}
use Rattle.std.proofs.lemmas.Int.{to_z-of_z}
use Rattle.rs_eval.proofs.IntegerLaws.{checked}
use Rattle.rs_eval.proofs.integers.compute.Goals as goal

pub returns-in-Add : goal.returns-in-Add
returns-in-Add c =
    let x : FitsSigned w64 c.args.x = c.ranges.x in
    let y : FitsSigned w64 c.args.y = c.ranges.y in
    rw c.in-Add.is (checked _ _ (simp to_z-of_z at c.checked_add.ensures))

pub returns-in-Sub : goal.returns-in-Sub
returns-in-Sub c =
    let x : FitsSigned w64 c.args.x = c.ranges.x in
    let y : FitsSigned w64 c.args.y = c.ranges.y in
    rw c.in-Sub.is (checked _ _ (simp to_z-of_z at c.checked_sub.ensures))

pub returns-in-Mul : goal.returns-in-Mul
returns-in-Mul c =
    let x : FitsSigned w64 c.args.x = c.ranges.x in
    let y : FitsSigned w64 c.args.y = c.ranges.y in
    rw c.in-Mul.is (checked _ _ (simp to_z-of_z at c.checked_mul.ensures))
