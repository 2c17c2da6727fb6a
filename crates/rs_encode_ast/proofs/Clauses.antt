-- That the forms of comparisons and clauses are forms.
use Rattle.rs_ast.specs.declared.clause.Op.{Op}
use Rattle.rs_ast.specs.declared.clause.Op.TheVariants as ops
use Rattle.rs_ast.specs.declared.clause.Operand.{Operand}
use Rattle.rs_ast.specs.declared.clause.Operand.TheVariants as operands
use Rattle.rs_ast.specs.declared.column.ColRef.{ColRef}
use Rattle.rs_base.specs.declared.value.Value.{Value}
use Rattle.rs_encode.proofs.Cases.{enum_is, first_is, last_is}
use Rattle.rs_encode.proofs.Forms.{bare_is, both_is, via_is}
use Rattle.rs_encode.proofs.Lists.{list_is, option_is}
use Rattle.rs_encode.proofs.Numbers.{ident_is}
use Rattle.rs_encode.proofs.Values.{value_is}
use Rattle.rs_encode.specs.Form.{IsForm}
use Rattle.rs_encode_ast.specs.Clauses.{clause, clause_of, clause_parts, cmp, cmp_of, cmp_parts, col_ref, col_ref_of, col_ref_parts, op, op_of, op_parts, operand, operand_of, operand_parts}
use Rattle.std.proofs.Common.{List, arith, inl, inr, refl, ℕ, ◌≡◌, ◌⊎◌}

op_made : (x : Op) → op_of (op_parts x) ≡ x
op_made ops.Eq = refl
op_made ops.Ne = refl
op_made ops.Lt = refl
op_made ops.Le = refl
op_made ops.Gt = refl
op_made ops.Ge = refl

op_kept : (f : (Unit {0}) ⊎ ((Unit {0}) ⊎ ((Unit {0}) ⊎ ((Unit {0}) ⊎ ((Unit {0}) ⊎ (Unit {0})))))) → op_parts (op_of f) ≡ f
op_kept (inl f) = refl
op_kept (inr (inl f)) = refl
op_kept (inr (inr (inl f))) = refl
op_kept (inr (inr (inr (inl f)))) = refl
op_kept (inr (inr (inr (inr (inl f))))) = refl
op_kept (inr (inr (inr (inr (inr f))))) = refl

pub op_is : IsForm op
unfolding op
op_is = enum_is op_of op_parts op_made op_kept
    (first_is 1 bare_is (omega arith)
    (first_is 2 bare_is (omega arith)
    (first_is 3 bare_is (omega arith)
    (first_is 4 bare_is (omega arith)
    (first_is 5 bare_is (omega arith)
    (last_is 6 bare_is (omega arith)))))))

pub col_ref_is : IsForm col_ref
unfolding col_ref
col_ref_is = via_is col_ref_of col_ref_parts (both_is (option_is ident_is) ident_is) (λ x. refl) (λ f. refl)

operand_made : (x : Operand) → operand_of (operand_parts x) ≡ x
operand_made (operands.Col field) = refl
operand_made (operands.Lit field) = refl
operand_made (operands.Param field) = refl

operand_kept : (f : ColRef ⊎ (Value ⊎ (List ℕ))) → operand_parts (operand_of f) ≡ f
operand_kept (inl f) = refl
operand_kept (inr (inl f)) = refl
operand_kept (inr (inr f)) = refl

pub operand_is : IsForm operand
unfolding operand
operand_is = enum_is operand_of operand_parts operand_made operand_kept
    (first_is 1 col_ref_is (omega arith)
    (first_is 2 value_is (omega arith)
    (last_is 3 ident_is (omega arith))))

pub cmp_is : IsForm cmp
unfolding cmp
cmp_is = via_is cmp_of cmp_parts (both_is col_ref_is (both_is op_is operand_is)) (λ x. refl) (λ f. refl)

pub clause_is : IsForm clause
unfolding clause
clause_is = via_is clause_of clause_parts (list_is cmp_is) (λ x. refl) (λ f. refl)
