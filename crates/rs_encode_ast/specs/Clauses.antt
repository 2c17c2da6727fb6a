-- The forms of comparisons and clauses.
use Rattle.rs_ast.specs.declared.clause.Clause.{Clause}
use Rattle.rs_ast.specs.declared.clause.Cmp.{Cmp}
use Rattle.rs_ast.specs.declared.clause.Op.{Op}
use Rattle.rs_ast.specs.declared.clause.Op.TheVariants as ops
use Rattle.rs_ast.specs.declared.clause.Operand.{Operand}
use Rattle.rs_ast.specs.declared.clause.Operand.TheVariants as operands
use Rattle.rs_ast.specs.declared.column.ColRef.{ColRef}
use Rattle.rs_base.specs.declared.value.Value.{Value}
use Rattle.rs_encode.specs.Form.{Form, bare, both, list, option, via}
use Rattle.rs_encode.specs.Values.{ident, value}
use Rattle.rs_encode.specs.Variants.{enum, last, variant}
use Rattle.std.specs.Prelude.{List, Option, ℕ, ◌⊎◌}
use mathlib.Core.Logic.{inl, inr}

abbrev pub op_of : (Unit {0}) ⊎ ((Unit {0}) ⊎ ((Unit {0}) ⊎ ((Unit {0}) ⊎ ((Unit {0}) ⊎ (Unit {0}))))) → Op
op_of (inl f) = ops.Eq
op_of (inr (inl f)) = ops.Ne
op_of (inr (inr (inl f))) = ops.Lt
op_of (inr (inr (inr (inl f)))) = ops.Le
op_of (inr (inr (inr (inr (inl f))))) = ops.Gt
op_of (inr (inr (inr (inr (inr f))))) = ops.Ge

abbrev pub op_parts : Op → (Unit {0}) ⊎ ((Unit {0}) ⊎ ((Unit {0}) ⊎ ((Unit {0}) ⊎ ((Unit {0}) ⊎ (Unit {0})))))
op_parts ops.Eq = inl tt
op_parts ops.Ne = inr (inl tt)
op_parts ops.Lt = inr (inr (inl tt))
op_parts ops.Le = inr (inr (inr (inl tt)))
op_parts ops.Gt = inr (inr (inr (inr (inl tt))))
op_parts ops.Ge = inr (inr (inr (inr (inr tt))))

-- a comparison operator
unfoldable pub op : Form Op
op = enum op_of op_parts
    (variant 1 bare
    (variant 2 bare
    (variant 3 bare
    (variant 4 bare
    (variant 5 bare
    (last 6 bare))))))

abbrev pub col_ref_of : (Option (List ℕ)) × (List ℕ) → ColRef
col_ref_of f = record { table = f.0; column = f.1 }

abbrev pub col_ref_parts : ColRef → (Option (List ℕ)) × (List ℕ)
col_ref_parts x = (x.table, x.column)

-- a reference to a column
unfoldable pub col_ref : Form ColRef
col_ref = via col_ref_of col_ref_parts (both (option ident) ident)

abbrev pub operand_of : ColRef ⊎ (Value ⊎ (List ℕ)) → Operand
operand_of (inl f) = operands.Col f
operand_of (inr (inl f)) = operands.Lit f
operand_of (inr (inr f)) = operands.Param f

abbrev pub operand_parts : Operand → ColRef ⊎ (Value ⊎ (List ℕ))
operand_parts (operands.Col field) = inl field
operand_parts (operands.Lit field) = inr (inl field)
operand_parts (operands.Param field) = inr (inr field)

-- the right operand of a comparison
unfoldable pub operand : Form Operand
operand = enum operand_of operand_parts
    (variant 1 col_ref
    (variant 2 value
    (last 3 ident)))

abbrev pub cmp_of : ColRef × (Op × Operand) → Cmp
cmp_of f = record { left = f.0; op = f.1.0; right = f.1.1 }

abbrev pub cmp_parts : Cmp → ColRef × (Op × Operand)
cmp_parts x = (x.left, (x.op, x.right))

-- a comparison
unfoldable pub cmp : Form Cmp
cmp = via cmp_of cmp_parts (both col_ref (both op operand))

abbrev pub clause_of : List Cmp → Clause
clause_of f = record { any = f }

abbrev pub clause_parts : Clause → List Cmp
clause_parts x = x.any

-- a disjunction of comparisons
unfoldable pub clause : Form Clause
clause = via clause_of clause_parts (list cmp)
