-- The forms of bound comparisons, terms and assignments.
use Rattle.rs_ast.specs.declared.bound.BoundCmp.{BoundCmp}
use Rattle.rs_ast.specs.declared.bound.BoundSet.{BoundSet}
use Rattle.rs_ast.specs.declared.bound.BoundSide.{BoundSide}
use Rattle.rs_ast.specs.declared.bound.BoundSide.TheVariants as sides
use Rattle.rs_ast.specs.declared.bound.BoundTerm.{BoundTerm}
use Rattle.rs_ast.specs.declared.bound.BoundTerm.TheVariants as terms
use Rattle.rs_ast.specs.declared.change.Arith.{Arith}
use Rattle.rs_ast.specs.declared.clause.Op.{Op}
use Rattle.rs_base.specs.declared.value.Value.{Value}
use Rattle.rs_encode.specs.Form.{Form, both, option, via}
use Rattle.rs_encode.specs.Values.{count_below, value}
use Rattle.rs_encode.specs.Variants.{enum, last, variant}
use Rattle.rs_encode_ast.specs.Clauses.{op}
use Rattle.rs_encode_ast.specs.Statements.{arithmetic}
use Rattle.std.specs.Prelude.{Option, ℕ, ◌⊎◌}
use mathlib.Core.Logic.{inl, inr}

abbrev pub bound_side_of : ℕ ⊎ (Value ⊎ ℕ) → BoundSide
bound_side_of (inl f) = sides.Place f
bound_side_of (inr (inl f)) = sides.Lit f
bound_side_of (inr (inr f)) = sides.Param f

abbrev pub bound_side_parts : BoundSide → ℕ ⊎ (Value ⊎ ℕ)
bound_side_parts (sides.Place field) = inl field
bound_side_parts (sides.Lit field) = inr (inl field)
bound_side_parts (sides.Param field) = inr (inr field)

-- the right operand of a bound comparison
unfoldable pub bound_side : Form BoundSide
bound_side = enum bound_side_of bound_side_parts
    (variant 1 (count_below 65536)
    (variant 2 value
    (last 3 (count_below 256))))

abbrev pub bound_cmp_of : ℕ × (Op × BoundSide) → BoundCmp
bound_cmp_of f = record { left = f.0; op = f.1.0; right = f.1.1 }

abbrev pub bound_cmp_parts : BoundCmp → ℕ × (Op × BoundSide)
bound_cmp_parts x = (x.left, (x.op, x.right))

-- a bound comparison
unfoldable pub bound_cmp : Form BoundCmp
bound_cmp = via bound_cmp_of bound_cmp_parts (both (count_below 65536) (both op bound_side))

abbrev pub bound_term_of : ℕ ⊎ (Value ⊎ ℕ) → BoundTerm
bound_term_of (inl f) = terms.Place f
bound_term_of (inr (inl f)) = terms.Lit f
bound_term_of (inr (inr f)) = terms.Param f

abbrev pub bound_term_parts : BoundTerm → ℕ ⊎ (Value ⊎ ℕ)
bound_term_parts (terms.Place field) = inl field
bound_term_parts (terms.Lit field) = inr (inl field)
bound_term_parts (terms.Param field) = inr (inr field)

-- a bound term
unfoldable pub bound_term : Form BoundTerm
bound_term = enum bound_term_of bound_term_parts
    (variant 1 (count_below 65536)
    (variant 2 value
    (last 3 (count_below 256))))

abbrev pub bound_set_of : ℕ × (BoundTerm × (Option (Arith × BoundTerm))) → BoundSet
bound_set_of f = record { column = f.0; first = f.1.0; more = f.1.1 }

abbrev pub bound_set_parts : BoundSet → ℕ × (BoundTerm × (Option (Arith × BoundTerm)))
bound_set_parts x = (x.column, (x.first, x.more))

-- a bound assignment
unfoldable pub bound_set : Form BoundSet
bound_set = via bound_set_of bound_set_parts (both (count_below 256) (both bound_term (option (both arithmetic bound_term))))
