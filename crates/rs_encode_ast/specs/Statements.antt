-- The forms of statements on the rows of tables.
use Rattle.rs_ast.specs.declared.change.Arith.{Arith}
use Rattle.rs_ast.specs.declared.change.Arith.TheVariants as ariths
use Rattle.rs_ast.specs.declared.change.Expr.{Expr}
use Rattle.rs_ast.specs.declared.change.Set.{Set}
use Rattle.rs_ast.specs.declared.change.Term.{Term}
use Rattle.rs_ast.specs.declared.change.Term.TheVariants as terms
use Rattle.rs_ast.specs.declared.clause.Clause.{Clause}
use Rattle.rs_ast.specs.declared.select.Select.{Select}
use Rattle.rs_ast.specs.declared.stmt.Dml.{Dml}
use Rattle.rs_ast.specs.declared.stmt.Dml.TheVariants as dmls
use Rattle.rs_base.specs.declared.name.NameText.{NameText}
use Rattle.rs_base.specs.declared.value.Value.{Value}
use Rattle.rs_encode.specs.Form.{Form, bare, both, list, option, via}
use Rattle.rs_encode.specs.Values.{ident, name_text, value}
use Rattle.rs_encode.specs.Variants.{enum, last, variant}
use Rattle.rs_encode_ast.specs.Clauses.{clause}
use Rattle.rs_encode_ast.specs.Queries.{query}
use Rattle.std.specs.Prelude.{List, Option, ℕ, ◌⊎◌}
use mathlib.Core.Logic.{inl, inr}

abbrev pub arithmetic_of : (Unit {0}) ⊎ ((Unit {0}) ⊎ (Unit {0})) → Arith
arithmetic_of (inl f) = ariths.Add
arithmetic_of (inr (inl f)) = ariths.Sub
arithmetic_of (inr (inr f)) = ariths.Mul

abbrev pub arithmetic_parts : Arith → (Unit {0}) ⊎ ((Unit {0}) ⊎ (Unit {0}))
arithmetic_parts ariths.Add = inl tt
arithmetic_parts ariths.Sub = inr (inl tt)
arithmetic_parts ariths.Mul = inr (inr tt)

-- an arithmetic operator
unfoldable pub arithmetic : Form Arith
arithmetic = enum arithmetic_of arithmetic_parts
    (variant 1 bare
    (variant 2 bare
    (last 3 bare)))

abbrev pub term_of : (List ℕ) ⊎ (Value ⊎ (List ℕ)) → Term
term_of (inl f) = terms.Col f
term_of (inr (inl f)) = terms.Lit f
term_of (inr (inr f)) = terms.Param f

abbrev pub term_parts : Term → (List ℕ) ⊎ (Value ⊎ (List ℕ))
term_parts (terms.Col field) = inl field
term_parts (terms.Lit field) = inr (inl field)
term_parts (terms.Param field) = inr (inr field)

-- a term
unfoldable pub term : Form Term
term = enum term_of term_parts
    (variant 1 ident
    (variant 2 value
    (last 3 ident)))

abbrev pub expr_of : Term × (Option (Arith × Term)) → Expr
expr_of f = record { first = f.0; more = f.1 }

abbrev pub expr_parts : Expr → Term × (Option (Arith × Term))
expr_parts x = (x.first, x.more)

-- an expression
unfoldable pub expr : Form Expr
expr = via expr_of expr_parts (both term (option (both arithmetic term)))

abbrev pub assignment_of : (List ℕ) × Expr → Set
assignment_of f = record { column = f.0; expr = f.1 }

abbrev pub assignment_parts : Set → (List ℕ) × Expr
assignment_parts x = (x.column, x.expr)

-- an assignment
unfoldable pub assignment : Form Set
assignment = via assignment_of assignment_parts (both ident expr)

abbrev pub dml_of :
    Select ⊎ ((NameText × (List (List Term))) ⊎ ((NameText × ((List Set) × (List Clause))) ⊎ (NameText × (List Clause)))) → Dml
dml_of (inl f) = dmls.Select f
dml_of (inr (inl f)) = dmls.Insert f.0 f.1
dml_of (inr (inr (inl f))) = dmls.Update f.0 f.1.0 f.1.1
dml_of (inr (inr (inr f))) = dmls.Delete f.0 f.1

abbrev pub dml_parts : Dml →
    Select ⊎ ((NameText × (List (List Term))) ⊎ ((NameText × ((List Set) × (List Clause))) ⊎ (NameText × (List Clause))))
dml_parts (dmls.Select field) = inl field
dml_parts (dmls.Insert name rows) = inr (inl (name, rows))
dml_parts (dmls.Update name sets clauses) = inr (inr (inl (name, (sets, clauses))))
dml_parts (dmls.Delete name clauses) = inr (inr (inr (name, clauses)))

-- a statement on the rows of tables
unfoldable pub dml : Form Dml
dml = enum dml_of dml_parts
    (variant 1 query
    (variant 2 (both name_text (list (list term)))
    (variant 3 (both name_text (both (list assignment) (list clause)))
    (last 4 (both name_text (list clause))))))
