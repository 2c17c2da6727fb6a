-- That the forms of statements on the rows of tables are forms.
use Rattle.rs_ast.specs.declared.change.Arith.{Arith}
use Rattle.rs_ast.specs.declared.change.Arith.TheVariants as ariths
use Rattle.rs_ast.specs.declared.change.Set.{Set}
use Rattle.rs_ast.specs.declared.change.Term.{Term}
use Rattle.rs_ast.specs.declared.change.Term.TheVariants as terms
use Rattle.rs_ast.specs.declared.clause.Clause.{Clause}
use Rattle.rs_ast.specs.declared.select.Select.{Select}
use Rattle.rs_ast.specs.declared.stmt.Dml.{Dml}
use Rattle.rs_ast.specs.declared.stmt.Dml.TheVariants as dmls
use Rattle.rs_base.specs.declared.name.NameText.{NameText}
use Rattle.rs_base.specs.declared.value.Value.{Value}
use Rattle.rs_encode.proofs.Cases.{enum_is, first_is, last_is}
use Rattle.rs_encode.proofs.Forms.{bare_is, both_is, via_is}
use Rattle.rs_encode.proofs.Lists.{list_is, option_is}
use Rattle.rs_encode.proofs.Numbers.{ident_is}
use Rattle.rs_encode.proofs.Values.{name_text_is, value_is}
use Rattle.rs_encode.specs.Form.{IsForm}
use Rattle.rs_encode_ast.proofs.Clauses.{clause_is}
use Rattle.rs_encode_ast.proofs.Queries.{query_is}
use Rattle.rs_encode_ast.specs.Statements.{arithmetic, arithmetic_of, arithmetic_parts, assignment, assignment_of, assignment_parts, dml, dml_of, dml_parts, expr, expr_of, expr_parts, term, term_of, term_parts}
use Rattle.std.proofs.Common.{List, arith, inl, inr, refl, ℕ, ◌≡◌, ◌⊎◌}

arithmetic_made : (x : Arith) → arithmetic_of (arithmetic_parts x) ≡ x
arithmetic_made ariths.Add = refl
arithmetic_made ariths.Sub = refl
arithmetic_made ariths.Mul = refl

arithmetic_kept : (f : (Unit {0}) ⊎ ((Unit {0}) ⊎ (Unit {0}))) → arithmetic_parts (arithmetic_of f) ≡ f
arithmetic_kept (inl f) = refl
arithmetic_kept (inr (inl f)) = refl
arithmetic_kept (inr (inr f)) = refl

pub arithmetic_is : IsForm arithmetic
unfolding arithmetic
arithmetic_is = enum_is arithmetic_of arithmetic_parts arithmetic_made arithmetic_kept
    (first_is 1 bare_is (omega arith)
    (first_is 2 bare_is (omega arith)
    (last_is 3 bare_is (omega arith))))

term_made : (x : Term) → term_of (term_parts x) ≡ x
term_made (terms.Col field) = refl
term_made (terms.Lit field) = refl
term_made (terms.Param field) = refl

term_kept : (f : (List ℕ) ⊎ (Value ⊎ (List ℕ))) → term_parts (term_of f) ≡ f
term_kept (inl f) = refl
term_kept (inr (inl f)) = refl
term_kept (inr (inr f)) = refl

pub term_is : IsForm term
unfolding term
term_is = enum_is term_of term_parts term_made term_kept
    (first_is 1 ident_is (omega arith)
    (first_is 2 value_is (omega arith)
    (last_is 3 ident_is (omega arith))))

pub expr_is : IsForm expr
unfolding expr
expr_is = via_is expr_of expr_parts (both_is term_is (option_is (both_is arithmetic_is term_is))) (λ x. refl) (λ f. refl)

pub assignment_is : IsForm assignment
unfolding assignment
assignment_is = via_is assignment_of assignment_parts (both_is ident_is expr_is) (λ x. refl) (λ f. refl)

dml_made : (x : Dml) → dml_of (dml_parts x) ≡ x
dml_made (dmls.Select field) = refl
dml_made (dmls.Insert name rows) = refl
dml_made (dmls.Update name sets clauses) = refl
dml_made (dmls.Delete name clauses) = refl

dml_kept : (f : Select ⊎ ((NameText × (List (List Term))) ⊎ ((NameText × ((List Set) × (List Clause))) ⊎ (NameText × (List
    Clause)))))
    → dml_parts (dml_of f) ≡ f
dml_kept (inl f) = refl
dml_kept (inr (inl f)) = refl
dml_kept (inr (inr (inl f))) = refl
dml_kept (inr (inr (inr f))) = refl

pub dml_is : IsForm dml
unfolding dml
dml_is = enum_is dml_of dml_parts dml_made dml_kept
    (first_is 1 query_is (omega arith)
    (first_is 2 (both_is name_text_is (list_is (list_is term_is))) (omega arith)
    (first_is 3 (both_is name_text_is (both_is (list_is assignment_is) (list_is clause_is))) (omega arith)
    (last_is 4 (both_is name_text_is (list_is clause_is)) (omega arith)))))
