-- That the forms of bound comparisons, terms and assignments are forms.
use Rattle.rs_ast.specs.declared.bound.BoundSide.{BoundSide}
use Rattle.rs_ast.specs.declared.bound.BoundSide.TheVariants as sides
use Rattle.rs_ast.specs.declared.bound.BoundTerm.{BoundTerm}
use Rattle.rs_ast.specs.declared.bound.BoundTerm.TheVariants as terms
use Rattle.rs_base.specs.declared.value.Value.{Value}
use Rattle.rs_encode.proofs.Cases.{enum_is, first_is, last_is}
use Rattle.rs_encode.proofs.Forms.{both_is, via_is}
use Rattle.rs_encode.proofs.Lists.{option_is}
use Rattle.rs_encode.proofs.Numbers.{count_below_is}
use Rattle.rs_encode.proofs.Values.{value_is}
use Rattle.rs_encode.specs.Form.{IsForm}
use Rattle.rs_encode_ast.proofs.Clauses.{op_is}
use Rattle.rs_encode_ast.proofs.Statements.{arithmetic_is}
use Rattle.rs_encode_ast.specs.BoundParts.{bound_cmp, bound_cmp_of, bound_cmp_parts, bound_set, bound_set_of, bound_set_parts, bound_side, bound_side_of, bound_side_parts, bound_term, bound_term_of, bound_term_parts}
use Rattle.std.proofs.Common.{arith, inl, inr, refl, ℕ, ◌≡◌, ◌⊎◌}

bound_side_made : (x : BoundSide) → bound_side_of (bound_side_parts x) ≡ x
bound_side_made (sides.Place field) = refl
bound_side_made (sides.Lit field) = refl
bound_side_made (sides.Param field) = refl

bound_side_kept : (f : ℕ ⊎ (Value ⊎ ℕ)) → bound_side_parts (bound_side_of f) ≡ f
bound_side_kept (inl f) = refl
bound_side_kept (inr (inl f)) = refl
bound_side_kept (inr (inr f)) = refl

pub bound_side_is : IsForm bound_side
unfolding bound_side
bound_side_is = enum_is bound_side_of bound_side_parts bound_side_made bound_side_kept
    (first_is 1 (count_below_is 65536) (omega arith)
    (first_is 2 value_is (omega arith)
    (last_is 3 (count_below_is 256) (omega arith))))

pub bound_cmp_is : IsForm bound_cmp
unfolding bound_cmp
bound_cmp_is =
    via_is bound_cmp_of bound_cmp_parts (both_is (count_below_is 65536) (both_is op_is bound_side_is)) (λ x. refl) (λ f. refl)

bound_term_made : (x : BoundTerm) → bound_term_of (bound_term_parts x) ≡ x
bound_term_made (terms.Place field) = refl
bound_term_made (terms.Lit field) = refl
bound_term_made (terms.Param field) = refl

bound_term_kept : (f : ℕ ⊎ (Value ⊎ ℕ)) → bound_term_parts (bound_term_of f) ≡ f
bound_term_kept (inl f) = refl
bound_term_kept (inr (inl f)) = refl
bound_term_kept (inr (inr f)) = refl

pub bound_term_is : IsForm bound_term
unfolding bound_term
bound_term_is = enum_is bound_term_of bound_term_parts bound_term_made bound_term_kept
    (first_is 1 (count_below_is 65536) (omega arith)
    (first_is 2 value_is (omega arith)
    (last_is 3 (count_below_is 256) (omega arith))))

pub bound_set_is : IsForm bound_set
unfolding bound_set
bound_set_is =
    via_is bound_set_of bound_set_parts (both_is (count_below_is 256) (both_is bound_term_is (option_is (both_is
    arithmetic_is bound_term_is)))) (λ x. refl) (λ f. refl)
