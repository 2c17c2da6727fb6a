-- That the forms of sections, their ids and their paths are forms.
use Rattle.rs_ast.specs.declared.bound.BoundCmp.{BoundCmp}
use Rattle.rs_ast.specs.declared.bound.BoundSet.{BoundSet}
use Rattle.rs_ast.specs.declared.bound.BoundTerm.{BoundTerm}
use Rattle.rs_base.specs.declared.txn.Txn.{Txn}
use Rattle.rs_calls.specs.Sections.{path, path_of, path_parts, section, section_id, section_id_of, section_id_parts, section_kind, section_kind_of, section_kind_parts, section_of, section_parts}
use Rattle.rs_encode.proofs.Cases.{enum_is, first_is, last_is}
use Rattle.rs_encode.proofs.Forms.{bare_is, both_is, via_is}
use Rattle.rs_encode.proofs.Lists.{list_is}
use Rattle.rs_encode.proofs.Numbers.{count_below_is, eight_bytes_is, ident_is}
use Rattle.rs_encode.proofs.Values.{site_is, swn_is, txn_is}
use Rattle.rs_encode.specs.Form.{IsForm}
use Rattle.rs_encode_ast.proofs.BoundParts.{bound_cmp_is, bound_set_is, bound_term_is}
use Rattle.rs_plan.specs.declared.path.Path.{Path}
use Rattle.rs_plan.specs.declared.path.Path.TheVariants as paths
use Rattle.rs_plan.specs.declared.section.SectionKind.{SectionKind}
use Rattle.rs_plan.specs.declared.section.SectionKind.TheVariants as sections
use Rattle.std.proofs.Common.{List, arith, inl, inr, refl, ℕ, ◌≡◌, ◌⊎◌}

section_kind_made : (x : SectionKind) → section_kind_of (section_kind_parts x) ≡ x
section_kind_made (sections.Scan clauses columns) = refl
section_kind_made (sections.Fetch clauses columns by) = refl
section_kind_made (sections.Insert rows) = refl
section_kind_made (sections.Delete clauses) = refl
section_kind_made (sections.Update sets clauses) = refl

section_kind_kept : (f : ((List (List BoundCmp)) × (List ℕ)) ⊎ (((List (List BoundCmp)) × ((List ℕ) × ℕ)) ⊎ ((List (List BoundTerm)) ⊎
    ((List (List BoundCmp)) ⊎ ((List BoundSet) × (List (List BoundCmp)))))))
    → section_kind_parts (section_kind_of f) ≡ f
section_kind_kept (inl f) = refl
section_kind_kept (inr (inl f)) = refl
section_kind_kept (inr (inr (inl f))) = refl
section_kind_kept (inr (inr (inr (inl f)))) = refl
section_kind_kept (inr (inr (inr (inr f)))) = refl

pub section_kind_is : IsForm section_kind
unfolding section_kind
section_kind_is = enum_is section_kind_of section_kind_parts section_kind_made section_kind_kept
    (first_is 1 (both_is (list_is (list_is bound_cmp_is)) (list_is (count_below_is 65536))) (omega arith)
    (first_is 2 (both_is (list_is (list_is bound_cmp_is)) (both_is (list_is (count_below_is 65536)) (count_below_is 256)))
    (omega arith)
    (first_is 3 (list_is (list_is bound_term_is)) (omega arith)
    (first_is 4 (list_is (list_is bound_cmp_is)) (omega arith)
    (last_is 5 (both_is (list_is bound_set_is) (list_is (list_is bound_cmp_is))) (omega arith))))))

pub section_is : IsForm section
unfolding section
section_is = via_is section_of section_parts (both_is swn_is (both_is txn_is section_kind_is)) (λ x. refl) (λ f. refl)

pub section_id_is : IsForm section_id
unfolding section_id
section_id_is =
    via_is section_id_of section_id_parts (both_is site_is (both_is ident_is (both_is ident_is (both_is eight_bytes_is
    (both_is txn_is (both_is (count_below_is 256) (count_below_is 256))))))) (λ x. refl) (λ f. refl)

path_made : (x : Path) → path_of (path_parts x) ≡ x
path_made paths.Scan = refl
path_made (paths.Index name made) = refl

path_kept : (f : (Unit {0}) ⊎ ((List ℕ) × Txn)) → path_parts (path_of f) ≡ f
path_kept (inl f) = refl
path_kept (inr f) = refl

pub path_is : IsForm path
unfolding path
path_is = enum_is path_of path_parts path_made path_kept
    (first_is 1 bare_is (omega arith)
    (last_is 2 (both_is ident_is txn_is) (omega arith)))
