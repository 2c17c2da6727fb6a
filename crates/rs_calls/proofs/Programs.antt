-- That the forms of stored programs and their plans are forms.
use Rattle.rs_calls.specs.Programs.{body, body_of, body_parts, body_table, body_table_of, body_table_parts, head, head_of, head_parts, part, part_kind, part_kind_of, part_kind_parts, part_of, part_parts, plan, plan_of, plan_parts}
use Rattle.rs_encode.proofs.Cases.{enum_is, first_is, last_is}
use Rattle.rs_encode.proofs.Forms.{bare_is, both_is, via_is}
use Rattle.rs_encode.proofs.Lists.{list_is}
use Rattle.rs_encode.proofs.Numbers.{count_below_is, eight_bytes_is, ident_is}
use Rattle.rs_encode.proofs.Values.{site_is, swn_is, txn_is}
use Rattle.rs_encode.specs.Form.{IsForm}
use Rattle.rs_encode_ast.proofs.Entries.{col_def_is}
use Rattle.rs_encode_ast.proofs.Statements.{dml_is}
use Rattle.rs_plan.specs.declared.plan.PartKind.{PartKind}
use Rattle.rs_plan.specs.declared.plan.PartKind.TheVariants as part_kinds
use Rattle.std.proofs.Common.{arith, inl, inr, refl, ℕ, ◌≡◌, ◌⊎◌}

part_kind_made : (x : PartKind) → part_kind_of (part_kind_parts x) ≡ x
part_kind_made part_kinds.Scan = refl
part_kind_made (part_kinds.Fetch column from_table from_column clause) = refl

part_kind_kept : (f : (Unit {0}) ⊎ (ℕ × (ℕ × (ℕ × ℕ)))) → part_kind_parts (part_kind_of f) ≡ f
part_kind_kept (inl f) = refl
part_kind_kept (inr f) = refl

pub part_kind_is : IsForm part_kind
unfolding part_kind
part_kind_is = enum_is part_kind_of part_kind_parts part_kind_made part_kind_kept
    (first_is 1 bare_is (omega arith)
    (last_is 2 (both_is (count_below_is 256) (both_is (count_below_is 256) (both_is (count_below_is 256) (count_below_is
    65536)))) (omega arith)))

pub part_is : IsForm part
unfolding part
part_is = via_is part_of part_parts (both_is (count_below_is 256) (both_is site_is part_kind_is)) (λ x. refl) (λ f. refl)

pub plan_is : IsForm plan
unfolding plan
plan_is = via_is plan_of plan_parts (both_is (list_is part_is) eight_bytes_is) (λ x. refl) (λ f. refl)

pub head_is : IsForm head
unfolding head
head_is =
    via_is head_of head_parts (both_is eight_bytes_is (both_is txn_is (both_is (list_is ident_is) (count_below_is 256)))) (λ
    x. refl) (λ f. refl)

pub body_table_is : IsForm body_table
unfolding body_table
body_table_is = via_is body_table_of body_table_parts (both_is swn_is (list_is col_def_is)) (λ x. refl) (λ f. refl)

pub body_is : IsForm body
unfolding body
body_is = via_is body_of body_parts (both_is dml_is (both_is (list_is body_table_is) plan_is)) (λ x. refl) (λ f. refl)
