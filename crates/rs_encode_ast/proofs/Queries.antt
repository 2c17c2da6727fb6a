-- That the forms of queries are forms.
use Rattle.rs_ast.specs.declared.column.ColRef.{ColRef}
use Rattle.rs_ast.specs.declared.select.Item.{Item}
use Rattle.rs_ast.specs.declared.select.Item.TheVariants as items
use Rattle.rs_ast.specs.declared.select.KeyBy.{KeyBy}
use Rattle.rs_ast.specs.declared.select.KeyBy.TheVariants as key_bys
use Rattle.rs_encode.proofs.Cases.{enum_is, first_is, last_is}
use Rattle.rs_encode.proofs.Forms.{bare_is, both_is, via_is}
use Rattle.rs_encode.proofs.Lists.{list_is, option_is}
use Rattle.rs_encode.proofs.Numbers.{count_below_is, ident_is}
use Rattle.rs_encode.proofs.Values.{bool_is, name_text_is}
use Rattle.rs_encode.specs.Form.{IsForm}
use Rattle.rs_encode_ast.proofs.Clauses.{clause_is, col_ref_is}
use Rattle.rs_encode_ast.specs.Queries.{item, item_of, item_parts, key, key_by, key_by_of, key_by_parts, key_of, key_parts, query, query_of, query_parts, table_ref, table_ref_of, table_ref_parts}
use Rattle.std.proofs.Common.{arith, inl, inr, refl, ℕ, ◌≡◌, ◌⊎◌}

item_made : (x : Item) → item_of (item_parts x) ≡ x
item_made (items.Col field) = refl
item_made items.Count = refl
item_made (items.Sum field) = refl
item_made (items.Min field) = refl
item_made (items.Max field) = refl

item_kept : (f : ColRef ⊎ ((Unit {0}) ⊎ (ColRef ⊎ (ColRef ⊎ ColRef)))) → item_parts (item_of f) ≡ f
item_kept (inl f) = refl
item_kept (inr (inl f)) = refl
item_kept (inr (inr (inl f))) = refl
item_kept (inr (inr (inr (inl f)))) = refl
item_kept (inr (inr (inr (inr f)))) = refl

pub item_is : IsForm item
unfolding item
item_is = enum_is item_of item_parts item_made item_kept
    (first_is 1 col_ref_is (omega arith)
    (first_is 2 bare_is (omega arith)
    (first_is 3 col_ref_is (omega arith)
    (first_is 4 col_ref_is (omega arith)
    (last_is 5 col_ref_is (omega arith))))))

key_by_made : (x : KeyBy) → key_by_of (key_by_parts x) ≡ x
key_by_made (key_bys.Col field) = refl
key_by_made (key_bys.Place field) = refl

key_by_kept : (f : ColRef ⊎ ℕ) → key_by_parts (key_by_of f) ≡ f
key_by_kept (inl f) = refl
key_by_kept (inr f) = refl

pub key_by_is : IsForm key_by
unfolding key_by
key_by_is = enum_is key_by_of key_by_parts key_by_made key_by_kept
    (first_is 1 col_ref_is (omega arith)
    (last_is 2 (count_below_is 4294967296) (omega arith)))

pub key_is : IsForm key
unfolding key
key_is = via_is key_of key_parts (both_is key_by_is bool_is) (λ x. refl) (λ f. refl)

pub table_ref_is : IsForm table_ref
unfolding table_ref
table_ref_is = via_is table_ref_of table_ref_parts (both_is name_text_is (option_is ident_is)) (λ x. refl) (λ f. refl)

pub query_is : IsForm query
unfolding query
query_is =
    via_is query_of query_parts (both_is bool_is (both_is (option_is (list_is item_is)) (both_is (list_is table_ref_is)
    (both_is (list_is clause_is) (both_is (list_is col_ref_is) (list_is key_is)))))) (λ x. refl) (λ f. refl)
