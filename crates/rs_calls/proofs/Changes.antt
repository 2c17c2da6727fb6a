-- The form of changes is one.
use Rattle.rs_ast.specs.declared.column.ColDef.{ColDef}
use Rattle.rs_ast.specs.declared.entry.IndexOf.{IndexOf}
use Rattle.rs_base.specs.declared.name.Swn.{Swn}
use Rattle.rs_base.specs.declared.txn.Txn.{Txn}
use Rattle.rs_base.specs.declared.value.Value.{Value}
use Rattle.rs_calls.proofs.Programs.{body_is, head_is}
use Rattle.rs_calls.proofs.Sections.{path_is, section_id_is, section_is}
use Rattle.rs_calls.specs.Changes.{any_change, any_change_of, any_change_parts}
use Rattle.rs_encode.proofs.Cases.{enum_is, first_is, last_is}
use Rattle.rs_encode.proofs.Forms.{both_is}
use Rattle.rs_encode.proofs.Lists.{list_is, option_is}
use Rattle.rs_encode.proofs.Numbers.{count_below_is, count_is, ident_is}
use Rattle.rs_encode.proofs.Values.{site_is, swn_is, txn_is, value_is}
use Rattle.rs_encode.specs.Form.{IsForm}
use Rattle.rs_encode_ast.proofs.Entries.{col_def_is, index_of_is}
use Rattle.rs_plan.specs.declared.change.Change.{Change}
use Rattle.rs_plan.specs.declared.change.Change.TheVariants as changes
use Rattle.rs_plan.specs.declared.path.Path.{Path}
use Rattle.rs_plan.specs.declared.program.Body.{Body}
use Rattle.rs_plan.specs.declared.program.Head.{Head}
use Rattle.rs_plan.specs.declared.section.Section.{Section}
use Rattle.rs_plan.specs.declared.section_id.SectionId.{SectionId}
use Rattle.std.proofs.Common.{List, Option, arith, inl, inr, refl, ℕ, ◌≡◌, ◌⊎◌}

any_change_made : (x : Change) → any_change_of (any_change_parts x) ≡ x
any_change_made (changes.Synonym user name to) = refl
any_change_made (changes.Birth name to) = refl
any_change_made (changes.Head user name head) = refl
any_change_made (changes.Body user name i body) = refl
any_change_made (changes.Keep id section path) = refl
any_change_made (changes.MakeTable name made columns indexes) = refl
any_change_made (changes.PutRows name rows) = refl
any_change_made (changes.Remove name numbers) = refl
any_change_made (changes.Replace name rows) = refl
any_change_made (changes.DropTable name) = refl
any_change_made (changes.MakeIndex name made index column index_made) = refl
any_change_made (changes.DropIndex name made index) = refl

any_change_kept : (f : ((List ℕ) × ((List ℕ) × (Option Swn))) ⊎ ((Swn × (Option ℕ)) ⊎ (((List ℕ) × ((List ℕ) × (Option Head))) ⊎
    (((List ℕ) × ((List ℕ) × (ℕ × Body))) ⊎ ((SectionId × (Section × Path)) ⊎ ((Swn × (Txn × ((List
    ColDef) × (List IndexOf)))) ⊎ ((Swn × (List (List Value))) ⊎ ((Swn × (List ℕ)) ⊎ ((Swn × (List (ℕ ×
    (List Value)))) ⊎ (Swn ⊎ ((Swn × (Txn × ((List ℕ) × (ℕ × Txn)))) ⊎ (Swn × (Txn × (List ℕ))))))))))))))
    → any_change_parts (any_change_of f) ≡ f
any_change_kept (inl f) = refl
any_change_kept (inr (inl f)) = refl
any_change_kept (inr (inr (inl f))) = refl
any_change_kept (inr (inr (inr (inl f)))) = refl
any_change_kept (inr (inr (inr (inr (inl f))))) = refl
any_change_kept (inr (inr (inr (inr (inr (inl f)))))) = refl
any_change_kept (inr (inr (inr (inr (inr (inr (inl f))))))) = refl
any_change_kept (inr (inr (inr (inr (inr (inr (inr (inl f)))))))) = refl
any_change_kept (inr (inr (inr (inr (inr (inr (inr (inr (inl f))))))))) = refl
any_change_kept (inr (inr (inr (inr (inr (inr (inr (inr (inr (inl f)))))))))) = refl
any_change_kept (inr (inr (inr (inr (inr (inr (inr (inr (inr (inr (inl f))))))))))) = refl
any_change_kept (inr (inr (inr (inr (inr (inr (inr (inr (inr (inr (inr f))))))))))) = refl

pub any_change_is : IsForm any_change
unfolding any_change
any_change_is = enum_is any_change_of any_change_parts any_change_made any_change_kept
    (first_is 1 (both_is ident_is (both_is ident_is (option_is swn_is))) (omega arith)
    (first_is 2 (both_is swn_is (option_is site_is)) (omega arith)
    (first_is 3 (both_is ident_is (both_is ident_is (option_is head_is))) (omega arith)
    (first_is 4 (both_is ident_is (both_is ident_is (both_is (count_below_is 256) body_is))) (omega arith)
    (first_is 5 (both_is section_id_is (both_is section_is path_is)) (omega arith)
    (first_is 6 (both_is swn_is (both_is txn_is (both_is (list_is col_def_is) (list_is index_of_is)))) (omega arith)
    (first_is 7 (both_is swn_is (list_is (list_is value_is))) (omega arith)
    (first_is 8 (both_is swn_is (list_is count_is)) (omega arith)
    (first_is 9 (both_is swn_is (list_is (both_is count_is (list_is value_is)))) (omega arith)
    (first_is 10 swn_is (omega arith)
    (first_is 11 (both_is swn_is (both_is txn_is (both_is ident_is (both_is (count_below_is 256) txn_is)))) (omega arith)
    (last_is 12 (both_is swn_is (both_is txn_is ident_is)) (omega arith)))))))))))))
