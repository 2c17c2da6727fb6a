-- The form of calls is one.
use Rattle.rs_ast.specs.declared.column.ColDef.{ColDef}
use Rattle.rs_ast.specs.declared.entry.IndexOf.{IndexOf}
use Rattle.rs_base.specs.declared.lock.Mode.{Mode}
use Rattle.rs_base.specs.declared.name.Swn.{Swn}
use Rattle.rs_base.specs.declared.txn.Txn.{Txn}
use Rattle.rs_base.specs.declared.value.Value.{Value}
use Rattle.rs_calls.proofs.Programs.{body_is, head_is}
use Rattle.rs_calls.proofs.Sections.{section_id_is, section_is}
use Rattle.rs_calls.specs.Calls.{any_call, any_call_of, any_call_parts}
use Rattle.rs_encode.proofs.Cases.{enum_is, first_is, last_is}
use Rattle.rs_encode.proofs.Forms.{both_is}
use Rattle.rs_encode.proofs.Lists.{list_is, option_is}
use Rattle.rs_encode.proofs.Numbers.{count_below_is, eight_bytes_is, ident_is}
use Rattle.rs_encode.proofs.Values.{mode_is, site_is, swn_is, txn_is, value_is}
use Rattle.rs_encode.specs.Form.{IsForm}
use Rattle.rs_encode_ast.proofs.Entries.{col_def_is, index_of_is}
use Rattle.rs_plan.specs.declared.call.Call.{Call}
use Rattle.rs_plan.specs.declared.call.Call.TheVariants as calls
use Rattle.rs_plan.specs.declared.program.Body.{Body}
use Rattle.rs_plan.specs.declared.program.Head.{Head}
use Rattle.rs_plan.specs.declared.section.Section.{Section}
use Rattle.rs_plan.specs.declared.section_id.SectionId.{SectionId}
use Rattle.std.proofs.Common.{List, Option, arith, inl, inr, refl, ℕ, ◌≡◌, ◌⊎◌}

any_call_made : (x : Call) → any_call_of (any_call_parts x) ≡ x
any_call_made (calls.Synonym user name) = refl
any_call_made (calls.SetSynonym user name to) = refl
any_call_made (calls.Locate name mode) = refl
any_call_made (calls.SetBirth name to) = refl
any_call_made (calls.Describe name mode) = refl
any_call_made (calls.Run section values fetch from_) = refl
any_call_made (calls.RunStored id name mode values fetch from_) = refl
any_call_made (calls.MakeTable name made columns indexes) = refl
any_call_made (calls.PutRows name rows) = refl
any_call_made (calls.Dump name from_) = refl
any_call_made (calls.DropTable name) = refl
any_call_made (calls.MakeIndex name made index column) = refl
any_call_made (calls.DropIndex name made index) = refl
any_call_made (calls.Program user name mode) = refl
any_call_made (calls.Step user name i) = refl
any_call_made (calls.SetProgram user name head) = refl
any_call_made (calls.SetStep user name i body) = refl
any_call_made (calls.KeepSection id section) = refl

any_call_kept : (f : ((List ℕ) × (List ℕ)) ⊎ (((List ℕ) × ((List ℕ) × (Option Swn))) ⊎ ((Swn × Mode) ⊎ ((Swn × (Option ℕ)) ⊎ ((Swn
    × Mode) ⊎ ((Section × ((List Value) × ((Option Value) × ℕ))) ⊎ ((SectionId × (Swn × (Mode × ((List
    Value) × ((Option Value) × ℕ))))) ⊎ ((Swn × (Txn × ((List ColDef) × (List IndexOf)))) ⊎ ((Swn × (List
    (List Value))) ⊎ ((Swn × ℕ) ⊎ (Swn ⊎ ((Swn × (Txn × ((List ℕ) × ℕ))) ⊎ ((Swn × (Txn × (List ℕ))) ⊎
    (((List ℕ) × ((List ℕ) × Mode)) ⊎ (((List ℕ) × ((List ℕ) × ℕ)) ⊎ (((List ℕ) × ((List ℕ) × (Option
    Head))) ⊎ (((List ℕ) × ((List ℕ) × (ℕ × Body))) ⊎ (SectionId × Section))))))))))))))))))
    → any_call_parts (any_call_of f) ≡ f
any_call_kept (inl f) = refl
any_call_kept (inr (inl f)) = refl
any_call_kept (inr (inr (inl f))) = refl
any_call_kept (inr (inr (inr (inl f)))) = refl
any_call_kept (inr (inr (inr (inr (inl f))))) = refl
any_call_kept (inr (inr (inr (inr (inr (inl f)))))) = refl
any_call_kept (inr (inr (inr (inr (inr (inr (inl f))))))) = refl
any_call_kept (inr (inr (inr (inr (inr (inr (inr (inl f)))))))) = refl
any_call_kept (inr (inr (inr (inr (inr (inr (inr (inr (inl f))))))))) = refl
any_call_kept (inr (inr (inr (inr (inr (inr (inr (inr (inr (inl f)))))))))) = refl
any_call_kept (inr (inr (inr (inr (inr (inr (inr (inr (inr (inr (inl f))))))))))) = refl
any_call_kept (inr (inr (inr (inr (inr (inr (inr (inr (inr (inr (inr (inl f)))))))))))) = refl
any_call_kept (inr (inr (inr (inr (inr (inr (inr (inr (inr (inr (inr (inr (inl f))))))))))))) = refl
any_call_kept (inr (inr (inr (inr (inr (inr (inr (inr (inr (inr (inr (inr (inr (inl f)))))))))))))) = refl
any_call_kept (inr (inr (inr (inr (inr (inr (inr (inr (inr (inr (inr (inr (inr (inr (inl f))))))))))))))) = refl
any_call_kept (inr (inr (inr (inr (inr (inr (inr (inr (inr (inr (inr (inr (inr (inr (inr (inl f)))))))))))))))) = refl
any_call_kept (inr (inr (inr (inr (inr (inr (inr (inr (inr (inr (inr (inr (inr (inr (inr (inr (inl f))))))))))))))))) = refl
any_call_kept (inr (inr (inr (inr (inr (inr (inr (inr (inr (inr (inr (inr (inr (inr (inr (inr (inr f))))))))))))))))) = refl

pub any_call_is : IsForm any_call
unfolding any_call
any_call_is = enum_is any_call_of any_call_parts any_call_made any_call_kept
    (first_is 1 (both_is ident_is ident_is) (omega arith)
    (first_is 2 (both_is ident_is (both_is ident_is (option_is swn_is))) (omega arith)
    (first_is 3 (both_is swn_is mode_is) (omega arith)
    (first_is 4 (both_is swn_is (option_is site_is)) (omega arith)
    (first_is 5 (both_is swn_is mode_is) (omega arith)
    (first_is 6 (both_is section_is (both_is (list_is value_is) (both_is (option_is value_is) eight_bytes_is))) (omega arith)
    (first_is 7 (both_is section_id_is (both_is swn_is (both_is mode_is (both_is (list_is value_is) (both_is (option_is
    value_is) eight_bytes_is))))) (omega arith)
    (first_is 8 (both_is swn_is (both_is txn_is (both_is (list_is col_def_is) (list_is index_of_is)))) (omega arith)
    (first_is 9 (both_is swn_is (list_is (list_is value_is))) (omega arith)
    (first_is 10 (both_is swn_is eight_bytes_is) (omega arith)
    (first_is 11 swn_is (omega arith)
    (first_is 12 (both_is swn_is (both_is txn_is (both_is ident_is (count_below_is 256)))) (omega arith)
    (first_is 13 (both_is swn_is (both_is txn_is ident_is)) (omega arith)
    (first_is 14 (both_is ident_is (both_is ident_is mode_is)) (omega arith)
    (first_is 15 (both_is ident_is (both_is ident_is (count_below_is 256))) (omega arith)
    (first_is 16 (both_is ident_is (both_is ident_is (option_is head_is))) (omega arith)
    (first_is 17 (both_is ident_is (both_is ident_is (both_is (count_below_is 256) body_is))) (omega arith)
    (last_is 18 (both_is section_id_is section_is) (omega arith)))))))))))))))))))
