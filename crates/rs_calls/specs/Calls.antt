-- The form of calls.
use Rattle.rs_ast.specs.declared.column.ColDef.{ColDef}
use Rattle.rs_ast.specs.declared.entry.IndexOf.{IndexOf}
use Rattle.rs_base.specs.declared.lock.Mode.{Mode}
use Rattle.rs_base.specs.declared.name.Swn.{Swn}
use Rattle.rs_base.specs.declared.txn.Txn.{Txn}
use Rattle.rs_base.specs.declared.value.Value.{Value}
use Rattle.rs_calls.specs.Programs.{body, head}
use Rattle.rs_calls.specs.Sections.{section, section_id}
use Rattle.rs_encode.specs.Form.{Form, both, list, option}
use Rattle.rs_encode.specs.Values.{count_below, eight_bytes, ident, mode, site, swn, txn, value}
use Rattle.rs_encode.specs.Variants.{enum, last, variant}
use Rattle.rs_encode_ast.specs.Entries.{col_def, index_of}
use Rattle.rs_plan.specs.declared.call.Call.{Call}
use Rattle.rs_plan.specs.declared.call.Call.TheVariants as calls
use Rattle.rs_plan.specs.declared.program.Body.{Body}
use Rattle.rs_plan.specs.declared.program.Head.{Head}
use Rattle.rs_plan.specs.declared.section.Section.{Section}
use Rattle.rs_plan.specs.declared.section_id.SectionId.{SectionId}
use Rattle.std.specs.Prelude.{List, Option, ℕ, ◌⊎◌}
use mathlib.Core.Logic.{inl, inr}

abbrev pub any_call_of :
    ((List ℕ) × (List ℕ)) ⊎ (((List ℕ) × ((List ℕ) × (Option Swn))) ⊎ ((Swn × Mode) ⊎ ((Swn × (Option ℕ)) ⊎ ((Swn × Mode)
    ⊎ ((Section × ((List Value) × ((Option Value) × ℕ))) ⊎ ((SectionId × (Swn × (Mode × ((List Value) × ((Option
    Value) × ℕ))))) ⊎ ((Swn × (Txn × ((List ColDef) × (List IndexOf)))) ⊎ ((Swn × (List (List Value))) ⊎ ((Swn ×
    ℕ) ⊎ (Swn ⊎ ((Swn × (Txn × ((List ℕ) × ℕ))) ⊎ ((Swn × (Txn × (List ℕ))) ⊎ (((List ℕ) × ((List ℕ) × Mode)) ⊎
    (((List ℕ) × ((List ℕ) × ℕ)) ⊎ (((List ℕ) × ((List ℕ) × (Option Head))) ⊎ (((List ℕ) × ((List ℕ) × (ℕ ×
    Body))) ⊎ (SectionId × Section))))))))))))))))) → Call
any_call_of (inl f) = calls.Synonym f.0 f.1
any_call_of (inr (inl f)) = calls.SetSynonym f.0 f.1.0 f.1.1
any_call_of (inr (inr (inl f))) = calls.Locate f.0 f.1
any_call_of (inr (inr (inr (inl f)))) = calls.SetBirth f.0 f.1
any_call_of (inr (inr (inr (inr (inl f))))) = calls.Describe f.0 f.1
any_call_of (inr (inr (inr (inr (inr (inl f)))))) = calls.Run f.0 f.1.0 f.1.1.0 f.1.1.1
any_call_of (inr (inr (inr (inr (inr (inr (inl f))))))) = calls.RunStored f.0 f.1.0 f.1.1.0 f.1.1.1.0 f.1.1.1.1.0 f.1.1.1.1.1
any_call_of (inr (inr (inr (inr (inr (inr (inr (inl f)))))))) = calls.MakeTable f.0 f.1.0 f.1.1.0 f.1.1.1
any_call_of (inr (inr (inr (inr (inr (inr (inr (inr (inl f))))))))) = calls.PutRows f.0 f.1
any_call_of (inr (inr (inr (inr (inr (inr (inr (inr (inr (inl f)))))))))) = calls.Dump f.0 f.1
any_call_of (inr (inr (inr (inr (inr (inr (inr (inr (inr (inr (inl f))))))))))) = calls.DropTable f
any_call_of (inr (inr (inr (inr (inr (inr (inr (inr (inr (inr (inr (inl f)))))))))))) =
    calls.MakeIndex f.0 f.1.0 f.1.1.0 f.1.1.1
any_call_of (inr (inr (inr (inr (inr (inr (inr (inr (inr (inr (inr (inr (inl f))))))))))))) = calls.DropIndex f.0 f.1.0 f.1.1
any_call_of (inr (inr (inr (inr (inr (inr (inr (inr (inr (inr (inr (inr (inr (inl f)))))))))))))) =
    calls.Program f.0 f.1.0 f.1.1
any_call_of (inr (inr (inr (inr (inr (inr (inr (inr (inr (inr (inr (inr (inr (inr (inl f))))))))))))))) =
    calls.Step f.0 f.1.0 f.1.1
any_call_of (inr (inr (inr (inr (inr (inr (inr (inr (inr (inr (inr (inr (inr (inr (inr (inl f)))))))))))))))) =
    calls.SetProgram f.0 f.1.0 f.1.1
any_call_of (inr (inr (inr (inr (inr (inr (inr (inr (inr (inr (inr (inr (inr (inr (inr (inr (inl f))))))))))))))))) =
    calls.SetStep f.0 f.1.0 f.1.1.0 f.1.1.1
any_call_of (inr (inr (inr (inr (inr (inr (inr (inr (inr (inr (inr (inr (inr (inr (inr (inr (inr f))))))))))))))))) =
    calls.KeepSection f.0 f.1

abbrev pub any_call_parts : Call →
    ((List ℕ) × (List ℕ)) ⊎ (((List ℕ) × ((List ℕ) × (Option Swn))) ⊎ ((Swn × Mode) ⊎ ((Swn × (Option ℕ)) ⊎ ((Swn × Mode)
    ⊎ ((Section × ((List Value) × ((Option Value) × ℕ))) ⊎ ((SectionId × (Swn × (Mode × ((List Value) × ((Option
    Value) × ℕ))))) ⊎ ((Swn × (Txn × ((List ColDef) × (List IndexOf)))) ⊎ ((Swn × (List (List Value))) ⊎ ((Swn ×
    ℕ) ⊎ (Swn ⊎ ((Swn × (Txn × ((List ℕ) × ℕ))) ⊎ ((Swn × (Txn × (List ℕ))) ⊎ (((List ℕ) × ((List ℕ) × Mode)) ⊎
    (((List ℕ) × ((List ℕ) × ℕ)) ⊎ (((List ℕ) × ((List ℕ) × (Option Head))) ⊎ (((List ℕ) × ((List ℕ) × (ℕ ×
    Body))) ⊎ (SectionId × Section)))))))))))))))))
any_call_parts (calls.Synonym user name) = inl (user, name)
any_call_parts (calls.SetSynonym user name to) = inr (inl (user, (name, to)))
any_call_parts (calls.Locate name mode) = inr (inr (inl (name, mode)))
any_call_parts (calls.SetBirth name to) = inr (inr (inr (inl (name, to))))
any_call_parts (calls.Describe name mode) = inr (inr (inr (inr (inl (name, mode)))))
any_call_parts (calls.Run section values fetch from_) = inr (inr (inr (inr (inr (inl (section, (values, (fetch, from_))))))))
any_call_parts (calls.RunStored id name mode values fetch from_) =
    inr (inr (inr (inr (inr (inr (inl (id, (name, (mode, (values, (fetch, from_)))))))))))
any_call_parts (calls.MakeTable name made columns indexes) =
    inr (inr (inr (inr (inr (inr (inr (inl (name, (made, (columns, indexes))))))))))
any_call_parts (calls.PutRows name rows) = inr (inr (inr (inr (inr (inr (inr (inr (inl (name, rows)))))))))
any_call_parts (calls.Dump name from_) = inr (inr (inr (inr (inr (inr (inr (inr (inr (inl (name, from_))))))))))
any_call_parts (calls.DropTable name) = inr (inr (inr (inr (inr (inr (inr (inr (inr (inr (inl name))))))))))
any_call_parts (calls.MakeIndex name made index column) =
    inr (inr (inr (inr (inr (inr (inr (inr (inr (inr (inr (inl (name, (made, (index, column))))))))))))))
any_call_parts (calls.DropIndex name made index) =
    inr (inr (inr (inr (inr (inr (inr (inr (inr (inr (inr (inr (inl (name, (made, index))))))))))))))
any_call_parts (calls.Program user name mode) =
    inr (inr (inr (inr (inr (inr (inr (inr (inr (inr (inr (inr (inr (inl (user, (name, mode)))))))))))))))
any_call_parts (calls.Step user name i) =
    inr (inr (inr (inr (inr (inr (inr (inr (inr (inr (inr (inr (inr (inr (inl (user, (name, i))))))))))))))))
any_call_parts (calls.SetProgram user name head) =
    inr (inr (inr (inr (inr (inr (inr (inr (inr (inr (inr (inr (inr (inr (inr (inl (user, (name, head)))))))))))))))))
any_call_parts (calls.SetStep user name i body) =
    inr (inr (inr (inr (inr (inr (inr (inr (inr (inr (inr (inr (inr (inr (inr (inr (inl (
      user,
      (
        name,
        (
          i,
          body,
        ),
      ),
    )))))))))))))))))
any_call_parts (calls.KeepSection id section) =
    inr (inr (inr (inr (inr (inr (inr (inr (inr (inr (inr (inr (inr (inr (inr (inr (inr (id, section)))))))))))))))))

-- a call, also one that inserts columns
unfoldable pub any_call : Form Call
any_call = enum any_call_of any_call_parts
    (variant 1 (both ident ident)
    (variant 2 (both ident (both ident (option swn)))
    (variant 3 (both swn mode)
    (variant 4 (both swn (option site))
    (variant 5 (both swn mode)
    (variant 6 (both section (both (list value) (both (option value) eight_bytes)))
    (variant 7 (both section_id (both swn (both mode (both (list value) (both (option value) eight_bytes)))))
    (variant 8 (both swn (both txn (both (list col_def) (list index_of))))
    (variant 9 (both swn (list (list value)))
    (variant 10 (both swn eight_bytes)
    (variant 11 swn
    (variant 12 (both swn (both txn (both ident (count_below 256))))
    (variant 13 (both swn (both txn ident))
    (variant 14 (both ident (both ident mode))
    (variant 15 (both ident (both ident (count_below 256)))
    (variant 16 (both ident (both ident (option head)))
    (variant 17 (both ident (both ident (both (count_below 256) body)))
    (last 18 (both section_id section)))))))))))))))))))
