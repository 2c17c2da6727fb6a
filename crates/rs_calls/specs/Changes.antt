-- The form of changes.
use Rattle.rs_ast.specs.declared.column.ColDef.{ColDef}
use Rattle.rs_ast.specs.declared.entry.IndexOf.{IndexOf}
use Rattle.rs_base.specs.declared.name.Swn.{Swn}
use Rattle.rs_base.specs.declared.txn.Txn.{Txn}
use Rattle.rs_base.specs.declared.value.Value.{Value}
use Rattle.rs_calls.specs.Programs.{body, head}
use Rattle.rs_calls.specs.Sections.{path, section, section_id}
use Rattle.rs_encode.specs.Form.{Form, both, list, option}
use Rattle.rs_encode.specs.Values.{count, count_below, ident, site, swn, txn, value}
use Rattle.rs_encode.specs.Variants.{enum, last, variant}
use Rattle.rs_encode_ast.specs.Entries.{col_def, index_of}
use Rattle.rs_plan.specs.declared.change.Change.{Change}
use Rattle.rs_plan.specs.declared.change.Change.TheVariants as changes
use Rattle.rs_plan.specs.declared.path.Path.{Path}
use Rattle.rs_plan.specs.declared.program.Body.{Body}
use Rattle.rs_plan.specs.declared.program.Head.{Head}
use Rattle.rs_plan.specs.declared.section.Section.{Section}
use Rattle.rs_plan.specs.declared.section_id.SectionId.{SectionId}
use Rattle.std.specs.Prelude.{List, Option, ℕ, ◌⊎◌}
use mathlib.Core.Logic.{inl, inr}

abbrev pub any_change_of :
    ((List ℕ) × ((List ℕ) × (Option Swn))) ⊎ ((Swn × (Option ℕ)) ⊎ (((List ℕ) × ((List ℕ) × (Option Head))) ⊎ (((List ℕ)
    × ((List ℕ) × (ℕ × Body))) ⊎ ((SectionId × (Section × Path)) ⊎ ((Swn × (Txn × ((List ColDef) × (List
    IndexOf)))) ⊎ ((Swn × (List (List Value))) ⊎ ((Swn × (List ℕ)) ⊎ ((Swn × (List (ℕ × (List Value)))) ⊎ (Swn ⊎
    ((Swn × (Txn × ((List ℕ) × (ℕ × Txn)))) ⊎ (Swn × (Txn × (List ℕ))))))))))))) → Change
any_change_of (inl f) = changes.Synonym f.0 f.1.0 f.1.1
any_change_of (inr (inl f)) = changes.Birth f.0 f.1
any_change_of (inr (inr (inl f))) = changes.Head f.0 f.1.0 f.1.1
any_change_of (inr (inr (inr (inl f)))) = changes.Body f.0 f.1.0 f.1.1.0 f.1.1.1
any_change_of (inr (inr (inr (inr (inl f))))) = changes.Keep f.0 f.1.0 f.1.1
any_change_of (inr (inr (inr (inr (inr (inl f)))))) = changes.MakeTable f.0 f.1.0 f.1.1.0 f.1.1.1
any_change_of (inr (inr (inr (inr (inr (inr (inl f))))))) = changes.PutRows f.0 f.1
any_change_of (inr (inr (inr (inr (inr (inr (inr (inl f)))))))) = changes.Remove f.0 f.1
any_change_of (inr (inr (inr (inr (inr (inr (inr (inr (inl f))))))))) = changes.Replace f.0 f.1
any_change_of (inr (inr (inr (inr (inr (inr (inr (inr (inr (inl f)))))))))) = changes.DropTable f
any_change_of (inr (inr (inr (inr (inr (inr (inr (inr (inr (inr (inl f))))))))))) =
    changes.MakeIndex f.0 f.1.0 f.1.1.0 f.1.1.1.0 f.1.1.1.1
any_change_of (inr (inr (inr (inr (inr (inr (inr (inr (inr (inr (inr f))))))))))) = changes.DropIndex f.0 f.1.0 f.1.1

abbrev pub any_change_parts : Change →
    ((List ℕ) × ((List ℕ) × (Option Swn))) ⊎ ((Swn × (Option ℕ)) ⊎ (((List ℕ) × ((List ℕ) × (Option Head))) ⊎ (((List ℕ)
    × ((List ℕ) × (ℕ × Body))) ⊎ ((SectionId × (Section × Path)) ⊎ ((Swn × (Txn × ((List ColDef) × (List
    IndexOf)))) ⊎ ((Swn × (List (List Value))) ⊎ ((Swn × (List ℕ)) ⊎ ((Swn × (List (ℕ × (List Value)))) ⊎ (Swn ⊎
    ((Swn × (Txn × ((List ℕ) × (ℕ × Txn)))) ⊎ (Swn × (Txn × (List ℕ)))))))))))))
any_change_parts (changes.Synonym user name to) = inl (user, (name, to))
any_change_parts (changes.Birth name to) = inr (inl (name, to))
any_change_parts (changes.Head user name head) = inr (inr (inl (user, (name, head))))
any_change_parts (changes.Body user name i body) = inr (inr (inr (inl (user, (name, (i, body))))))
any_change_parts (changes.Keep id section path) = inr (inr (inr (inr (inl (id, (section, path))))))
any_change_parts (changes.MakeTable name made columns indexes) =
    inr (inr (inr (inr (inr (inl (name, (made, (columns, indexes))))))))
any_change_parts (changes.PutRows name rows) = inr (inr (inr (inr (inr (inr (inl (name, rows)))))))
any_change_parts (changes.Remove name numbers) = inr (inr (inr (inr (inr (inr (inr (inl (name, numbers))))))))
any_change_parts (changes.Replace name rows) = inr (inr (inr (inr (inr (inr (inr (inr (inl (name, rows)))))))))
any_change_parts (changes.DropTable name) = inr (inr (inr (inr (inr (inr (inr (inr (inr (inl name)))))))))
any_change_parts (changes.MakeIndex name made index column index_made) =
    inr (inr (inr (inr (inr (inr (inr (inr (inr (inr (inl (name, (made, (index, (column, index_made))))))))))))))
any_change_parts (changes.DropIndex name made index) =
    inr (inr (inr (inr (inr (inr (inr (inr (inr (inr (inr (name, (made, index))))))))))))

-- a change of what a site stores, also one of a section that inserts columns
unfoldable pub any_change : Form Change
any_change = enum any_change_of any_change_parts
    (variant 1 (both ident (both ident (option swn)))
    (variant 2 (both swn (option site))
    (variant 3 (both ident (both ident (option head)))
    (variant 4 (both ident (both ident (both (count_below 256) body)))
    (variant 5 (both section_id (both section path))
    (variant 6 (both swn (both txn (both (list col_def) (list index_of))))
    (variant 7 (both swn (list (list value)))
    (variant 8 (both swn (list count))
    (variant 9 (both swn (list (both count (list value))))
    (variant 10 swn
    (variant 11 (both swn (both txn (both ident (both (count_below 256) txn))))
    (last 12 (both swn (both txn ident))))))))))))))
