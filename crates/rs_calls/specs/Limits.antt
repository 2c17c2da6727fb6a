-- The forms of calls and changes with the limit that their types don't guarantee: no term of a row to be inserted is a column.
use Rattle.std.specs.Prelude.{Bool, true, false, List}
use Rattle.std.specs.List.{list_all}
use Rattle.rs_ast.specs.declared.bound.BoundTerm.{BoundTerm}
use Rattle.rs_ast.specs.declared.bound.BoundTerm.TheVariants as terms
use Rattle.rs_plan.specs.declared.call.Call.{Call}
use Rattle.rs_plan.specs.declared.call.Call.TheVariants as calls
use Rattle.rs_plan.specs.declared.change.Change.{Change}
use Rattle.rs_plan.specs.declared.change.Change.TheVariants as changes
use Rattle.rs_plan.specs.declared.section.SectionKind.{SectionKind}
use Rattle.rs_plan.specs.declared.section.SectionKind.TheVariants as sections
use Rattle.rs_encode.specs.Form.{Form, tested}
use Rattle.rs_calls.specs.Calls.{any_call}
use Rattle.rs_calls.specs.Changes.{any_change}

abbrev pub is_no_column : BoundTerm → Bool
is_no_column (terms.Place column_index) = false
is_no_column (terms.Lit value) = true
is_no_column (terms.Param param) = true

-- no term of the rows is a column
abbrev pub have_no_column : List (List BoundTerm) → Bool
have_no_column rows = list_all (list_all is_no_column) rows

abbrev pub kind_is_within : SectionKind → Bool
kind_is_within (sections.Insert rows) = have_no_column rows
kind_is_within other = true

abbrev pub call_is_within : Call → Bool
call_is_within (calls.Run section values fetch from) = kind_is_within section.kind
call_is_within (calls.KeepSection id section) = kind_is_within section.kind
call_is_within other = true

abbrev pub change_is_within : Change → Bool
change_is_within (changes.Keep id section path) = kind_is_within section.kind
change_is_within other = true

-- a call
unfoldable pub call : Form Call
call = tested call_is_within any_call

-- a change of what a site stores
unfoldable pub change : Form Change
change = tested change_is_within any_change
