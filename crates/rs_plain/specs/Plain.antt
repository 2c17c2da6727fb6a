-- The answer of a statement on rows over given tables, without synonyms and whatever the number of sites.
use Rattle.std.specs.Prelude.{ℕ, is_none, List, [], ◌∷◌, map, find, Option, Some, None}
use Rattle.std.specs.Ordering.{is_eq}
use Rattle.rs_base.specs.declared.name.Swn.{Swn}
use Rattle.rs_base.specs.declared.reply.Denial.TheVariants as denials
use Rattle.rs_base.specs.declared.value.Value.{Value}
use Rattle.rs_base.specs.Name.{resolve, name_cmp}
use Rattle.rs_ast.specs.declared.column.ColDef.{ColDef}
use Rattle.rs_ast.specs.declared.stmt.Dml.{Dml}
use Rattle.rs_scope.specs.Denials.{Test, test}
use Rattle.rs_bind.specs.Entries.{defined}
use Rattle.rs_scope.specs.declared.heading.Heading.{Heading}
use Rattle.rs_mean.specs.declared.change.Effect.{Effect}
use Rattle.rs_plain.specs.declared.plain.PlainTable.{PlainTable}
use Rattle.rs_mean.specs.RowStatements.{Tables, no_arguments, effect_over}

-- ---- the tables

-- the first table of this name, if there is one
abbrev pub plain_named : List PlainTable → Swn → Option PlainTable
plain_named tables name = find (λ table. is_eq (name_cmp name table.name)) tables

abbrev pub columns_of : Option PlainTable → List ColDef
columns_of None = []
columns_of (Some table) = map defined table.columns

abbrev pub rows_of : Option PlainTable → List (List Value)
rows_of None = []
rows_of (Some table) = table.rows

abbrev pub plain_heading : List PlainTable → Swn → Heading
plain_heading tables name = record { name = name; columns = columns_of (plain_named tables name) }

abbrev pub plain_rows : List PlainTable → Swn → List (List Value)
plain_rows tables name = rows_of (plain_named tables name)

-- no table has the name
abbrev pub plain_tests : List PlainTable → Swn → List Test
plain_tests tables name = test (is_none (plain_named tables name)) denials.NoTable ∷ []

-- the tables as a statement on rows sees them
abbrev pub plain_tables : List PlainTable → Tables
plain_tables tables = record { tests = plain_tests tables; heading = plain_heading tables; rows = plain_rows tables }

-- ---- statements

-- the effect of a statement for this user, who asks at this site
abbrev pub plain_effect : List PlainTable → List ℕ → ℕ → Dml → Effect
plain_effect tables user site dml = effect_over no_arguments (plain_tables tables) (λ written. resolve written user site) dml
