-- The names of a table's columns.
use Rattle.std.specs.Prelude.{ℕ, Bool, true, ◌&&◌, not, List, [], ◌∷◌, bytes_eq}
use Rattle.std.specs.List.{list_any}
use Rattle.rs_ast.specs.declared.column.ColDef.{ColDef}

-- one of the columns has this name
abbrev pub has_name : List ColDef → List ℕ → Bool
has_name columns name = list_any (λ column. bytes_eq column.name name) columns

-- no two columns have one name
abbrev pub names_differ : List ColDef → Bool
names_differ [] = true
names_differ (column ∷ columns) = not (has_name columns column.name) && names_differ columns
