-- The groups of joined rows, each of which gives one row of the answer.
use Rattle.std.specs.Prelude.{ℕ, Bool, not, List, [], ◌∷◌, map, filter, Option, slice_get, if◌then◌else◌}
use Rattle.std.specs.Cmp.Lexicographic.{slice_cmp}
use Rattle.std.specs.Option.{option_cmp}
use Rattle.std.specs.Ordering.{is_eq}
use Rattle.std.specs.declared.cmp.Ordering.{Ordering}
use Rattle.rs_base.specs.declared.value.Value.{Value}
use Rattle.rs_base.specs.Value.{value_cmp}
use Rattle.rs_ast.specs.declared.shape.Shape.{Shape}

-- the distinct items, each where it comes first
abbrev pub once : {A : Type 0} → (A → A → Bool) → List A → List A
once same [] = []
once same (item ∷ items) = item ∷ filter (λ other. not (same item other)) (once same items)

-- the values of the columns by which a row is grouped
abbrev pub group_values : List ℕ → List Value → List (Option Value)
group_values column_indexes row = map (λ column_index. slice_get row column_index) column_indexes

abbrev pub group_cmp : List (Option Value) → List (Option Value) → Ordering
group_cmp = slice_cmp (option_cmp value_cmp)

abbrev pub same_group : List (Option Value) → List (Option Value) → Bool
same_group one other = is_eq (group_cmp one other)

-- the rows of one group
abbrev pub members_of : List ℕ → List (List Value) → List (Option Value) → List (List Value)
members_of column_indexes rows values = filter (λ row. same_group values (group_values column_indexes row)) rows

-- the rows in groups of equal values, one group for each combination of values
abbrev pub grouped_by : List ℕ → List (List Value) → List (List (List Value))
grouped_by column_indexes rows = map (members_of column_indexes rows) (once same_group (map (group_values column_indexes) rows))

-- the groups of a grouped query: without columns to group by there is one, also over no rows
abbrev pub groups_by : List ℕ → List (List Value) → List (List (List Value))
groups_by [] rows = rows ∷ []
groups_by (column_index ∷ column_indexes) rows = grouped_by (column_index ∷ column_indexes) rows

-- in a query that isn't grouped each joined row is a group of its own
abbrev pub groups_of : Shape → List (List Value) → List (List (List Value))
groups_of shape rows = if shape.grouped then groups_by shape.group rows else map (λ row. row ∷ []) rows
