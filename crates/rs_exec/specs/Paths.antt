-- The numbers of the rows on a path, by an index, and rows by their numbers.
use Rattle.std.specs.Prelude.{◌≡◌, ℕ, ◌==◌, Bool, true, ◌||◌, is_some, List, Contains, Option, Some, None, filter_map, find}
use Rattle.std.specs.List.Sorted.{IsStrictlySortedBy}
use Rattle.std.specs.Option.{option_map}
use Rattle.std.specs.Ordering.{nat_cmp}
use Rattle.rs_ast.specs.declared.bound.BoundCmp.{BoundCmp}
use Rattle.rs_index.specs.Index.{Index}
use Rattle.rs_index.specs.Pairs.{pairs_of}
use Rattle.rs_plan.specs.Section.{compares, is_equality, is_range}
use Rattle.rs_rows.specs.TableRows.{RowsByNumber, row_of}

-- an index over these rows
abbrev pub IsIndexOf : RowsByNumber → Index → Type 0
IsIndexOf rows index = index.pairs ≡ pairs_of index.column rows

-- a path that goes by an index has one of the indexes
abbrev pub has_index : Option ℕ → List Index → Bool
has_index None indexes = true
has_index (Some column) indexes = is_some (find (λ index. index.column == column) indexes)

-- the clause is one comparison of this column with a value or a parameter, by `=` or by an order
abbrev pub is_path_clause : ℕ → List BoundCmp → Bool
is_path_clause column clause = compares is_equality column clause || compares is_range column clause

-- the rows with these numbers, in the order of the numbers
abbrev pub rows_at : List ℕ → RowsByNumber → RowsByNumber
rows_at numbers rows = filter_map (λ number. option_map (λ row. (number, row)) (row_of number rows)) numbers

-- the numbers rise, and are those of the other list
pub record IsRisingOf (others numbers : List ℕ) : Type 0 where
  pub rising : IsStrictlySortedBy nat_cmp numbers
  pub from : (number : ℕ) → Contains numbers number → Contains others number
  pub to : (number : ℕ) → Contains others number → Contains numbers number
