-- The rows of a table by number: what each change does, what a number finds, and what is true of every table.
use Rattle.std.specs.Prelude.{ℕ, ◌+◌, ◌^◌, ◌<◌, ◌≤◌, ◌==◌, not, if◌then◌else◌, Option, List, [], ◌∷◌, ◌++◌, length, map, filter, sum_by, All}
use Rattle.std.specs.List.Sorted.{IsStrictlySortedBy}
use Rattle.std.specs.Map.{lookup}
use Rattle.std.specs.Ordering.{nat_cmp}
use Rattle.rs_base.specs.Sizes.{row_size}
use Rattle.rs_base.specs.declared.value.Value.{Value}
use Rattle.rs_rows.specs.Limits.{max_row_bytes, max_rows}

-- rows, each with its number
abbrev pub RowsByNumber : Type 0
RowsByNumber = List (ℕ × List Value)

-- the rows of a table in order of insertion, each with its number, and the number of the next row
pub record TableRows : Type 0 where
  pub rows : List (ℕ × List Value)
  pub next : ℕ

-- ---- what is there

-- the row numbers in order of insertion
abbrev pub numbers : RowsByNumber → List ℕ
numbers rows = map (λ entry. entry.0) rows

-- the row with this number, if there is one
abbrev pub row_of : ℕ → RowsByNumber → Option (List Value)
row_of number rows = lookup (λ other. number == other) rows

-- the encoded size of the rows
abbrev pub bytes_of : RowsByNumber → ℕ
bytes_of rows = sum_by row_size (map (λ entry. entry.1) rows)

-- ---- changes

-- all rows but the one with this number
abbrev pub without : ℕ → RowsByNumber → RowsByNumber
without number rows = filter (λ entry. not (number == entry.0)) rows

-- this row in place of the one with this number, if there is one
abbrev pub with_row : ℕ → List Value → RowsByNumber → RowsByNumber
with_row number row rows = map (λ entry. if number == entry.0 then (entry.0, row) else entry) rows

-- no rows yet
abbrev pub empty : TableRows
empty = record { rows = []; next = 0 }

-- one more row, at the end, with the next number
abbrev pub inserted : List Value → TableRows → TableRows
inserted row table = record { rows = table.rows ++ (table.next, row) ∷ []; next = table.next + 1 }

-- the row with this number is gone; the next number stays
abbrev pub removed : ℕ → TableRows → TableRows
removed number table = record table { rows = without number table.rows }

-- this row is in place of the one with this number, if there is one
abbrev pub replaced : ℕ → List Value → TableRows → TableRows
replaced number row table = record table { rows = with_row number row table.rows }

-- ---- limits

-- a row that a table may have; `fits_row` of Limits is its test
abbrev pub IsSmall : List Value → Type 0
IsSmall row = row_size row ≤ max_row_bytes

-- there is room for one more row
abbrev pub HasRoom : TableRows → Type 0
HasRoom table = (length table.rows < max_rows) × (table.next < 2 ^ 63)

-- what is true of every table: the numbers rise and are below the next; at most 65,536 rows, each of at most 1,024 bytes
pub record IsTable (table : TableRows) : Type 0 where
  pub rising : IsStrictlySortedBy nat_cmp (numbers table.rows)
  pub below : All (λ entry. entry.0 < table.next) table.rows
  pub few : length table.rows ≤ max_rows
  pub small : All (λ entry. IsSmall entry.1) table.rows
