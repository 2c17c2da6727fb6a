-- A table that is read, and the number of its reads.
use Rattle.std.specs.Prelude.{ℕ, ◌+◌, ◌-◌, ◌^◌, min}
use Rattle.rs_rows.specs.TableRows.{TableRows}

-- the table, and how often a row was read
pub record CountedRows : Type 0 where
  pub table : TableRows
  pub reads : ℕ

-- a count raised by one, which stays at 2 ^ 64 - 1
abbrev pub raised : ℕ → ℕ
raised reads = min (reads + 1) (2 ^ 64 - 1)
