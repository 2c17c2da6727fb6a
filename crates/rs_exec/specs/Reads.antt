-- Which rows a path may read.
use Rattle.std.specs.Prelude.{ℕ, List, [], filter, find, length, Option, Some, None}
use Rattle.std.specs.Option.{option_or}
use Rattle.rs_base.specs.declared.value.Value.{Value}
use Rattle.rs_ast.specs.declared.bound.BoundCmp.{BoundCmp}
use Rattle.rs_plan.specs.declared.section.Section.{Section}
use Rattle.rs_plan.specs.Section.{compares, is_equality, is_range}
use Rattle.rs_rows.specs.TableRows.{RowsByNumber}
use Rattle.rs_eval.specs.Clauses.{clause_holds}
use Rattle.rs_exec.specs.Running.{predicate_of}

-- The clause by which a path over an index of this column goes: the first equality of the column with a value, else the
-- first range. That its column has the fetched value is the first clause of a fetch.
abbrev pub path_clause : ℕ → List (List BoundCmp) → Option (List BoundCmp)
path_clause column clauses = option_or (find (compares is_equality column) clauses) (find (compares is_range column) clauses)

-- the rows that satisfy the clause by which the path goes; all rows if there is none
abbrev pub satisfying : Option (List BoundCmp) → RowsByNumber → RowsByNumber
satisfying None rows = rows
satisfying (Some clause) rows = filter (λ entry. clause_holds entry.1 clause) rows

-- the rows that the path gives: all rows without an index
abbrev pub on_path : Option ℕ → List (List BoundCmp) → RowsByNumber → RowsByNumber
on_path None clauses rows = rows
on_path (Some column) clauses rows = satisfying (path_clause column clauses) rows

-- the rows that a predicate needs to read by the path; none without a predicate
abbrev pub needed : Option ℕ → Option (List (List BoundCmp)) → RowsByNumber → RowsByNumber
needed path None rows = []
needed path (Some clauses) rows = on_path path clauses rows

-- how many rows a section may read, by the column of the index by which its path goes, if it goes by one
unfoldable pub most_reads : Section → Option ℕ → List Value → Option Value → RowsByNumber → ℕ
most_reads section path values fetch rows = length (needed path (predicate_of section.kind values fetch) rows)
