-- The tables of a database that a site shows.
use Rattle.std.specs.Prelude.{ℕ, Bool, ◌==◌, List, map, filter}
use Rattle.rs_base.specs.declared.name.Swn.{Swn}
use Rattle.rs_mean.specs.Database.{Database}
use Rattle.rs_mean.specs.declared.table.Table.{Table}
use Rattle.rs_course.specs.declared.report.TableView.{TableView}

abbrev pub table_view : Swn × Table → TableView
table_view named = record { name = named.0; made = named.1.made; rows = named.1.rows }

-- the site of this number stores the table
abbrev pub is_at_site : ℕ → Swn × Table → Bool
is_at_site number named = named.1.place == number

-- the tables of a database that a site stores, sorted by name
abbrev pub tables_at : ℕ → Database → List TableView
tables_at number db = map table_view (filter (is_at_site number) db.tables)
