-- What changes do to the database.
use Rattle.std.specs.Prelude.{List, ◌++◌}
use Rattle.rs_base.specs.declared.value.Value.{Value}
use Rattle.rs_mean.specs.declared.change.Change.{Change}
use Rattle.rs_mean.specs.declared.change.Change.TheVariants as changes
use Rattle.rs_mean.specs.Database.{Database, with_table, without_table, changing, with_synonym, without_synonym}
use Rattle.rs_mean.specs.declared.table.Table.{Table}

-- the table with these rows at its end
abbrev pub with_rows : List (List Value) → Table → Table
with_rows rows table = record table { rows = table.rows ++ rows }

abbrev pub changed : Change → Database → Database
changed changes.Nothing db = db
changed (changes.PutTable name table) db = with_table name table db
changed (changes.DropTable name) db = without_table name db
changed (changes.SetIndexes name indexes) db = changing name (λ table. record table { indexes = indexes }) db
changed (changes.AppendRows name rows) db = changing name (with_rows rows) db
changed (changes.SetRows name rows) db = changing name (λ table. record table { rows = rows }) db
changed (changes.PutSynonym synonym name) db = with_synonym synonym name db
changed (changes.DropSynonym synonym) db = without_synonym synonym db
