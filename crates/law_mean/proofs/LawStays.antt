-- Invariants of each table, whatever statement is done.
use Rattle.std.proofs.Common.{◌≡◌, ◌≤◌, false, List, sym, subst, arith}
use Rattle.std.specs.Prelude.{nat_lt}
use Rattle.std.proofs.lemmas.Bool.Decides.{nat_tests}
use Rattle.rs_base.specs.declared.name.Swn.{Swn}
use Rattle.rs_base.specs.declared.reply.Answer.{Answer}
use Rattle.rs_ast.specs.declared.stmt.Dml.{Dml}
use Rattle.rs_ast.specs.declared.stmt.Dml.TheVariants as dmls
use Rattle.rs_ast.specs.declared.stmt.Stmt.{Stmt}
use Rattle.rs_ast.specs.declared.stmt.Stmt.TheVariants as stmts
use Rattle.rs_mean.specs.declared.change.Change.{Change}
use Rattle.rs_mean.specs.declared.execution.Execution.{Execution}
use Rattle.rs_mean.specs.Database.{Database, table_named}
use Rattle.law_mean.specs.Laws.{EachTable, IsAtSite, IsWithin, HasDistinctColumns, HasDistinctIndexes, IsTyped}
use Rattle.rs_mean.specs.Names.{name_of, names_no_site}
use Rattle.rs_mean.specs.TableStatements.{new_index}
use Rattle.law_mean.proofs.LawKept.{Keeps, each_named, empty_within, indexed_within, longer_within, set_within, others_within, columns_distinct, added_distinct, left_distinct}
use Rattle.law_mean.proofs.LawLimits.{IsFew}
use Rattle.law_mean.proofs.LawStatements.{DoesOfDml, Does, index_in, sets_in}
use Rattle.law_mean.proofs.LawTests.{neither}
use Rattle.law_mean.proofs.LawTyped.{empty_typed, indexed_typed, longer_typed, updated_typed, others_typed}

module _ (db : Database) (execution : Execution) (change : Change) (given : List Answer) where
  module _ (each : EachTable IsWithin db) where
    dml_within : (dml : Dml) → DoesOfDml db execution dml change given → Keeps IsWithin db change
    dml_within (dmls.Select query) so = subst (Keeps IsWithin db) (sym so.is) tt
    dml_within (dmls.Insert written rows) so =
        let name : Swn = name_of db execution written in
        subst (Keeps IsWithin db) (sym so.is) (longer_within (table_named name db) _ (each_named IsWithin db each name) so.room)
    dml_within (dmls.Update written sets clauses) so =
        let name : Swn = name_of db execution written in subst (Keeps IsWithin db) (sym so.is)
        (set_within (sets_in db name sets) so.clauses (table_named name db) so.new (each_named IsWithin db each name) so.made so.within)
    dml_within (dmls.Delete written clauses) so =
        let name : Swn = name_of db execution written in
        subst (Keeps IsWithin db) (sym so.is) (others_within (table_named name db) so.clauses (each_named IsWithin db each name))

    pub stays_within : (stmt : Stmt) → Does db execution stmt change given → Keeps IsWithin db change
    stays_within (stmts.CreateTable written columns) so = subst (Keeps IsWithin db) (sym so.is) (empty_within execution.txn (name_of db execution written) columns)
    stays_within (stmts.DropTable written) so = subst (Keeps IsWithin db) (sym so.is) tt
    stays_within (stmts.CreateIndex index written column) so =
        let name : Swn = name_of db execution written in subst (Keeps IsWithin db) (sym so.is) (indexed_within (table_named name db) _ (each_named IsWithin db each name))
    stays_within (stmts.DropIndex index written) so =
        let name : Swn = name_of db execution written in subst (Keeps IsWithin db) (sym so.is) (indexed_within (table_named name db) _ (each_named IsWithin db each name))
    stays_within (stmts.CreateSynonym synonym written) so = subst (Keeps IsWithin db) (sym so.is) tt
    stays_within (stmts.DropSynonym synonym) so = subst (Keeps IsWithin db) (sym so.is) tt
    stays_within (stmts.Dml dml) so = dml_within dml so
    stays_within stmt so = subst (Keeps IsWithin db) (sym so.is) tt

  module _ (each : EachTable (IsAtSite db.sites) db) where
    dml_places : (dml : Dml) → DoesOfDml db execution dml change given → Keeps (IsAtSite db.sites) db change
    dml_places (dmls.Select query) so = subst (Keeps (IsAtSite db.sites) db) (sym so.is) tt
    dml_places (dmls.Insert written rows) so = subst (Keeps (IsAtSite db.sites) db) (sym so.is) (each_named (IsAtSite db.sites) db each (name_of db execution written))
    dml_places (dmls.Update written sets clauses) so = subst (Keeps (IsAtSite db.sites) db) (sym so.is) (each_named (IsAtSite db.sites) db each (name_of db execution written))
    dml_places (dmls.Delete written clauses) so = subst (Keeps (IsAtSite db.sites) db) (sym so.is) (each_named (IsAtSite db.sites) db each (name_of db execution written))

    birth_within : (name : Swn) → names_no_site db name ≡ false → name.birth ≤ db.sites
    birth_within name home =
        let low = (neither (nat_lt db.sites name.creator_site) (nat_lt db.sites name.birth) home).1 in
        grind (arith, nat_tests, low)

    pub places_stay : (stmt : Stmt) → Does db execution stmt change given → Keeps (IsAtSite db.sites) db change
    places_stay (stmts.CreateTable written columns) so = subst (Keeps (IsAtSite db.sites) db) (sym so.is) (birth_within (name_of db execution written) so.home)
    places_stay (stmts.DropTable written) so = subst (Keeps (IsAtSite db.sites) db) (sym so.is) tt
    places_stay (stmts.CreateIndex index written column) so = subst (Keeps (IsAtSite db.sites) db) (sym so.is) (each_named (IsAtSite db.sites) db each (name_of db execution written))
    places_stay (stmts.DropIndex index written) so = subst (Keeps (IsAtSite db.sites) db) (sym so.is) (each_named (IsAtSite db.sites) db each (name_of db execution written))
    places_stay (stmts.CreateSynonym synonym written) so = subst (Keeps (IsAtSite db.sites) db) (sym so.is) tt
    places_stay (stmts.DropSynonym synonym) so = subst (Keeps (IsAtSite db.sites) db) (sym so.is) tt
    places_stay (stmts.Dml dml) so = dml_places dml so
    places_stay stmt so = subst (Keeps (IsAtSite db.sites) db) (sym so.is) tt

  module _ (each : EachTable HasDistinctColumns db) where
    dml_columns : (dml : Dml) → DoesOfDml db execution dml change given → Keeps HasDistinctColumns db change
    dml_columns (dmls.Select query) so = subst (Keeps HasDistinctColumns db) (sym so.is) tt
    dml_columns (dmls.Insert written rows) so = subst (Keeps HasDistinctColumns db) (sym so.is) (each_named HasDistinctColumns db each (name_of db execution written))
    dml_columns (dmls.Update written sets clauses) so = subst (Keeps HasDistinctColumns db) (sym so.is) (each_named HasDistinctColumns db each (name_of db execution written))
    dml_columns (dmls.Delete written clauses) so = subst (Keeps HasDistinctColumns db) (sym so.is) (each_named HasDistinctColumns db each (name_of db execution written))

    pub columns_stay : (stmt : Stmt) → Does db execution stmt change given → Keeps HasDistinctColumns db change
    columns_stay (stmts.CreateTable written columns) so = subst (Keeps HasDistinctColumns db) (sym so.is) (columns_distinct columns so.differ)
    columns_stay (stmts.DropTable written) so = subst (Keeps HasDistinctColumns db) (sym so.is) tt
    columns_stay (stmts.CreateIndex index written column) so = subst (Keeps HasDistinctColumns db) (sym so.is) (each_named HasDistinctColumns db each (name_of db execution written))
    columns_stay (stmts.DropIndex index written) so = subst (Keeps HasDistinctColumns db) (sym so.is) (each_named HasDistinctColumns db each (name_of db execution written))
    columns_stay (stmts.CreateSynonym synonym written) so = subst (Keeps HasDistinctColumns db) (sym so.is) tt
    columns_stay (stmts.DropSynonym synonym) so = subst (Keeps HasDistinctColumns db) (sym so.is) tt
    columns_stay (stmts.Dml dml) so = dml_columns dml so
    columns_stay stmt so = subst (Keeps HasDistinctColumns db) (sym so.is) tt

  module _ (each : EachTable HasDistinctIndexes db) where
    dml_indexes : (dml : Dml) → DoesOfDml db execution dml change given → Keeps HasDistinctIndexes db change
    dml_indexes (dmls.Select query) so = subst (Keeps HasDistinctIndexes db) (sym so.is) tt
    dml_indexes (dmls.Insert written rows) so = subst (Keeps HasDistinctIndexes db) (sym so.is) (each_named HasDistinctIndexes db each (name_of db execution written))
    dml_indexes (dmls.Update written sets clauses) so = subst (Keeps HasDistinctIndexes db) (sym so.is) (each_named HasDistinctIndexes db each (name_of db execution written))
    dml_indexes (dmls.Delete written clauses) so = subst (Keeps HasDistinctIndexes db) (sym so.is) (each_named HasDistinctIndexes db each (name_of db execution written))

    pub indexes_stay : (stmt : Stmt) → Does db execution stmt change given → Keeps HasDistinctIndexes db change
    indexes_stay (stmts.CreateTable written columns) so = subst (Keeps HasDistinctIndexes db) (sym so.is) (λ i j d less low. absurd (omega arith))
    indexes_stay (stmts.DropTable written) so = subst (Keeps HasDistinctIndexes db) (sym so.is) tt
    indexes_stay (stmts.CreateIndex index written column) so =
        let name : Swn = name_of db execution written in
        subst (Keeps HasDistinctIndexes db) (sym so.is)
        (added_distinct (new_index execution.txn index (index_in db name column)) (table_named name db) (each_named HasDistinctIndexes db each name) so.new_name so.new_column)
    indexes_stay (stmts.DropIndex index written) so =
        let name : Swn = name_of db execution written in
        subst (Keeps HasDistinctIndexes db) (sym so.is) (left_distinct (table_named name db) index (each_named HasDistinctIndexes db each name))
    indexes_stay (stmts.CreateSynonym synonym written) so = subst (Keeps HasDistinctIndexes db) (sym so.is) tt
    indexes_stay (stmts.DropSynonym synonym) so = subst (Keeps HasDistinctIndexes db) (sym so.is) tt
    indexes_stay (stmts.Dml dml) so = dml_indexes dml so
    indexes_stay stmt so = subst (Keeps HasDistinctIndexes db) (sym so.is) tt

  module _ (each : EachTable IsTyped db) where
    dml_typed : (dml : Dml) → DoesOfDml db execution dml change given → Keeps IsTyped db change
    dml_typed (dmls.Select query) so = subst (Keeps IsTyped db) (sym so.is) tt
    dml_typed (dmls.Insert written rows) so =
        let name : Swn = name_of db execution written in
        subst (Keeps IsTyped db) (sym so.is) (longer_typed name.object (table_named name db) rows (each_named IsTyped db each name) so.fit)
    dml_typed (dmls.Update written sets clauses) so =
        let name : Swn = name_of db execution written in
        subst (Keeps IsTyped db) (sym so.is) (updated_typed name.object (table_named name db) sets so.clauses so.new (each_named IsTyped db each name) so.fit so.made)
    dml_typed (dmls.Delete written clauses) so =
        let name : Swn = name_of db execution written in
        subst (Keeps IsTyped db) (sym so.is) (others_typed (table_named name db) so.clauses (each_named IsTyped db each name))

    pub stays_typed : (stmt : Stmt) → IsFew stmt → Does db execution stmt change given → Keeps IsTyped db change
    stays_typed (stmts.CreateTable written columns) few so = subst (Keeps IsTyped db) (sym so.is) (empty_typed execution.txn (name_of db execution written) columns few)
    stays_typed (stmts.DropTable written) few so = subst (Keeps IsTyped db) (sym so.is) tt
    stays_typed (stmts.CreateIndex index written column) few so =
        let name : Swn = name_of db execution written in subst (Keeps IsTyped db) (sym so.is) (indexed_typed (table_named name db) _ (each_named IsTyped db each name))
    stays_typed (stmts.DropIndex index written) few so =
        let name : Swn = name_of db execution written in subst (Keeps IsTyped db) (sym so.is) (indexed_typed (table_named name db) _ (each_named IsTyped db each name))
    stays_typed (stmts.CreateSynonym synonym written) few so = subst (Keeps IsTyped db) (sym so.is) tt
    stays_typed (stmts.DropSynonym synonym) few so = subst (Keeps IsTyped db) (sym so.is) tt
    stays_typed (stmts.Dml dml) few so = dml_typed dml so
    stays_typed stmt few so = subst (Keeps IsTyped db) (sym so.is) tt
