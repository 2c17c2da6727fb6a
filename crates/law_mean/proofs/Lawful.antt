-- The laws.
use Rattle.std.proofs.Common.{◌≡◌, ◌≤◌, ℕ, sym, List, [], ◌∷◌, ◌++◌, map, length, is_none, true, false, Option, Some, None, IsSome, Result, Ok, Err, refl, ap, ◌∙◌, subst, arith}
use Rattle.std.specs.List.Sorted.{IsStrictlySortedBy}
use Rattle.std.specs.Option.{option_map}
use Rattle.std.proofs.lemmas.List.Elements.{All-nil}
use Rattle.rs_base.specs.declared.name.Swn.{Swn}
use Rattle.rs_base.specs.declared.reply.Answer.{Answer}
use Rattle.rs_base.specs.declared.reply.Answer.TheVariants as answers
use Rattle.rs_base.specs.declared.reply.Denial.{Denial}
use Rattle.rs_base.specs.declared.value.Value.{Value}
use Rattle.rs_ast.specs.declared.bound.BoundCmp.{BoundCmp}
use Rattle.rs_ast.specs.declared.bound.BoundSet.{BoundSet}
use Rattle.rs_ast.specs.declared.change.Set.{Set}
use Rattle.rs_ast.specs.declared.clause.Clause.{Clause}
use Rattle.rs_ast.specs.declared.change.Term.TheVariants as terms
use Rattle.rs_ast.specs.declared.entry.IndexOf.{IndexOf}
use Rattle.rs_ast.specs.declared.stmt.Dml.TheVariants as dmls
use Rattle.rs_ast.specs.declared.stmt.Stmt.{Stmt}
use Rattle.rs_ast.specs.declared.stmt.Stmt.TheVariants as stmts
use Rattle.rs_mean.specs.declared.change.Change.{Change}
use Rattle.rs_mean.specs.declared.change.Change.TheVariants as changes
use Rattle.rs_mean.specs.declared.execution.Execution.{Execution}
use Rattle.rs_mean.specs.declared.synonym.Synonym.{Synonym}
use Rattle.rs_mean.specs.declared.table.Table.{Table}
use Rattle.rs_mean.specs.Changes.{changed, with_rows}
use Rattle.rs_mean.specs.Columns.{has_name}
use Rattle.rs_mean.specs.Database.{Database, table_named, IsInOrder, target_of, AreSynonymsInOrder}
use Rattle.law_mean.specs.Laws.{after, AnswersAreTyped, AreSet, assignments_on, predicate_on, DeniedChangesNothing, SelectChangesNothing, SitesStay, NamesStayInOrder, SynonymsStayInOrder, OthersStay, SynonymsStay, OtherSynonymsStay, IndexIsMade, IndexIsDropped, SynonymIsMade, SynonymIsDropped, TableIsMade, TableIsDropped, RowsAreAppended, RowsAreTakenOut, RowsAreChanged, EachTable, IsAtSite, IsWithin, TablesStayAtSites, TablesStayWithin, HasDistinctColumns, ColumnsStayDistinct, HasDistinctIndexes, IndexesStayDistinct, IsTyped, RowsStayTyped, written_of, synonym_of}
use Rattle.rs_mean.specs.Meaning.{effect_of}
use Rattle.rs_mean.specs.Names.{name_of, own_synonym}
use Rattle.rs_eval.specs.RowChanges.{other_rows, matching_count, updated_row, updated_rows, and_others}
use Rattle.rs_scope.specs.Predicates.{bound_clauses}
use Rattle.rs_scope.specs.Scope.{table_scope}
use Rattle.rs_bind_change.specs.Binding.{bound_set}
use Rattle.rs_mean.specs.RowStatements.{rows_of}
use Rattle.rs_mean.specs.TableStatements.{new_table, columns_of, indexes_of, column_index, has_index, is_indexed, new_index, without_index}
use Rattle.law_map.proofs.Entries.{lookup_put, lookup_gone}
use Rattle.law_mean.proofs.LawEffects.{holds_of_change}
use Rattle.law_mean.proofs.LawIndexes.{name_at, none_of_name}
use Rattle.law_mean.proofs.LawKept.{Keeps, each_changed, all_differ}
use Rattle.law_mean.proofs.LawLimits.{IsFew, is_few}
use Rattle.law_mean.proofs.LawRows.{given_as_written, as_many_updated, matching_at_most, others_and_matching}
use Rattle.law_mean.proofs.LawShown.{rows_shown}
use Rattle.law_mean.proofs.LawSynonyms.{TouchesSynonym, other_synonyms_at, synonyms_in_order}
use Rattle.law_mean.proofs.LawTouches.{touches, of_tables, touches_synonym}
use Rattle.law_mean.proofs.LawStays.{stays_within, places_stay, columns_stay, indexes_stay, stays_typed}
use Rattle.law_mean.proofs.LawStatements.{Does, does, effect_so, scope_in, sets_in}
use Rattle.law_mean.proofs.LawTables.{sites_stay_at, change_in_order, TouchesOnly, others_stay_at, IsOfTables, synonyms_stay_at, named_put, named_dropped, named_changing}
use Rattle.rs_mean.proofs.Meanings.{changed_is, outcome_is}
use Rattle.rs_mean.proofs.Orders.{synonym_total}

-- the database after an execution of this change
after_by : (db : Database) (execution : Execution) (change : Change) → (effect_of db execution).change ≡ change → after db execution ≡ changed change db
after_by db execution change is = changed_is db execution ∙ ap (λ one. changed one db) is

-- ---- what stays

pub denied_changes_nothing : DeniedChangesNothing
denied_changes_nothing db execution cause e = after_by db execution changes.Nothing ((effect_so db execution).idle cause (sym (outcome_is db execution) ∙ e))

pub select_changes_nothing : SelectChangesNothing
select_changes_nothing db execution query is =
    let idle : (effect_of db execution).change ≡ changes.Nothing
    = holds_of_change (Does db execution execution.stmt) (λ change. change ≡ changes.Nothing) (effect_of db execution) (effect_so db execution) refl
    (λ given so. (subst (λ (stmt : Stmt). Does db execution stmt (effect_of db execution).change given) is so).is) in
    after_by db execution changes.Nothing idle

pub sites_stay : SitesStay
sites_stay db execution = ap (λ (new : Database). new.sites) (changed_is db execution) ∙ sites_stay_at (effect_of db execution).change db

pub names_stay_in_order : NamesStayInOrder
unfolding IsStrictlySortedBy
names_stay_in_order = (λ sites. tt, λ db execution up. subst IsInOrder (sym (changed_is db execution)) (change_in_order (effect_of db execution).change db up))

pub synonyms_stay_in_order : SynonymsStayInOrder
unfolding IsStrictlySortedBy
synonyms_stay_in_order = (λ sites. tt, λ db execution up. subst AreSynonymsInOrder (sym (changed_is db execution)) (synonyms_in_order db up (effect_of db execution).change))

-- ---- what a statement may change

pub others_stay : OthersStay
others_stay db execution name other =
    let target : Option Swn = option_map (name_of db execution) (written_of execution.stmt) in
    let only : TouchesOnly target (effect_of db execution).change
    = holds_of_change (Does db execution execution.stmt) (TouchesOnly target) (effect_of db execution) (effect_so db execution) tt
    (λ given so. touches db execution (effect_of db execution).change given execution.stmt so) in
    ap (table_named name) (changed_is db execution) ∙ others_stay_at target name (effect_of db execution).change db other only

pub synonyms_stay : SynonymsStay
synonyms_stay db execution leaves =
    let is : IsOfTables (effect_of db execution).change
    = holds_of_change (Does db execution execution.stmt) IsOfTables (effect_of db execution) (effect_so db execution) tt
    (λ given so. of_tables db execution (effect_of db execution).change given execution.stmt leaves so) in
    ap (λ (new : Database). new.synonyms) (changed_is db execution) ∙ synonyms_stay_at (effect_of db execution).change db is

pub other_synonyms_stay : OtherSynonymsStay
other_synonyms_stay db execution synonym other =
    let target : Option Synonym = option_map (own_synonym execution) (synonym_of execution.stmt) in
    let only : TouchesSynonym target (effect_of db execution).change
    = holds_of_change (Does db execution execution.stmt) (TouchesSynonym target) (effect_of db execution) (effect_so db execution) tt
    (λ given so. touches_synonym db execution (effect_of db execution).change given execution.stmt so) in
    ap (target_of synonym) (changed_is db execution) ∙ other_synonyms_at db target synonym (effect_of db execution).change other only

---- what is there after a done statement

is_some_if : (found : Option Table) → is_none found ≡ false → IsSome found
is_some_if None e = absurd cc
is_some_if (Some table) e = refl

pub table_is_made : TableIsMade
table_is_made db execution written columns given is e =
    let so = does db execution (stmts.CreateTable written columns) given is e in
    let name : Swn = name_of db execution written in
    let put : table_named name (after db execution) ≡ Some (new_table execution.txn name columns)
    = ap (table_named name) (after_by db execution _ so.is) ∙ named_put name (new_table execution.txn name columns) db in
    (so.answers, so.absent, put)

pub table_is_dropped : TableIsDropped
table_is_dropped db execution written given up is e =
    let so = does db execution (stmts.DropTable written) given is e in
    let name : Swn = name_of db execution written in
    let none : table_named name (after db execution) ≡ None
    = ap (table_named name) (after_by db execution _ so.is) ∙ named_dropped name db up in
    (so.answers, is_some_if (table_named name db) so.there, none)

pub rows_are_appended : RowsAreAppended
rows_are_appended db execution written rows given is e =
    let so = does db execution (stmts.Dml (dmls.Insert written (map (map terms.Lit) rows))) given is e in
    let name : Swn = name_of db execution written in
    let same = given_as_written (scope_in db name) rows in
    let put : table_named name (after db execution) ≡ option_map (with_rows rows) (table_named name db)
    = ap (table_named name) (after_by db execution _ (so.is ∙ ap (λ new. changes.AppendRows name new) same)) ∙ named_changing name (with_rows rows) db in
    (so.answers ∙ ap (λ (new : List (List Value)). answers.Changed (length new) ∷ []) same, is_some_if (table_named name db) so.there, put)

-- the table that was there, and the one with these rows
set_table : (name : Swn) (rows : List (List Value)) (db : Database) (old : Table) → table_named name db ≡ Some old
    → table_named name (changed (changes.SetRows name rows) db) ≡ Some (record old { rows = rows })
set_table name rows db old found = named_changing name (λ table. record table { rows = rows }) db ∙ ap (λ option. option_map (λ (table : Table). record table { rows = rows }) option) found

-- the table that is there
found_if : (found : Option Table) → is_none found ≡ false → (table : Table) × (found ≡ Some table)
found_if None e = absurd cc
found_if (Some table) e = (table, refl)

-- the predicate of a statement over the table that was there
predicate_is : (db : Database) (name : Swn) (old : Table) (written : List Clause) (clauses : List (List BoundCmp)) → table_named name db ≡ Some old → clauses ≡ bound_clauses (scope_in db name) [] written
    → clauses ≡ predicate_on name old written
predicate_is db name old written clauses there bound =
    bound ∙ ap (λ (found : Option Table). bound_clauses (table_scope (record { name = name; columns = columns_of found })) [] written) there

assignments_are : (db : Database) (name : Swn) (old : Table) (sets : List Set) → table_named name db ≡ Some old → sets_in db name sets ≡ assignments_on name old sets
assignments_are db name old sets there = ap (λ (found : Option Table). map (bound_set (table_scope (record { name = name; columns = columns_of found })) []) sets) there

set_first : (sets : List BoundSet) (clauses : List (List BoundCmp)) (row : List Value) (rows new : List (List Value)) (first : Result (List Value) Denial) (others : Result (List (List Value)) Denial)
    → updated_row [] sets clauses row ≡ first → ((later : List (List Value)) → others ≡ Ok later → AreSet sets clauses rows later) → and_others first others ≡ Ok new → AreSet sets clauses (row ∷ rows) new
set_first sets clauses row rows new (Err cause) others is_first each made = absurd cc
set_first sets clauses row rows new (Ok set) (Err cause) is_first each made = absurd cc
set_first sets clauses row rows new (Ok set) (Ok later) is_first each made =
    let whole : set ∷ later ≡ new = cc in
    subst (AreSet sets clauses (row ∷ rows)) whole (is_first, each later refl)

all_set : (sets : List BoundSet) (clauses : List (List BoundCmp)) (rows new : List (List Value)) → updated_rows [] sets clauses rows ≡ Ok new → AreSet sets clauses rows new
all_set sets clauses [] [] e = tt
all_set sets clauses [] (row ∷ new) e = absurd cc
all_set sets clauses (row ∷ rows) new e = set_first sets clauses row rows new (updated_row [] sets clauses row) (updated_rows [] sets clauses rows) refl (λ later is. all_set sets clauses rows later is) e

pub rows_are_taken_out : RowsAreTakenOut
rows_are_taken_out db execution written clauses given is e =
    let so = does db execution (stmts.Dml (dmls.Delete written clauses)) given is e in
    let name : Swn = name_of db execution written in
    let found = found_if (table_named name db) so.there in
    let old : Table = found.0 in
    let rows : rows_of (table_named name db) ≡ old.rows = ap rows_of found.1 in
    let new : Table = record old { rows = other_rows so.clauses old.rows } in
    let put : table_named name (after db execution) ≡ Some new
    = ap (table_named name) (after_by db execution _ (so.is ∙ ap (λ (all : List (List Value)). changes.SetRows name (other_rows so.clauses all)) rows))
    ∙ set_table name (other_rows so.clauses old.rows) db old found.1 in
    let reports : given ≡ answers.Changed (matching_count so.clauses old.rows) ∷ [] = so.answers ∙ ap (λ (all : List (List Value)). answers.Changed (matching_count so.clauses all) ∷ []) rows in
    let others : other_rows so.clauses old.rows ≡ other_rows (predicate_on name old clauses) old.rows
    = ap (λ (predicate : List (List BoundCmp)). other_rows predicate old.rows) (predicate_is db name old clauses so.clauses found.1 so.bound) in
    (matching_count so.clauses old.rows, old, new, reports, found.1, put, record { made = refl; columns = refl; indexes = refl; rows = others_and_matching so.clauses old.rows }, others)

pub rows_are_changed : RowsAreChanged
rows_are_changed db execution written sets clauses given is e =
    let so = does db execution (stmts.Dml (dmls.Update written sets clauses)) given is e in
    let name : Swn = name_of db execution written in
    let found = found_if (table_named name db) so.there in
    let old : Table = found.0 in
    let rows : rows_of (table_named name db) ≡ old.rows = ap rows_of found.1 in
    let new : Table = record old { rows = so.new } in
    let put : table_named name (after db execution) ≡ Some new
    = ap (table_named name) (after_by db execution _ so.is) ∙ set_table name so.new db old found.1 in
    let reports : given ≡ answers.Changed (matching_count so.clauses old.rows) ∷ [] = so.answers ∙ ap (λ (all : List (List Value)). answers.Changed (matching_count so.clauses all) ∷ []) rows in
    let as_many : length so.new ≡ length old.rows = as_many_updated (sets_in db name sets) so.clauses (rows_of (table_named name db)) so.new so.made ∙ ap (λ (all : List (List Value)). length all) rows in
    let made : updated_rows [] (sets_in db name sets) so.clauses old.rows ≡ Ok so.new = subst (λ (all : List (List Value)). updated_rows [] (sets_in db name sets) so.clauses all ≡ Ok so.new) rows so.made in
    let set : AreSet (assignments_on name old sets) so.clauses old.rows so.new
    = subst (λ (bound : List BoundSet). AreSet bound so.clauses old.rows so.new) (assignments_are db name old sets found.1) (all_set (sets_in db name sets) so.clauses old.rows so.new made) in
    let by_predicate = subst (λ (predicate : List (List BoundCmp)). AreSet (assignments_on name old sets) predicate old.rows so.new) (predicate_is db name old clauses so.clauses found.1 so.bound) set in
    (matching_count so.clauses old.rows, old, new, reports, matching_at_most so.clauses old.rows, found.1, put, record { made = refl; columns = refl; indexes = refl; rows = omega arith }, by_predicate)

-- the table that was there, and the one with these indexes
set_indexes : (name : Swn) (indexes : List IndexOf) (db : Database) (old : Table) → table_named name db ≡ Some old
    → table_named name (changed (changes.SetIndexes name indexes) db) ≡ Some (record old { indexes = indexes })
set_indexes name indexes db old found =
    named_changing name (λ table. record table { indexes = indexes }) db ∙ ap (λ option. option_map (λ (table : Table). record table { indexes = indexes }) option) found

pub index_is_made : IndexIsMade
index_is_made db execution name written column given is e =
    let so = does db execution (stmts.CreateIndex name written column) given is e in
    let own : Swn = name_of db execution written in
    let found = found_if (table_named own db) so.there in
    let old : Table = found.0 in
    let index : IndexOf = new_index execution.txn name (column_index old.columns column) in
    let new : Table = record old { indexes = old.indexes ++ index ∷ [] } in
    let made : Option Table → Change = λ table. changes.SetIndexes own (indexes_of table ++ new_index execution.txn name (column_index (columns_of table) column) ∷ []) in
    let put : table_named own (after db execution) ≡ Some new
    = ap (table_named own) (after_by db execution _ (so.is ∙ ap made found.1)) ∙ set_indexes own (old.indexes ++ index ∷ []) db old found.1 in
    let named : has_name old.columns column ≡ true = subst (λ table. has_name (columns_of table) column ≡ true) found.1 so.named in
    let new_name : has_index old.indexes name ≡ false = subst (λ table. has_index (indexes_of table) name ≡ false) found.1 so.new_name in
    let new_column : is_indexed old.indexes index.column ≡ false
    = subst (λ table. is_indexed (indexes_of table) (column_index (columns_of table) column) ≡ false) found.1 so.new_column in (
      old,
      new,
      index,
      so.answers,
      refl,
      refl,
      λ few. name_at column old.columns few named,
      found.1,
      put,
      record { fresh = all_differ index old.indexes new_name new_column; is = refl },
    )

pub index_is_dropped : IndexIsDropped
index_is_dropped db execution name written given is e =
    let so = does db execution (stmts.DropIndex name written) given is e in
    let own : Swn = name_of db execution written in
    let found = found_if (table_named own db) so.there in
    let old : Table = found.0 in
    let new : Table = record old { indexes = without_index name old.indexes } in
    let put : table_named own (after db execution) ≡ Some new
    = ap (table_named own) (after_by db execution _ (so.is ∙ ap (λ table. changes.SetIndexes own (without_index name (indexes_of table))) found.1))
    ∙ set_indexes own (without_index name old.indexes) db old found.1 in
    let there : has_index old.indexes name ≡ true = subst (λ table. has_index (indexes_of table) name ≡ true) found.1 so.indexed in
    (old, new, so.answers, found.1, put, record { there = there; gone = none_of_name name old.indexes; is = refl })

pub synonym_is_made : SynonymIsMade
synonym_is_made db execution synonym written given is e =
    let so = does db execution (stmts.CreateSynonym synonym written) given is e in
    let own : Synonym = own_synonym execution synonym in
    let put : target_of own (after db execution) ≡ Some (name_of db execution written)
    = ap (target_of own) (after_by db execution _ so.is) ∙ lookup_put synonym_total own (name_of db execution written) db.synonyms in
    (so.answers, so.absent, put)

pub synonym_is_dropped : SynonymIsDropped
synonym_is_dropped db execution synonym given up is e =
    let so = does db execution (stmts.DropSynonym synonym) given is e in
    let own : Synonym = own_synonym execution synonym in
    let none : target_of own (after db execution) ≡ None
    = ap (target_of own) (after_by db execution _ so.is) ∙ lookup_gone synonym_total own db.synonyms up in
    (so.answers, so.there, none)

-- ---- what every table keeps

-- each table stays so after an execution if each statement keeps it so
each_after : (P : Table → Type 0) (db : Database) (execution : Execution) → EachTable P db
    → ((given : List Answer) → Does db execution execution.stmt (effect_of db execution).change given → Keeps P db (effect_of db execution).change)
    → EachTable P (after db execution)
each_after P db execution each keeps =
    subst (EachTable P) (sym (changed_is db execution))
    (each_changed P db each (effect_of db execution).change (holds_of_change (Does db execution execution.stmt) (Keeps P db) (effect_of db execution) (effect_so db execution) tt keeps))

pub tables_stay_within : TablesStayWithin
tables_stay_within = (
  λ sites. All-nil IsWithin,
  λ db execution each.
      each_after IsWithin db execution each (λ given so. stays_within db execution (effect_of db execution).change given each execution.stmt so),
)

pub tables_stay_at_sites : TablesStayAtSites
tables_stay_at_sites = (
  λ sites. All-nil (IsAtSite sites),
  λ db execution each.
      subst (λ (n : ℕ). EachTable (IsAtSite n) (after db execution)) (sym (sites_stay db execution))
      (each_after (IsAtSite db.sites) db execution each (λ given so. places_stay db execution (effect_of db execution).change given each execution.stmt so)),
)

pub columns_stay_distinct : ColumnsStayDistinct
columns_stay_distinct = (
  λ sites. All-nil HasDistinctColumns,
  λ db execution each.
      each_after HasDistinctColumns db execution each (λ given so. columns_stay db execution (effect_of db execution).change given each execution.stmt so),
)

pub indexes_stay_distinct : IndexesStayDistinct
indexes_stay_distinct = (
  λ sites. All-nil HasDistinctIndexes,
  λ db execution each.
      each_after HasDistinctIndexes db execution each (λ given so. indexes_stay db execution (effect_of db execution).change given each execution.stmt so),
)

pub rows_stay_typed : RowsStayTyped
rows_stay_typed = (
  λ sites. All-nil IsTyped,
  λ db execution limited each.
      each_after IsTyped db execution each
      (λ given so. stays_typed db execution (effect_of db execution).change given each execution.stmt (is_few execution.stmt limited) so),
)

-- ---- what a query answers

pub answers_are_typed : AnswersAreTyped
answers_are_typed db execution query given each limited is e =
    let few : length query.from ≤ 6 = subst IsFew is (is_few execution.stmt limited) in
    let so = does db execution (stmts.Dml (dmls.Select query)) given is e in
    let shown = rows_shown db each (λ table. name_of db execution table.name) query few so.rows so.fit so.found in
    (so.rows, shown.0, so.answers, shown.1, shown.2)
