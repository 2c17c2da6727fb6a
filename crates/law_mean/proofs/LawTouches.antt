-- What each statement may change.
use Rattle.std.proofs.Common.{◌≡◌, ℕ, List, Option, Some, None, refl, sym, subst}
use Rattle.std.specs.Option.{option_map}
use Rattle.rs_base.specs.declared.name.NameText.{NameText}
use Rattle.rs_base.specs.declared.name.Swn.{Swn}
use Rattle.rs_base.specs.declared.reply.Answer.{Answer}
use Rattle.rs_ast.specs.declared.stmt.Dml.{Dml}
use Rattle.rs_ast.specs.declared.stmt.Dml.TheVariants as dmls
use Rattle.rs_ast.specs.declared.stmt.Stmt.{Stmt}
use Rattle.rs_ast.specs.declared.stmt.Stmt.TheVariants as stmts
use Rattle.rs_mean.specs.declared.change.Change.{Change}
use Rattle.rs_mean.specs.declared.execution.Execution.{Execution}
use Rattle.rs_mean.specs.declared.synonym.Synonym.{Synonym}
use Rattle.rs_mean.specs.Database.{Database}
use Rattle.law_mean.specs.Laws.{written_of_dml, written_of, synonym_of}
use Rattle.rs_mean.specs.Names.{name_of, own_synonym}
use Rattle.law_mean.proofs.LawStatements.{DoesOfDml, Does}
use Rattle.law_mean.proofs.LawSynonyms.{TouchesSynonym}
use Rattle.law_mean.proofs.LawTables.{TouchesOnly, IsOfTables}

module _ (db : Database) (execution : Execution) (change : Change) (given : List Answer) where
  abbrev target : Option NameText → Option Swn
  target written = option_map (name_of db execution) written

  dml_touches : (dml : Dml) → DoesOfDml db execution dml change given → TouchesOnly (target (written_of_dml dml)) change
  dml_touches (dmls.Select query) so = subst (TouchesOnly None) (sym so.is) tt
  dml_touches (dmls.Insert written rows) so = subst (TouchesOnly (target (Some written))) (sym so.is) refl
  dml_touches (dmls.Update written sets clauses) so = subst (TouchesOnly (target (Some written))) (sym so.is) refl
  dml_touches (dmls.Delete written clauses) so = subst (TouchesOnly (target (Some written))) (sym so.is) refl

  pub touches : (stmt : Stmt) → Does db execution stmt change given → TouchesOnly (target (written_of stmt)) change
  touches (stmts.CreateTable written columns) so = subst (TouchesOnly (target (Some written))) (sym so.is) refl
  touches (stmts.DropTable written) so = subst (TouchesOnly (target (Some written))) (sym so.is) refl
  touches (stmts.CreateIndex index written column) so = subst (TouchesOnly (target (Some written))) (sym so.is) refl
  touches (stmts.DropIndex index written) so = subst (TouchesOnly (target (Some written))) (sym so.is) refl
  touches (stmts.CreateSynonym synonym written) so = subst (TouchesOnly None) (sym so.is) tt
  touches (stmts.DropSynonym synonym) so = subst (TouchesOnly None) (sym so.is) tt
  touches (stmts.Dml dml) so = dml_touches dml so
  touches stmt so = subst (TouchesOnly None) (sym so.is) tt

  dml_of_tables : (dml : Dml) → DoesOfDml db execution dml change given → IsOfTables change
  dml_of_tables (dmls.Select query) so = subst IsOfTables (sym so.is) tt
  dml_of_tables (dmls.Insert written rows) so = subst IsOfTables (sym so.is) tt
  dml_of_tables (dmls.Update written sets clauses) so = subst IsOfTables (sym so.is) tt
  dml_of_tables (dmls.Delete written clauses) so = subst IsOfTables (sym so.is) tt

  pub of_tables : (stmt : Stmt) → synonym_of stmt ≡ None → Does db execution stmt change given → IsOfTables change
  of_tables (stmts.CreateTable written columns) leaves so = subst IsOfTables (sym so.is) tt
  of_tables (stmts.DropTable written) leaves so = subst IsOfTables (sym so.is) tt
  of_tables (stmts.CreateIndex index written column) leaves so = subst IsOfTables (sym so.is) tt
  of_tables (stmts.DropIndex index written) leaves so = subst IsOfTables (sym so.is) tt
  of_tables (stmts.CreateSynonym synonym written) leaves so = absurd cc
  of_tables (stmts.DropSynonym synonym) leaves so = absurd cc
  of_tables (stmts.Dml dml) leaves so = dml_of_tables dml so
  of_tables stmt leaves so = subst IsOfTables (sym so.is) tt

  abbrev own : Option (List ℕ) → Option Synonym
  own synonym = option_map (own_synonym execution) synonym

  dml_of_synonyms : (dml : Dml) → DoesOfDml db execution dml change given → TouchesSynonym None change
  dml_of_synonyms (dmls.Select query) so = subst (TouchesSynonym None) (sym so.is) tt
  dml_of_synonyms (dmls.Insert written rows) so = subst (TouchesSynonym None) (sym so.is) tt
  dml_of_synonyms (dmls.Update written sets clauses) so = subst (TouchesSynonym None) (sym so.is) tt
  dml_of_synonyms (dmls.Delete written clauses) so = subst (TouchesSynonym None) (sym so.is) tt

  pub touches_synonym : (stmt : Stmt) → Does db execution stmt change given → TouchesSynonym (own (synonym_of stmt)) change
  touches_synonym (stmts.CreateTable written columns) so = subst (TouchesSynonym None) (sym so.is) tt
  touches_synonym (stmts.DropTable written) so = subst (TouchesSynonym None) (sym so.is) tt
  touches_synonym (stmts.CreateIndex index written column) so = subst (TouchesSynonym None) (sym so.is) tt
  touches_synonym (stmts.DropIndex index written) so = subst (TouchesSynonym None) (sym so.is) tt
  touches_synonym (stmts.CreateSynonym synonym written) so = subst (TouchesSynonym (own (Some synonym))) (sym so.is) refl
  touches_synonym (stmts.DropSynonym synonym) so = subst (TouchesSynonym (own (Some synonym))) (sym so.is) refl
  touches_synonym (stmts.Dml dml) so = dml_of_synonyms dml so
  touches_synonym stmt so = subst (TouchesSynonym None) (sym so.is) tt
