-- What the tables of each history's database keep.
use Rattle.std.proofs.Common.{◌≡◌, ℕ, List, [], ◌∷◌, fold, Option, Some, None, refl, sym, subst, ◌∙◌}
use Rattle.rs_parse.specs.Parsing.{Parsed, Statement, FaultAt, parsed_of}
use Rattle.rs_parse.proofs.ParseLaws.{parsed_spelled, spelled_keeps_limits}
use Rattle.rs_ast.specs.Limits.{KeepsLimits}
use Rattle.rs_ast.specs.declared.stmt.Stmt.{Stmt}
use Rattle.rs_mean.specs.Database.{Database}
use Rattle.rs_mean.specs.Meaning.{meaning}
use Rattle.rs_site.specs.Asking.{execution_of}
use Rattle.rs_site.specs.Statement.{statement_of, statement_said}
use Rattle.rs_course.specs.declared.outs.Decided.{Decided}
use Rattle.rs_site.proofs.Said.{executed_is}
use Rattle.rs_site.specs.History.{effect, effect_of, database_of}
use Rattle.law_mean.specs.Laws.{EachTable, IsAtSite, IsTyped}
use Rattle.law_mean.proofs.Lawful.{rows_stay_typed, sites_stay, tables_stay_at_sites}

-- ---- histories

module _ (P : Database → Type 0) (keeps : (db : Database) (entry : Decided) → P db → P (effect db entry).0) where
  each_history : (history : List Decided) (db : Database) → P db → P (fold (λ db entry. (effect db entry).0) db history)
  each_history [] db holds = holds
  each_history (entry ∷ history) db holds = each_history history (effect db entry).0 (keeps db entry holds)

-- ---- each row has a value for each column, of its kind

-- a text's statement keeps the limits of statements
limited : (text : List ℕ) (stmt : Stmt) → statement_of text ≡ Some stmt → KeepsLimits stmt
unfolding statement_of
limited text stmt said = by (parsed_of text) refl said
  where
    by : (parsed : Parsed) → parsed_of text ≡ parsed → statement_said parsed ≡ Some stmt → KeepsLimits stmt
    by (Statement spelled) is executed = subst KeepsLimits (executed_is spelled stmt executed) (spelled_keeps_limits text spelled (parsed_spelled text spelled is))
    by (FaultAt offset) is executed = absurd cc

stays_typed : (db : Database) (entry : Decided) (read : Option Stmt) → statement_of entry.text ≡ read → EachTable IsTyped db → EachTable IsTyped (effect_of db entry read).0
stays_typed db entry None said typed = typed
stays_typed db entry (Some stmt) said typed = rows_stay_typed.1 db (execution_of entry.txn entry.origin stmt) (limited entry.text stmt said) typed

pub tables_typed : (sites : ℕ) (history : List Decided) → EachTable IsTyped (database_of sites history)
tables_typed sites history = each_history (EachTable IsTyped) (λ db entry. stays_typed db entry (statement_of entry.text) refl) history _ (rows_stay_typed.0 sites)

-- ---- each table is at one of the sites

abbrev ArePlaced : ℕ → Database → Type 0
ArePlaced sites db = (db.sites ≡ sites) × EachTable (IsAtSite sites) db

stays_placed : (sites : ℕ) (db : Database) (entry : Decided) (read : Option Stmt) → ArePlaced sites db → ArePlaced sites (effect_of db entry read).0
stays_placed sites db entry None placed = placed
stays_placed sites db entry (Some stmt) placed =
    let execution = execution_of entry.txn entry.origin stmt in
    let same : (meaning db execution).0.sites ≡ sites = sites_stay db execution ∙ placed.0 in
    let each = tables_stay_at_sites.1 db execution (subst (λ (n : ℕ). EachTable (IsAtSite n) db) (sym placed.0) placed.1) in
    (same, subst (λ (n : ℕ). EachTable (IsAtSite n) (meaning db execution).0) same each)

pub tables_placed : (sites : ℕ) (history : List Decided) → EachTable (IsAtSite sites) (database_of sites history)
tables_placed sites history = (each_history (ArePlaced sites) (λ db entry. stays_placed sites db entry (statement_of entry.text)) history _ (refl, tables_stay_at_sites.0 sites)).1
