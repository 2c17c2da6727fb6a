-- The database that a history builds.
use Rattle.std.specs.Prelude.{ℕ, List, fold, Option, Some, None}
use Rattle.rs_ast.specs.declared.stmt.Stmt.{Stmt}
use Rattle.rs_mean.specs.Database.{Database, empty}
use Rattle.rs_mean.specs.Meaning.{meaning}
use Rattle.rs_mean.specs.Outcome.{Outcome}
use Rattle.rs_course.specs.declared.outs.Decided.{Decided}
use Rattle.rs_site.specs.Asking.{execution_of}
use Rattle.rs_site.specs.Statement.{statement_of}

abbrev pub effect_of : Database → Decided → Option Stmt → Database × Option Outcome
effect_of db entry None = (db, None)
effect_of db entry (Some stmt) = let m = meaning db (execution_of entry.txn entry.origin stmt) in (m.0, Some m.1)

-- An entry's effect on a database, and its outcome there. A text without a supported statement has none.
abbrev pub effect : Database → Decided → Database × Option Outcome
effect db entry = effect_of db entry (statement_of entry.text)

-- the database that a history builds from the empty one of this number of sites
abbrev pub database_of : ℕ → List Decided → Database
database_of sites history = fold (λ db entry. (effect db entry).0) (empty sites) history

-- the outcome of an entry after this history
abbrev pub outcome_after : ℕ → List Decided → Decided → Option Outcome
outcome_after sites history entry = (effect (database_of sites history) entry).1
