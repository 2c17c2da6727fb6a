-- The laws of texts.
use Rattle.std.specs.Prelude.{◌≡◌, ℕ, List, ◌⊎◌}
use Rattle.rs_ast.specs.Limits.{KeepsLimits}
use Rattle.rs_ast.specs.declared.stmt.Stmt.{Stmt}
use Rattle.rs_unparse.specs.Printed.{printed_stmt}
use Rattle.rs_parse.specs.Parsing.{Spells, IsFault}

-- a text is that of at most one statement
abbrev pub StatementOnce : Type 0
StatementOnce = (text : List ℕ) (one other : Stmt) → Spells text one → Spells text other → one ≡ other

-- a text has its fault at one byte offset
abbrev pub FaultOnce : Type 0
FaultOnce = (text : List ℕ) (one other : ℕ) → IsFault text one → IsFault text other → one ≡ other

-- each text is that of a statement, or has a fault
abbrev pub SpelledOrFaulty : Type 0
SpelledOrFaulty = (text : List ℕ) → ((stmt : Stmt) × Spells text stmt) ⊎ ((offset : ℕ) × IsFault text offset)

-- the text of a statement has no fault
abbrev pub SpelledHasNoFault : Type 0
SpelledHasNoFault = (text : List ℕ) (stmt : Stmt) (offset : ℕ) → Spells text stmt → IsFault text offset → ⊥

-- the printed text of a statement that has a text is one of its texts
abbrev pub PrintedIsRead : Type 0
PrintedIsRead = (text : List ℕ) (stmt : Stmt) → Spells text stmt → Spells (printed_stmt stmt) stmt

-- a statement that has a text keeps the limits of statements
abbrev pub SpelledKeepsLimits : Type 0
SpelledKeepsLimits = (text : List ℕ) (stmt : Stmt) → Spells text stmt → KeepsLimits stmt
