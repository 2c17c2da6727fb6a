-- The supported statement of a request's text, if there is one, and else the byte offset of the reply. A statement that
-- isn't supported is answered as a text without a parse, at offset 0.
use Rattle.std.specs.Prelude.{◌≡◌, ℕ, ◌⊎◌, false, List, Option, Some, None, if◌then◌else◌}
use Rattle.rs_base.specs.Reading.{◌>>=◌}
use Rattle.rs_ast.specs.declared.stmt.Stmt.{Stmt}
use Rattle.rs_mean.specs.Executed.{is_executed}
use Rattle.rs_parse.specs.Parsing.{Parsed, Statement, FaultAt, parsed_of, statement_in, Spells, IsFault}

-- the statement, if it is supported
abbrev pub if_executed : Stmt → Option Stmt
if_executed stmt = if is_executed stmt then Some stmt else None

-- the supported statement, if there is one
abbrev pub statement_said : Parsed → Option Stmt
statement_said text = statement_in text >>= if_executed

unfoldable pub statement_of : List ℕ → Option Stmt
statement_of text = statement_said (parsed_of text)

-- the byte offset of a fault as replied
abbrev pub offset_said : Parsed → ℕ
offset_said (FaultAt offset) = offset
offset_said (Statement stmt) = 0

-- the byte offset that is replied to a text without a supported statement
unfoldable pub offset_replied : List ℕ → ℕ
offset_replied text = offset_said (parsed_of text)

-- The text has no supported statement: it has its fault at this byte offset; or it spells a statement that isn't
-- supported, and the offset is 0.
abbrev pub SaysNothing : List ℕ → ℕ → Type 0
SaysNothing text offset = IsFault text offset ⊎ ((stmt : Stmt) × Spells text stmt × (is_executed stmt ≡ false) × (offset ≡ 0))
