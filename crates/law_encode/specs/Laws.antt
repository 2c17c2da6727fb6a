-- The laws of the sizes of encodings.
use Rattle.law_encode.specs.Renamed.{statements, renamed}
use Rattle.rs_ast.specs.declared.stmt.Dml.{Dml}
use Rattle.rs_ast.specs.declared.stmt.Stmt.{Stmt}
use Rattle.rs_base.specs.declared.name.NameText.{NameText}
use Rattle.rs_encode.specs.Values.{name_text}
use Rattle.rs_encode_ast.specs.Statements.{dml}
use Rattle.rs_parse.specs.Parsing.{Spells}
use Rattle.std.specs.Prelude.{ℕ, ◌+◌, ◌*◌, ◌≤◌, IsTrue, List, flat_map, length, map}

-- the number of bytes that the encodings of statements take together
abbrev pub size : List Dml → ℕ
size dmls = length (flat_map dml.bytes dmls)

-- The statements of a text are encoded in at most two bytes for each byte of the text, and 512 for each statement. So a
-- statement takes at most two bytes for each byte of its own text, and 512 more.
abbrev pub StatementsAreShort : Type 0
StatementsAreShort = (text : List ℕ) (stmt : Stmt) → Spells text stmt
    → size (statements stmt) ≤ 2 * length text + 512 * length (statements stmt)

-- a name that keeps the limits of names is replaced by one that does
abbrev pub KeepsNameLimits : (NameText → NameText) → Type 0
KeepsNameLimits rename = (name : NameText) → IsTrue (name_text.fits name) → IsTrue (name_text.fits (rename name))

-- The same if the names of their tables are replaced.
abbrev pub RenamedAreShort : Type 0
RenamedAreShort = (text : List ℕ) (stmt : Stmt) (rename : NameText → NameText) → Spells text stmt → KeepsNameLimits rename
    → size (map (renamed rename) (statements stmt)) ≤ 2 * length text + 512 * length (statements stmt)

-- All statements of a program take at most two bytes for each byte of its text, and 4,096 more, if their names are replaced.
abbrev pub ProgramsAreShort : Type 0
ProgramsAreShort = (text : List ℕ) (stmt : Stmt) (rename : NameText → NameText) → Spells text stmt → KeepsNameLimits rename
    → size (map (renamed rename) (statements stmt)) ≤ 2 * length text + 4096
