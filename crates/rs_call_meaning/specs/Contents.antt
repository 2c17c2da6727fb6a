-- What a call is answered from: what its site stores of what the call locks, and of sections.
use Rattle.std.specs.Prelude.{ℕ, Bool, List, [], Option, Some, None}
use Rattle.std.specs.Ordering.{is_eq}
use Rattle.rs_base.specs.declared.name.Swn.{Swn}
use Rattle.rs_base.specs.declared.txn.Txn.{Txn}
use Rattle.rs_base.specs.Txn.{txn_cmp}
use Rattle.rs_plan.specs.declared.change.Change.{Change}
use Rattle.rs_plan.specs.declared.program.Body.{Body}
use Rattle.rs_plan.specs.declared.program.Head.{Head}
use Rattle.rs_plan.specs.declared.section.Section.{Section}
use Rattle.rs_plan.specs.declared.section_id.SectionId.{SectionId}
use Rattle.rs_rows.specs.TableRows.{RowsByNumber}
use Rattle.rs_table.specs.Table.{TableContent}

-- ---- what is locked

-- a program: its head, if there is one, and its statements by number
pub record ProgramContent : Type 0 where
  pub head : Option Head
  pub bodies : List (ℕ × Body)

-- What a site stores of a resource: the table, if it is there; the site that stores the table, if there is one; the
-- program; the names that the synonyms of a user stand for.
pub data Content : Type 0 where
  TableIs : Option TableContent → Content
  BirthIs : Option ℕ → Content
  ProgramIs : ProgramContent → Content
  SynonymsAre : List (List ℕ × Swn) → Content

-- ---- each kind of content; there is nothing of it in a content of another kind

-- the table, if it is there
abbrev pub table_in : Content → Option TableContent
table_in (TableIs table) = table
table_in (BirthIs place) = None
table_in (ProgramIs program) = None
table_in (SynonymsAre synonyms) = None

-- the site that stores the table, if there is one
abbrev pub place_in : Content → Option ℕ
place_in (TableIs table) = None
place_in (BirthIs place) = place
place_in (ProgramIs program) = None
place_in (SynonymsAre synonyms) = None

-- no head and no statement
abbrev pub no_program : ProgramContent
no_program = record { head = None; bodies = [] }

-- the program
abbrev pub program_in : Content → ProgramContent
program_in (TableIs table) = no_program
program_in (BirthIs place) = no_program
program_in (ProgramIs program) = program
program_in (SynonymsAre synonyms) = no_program

-- the user's synonyms
abbrev pub synonyms_in : Content → List (List ℕ × Swn)
synonyms_in (TableIs table) = []
synonyms_in (BirthIs place) = []
synonyms_in (ProgramIs program) = []
synonyms_in (SynonymsAre synonyms) = synonyms

-- ---- tables

-- the same transaction
abbrev pub same_txn : Txn → Txn → Bool
same_txn one other = is_eq (txn_cmp one other)

-- this transaction created the table
abbrev pub is_made_by : Txn → TableContent → Bool
is_made_by made table = same_txn made table.made

-- the rows of a table with their numbers; none of one that isn't there
abbrev pub rows_in : Option TableContent → RowsByNumber
rows_in None = []
rows_in (Some table) = table.rows.rows

-- ---- what a call is answered from

-- a stored section: its id, and whether it is valid, which it is if nothing that it depends on was dropped since then
pub record KeptSection : Type 0 where
  pub id : SectionId
  pub section : Section
  pub valid : Bool

-- The site and the transaction of the enlistment that calls; what the site stores of what the call locks, and the same
-- with the enlistment's own changes; the sections that the site stores; and the changes of the other enlistments that are
-- prepared there.
pub record Context : Type 0 where
  pub site : ℕ
  pub txn : Txn
  pub stored : Content
  pub current : Content
  pub kept : List KeptSection
  pub prepared : List Change
