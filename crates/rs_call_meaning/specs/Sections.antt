-- Stored sections: which are kept, which fit their table, and what the call that stores one is answered.
use Rattle.std.specs.Prelude.{Bool, false, not, ◌&&◌, ◌==◌, List, Option, None, find, bytes_eq, if◌then◌else◌}
use Rattle.std.specs.List.{list_any}
use Rattle.std.specs.Ordering.{is_eq}
use Rattle.rs_base.specs.declared.lock.Mode.{Mode}
use Rattle.rs_base.specs.declared.name.Swn.{Swn}
use Rattle.rs_base.specs.declared.value.Value.{Value}
use Rattle.rs_base.specs.Name.{name_cmp}
use Rattle.rs_base.specs.Orders.{mode_cmp}
use Rattle.rs_plan.specs.declared.call_reply.CallReply.TheVariants as replies
use Rattle.rs_plan.specs.declared.change.Change.{Change}
use Rattle.rs_plan.specs.declared.change.Change.TheVariants as changes
use Rattle.rs_plan.specs.declared.section.Section.{Section}
use Rattle.rs_plan.specs.declared.section_id.SectionId.{SectionId}
use Rattle.rs_plan.specs.Path.{chosen}
use Rattle.rs_exec.specs.Fit.{section_fits}
use Rattle.rs_call_meaning.specs.Answered.{Answered, replied, done, if_here}
use Rattle.rs_call_meaning.specs.Contents.{Context, KeptSection, same_txn, is_made_by}
use Rattle.rs_table.specs.Table.{TableContent}
use Rattle.rs_call_meaning.specs.Locks.{mode_of}

-- ---- ids

-- two ids are of sections of one program: the same owner, user and name
abbrev pub same_program : SectionId → SectionId → Bool
same_program one other = one.owner == other.owner && bytes_eq one.user other.user && bytes_eq one.program other.program

-- two ids are of one compilation of a program
abbrev pub same_compilation : SectionId → SectionId → Bool
same_compilation one other =
    same_program one other && one.generation == other.generation && same_txn one.made other.made

abbrev pub same_id : SectionId → SectionId → Bool
same_id one other = same_compilation one other && one.statement == other.statement && one.part == other.part

-- ---- which are kept

-- the change stores a section of the program that this id is of
abbrev pub keeps_for : SectionId → Change → Bool
keeps_for id (changes.Synonym user name to) = false
keeps_for id (changes.Birth name to) = false
keeps_for id (changes.Head user name head) = false
keeps_for id (changes.Body user name i body) = false
keeps_for id (changes.Keep other section path) = same_program id other
keeps_for id (changes.MakeTable name made columns indexes) = false
keeps_for id (changes.PutRows name rows) = false
keeps_for id (changes.Remove name numbers) = false
keeps_for id (changes.Replace name rows) = false
keeps_for id (changes.DropTable name) = false
keeps_for id (changes.MakeIndex name made index column index_made) = false
keeps_for id (changes.DropIndex name made index) = false

-- The kept section of this id, if there is one. It doesn't count while another enlistment that is prepared stores a section
-- of its program: that program may be decided already, and take its place.
abbrev pub kept_section : Context → SectionId → Option KeptSection
kept_section context id =
    if list_any (keeps_for id) context.prepared then None else find (λ kept. same_id id kept.id) context.kept

-- ---- which fit

-- the section is over the table, and fits its columns and the values
abbrev pub is_over : TableContent → Option (List Value) → Option Value → Section → Bool
is_over table values fetch section = is_made_by section.made table && section_fits section table.columns values fetch

-- the section is over a table of this name, which it locks in this mode
abbrev pub is_locked_by : Swn → Mode → Section → Bool
is_locked_by name mode section = is_eq (name_cmp name section.name) && is_eq (mode_cmp mode (mode_of section.kind))

-- ---- KeepSection

-- Stale if the section isn't over the table, whatever the values of its parameters; else it is stored with the path that is
-- chosen by the table's indexes
abbrev pub keep_section : Context → SectionId → Section → Answered
keep_section context id section = if_here context (λ table.
    if not (is_over table None None section) then replied replies.Stale
    else done (changes.Keep id section (chosen section.kind table.indexes)))
