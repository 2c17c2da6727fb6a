-- What calls that run a section are answered.
use Rattle.std.specs.Prelude.{ℕ, not, ◌&&◌, List, Option, Some, if◌then◌else◌}
use Rattle.std.specs.Option.{option_map_or}
use Rattle.rs_base.specs.declared.lock.Mode.{Mode}
use Rattle.rs_base.specs.declared.name.Swn.{Swn}
use Rattle.rs_base.specs.declared.value.Value.{Value}
use Rattle.rs_plan.specs.declared.call_reply.CallReply.TheVariants as replies
use Rattle.rs_plan.specs.declared.section.Section.{Section}
use Rattle.rs_plan.specs.declared.section_id.SectionId.{SectionId}
use Rattle.rs_exec.specs.declared.ran.Ran.{Ran}
use Rattle.rs_exec.specs.declared.ran.Ran.TheVariants as results
use Rattle.rs_exec.specs.Running.{ran}
use Rattle.rs_call_meaning.specs.Answered.{Answered, replied, if_here}
use Rattle.rs_call_meaning.specs.Contents.{Context, KeptSection}
use Rattle.rs_table.specs.Table.{TableContent}
use Rattle.rs_call_meaning.specs.Sections.{is_over, is_locked_by, kept_section}

-- the rows that a section gives, or its changes, or the cause for which it is denied
abbrev pub answered_by : Ran → Answered
answered_by (results.Rows rows more) = replied (replies.Rows rows more)
answered_by (results.Changes changes count) = record { reply = replies.Changed count; changes = changes }
answered_by (results.Denied cause) = replied (replies.Refused cause)

-- what the section is answered over the rows of the table, those of the enlistment's own changes among them
abbrev pub run_over : TableContent → List Value → Option Value → ℕ → Section → Answered
run_over table values fetch from section = answered_by (ran section values fetch from table.rows.rows)

-- Run: Stale if the section isn't over the table with these values
abbrev pub run : Context → Section → List Value → Option Value → ℕ → Answered
run context section values fetch from = if_here context (λ table.
    if not (is_over table (Some values) fetch section) then replied replies.Stale
    else run_over table values fetch from section)

-- a kept section is Stale if it isn't over the table of this name, locked in this mode, with these values; else Invalid if
-- it isn't valid
abbrev pub run_kept : TableContent → Swn → Mode → List Value → Option Value → ℕ → KeptSection → Answered
run_kept table name mode values fetch from kept =
    if not (is_locked_by name mode kept.section && is_over table (Some values) fetch kept.section) then replied replies.Stale
    else (if not kept.valid then replied replies.Invalid else run_over table values fetch from kept.section)

-- RunStored: Stale if no such section is kept
abbrev pub run_stored : Context → SectionId → Swn → Mode → List Value → Option Value → ℕ → Answered
run_stored context id name mode values fetch from = if_here context (λ table.
    option_map_or (run_kept table name mode values fetch from) (kept_section context id) (replied replies.Stale))
