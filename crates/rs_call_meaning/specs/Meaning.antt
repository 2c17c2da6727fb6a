-- The meaning of calls: the reply and the changes of each.
use Rattle.rs_plan.specs.declared.call.Call.{Call}
use Rattle.rs_plan.specs.declared.call.Call.TheVariants as calls
use Rattle.rs_call_meaning.specs.Answered.{Answered}
use Rattle.rs_call_meaning.specs.Births.{locate, set_birth}
use Rattle.rs_call_meaning.specs.Contents.{Context}
use Rattle.rs_call_meaning.specs.Programs.{program, step, set_program, set_step}
use Rattle.rs_call_meaning.specs.Rows.{run, run_stored}
use Rattle.rs_call_meaning.specs.Sections.{keep_section}
use Rattle.rs_call_meaning.specs.Synonyms.{synonym, set_synonym}
use Rattle.rs_call_meaning.specs.Tables.{describe, make_table, put_rows, dump, drop_table, make_index, drop_index}

-- What a call is answered once it has its lock. Of several replies that fit it is the first of NotHere, Stale, Invalid,
-- Taken, Absent and Refused. A lock wait that ended is answered Waited, and isn't meant here.
unfoldable pub answer : Context → Call → Answered
answer context (calls.Synonym user name) = synonym context name
answer context (calls.SetSynonym user name to) = set_synonym context user name to
answer context (calls.Locate name mode) = locate context
answer context (calls.SetBirth name to) = set_birth name to
answer context (calls.Describe name mode) = describe context name
answer context (calls.Run section values fetch from) = run context section values fetch from
answer context (calls.RunStored id name mode values fetch from) = run_stored context id name mode values fetch from
answer context (calls.MakeTable name made columns indexes) = make_table name made columns indexes
answer context (calls.PutRows name rows) = put_rows name rows
answer context (calls.Dump name from) = dump context from
answer context (calls.DropTable name) = drop_table name
answer context (calls.MakeIndex name made index column) = make_index context name made index column
answer context (calls.DropIndex name made index) = drop_index context name made index
answer context (calls.Program user name mode) = program context
answer context (calls.Step user name i) = step context i
answer context (calls.SetProgram user name head) = set_program user name head
answer context (calls.SetStep user name i body) = set_step user name i body
answer context (calls.KeepSection id section) = keep_section context id section
