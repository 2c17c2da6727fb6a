-- The lock that each call takes.
use Rattle.rs_base.specs.declared.lock.Mode.{Mode}
use Rattle.rs_base.specs.declared.lock.Mode.TheVariants as modes
use Rattle.rs_base.specs.declared.lock.Resource.{Resource}
use Rattle.rs_base.specs.declared.lock.Resource.TheVariants as resources
use Rattle.rs_plan.specs.declared.call.Call.{Call}
use Rattle.rs_plan.specs.declared.call.Call.TheVariants as calls
use Rattle.rs_plan.specs.declared.section.SectionKind.{SectionKind}
use Rattle.rs_plan.specs.declared.section.SectionKind.TheVariants as kinds

-- a scan and a fetch read their table, the others write it
abbrev pub mode_of : SectionKind → Mode
mode_of (kinds.Scan clauses columns) = modes.Read
mode_of (kinds.Fetch clauses columns by) = modes.Read
mode_of (kinds.Insert rows) = modes.Write
mode_of (kinds.Delete clauses) = modes.Write
mode_of (kinds.Update sets clauses) = modes.Write

-- what a call locks, and how
unfoldable pub lock_of : Call → Resource × Mode
lock_of (calls.Synonym user name) = (resources.Synonyms user, modes.Read)
lock_of (calls.SetSynonym user name to) = (resources.Synonyms user, modes.Write)
lock_of (calls.Locate name mode) = (resources.Birth name, mode)
lock_of (calls.SetBirth name to) = (resources.Birth name, modes.Write)
lock_of (calls.Describe name mode) = (resources.Table name, mode)
lock_of (calls.Run section values fetch from) = (resources.Table section.name, mode_of section.kind)
lock_of (calls.RunStored id name mode values fetch from) = (resources.Table name, mode)
lock_of (calls.MakeTable name made columns indexes) = (resources.Table name, modes.Write)
lock_of (calls.PutRows name rows) = (resources.Table name, modes.Write)
lock_of (calls.Dump name from) = (resources.Table name, modes.Read)
lock_of (calls.DropTable name) = (resources.Table name, modes.Write)
lock_of (calls.MakeIndex name made index column) = (resources.Table name, modes.Write)
lock_of (calls.DropIndex name made index) = (resources.Table name, modes.Write)
lock_of (calls.Program user name mode) = (resources.Program user name, mode)
lock_of (calls.Step user name i) = (resources.Program user name, modes.Read)
lock_of (calls.SetProgram user name head) = (resources.Program user name, modes.Write)
lock_of (calls.SetStep user name i body) = (resources.Program user name, modes.Write)
lock_of (calls.KeepSection id section) = (resources.Table section.name, modes.Read)
