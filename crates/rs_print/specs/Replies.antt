-- The printed text of rows, requests, answers and replies.
use Rattle.std.specs.Prelude.{ℕ, List, ◌∷◌, ◌++◌, map, flat_map, length, decimal, codes}
use Rattle.std.specs.List.{join_with_byte}
use Rattle.rs_base.specs.declared.value.Value.{Value}
use Rattle.rs_base.specs.declared.txn.Txn.{Txn}
use Rattle.rs_base.specs.declared.txn.Enlist.{Enlist}
use Rattle.rs_base.specs.declared.txn.Origin.{Origin}
use Rattle.rs_base.specs.declared.lock.Resource.{Resource}
use Rattle.rs_base.specs.declared.lock.Resource.TheVariants as resources
use Rattle.rs_base.specs.declared.reply.Denial.{Denial}
use Rattle.rs_base.specs.declared.reply.Denial.TheVariants as denials
use Rattle.rs_base.specs.declared.reply.Answer.{Answer}
use Rattle.rs_base.specs.declared.reply.Answer.TheVariants as answers
use Rattle.rs_base.specs.declared.reply.Reason.{Reason}
use Rattle.rs_base.specs.declared.reply.Reason.TheVariants as reasons
use Rattle.rs_base.specs.declared.reply.Reply.{Reply}
use Rattle.rs_base.specs.declared.reply.Reply.TheVariants as replies
use Rattle.rs_base.specs.Printing.{printed_swn, printed_value}

-- a line of values, separated by commas
abbrev pub printed_row : List Value → List ℕ
printed_row row = join_with_byte 44 (map printed_value row) ++ codes "\n"

-- site.epoch.number
abbrev pub dotted : ℕ → ℕ → ℕ → List ℕ
dotted site epoch number = decimal site ++ codes "." ++ decimal epoch ++ codes "." ++ decimal number

abbrev pub printed_txn : Txn → List ℕ
printed_txn txn = dotted txn.site txn.epoch txn.number

abbrev pub printed_enlist : Enlist → List ℕ
printed_enlist enlist = dotted enlist.site enlist.epoch enlist.number

-- site user epoch number
abbrev pub printed_origin : Origin → List ℕ
printed_origin origin = decimal origin.site ++ codes " " ++ origin.user ++ codes " " ++ decimal origin.epoch ++ codes " " ++ decimal origin.number

abbrev pub printed_answer : Answer → List ℕ
printed_answer answers.Ok = codes "ok\n"
printed_answer (answers.Changed n) = codes "changed " ++ decimal n ++ codes "\n"
printed_answer (answers.Rows rows) = codes "rows " ++ decimal (length rows) ++ codes "\n" ++ flat_map printed_row rows

-- the number and the name of a denial
abbrev pub printed_denial : Denial → List ℕ
printed_denial denials.NoTable = codes "1 NoTable"
printed_denial denials.NoColumn = codes "2 NoColumn"
printed_denial denials.TwoColumns = codes "3 TwoColumns"
printed_denial denials.WrongType = codes "4 WrongType"
printed_denial denials.TableExists = codes "5 TableExists"
printed_denial denials.NoIndex = codes "6 NoIndex"
printed_denial denials.IndexExists = codes "7 IndexExists"
printed_denial denials.NoProgram = codes "8 NoProgram"
printed_denial denials.ProgramExists = codes "9 ProgramExists"
printed_denial denials.WrongParams = codes "10 WrongParams"
printed_denial denials.SynonymExists = codes "11 SynonymExists"
printed_denial denials.NoSynonym = codes "12 NoSynonym"
printed_denial denials.NoSite = codes "13 NoSite"
printed_denial denials.Overflow = codes "14 Overflow"
printed_denial denials.TooManyRows = codes "15 TooManyRows"
printed_denial denials.TableFull = codes "16 TableFull"

-- what is locked
abbrev pub printed_resource : Resource → List ℕ
printed_resource (resources.Table name) = codes "table " ++ printed_swn name
printed_resource (resources.Birth name) = codes "birth " ++ printed_swn name
printed_resource (resources.Program user program) = codes "program " ++ user ++ codes " " ++ program
printed_resource (resources.Synonyms user) = codes "synonyms " ++ user

unfoldable pub printed_holder : Enlist → List ℕ
printed_holder holder = codes " holder " ++ printed_enlist holder

-- where a lock was waited for, on what, and who holds it
unfoldable pub printed_wait : ℕ → Resource → Enlist → List ℕ
printed_wait site what holder = codes "site " ++ decimal site ++ codes " " ++ printed_resource what ++ printed_holder holder

-- the number and the name of a reason, and its details
abbrev pub printed_reason : Reason → List ℕ
printed_reason (reasons.LockBudget site what holder) = codes "1 LockBudget " ++ printed_wait site what holder
printed_reason (reasons.NoAnswer site) = codes "2 NoAnswer site " ++ decimal site
printed_reason (reasons.SiteLost site) = codes "3 SiteLost site " ++ decimal site

abbrev pub printed_line : List ℕ → List ℕ
printed_line line = line ++ codes "\n"

-- a class and its number
unfoldable pub printed_counted : List ℕ → ℕ → List ℕ
printed_counted class n = class ++ decimal n ++ codes "\n"

-- the text of a reply: the class, and for each answer of a done request its lines
abbrev pub printed_class : Reply → List ℕ
printed_class (replies.Done answered) = printed_counted (codes "done ") (length answered) ++ flat_map printed_answer answered
printed_class (replies.Denied cause) = codes "denied " ++ printed_denial cause ++ codes "\n"
printed_class (replies.Failed reason) = codes "failed " ++ printed_reason reason ++ codes "\n"
printed_class (replies.Shown lines) = printed_counted (codes "shown ") (length lines) ++ flat_map printed_line lines
printed_class (replies.Syntax place) = printed_counted (codes "syntax ") place
printed_class (replies.OldEpoch epoch) = printed_counted (codes "oldepoch ") epoch
printed_class (replies.OldRequest last) = printed_counted (codes "oldrequest ") last
printed_class (replies.Gap last) = printed_counted (codes "gap ") last

abbrev pub printed_reply : Origin → Reply → List ℕ
printed_reply to reply = codes "reply " ++ printed_origin to ++ codes " " ++ printed_class reply

-- a value after the first of its row
abbrev pub further_value : Value → List ℕ
further_value value = 44 ∷ printed_value value
