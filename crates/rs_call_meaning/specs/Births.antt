-- What calls on the birth entry of a name are answered.
use Rattle.std.specs.Prelude.{ℕ, Option}
use Rattle.rs_base.specs.declared.name.Swn.{Swn}
use Rattle.rs_plan.specs.declared.call_reply.CallReply.TheVariants as replies
use Rattle.rs_plan.specs.declared.change.Change.TheVariants as changes
use Rattle.rs_call_meaning.specs.Answered.{Answered, replied, done}
use Rattle.rs_call_meaning.specs.Contents.{Context, place_in}

-- Locate: the site that stores the table
abbrev pub locate : Context → Answered
locate context = replied (replies.Place (place_in context.current))

-- SetBirth: the site is set or cleared
abbrev pub set_birth : Swn → Option ℕ → Answered
set_birth name to = done (changes.Birth name to)
