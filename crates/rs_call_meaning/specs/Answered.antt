-- The reply to a call, and the changes that the call makes.
use Rattle.std.specs.Prelude.{List, [], ◌∷◌}
use Rattle.std.specs.Option.{option_map_or}
use Rattle.rs_plan.specs.declared.call_reply.CallReply.{CallReply}
use Rattle.rs_plan.specs.declared.call_reply.CallReply.TheVariants as replies
use Rattle.rs_plan.specs.declared.change.Change.{Change}
use Rattle.rs_call_meaning.specs.Contents.{Context, table_in}
use Rattle.rs_table.specs.Table.{TableContent}

-- the reply, and the changes in the order in which they are made
pub record Answered : Type 0 where
  pub reply : CallReply
  pub changes : List Change

-- a reply without a change
abbrev pub replied : CallReply → Answered
replied reply = record { reply = reply; changes = [] }

-- one change
abbrev pub done : Change → Answered
done change = record { reply = replies.Done; changes = change ∷ [] }

-- what is answered over the locked table; NotHere if the site doesn't store it
abbrev pub if_here : Context → (TableContent → Answered) → Answered
if_here context answered = option_map_or answered (table_in context.current) (replied replies.NotHere)
