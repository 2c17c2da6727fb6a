-- What calls on a user's synonyms are answered.
use Rattle.std.specs.Prelude.{ℕ, List, Option, Some, None, bytes_eq, is_some, if◌then◌else◌}
use Rattle.std.specs.Map.{lookup}
use Rattle.rs_base.specs.declared.name.Swn.{Swn}
use Rattle.rs_plan.specs.declared.call_reply.CallReply.TheVariants as replies
use Rattle.rs_plan.specs.declared.change.Change.TheVariants as changes
use Rattle.rs_call_meaning.specs.Answered.{Answered, replied, done}
use Rattle.rs_call_meaning.specs.Contents.{Context, synonyms_in}

-- the name that the user's synonym stands for, if there is such a synonym
abbrev pub target_of : Context → List ℕ → Option Swn
target_of context name = lookup (bytes_eq name) (synonyms_in context.current)

-- Synonym: the name that it stands for
abbrev pub synonym : Context → List ℕ → Answered
synonym context name = replied (replies.Name (target_of context name))

-- SetSynonym: Taken if one is set that is there, Absent if one is cleared that isn't there
abbrev pub set_synonym : Context → List ℕ → List ℕ → Option Swn → Answered
set_synonym context user name (Some to) =
    if is_some (target_of context name) then replied replies.Taken else done (changes.Synonym user name (Some to))
set_synonym context user name None =
    if is_some (target_of context name) then done (changes.Synonym user name None) else replied replies.Absent
