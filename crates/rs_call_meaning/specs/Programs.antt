-- What calls on programs are answered.
use Rattle.std.specs.Prelude.{ℕ, ◌==◌, List, Option}
use Rattle.std.specs.Map.{lookup}
use Rattle.std.specs.Option.{option_map_or}
use Rattle.rs_plan.specs.declared.call_reply.CallReply.TheVariants as replies
use Rattle.rs_plan.specs.declared.change.Change.TheVariants as changes
use Rattle.rs_plan.specs.declared.program.Body.{Body}
use Rattle.rs_plan.specs.declared.program.Head.{Head}
use Rattle.rs_call_meaning.specs.Answered.{Answered, replied, done}
use Rattle.rs_call_meaning.specs.Contents.{Context, program_in}

-- Program: its head
abbrev pub program : Context → Answered
program context = replied (replies.Head (program_in context.current).head)

-- the statement of this number, if there is one
abbrev pub body_of : Context → ℕ → Option Body
body_of context i = lookup (λ number. i == number) (program_in context.current).bodies

-- Step: a statement; Absent if it isn't there
abbrev pub step : Context → ℕ → Answered
step context i = replied (option_map_or replies.Body (body_of context i) replies.Absent)

-- SetProgram: the head is stored, or the program is dropped
abbrev pub set_program : List ℕ → List ℕ → Option Head → Answered
set_program user name head = done (changes.Head user name head)

-- SetStep: a statement is stored
abbrev pub set_step : List ℕ → List ℕ → ℕ → Body → Answered
set_step user name i body = done (changes.Body user name i body)
