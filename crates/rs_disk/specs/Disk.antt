-- What the calls of a disk do:
--     content s         what a read gives
--     in_range call c   the call is in range of this content
--     done call s       the state after a call that is done
--     tried call s      how far a call that fails may have come
--     state_of acts     the state after all that happened to a disk, which was empty at first
use Rattle.std.specs.Prelude.{⊤, ℕ, ◌+◌, nat_le, Bool, true, if◌then◌else◌, List, [], ◌∷◌, ◌++◌, length, take, drop}
use Rattle.rs_disk.specs.declared.call.Call.{Call}
use Rattle.rs_disk.specs.declared.call.Call.TheVariants as calls
use Rattle.rs_disk.specs.declared.call.State.{State}
use Rattle.rs_disk.specs.declared.call.Act.{Act}
use Rattle.rs_disk.specs.declared.call.Act.TheVariants as acts

-- ---- the content

-- these bytes over what is there, and past its end
abbrev pub put : ℕ → List ℕ → List ℕ → List ℕ
put at bytes content = take at content ++ bytes ++ drop (at + length bytes) content

-- what a write or a cut makes of a content
abbrev pub applied : Call → List ℕ → List ℕ
applied calls.Size content = content
applied (calls.Read at len) content = content
applied (calls.Write at bytes) content = put at bytes content
applied (calls.Cut len) content = take len content
applied calls.Sync content = content

abbrev pub all_applied : List Call → List ℕ → List ℕ
all_applied [] content = content
all_applied (call ∷ calls) content = all_applied calls (applied call content)

abbrev pub content : State → List ℕ
content s = all_applied s.changes s.base

-- ---- the calls

-- a read ends within the content, a write begins within it or at its end, and a cut keeps no more than there is
abbrev pub in_range : Call → List ℕ → Bool
in_range calls.Size content = true
in_range (calls.Read at len) content = nat_le (at + len) (length content)
in_range (calls.Write at bytes) content = nat_le at (length content)
in_range (calls.Cut len) content = nat_le len (length content)
in_range calls.Sync content = true

-- this content, all of it synced
abbrev pub settled : List ℕ → State
settled content = record { base = content; changes = [] }

-- one more write or cut that isn't synced
abbrev pub changed : Call → State → State
changed call s = record { base = s.base; changes = s.changes ++ call ∷ [] }

abbrev pub done : Call → State → State
done calls.Size s = s
done (calls.Read at len) s = s
done (calls.Write at bytes) s = changed (calls.Write at bytes) s
done (calls.Cut len) s = changed (calls.Cut len) s
done calls.Sync s = settled (content s)

-- a write or a cut in range counts as made, any other call as not made
abbrev pub tried : Call → State → State
tried calls.Size s = s
tried (calls.Read at len) s = s
tried (calls.Write at bytes) s = if in_range (calls.Write at bytes) (content s) then changed (calls.Write at bytes) s else s
tried (calls.Cut len) s = if in_range (calls.Cut len) (content s) then changed (calls.Cut len) s else s
tried calls.Sync s = s

-- ---- all that happened

abbrev pub after : Act → State → State
after (acts.Done call) s = done call s
after (acts.Refused call) s = s
after (acts.Failed call left) s = left
after (acts.Stopped left) s = left

abbrev pub after_all : List Act → State → State
after_all [] s = s
after_all (act ∷ acts) s = after_all acts (after act s)

abbrev pub state_of : List Act → State
state_of acts = after_all acts (settled [])

-- the content after all that happened
abbrev pub content_of : List Act → List ℕ
content_of acts = content (state_of acts)

-- a size or a read
abbrev pub IsPlain : Call → Type 0
IsPlain calls.Size = ⊤
IsPlain (calls.Read at len) = ⊤
IsPlain (calls.Write at bytes) = ⊥
IsPlain (calls.Cut len) = ⊥
IsPlain calls.Sync = ⊥

-- a write or a cut
abbrev pub IsChange : Call → Type 0
IsChange calls.Size = ⊥
IsChange (calls.Read at len) = ⊥
IsChange (calls.Write at bytes) = ⊤
IsChange (calls.Cut len) = ⊤
IsChange calls.Sync = ⊥
