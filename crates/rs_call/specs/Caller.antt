-- What a caller knows: the number of its last call, and whether that call waits for its reply.
use Rattle.std.specs.Prelude.{ℕ, ◌+◌, ◌-◌, ◌^◌, Bool, true, false, ◌&&◌, ◌==◌, nat_lt, Option, Some, None, if◌then◌else◌}
use Rattle.rs_call.specs.declared.caller.Caller.{Caller}
use Rattle.rs_call.specs.declared.caller.Heard.{Heard}
use Rattle.rs_call.specs.declared.caller.Heard.TheVariants as heards

-- no call was made
abbrev pub fresh : Caller
fresh = record { last = 0; waits = false }

-- there is a next number
abbrev pub has_next : Caller → Bool
has_next caller = nat_lt caller.last (2 ^ 64 - 1)

-- the number of the next call, none after 2^64 - 1
abbrev pub next_number : Caller → Option ℕ
next_number caller = if has_next caller then Some (caller.last + 1) else None

abbrev pub after_next : Caller → Caller
after_next caller = if has_next caller then record { last = caller.last + 1; waits = true } else caller

-- the call of this number is the last, and waits
abbrev pub awaits : ℕ → Caller → Bool
awaits number caller = caller.waits && number == caller.last

abbrev pub heard : ℕ → Caller → Heard
heard number caller = if awaits number caller then heards.Fresh else heards.Old

abbrev pub after_reply : ℕ → Caller → Caller
after_reply number caller = if awaits number caller then record caller { waits = false } else caller
