-- Counts of faults: how many calls of a device failed, a number of 64 bits that stays at 2 ^ 64 - 1.
use Rattle.std.specs.Prelude.{◌≡◌, ℕ, ◌+◌, ◌-◌, ◌^◌, ◌≤◌, min, Result, MatchResult}
use Rattle.rs_base.specs.declared.fault.Failed.{Failed}
use Rattle.rs_base.specs.declared.fault.Fault.{Fault}
use Rattle.rs_base.specs.declared.fault.Fault.TheVariants as faults

-- the count rose, or stays at its end
abbrev pub Rises : ℕ → ℕ → Type 0
Rises old new = min (old + 1) (2 ^ 64 - 1) ≤ new

-- a call failed only if the count rose
abbrev pub CountsFailed : {X : Type 0} → Result X Failed → ℕ → ℕ → Type 0
CountsFailed r old new = MatchResult r (λ _. new ≡ old) (λ _. Rises old new)

abbrev pub CountsIf : Fault → ℕ → ℕ → Type 0
CountsIf faults.Failed old new = Rises old new
CountsIf faults.NoMemory old new = new ≡ old

-- the same for a call that may also run out of memory
abbrev pub CountsFault : {X : Type 0} → Result X Fault → ℕ → ℕ → Type 0
CountsFault r old new = MatchResult r (λ _. new ≡ old) (λ fault. CountsIf fault old new)
