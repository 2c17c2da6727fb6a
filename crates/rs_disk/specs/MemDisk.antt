-- A disk in memory, as a function of the record of its calls.
use Rattle.std.specs.Prelude.{◌≡◌, ℕ, zero, suc, ◌+◌, ◌-◌, ◌^◌, nat_le, min, Bool, false, if◌then◌else◌, List, [], ◌∷◌, ◌++◌, take, Option, Some, None, Result, MatchResult, IsTrue, IsFalse}
use Rattle.rs_base.specs.declared.fault.Fault.{Fault}
use Rattle.rs_base.specs.declared.fault.Fault.TheVariants as faults
use Rattle.rs_disk.specs.declared.call.Call.{Call}
use Rattle.rs_disk.specs.declared.call.Call.TheVariants as calls
use Rattle.rs_disk.specs.declared.call.State.{State}
use Rattle.rs_disk.specs.declared.call.Act.{Act}
use Rattle.rs_disk.specs.declared.call.Act.TheVariants as acts
use Rattle.rs_disk.specs.declared.call.Arm.{Arm}
use Rattle.rs_disk.specs.Disk.{all_applied, content_of, in_range, tried, settled, state_of}

-- what contracts see: all that happened to it, the call that will fail, and the number of calls that failed
pub record MemDisk : Type 0 where
  pub acts : List Act
  pub arm : Option Arm
  pub faults : ℕ

abbrev pub empty : MemDisk
empty = record { acts = []; arm = None; faults = 0 }

-- ---- a crash

-- of a write the first bytes
abbrev pub part : ℕ → Call → List Call
part bytes calls.Size = []
part bytes (calls.Read at len) = []
part bytes (calls.Write at written) = calls.Write at (take bytes written) ∷ []
part bytes (calls.Cut len) = []
part bytes calls.Sync = []

-- the first writes and cuts, and of the next the first bytes
abbrev pub kept : ℕ → ℕ → List Call → List Call
kept writes bytes [] = []
kept zero bytes (call ∷ calls) = part bytes call
kept (suc writes) bytes (call ∷ calls) = call ∷ kept writes bytes calls

-- what a crash leaves of a disk
abbrev pub crashed : ℕ → ℕ → State → List ℕ
crashed writes bytes s = all_applied (kept writes bytes s.changes) s.base

-- the disk after a crash between two calls
abbrev pub stopped : ℕ → ℕ → MemDisk → MemDisk
stopped writes bytes disk = record { acts = disk.acts ++ acts.Stopped (settled (crashed writes bytes (state_of disk.acts))) ∷ []; arm = disk.arm; faults = disk.faults }

-- ---- a call

-- a count raised by one, which stays at 2 ^ 64 - 1
abbrev pub raised : ℕ → ℕ
raised n = min (n + 1) (2 ^ 64 - 1)

-- the next call is the one that will fail
abbrev pub is_due : Option Arm → Bool
is_due None = false
is_due (Some arm) = nat_le arm.calls 1

-- one call less until then
abbrev pub nearer : Option Arm → Option Arm
nearer None = None
nearer (Some arm) = Some (record { calls = arm.calls - 1; writes = arm.writes; bytes = arm.bytes })

-- what the crash at the call that will fail leaves
abbrev pub left_by : Option Arm → State → List ℕ
left_by None s = crashed 0 0 s
left_by (Some arm) s = crashed arm.writes arm.bytes s

abbrev pub failed : Call → MemDisk → MemDisk
failed call disk = record {
  acts = disk.acts ++ acts.Failed call (settled (left_by disk.arm (tried call (state_of disk.acts)))) ∷ [];
  arm = None;
  faults = raised disk.faults;
}

abbrev pub refused : Call → MemDisk → MemDisk
refused call disk = record { acts = disk.acts ++ acts.Refused call ∷ []; arm = nearer disk.arm; faults = raised disk.faults }

abbrev pub performed : Call → MemDisk → MemDisk
performed call disk = record { acts = disk.acts ++ acts.Done call ∷ []; arm = nearer disk.arm; faults = disk.faults }

-- the call succeeds: it isn't the one that will fail, and is in range
abbrev pub succeeds : Call → MemDisk → Bool
succeeds call disk = if is_due disk.arm then false else in_range call (content_of disk.acts)

-- the disk after a call
abbrev pub called : Call → MemDisk → MemDisk
called call disk = if is_due disk.arm then failed call disk else (if in_range call (content_of disk.acts) then performed call disk else refused call disk)

-- the answer of a call, unless it is out of memory, and the disk after it
abbrev pub FailsSo : Fault → Call → MemDisk → MemDisk → Type 0
FailsSo faults.Failed call old new = IsFalse (succeeds call old) × (new ≡ called call old)
FailsSo faults.NoMemory call old new = new ≡ old

abbrev pub IsCalled : {X : Type 0} → Result X Fault → Call → MemDisk → MemDisk → Type 0
IsCalled r call old new = MatchResult r (λ _. IsTrue (succeeds call old) × (new ≡ called call old)) (λ fault. FailsSo fault call old new)
