-- Streams over memory whose calls fail at chosen numbers, as contracts see them.
use Rattle.std.specs.Prelude.{ℕ, ◌+◌, ◌-◌, ◌^◌, ◌==◌, min, Bool, if◌then◌else◌, List}
use Rattle.std.specs.List.{list_any}

-- a count raised by one, which stays at 2 ^ 64 - 1
abbrev pub raised : ℕ → ℕ
raised n = min (n + 1) (2 ^ 64 - 1)

-- the call after this number of calls is one of those that fail, numbered from 1
abbrev pub fails_next : List ℕ → ℕ → Bool
fails_next fail calls = list_any (λ number. number == raised calls) fail

-- the count of faults after a call
abbrev pub faults_after : Bool → ℕ → ℕ
faults_after failed faults = if failed then raised faults else faults

-- a source in memory: the bytes left, the number of reads, which of them fail, the number that failed
pub record SourceInMemory : Type 0 where
  pub left : List ℕ
  pub calls : ℕ
  pub fail : List ℕ
  pub faults : ℕ

-- a sink in memory: the bytes written, the number of writes, which of them fail, the number that failed
pub record SinkInMemory : Type 0 where
  pub written : List ℕ
  pub calls : ℕ
  pub fail : List ℕ
  pub faults : ℕ
