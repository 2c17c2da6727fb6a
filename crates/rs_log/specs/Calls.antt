-- The device calls of a force, and of an opening after its sync, size and read.
use Rattle.std.specs.Prelude.{ℕ, ◌+◌, nat_le, ◌==◌, if◌then◌else◌, List, [], ◌∷◌, ◌++◌, length, get_or}
use Rattle.rs_disk.specs.declared.call.Call.{Call}
use Rattle.rs_disk.specs.declared.call.Call.TheVariants as calls
use Rattle.rs_log.specs.Format.{Item, Found, header, batch_bytes, found}
use Rattle.rs_log.specs.Format.Found.{NotALog, Log}

-- a batch with a closed gate is written after the last gate, a sync, the gate opened, a sync
abbrev pub batch_calls : ℕ → List ℕ → List Call
batch_calls gate batch = calls.Write (gate + 1) batch ∷ calls.Sync ∷ calls.Write gate (1 ∷ []) ∷ calls.Sync ∷ []

-- the calls of a force; none for an empty tail
abbrev pub force_calls : ℕ → List Item → List Call
force_calls gate [] = []
force_calls gate (item ∷ items) = batch_calls gate (batch_bytes (item ∷ items) ++ 0 ∷ [])

-- of a log the part after its last gate is cut, with a sync, and a gate that isn't closed is closed, with a sync
abbrev pub trims : List ℕ → Found → List Call
trims bytes (NotALog at) = []
trims bytes (Log items gate) = calls.Cut (gate + 1) ∷ calls.Sync ∷ (if get_or bytes gate 0 == 0 then [] else calls.Write gate (0 ∷ []) ∷ calls.Sync ∷ [])

-- the calls of an opening after its sync, size and read: a new log is written, with a sync
abbrev pub opening_calls : List ℕ → List Call
opening_calls bytes = if nat_le (length bytes) 9 then calls.Write 0 (header ++ 0 ∷ []) ∷ calls.Sync ∷ [] else trims bytes (found bytes)
