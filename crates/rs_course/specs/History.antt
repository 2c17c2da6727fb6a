-- A history: the list of committed executions, in their serial order.
use Rattle.std.specs.Prelude.{ℕ, Bool, List, [], ◌∷◌, ◌++◌, fold, if◌then◌else◌}
use Rattle.std.specs.List.{list_any}
use Rattle.std.specs.BTreeMap.{is_at}
use Rattle.rs_base.specs.declared.txn.Txn.{Txn}
use Rattle.rs_base.specs.Txn.{txn_cmp}
use Rattle.rs_course.specs.declared.outs.Decided.{Decided}

-- ---- entries

-- an entry of the history is of this transaction
abbrev pub has_txn : Txn → List Decided → Bool
has_txn txn history = list_any (λ entry. is_at (txn_cmp entry.txn) txn) history

-- An entry comes to the end, unless the history has one of its transaction.
abbrev pub entered : List Decided → Decided → List Decided
entered history entry = if has_txn entry.txn history then history else history ++ entry ∷ []

-- the history, and those of these entries whose transactions it doesn't have
abbrev pub with_entries : List Decided → List Decided → List Decided
with_entries history entries = fold entered history entries
