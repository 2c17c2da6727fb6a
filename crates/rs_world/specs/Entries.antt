-- The fields of a history.
use Rattle.std.specs.Prelude.{◌≡◌}
use Rattle.std.specs.BTreeSet.{contains}
use Rattle.rs_base.specs.declared.txn.Txn.{Txn}
use Rattle.rs_base.specs.Txn.{txn_cmp}
use Rattle.rs_course.specs.History.{has_txn}
use Rattle.rs_world.specs.declared.history.History.TheInside.{Inside}

-- the set has exactly the transactions of the entries
abbrev pub KnowsTransactions : Inside → Type 0
KnowsTransactions a = (txn : Txn) → contains txn_cmp a.txns txn ≡ has_txn txn a.entries
