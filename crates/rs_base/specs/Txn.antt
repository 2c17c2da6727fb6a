-- The order of transactions, enlistments and requests: by their fields in order.
use Rattle.std.specs.Ordering.{nat_cmp, ordering_then}
use Rattle.std.specs.Cmp.Lexicographic.{slice_cmp}
use Rattle.std.specs.declared.cmp.Ordering.{Ordering}
use Rattle.rs_base.specs.declared.txn.Txn.{Txn}
use Rattle.rs_base.specs.declared.txn.Enlist.{Enlist}
use Rattle.rs_base.specs.declared.txn.Origin.{Origin}

abbrev pub txn_cmp : Txn → Txn → Ordering
txn_cmp a b = ordering_then (nat_cmp a.site b.site) (ordering_then (nat_cmp a.epoch b.epoch) (nat_cmp a.number b.number))

abbrev pub enlist_cmp : Enlist → Enlist → Ordering
enlist_cmp a b = ordering_then (nat_cmp a.site b.site) (ordering_then (nat_cmp a.epoch b.epoch) (nat_cmp a.number b.number))

abbrev pub origin_cmp : Origin → Origin → Ordering
origin_cmp a b = ordering_then (nat_cmp a.site b.site)
    (ordering_then (slice_cmp nat_cmp a.user b.user)
    (ordering_then (nat_cmp a.epoch b.epoch) (nat_cmp a.number b.number)))
