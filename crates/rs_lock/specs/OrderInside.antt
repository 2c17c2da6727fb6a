-- The fields of an order: the resources, and the set of them.
use Rattle.std.specs.Prelude.{◌≡◌}
use Rattle.std.specs.BTreeSet.{contains}
use Rattle.rs_base.specs.declared.lock.Resource.{Resource}
use Rattle.rs_base.specs.Orders.{resource_cmp}
use Rattle.rs_lock.specs.declared.order.Order.TheInside.{Inside}
use Rattle.rs_lock.specs.Resources.{has}

-- the set has the resources of the list, and no others
abbrev pub KnowsMembers : Inside → Type 0
KnowsMembers a = (what : Resource) → contains resource_cmp a.members what ≡ has what a.resources.items
