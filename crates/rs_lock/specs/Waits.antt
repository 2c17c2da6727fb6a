-- The waits of all resources, in the order in which they began.
use Rattle.std.specs.Prelude.{ℕ, ◌+◌, ◌-◌, ◌^◌, min, Bool, not, nat_le, List, filter, find, Option}
use Rattle.std.specs.List.{list_any}
use Rattle.rs_base.specs.declared.txn.Enlist.{Enlist}
use Rattle.rs_lock.specs.declared.wait.Wait.{Wait}
use Rattle.rs_lock.specs.Claims.{same}

-- a wait ends at its 16th tick
abbrev pub budget : ℕ
budget = 16

abbrev pub waits_for : Enlist → Wait → Bool
waits_for who wait = same who wait.who

-- the enlistment waits
abbrev pub has_wait : Enlist → List Wait → Bool
has_wait who waits = list_any (waits_for who) waits

abbrev pub without_wait : Enlist → List Wait → List Wait
without_wait who waits = filter (λ wait. not (waits_for who wait)) waits

-- one tick more; a count at its last value stays there
abbrev pub aged : Wait → Wait
aged wait = record wait { ticks = min (wait.ticks + 1) (2 ^ 64 - 1) }

abbrev pub is_over : Wait → Bool
is_over wait = nat_le budget wait.ticks

-- the wait that began first of those that waited long enough
abbrev pub first_over : List Wait → Option Wait
first_over waits = find is_over waits
