-- The next datagram of a world of sites.
use Rattle.std.proofs.Common.{◌≡◌, ℕ, ◌<◌, ◌≤◌, List, length, Option, Some, None}
use Rattle.std.specs.List.{slice_get}
use Rattle.rs_course.specs.declared.datagram.Datagram.{Datagram}
use Rattle.rs_course.specs.Course.{GiveNext, lowest_pending}
use Rattle.rs_course.proofs.Pending.{AreGoneTo}
use Rattle.rs_course.proofs.Pending as generic
use Rattle.rs_site.specs.Course.{site_rules, act}
use Rattle.rs_site.specs.World.{World}

pub none_delivered : (world : World) → lowest_pending world ≡ None → act world GiveNext ≡ world
none_delivered = generic.none_delivered site_rules

abbrev pub next_given : World → ℕ → Option Datagram → World
next_given = generic.next_given site_rules

pub none_next : (world : World) (d : ℕ) → AreGoneTo world d → length world.sent ≤ d → act world GiveNext ≡ world
none_next = generic.none_next site_rules

pub one_next : (world : World) (d : ℕ) → AreGoneTo world d → d < length world.sent → (datagram : Datagram) → slice_get world.sent d ≡ Some datagram
    → act world GiveNext ≡ next_given world d (Some datagram)
one_next = generic.one_next site_rules
