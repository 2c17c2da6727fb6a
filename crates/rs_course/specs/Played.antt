-- Which events are played so far: one site, asks, settles without a count and noise, with a settle between two
-- asks and one after the last.
use Rattle.std.specs.Prelude.{Bool, true, false, ◌&&◌, not, ◌==◌, List, [], ◌∷◌, None, Some}
use Rattle.rs_sched.specs.declared.event.Event.{Event}
use Rattle.rs_sched.specs.declared.event.Event.TheVariants as events

-- the event may come now, where `unsettled` says that an ask has no settle after it yet
abbrev pub may_come : Bool → Event → Bool
may_come unsettled (events.Sites last) = last == 1
may_come unsettled (events.Ask origin text) = not unsettled
may_come unsettled (events.Settle None) = true
may_come unsettled (events.Settle (Some n)) = false
may_come unsettled (events.Noise site bytes) = true
may_come unsettled (events.Deliver k) = false
may_come unsettled (events.Lose k) = false
may_come unsettled (events.Tick site n) = false
may_come unsettled (events.Stop site k j) = false
may_come unsettled (events.Arm site c k j) = false
may_come unsettled (events.Restart site) = false

-- whether an ask has no settle after it, after this event
abbrev pub is_open_after : Bool → Event → Bool
is_open_after unsettled (events.Ask origin text) = true
is_open_after unsettled (events.Settle count) = false
is_open_after unsettled (events.Sites last) = unsettled
is_open_after unsettled (events.Noise site bytes) = unsettled
is_open_after unsettled (events.Deliver k) = unsettled
is_open_after unsettled (events.Lose k) = unsettled
is_open_after unsettled (events.Tick site n) = unsettled
is_open_after unsettled (events.Stop site k j) = unsettled
is_open_after unsettled (events.Arm site c k j) = unsettled
is_open_after unsettled (events.Restart site) = unsettled

abbrev pub are_accepted : Bool → List Event → Bool
are_accepted unsettled [] = not unsettled
are_accepted unsettled (event ∷ others) = may_come unsettled event && are_accepted (is_open_after unsettled event) others
