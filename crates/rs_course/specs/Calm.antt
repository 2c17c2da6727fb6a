-- Calm schedules: each ask is settled before the next comes, nothing is lost, and no site stops.
use Rattle.std.specs.Prelude.{Bool, true, false, ◌&&◌, not, List, [], ◌∷◌, None, Some}
use Rattle.rs_sched.specs.declared.event.Event.{Event}
use Rattle.rs_sched.specs.declared.event.Event.TheVariants as events
use Rattle.rs_course.specs.Played.{is_open_after}

-- the event keeps the calm, where `unsettled` says that an ask has no settle after it yet
abbrev pub keeps_calm : Bool → Event → Bool
keeps_calm unsettled (events.Sites last) = true
keeps_calm unsettled (events.Ask origin text) = not unsettled
keeps_calm unsettled (events.Settle None) = true
keeps_calm unsettled (events.Settle (Some n)) = false
keeps_calm unsettled (events.Noise site bytes) = true
keeps_calm unsettled (events.Deliver k) = false
keeps_calm unsettled (events.Lose k) = false
keeps_calm unsettled (events.Tick site n) = false
keeps_calm unsettled (events.Stop site k j) = false
keeps_calm unsettled (events.Arm site c k j) = false
keeps_calm unsettled (events.Restart site) = false

abbrev pub is_calm : Bool → List Event → Bool
is_calm unsettled [] = not unsettled
is_calm unsettled (event ∷ others) = keeps_calm unsettled event && is_calm (is_open_after unsettled event) others
