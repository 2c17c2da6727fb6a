-- Events that are played are calm.
use Rattle.std.proofs.Common.{◌≡◌, Bool, true, false, ◌&&◌, List, [], ◌∷◌, Some, None, IsTrue, refl, ap, ◌∙◌}
use Rattle.rs_sched.specs.declared.event.Event.{Event}
use Rattle.rs_sched.specs.declared.event.Event.TheVariants as events
use Rattle.rs_course.specs.Calm.{keeps_calm, is_calm}
use Rattle.rs_course.specs.Played.{may_come, is_open_after, are_accepted}
use Rattle.law_world.proofs.Played.{both_true}

keeps : (unsettled : Bool) (event : Event) → may_come unsettled event ≡ true → keeps_calm unsettled event ≡ true
keeps unsettled (events.Sites last) may = refl
keeps unsettled (events.Ask origin text) may = may
keeps unsettled (events.Settle None) may = refl
keeps unsettled (events.Settle (Some n)) may = may
keeps unsettled (events.Noise site bytes) may = refl
keeps unsettled (events.Deliver k) may = may
keeps unsettled (events.Lose k) may = may
keeps unsettled (events.Tick site n) may = may
keeps unsettled (events.Stop site k j) may = may
keeps unsettled (events.Arm site c k j) may = may
keeps unsettled (events.Restart site) may = may

pub calm : (unsettled : Bool) (given : List Event) → are_accepted unsettled given ≡ true → is_calm unsettled given ≡ true
calm unsettled [] are = are
calm unsettled (event ∷ others) are =
    let parts = both_true (may_come unsettled event) (are_accepted (is_open_after unsettled event) others) are in
    ap (λ (b : Bool). b && is_calm (is_open_after unsettled event) others) (keeps unsettled event parts.0) ∙ calm (is_open_after unsettled event) others parts.1

pub played_is_calm : (given : List Event) → IsTrue (are_accepted false given) → IsTrue (is_calm false given)
played_is_calm given are = calm false given are
