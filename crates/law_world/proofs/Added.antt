-- What an action adds to the history.
use Rattle.std.proofs.Common.{◌≡◌, ℕ, List, [], ◌∷◌, ◌++◌, Option, Some, None, refl, ap, ◌∙◌}
use Rattle.std.proofs.lemmas.List.Sums.{fold_push}
use Rattle.rs_sched.specs.declared.event.Event.{Event}
use Rattle.rs_site.specs.State.{SiteState}
use Rattle.rs_course.specs.declared.input.Input.{Input}
use Rattle.rs_course.specs.Course.{Action, Open, Post, Give, GiveNext, Lose, Tick, Stop, Arm, Restart, Noise, gives, taken, without}
use Rattle.rs_site.specs.Course.{decided_by, decided_in, stepped, stepped_by, act}
use Rattle.rs_course.specs.History.{with_entries}
use Rattle.rs_course.specs.Moments.{actions}
use Rattle.rs_site.specs.Moments.{world_after}
use Rattle.rs_course.specs.World.{start, site_at}
use Rattle.rs_site.specs.World.{World}

by_step : (world : World) (number : ℕ) (input : Input) (site : Option SiteState) → (stepped world number input site).history ≡ with_entries world.history (decided_in input site)
by_step world number input None = refl
by_step world number input (Some site) = refl

by_given : (world : World) (given : Option (ℕ × Input)) → (stepped_by world given).history ≡ with_entries world.history (decided_by world given)
by_given world None = refl
by_given world (Some (number, input)) = by_step world number input (site_at world number)

by_moved : (world : World) (number : Option ℕ) (given : Option (ℕ × Input)) → (stepped_by (without number world) given).history ≡ with_entries world.history (decided_by world given)
by_moved world None given = by_given world given
by_moved world (Some number) None = refl
by_moved world (Some number) (Some (to, input)) = by_step (without (Some number) world) to input (site_at world to)

by_action : (world : World) (action : Action) → (act world action).history ≡ with_entries world.history (decided_by world (gives world action))
by_action world (Open last) = refl
by_action world (Post origin text) = refl
by_action world (Give number) = by_moved world (taken world (Give number)) (gives world (Give number))
by_action world GiveNext = by_moved world (taken world GiveNext) (gives world GiveNext)
by_action world (Lose number) = by_moved world (taken world (Lose number)) None
by_action world (Tick site) = by_moved world None (gives world (Tick site))
by_action world (Stop site) = refl
by_action world (Arm site) = refl
by_action world (Restart site) = refl
by_action world (Noise site bytes) = by_moved world None (gives world (Noise site bytes))

pub entries_added : (given : List Event) (before suffix : List Action) (action : Action) → actions given ≡ before ++ action ∷ suffix
    → (world_after (before ++ action ∷ [])).history ≡ with_entries (world_after before).history (decided_by (world_after before) (gives (world_after before) action))
entries_added given before suffix action separated = ap (λ (w : World). w.history) (fold_push act start before action) ∙ by_action (world_after before) action
