-- The actions of valid events that are accepted: site 1 is opened, and then asks of it are posted within their limits,
-- the lowest datagrams delivered, and noise given to it.
use Rattle.std.proofs.Common.{◌≡◌, ◌≤◌, ℕ, zero, suc, Bool, true, false, ◌&&◌, List, [], ◌∷◌, ◌++◌, Some, None, IsTrue, refl, sym, ap, subst, ◌∙◌, arith}
use Rattle.std.specs.Prelude.{fold, replicate, ◌==◌}
use Rattle.std.proofs.lemmas.Bool.Decides.{nat_tests}
use Rattle.std.proofs.lemmas.List.Sums.{fold-append}
use Rattle.rs_base.specs.declared.txn.Origin.{Origin}
use Rattle.rs_msg.specs.declared.message.Ask.{Ask}
use Rattle.rs_msg.specs.Limits.{IsAskWithin}
use Rattle.rs_sched.specs.declared.event.Event.{Event}
use Rattle.rs_sched.specs.declared.event.Event.TheVariants as events
use Rattle.rs_sched.specs.Schedule.{IsValid, IsLater, AreLater}
use Rattle.rs_course.specs.Played.{may_come, is_open_after, are_accepted}
use Rattle.rs_course.specs.Course.{Action, Open, Post, Give, GiveNext, Lose, Tick, Stop, Arm, Restart, Noise, deliveries, actions_of}
use Rattle.rs_site.specs.Course.{act, world_step, course}
use Rattle.rs_course.specs.Moments.{actions, sites_of}
use Rattle.rs_site.specs.Moments.{world_after}
use Rattle.rs_course.specs.World.{start}
use Rattle.rs_site.specs.World.{World}

-- the message that asks for a first part
abbrev pub ask_of : Origin → List ℕ → Ask
ask_of origin text = record { user = origin.user; epoch = origin.epoch; number = origin.number; part = 0; text = text }

-- an ask of site 1 within its limits
pub record IsPost (origin : Origin) (text : List ℕ) : Type 0 where
  pub site : origin.site ≡ 1
  pub within : IsAskWithin (ask_of origin text)

abbrev pub IsPlayed : Action → Type 0
IsPlayed (Open last) = ⊥
IsPlayed (Post origin text) = IsPost origin text
IsPlayed (Give number) = ⊥
IsPlayed GiveNext = Unit {0}
IsPlayed (Lose number) = ⊥
IsPlayed (Tick site) = ⊥
IsPlayed (Stop site) = ⊥
IsPlayed (Arm site) = ⊥
IsPlayed (Restart site) = ⊥
IsPlayed (Noise site bytes) = site ≡ 1

unfoldable pub ArePlayed : List Action → Type 0
ArePlayed [] = Unit {0}
ArePlayed (action ∷ others) = IsPlayed action × ArePlayed others

pub played_none : ArePlayed []
unfolding ArePlayed
played_none = tt

pub played_more : (action : Action) (others : List Action) → IsPlayed action → ArePlayed others → ArePlayed (action ∷ others)
unfolding ArePlayed
played_more action others one all = (one, all)

pub played_first : (action : Action) (others : List Action) → ArePlayed (action ∷ others) → IsPlayed action × ArePlayed others
unfolding ArePlayed
played_first action others are = are

played_both : (xs ys : List Action) → ArePlayed xs → ArePlayed ys → ArePlayed (xs ++ ys)
played_both [] ys a b = b
played_both (x ∷ xs) ys a b =
    let parts = played_first x xs a in
    played_more x (xs ++ ys) parts.0 (played_both xs ys parts.1 b)

played_again : (n : ℕ) → ArePlayed (replicate n GiveNext)
played_again zero = played_none
played_again (suc n) = played_more GiveNext (replicate n GiveNext) tt (played_again n)

-- a settle makes some deliveries
pub deliveries_are : (n : ℕ) × (1 ≤ n) × (deliveries ≡ replicate n GiveNext)
unfolding deliveries
deliveries_are = (16777216, omega arith, refl)

played_deliveries : ArePlayed deliveries
played_deliveries = subst ArePlayed (sym deliveries_are.2) (played_again deliveries_are.0)

pub both_true : (a b : Bool) → (a && b) ≡ true → (a ≡ true) × (b ≡ true)
both_true true b e = (refl, e)
both_true false b e = absurd cc

-- an ask after the opening is one of site 1
pub is_post : (origin : Origin) (text : List ℕ) → IsLater 1 (events.Ask origin text) → IsPost origin text
is_post origin text later = record {
  site = omega (arith, later.fits.fields.site.0, later.fits.site_right);
  within = record { user = later.fits.fields.user; epoch = later.fits.fields.epoch; number = later.fits.fields.number; part = omega arith; text = later.text.short };
}

-- the actions of one event
played_event : (is_open : Bool) (event : Event) → IsLater 1 event → may_come is_open event ≡ true → ArePlayed (actions_of event)
played_event is_open (events.Sites last) later may = absurd (later.fits.sites_once tt)
played_event is_open (events.Ask origin text) later may = played_more (Post origin text) [] (is_post origin text later) played_none
played_event is_open (events.Settle None) later may = played_deliveries
played_event is_open (events.Settle (Some n)) later may = played_none
played_event is_open (events.Noise site bytes) later may = played_more (Noise site bytes) [] (omega (arith, later.fits.fields.0.0, later.fits.site_right)) played_none
played_event is_open (events.Deliver k) later may = played_none
played_event is_open (events.Lose k) later may = played_none
played_event is_open (events.Tick site n) later may = played_none
played_event is_open (events.Stop site k j) later may = played_none
played_event is_open (events.Arm site c k j) later may = played_none
played_event is_open (events.Restart site) later may = played_none

played_events : (is_open : Bool) (given : List Event) → AreLater 1 given → are_accepted is_open given ≡ true → ArePlayed (actions given)
played_events is_open [] later are = played_none
played_events is_open (event ∷ others) later are =
    let parts = both_true (may_come is_open event) (are_accepted (is_open_after is_open event) others) are in
    played_both (actions_of event) (actions others) (played_event is_open event later.0 parts.0) (played_events (is_open_after is_open event) others later.1 parts.1)

-- Site 1 is opened, and the later actions are allowed.
pub record Playable (given : List Event) : Type 0 where
  pub others : List Action
  pub separated : actions given ≡ Open 1 ∷ others
  pub are : ArePlayed others

pub one_site : (last : ℕ) (others : List Event) → IsTrue (are_accepted false (events.Sites last ∷ others)) → last ≡ 1
one_site last others are = grind (arith, nat_tests, (both_true (last == 1) (are_accepted false others) are).0)

pub playable : (given : List Event) → IsValid given → IsTrue (are_accepted false given) → Playable given
playable [] valid are = absurd valid
playable (events.Sites last ∷ others) valid are =
    let parts = both_true (last == 1) (are_accepted false others) are in
    let one = one_site last others are in
    record {
      others = actions others;
      separated = ap (λ (n : ℕ). Open n ∷ actions others) one;
      are = played_events false others (subst (λ (n : ℕ). AreLater n others) one valid.1) parts.1;
    }
playable (events.Ask origin text ∷ others) valid are = absurd valid
playable (events.Deliver k ∷ others) valid are = absurd valid
playable (events.Lose k ∷ others) valid are = absurd valid
playable (events.Tick site n ∷ others) valid are = absurd valid
playable (events.Stop site k j ∷ others) valid are = absurd valid
playable (events.Arm site c k j ∷ others) valid are = absurd valid
playable (events.Restart site ∷ others) valid are = absurd valid
playable (events.Settle count ∷ others) valid are = absurd valid
playable (events.Noise site bytes ∷ others) valid are = absurd valid

---- the course as a fold of actions

course_from : (given : List Event) (world : World) → fold world_step world given ≡ fold act world (actions given)
course_from [] world = refl
course_from (event ∷ others) world =
    course_from others (world_step world event) ∙ sym (fold-append act world (actions_of event) (actions others))

pub course_is : (given : List Event) → course given ≡ world_after (actions given)
course_is given = course_from given start

-- there is one site
pub sites_one : (given : List Event) → IsValid given → IsTrue (are_accepted false given) → sites_of given ≡ 1
sites_one [] valid are = absurd valid
sites_one (events.Sites last ∷ others) valid are = one_site last others are
sites_one (events.Ask origin text ∷ others) valid are = absurd valid
sites_one (events.Deliver k ∷ others) valid are = absurd valid
sites_one (events.Lose k ∷ others) valid are = absurd valid
sites_one (events.Tick site n ∷ others) valid are = absurd valid
sites_one (events.Stop site k j ∷ others) valid are = absurd valid
sites_one (events.Arm site c k j ∷ others) valid are = absurd valid
sites_one (events.Restart site ∷ others) valid are = absurd valid
sites_one (events.Settle count ∷ others) valid are = absurd valid
sites_one (events.Noise site bytes ∷ others) valid are = absurd valid
