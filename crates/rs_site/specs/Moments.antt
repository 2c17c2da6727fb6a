-- The steps of the sites of a course, and when a site receives and accepts an ask.
use Rattle.std.specs.Prelude.{◌≡◌, ℕ, ◌+◌, List}
use Rattle.rs_base.specs.declared.txn.Origin.{Origin}
use Rattle.rs_sched.specs.declared.event.Event.{Event}
use Rattle.rs_session.specs.Sessions.{session_of}
use Rattle.rs_course.specs.declared.input.Input.{Input}
use Rattle.rs_course.specs.Course.{Action}
use Rattle.rs_course.specs.Moments as generic
use Rattle.rs_site.specs.Course.{site_rules}
use Rattle.rs_site.specs.State.{SiteState}
use Rattle.rs_site.specs.World.{World}

abbrev pub world_after : List Action → World
world_after = generic.world_after site_rules

abbrev pub IsStep : List Event → List Action → Action → SiteState → Input → Type 0
IsStep = generic.IsStep site_rules

abbrev pub Receives : List Event → List Action → Action → SiteState → Origin → List ℕ → Type 0
Receives = generic.Receives site_rules

-- The ask is received, is of the site's epoch, and has the number after the user's last: the site accepts it, if the last
-- request is answered and the epoch has a transaction left.
pub record Accepts (given : List Event) (origin : Origin) (text : List ℕ) : Type 0 where
  pub before : List Action
  pub action : Action
  pub site : SiteState
  pub receives : Receives given before action site origin text
  pub epoch : origin.epoch ≡ site.who.epoch
  pub number : origin.number ≡ (session_of origin.user site.desk.sessions).last + 1
