-- The states of a course, the steps of its sites, and when a site receives an ask.
use Rattle.std.specs.Prelude.{◌≡◌, ℕ, List, [], ◌∷◌, ◌++◌, flat_map, fold, Some}
use Rattle.rs_base.specs.declared.peer.Peer.TheVariants as peers
use Rattle.rs_base.specs.declared.txn.Origin.{Origin}
use Rattle.rs_sched.specs.declared.event.Event.{Event}
use Rattle.rs_sched.specs.declared.event.Event.TheVariants as events
use Rattle.rs_course.specs.declared.input.Input.{Input}
use Rattle.rs_course.specs.declared.input.Input.TheVariants as inputs
use Rattle.rs_course.specs.Course.{Action, actions_of, act, ask_datagram, gives}
use Rattle.rs_course.specs.Rules.{Rules}
use Rattle.rs_course.specs.World.{World, start, site_at}

-- the number of sites that an event opens
abbrev pub sites_opened : Event → ℕ
sites_opened (events.Sites last) = last
sites_opened (events.Ask origin text) = 0
sites_opened (events.Deliver k) = 0
sites_opened (events.Lose k) = 0
sites_opened (events.Tick site n) = 0
sites_opened (events.Stop site k j) = 0
sites_opened (events.Arm site c k j) = 0
sites_opened (events.Restart site) = 0
sites_opened (events.Settle count) = 0
sites_opened (events.Noise site bytes) = 0

-- the number of sites: the first event opens them
abbrev pub sites_of : List Event → ℕ
sites_of [] = 0
sites_of (event ∷ others) = sites_opened event

abbrev pub actions : List Event → List Action
actions given = flat_map actions_of given

-- the input by which a site receives a client's ask of a first part
abbrev pub ask_input : Origin → List ℕ → Input
ask_input origin text = inputs.Datagram (peers.Client 0) (ask_datagram origin text).bytes

-- ---- by the rules of the sites

module _ {Site : Type 0} (rules : Rules Site) where
  abbrev pub world_after : List Action → World Site
  world_after before = fold (act rules) start before

  -- After these actions comes this one, and by it a site that is up, in this state, takes this input.
  pub record IsStep (given : List Event) (before : List Action) (action : Action) (site : Site) (input : Input) : Type 0 where
    pub suffix : List Action
    pub separated : actions given ≡ before ++ action ∷ suffix
    pub number : ℕ
    pub gives : gives (world_after before) action ≡ Some (number, input)
    pub at : site_at (world_after before) number ≡ Some site

  -- By this step the site of the origin receives the ask.
  pub record Receives (given : List Event) (before : List Action) (action : Action) (site : Site) (origin : Origin) (text : List ℕ) : Type 0 where
    pub step : IsStep given before action site (ask_input origin text)
    pub home : step.number ≡ origin.site
