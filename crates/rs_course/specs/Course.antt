-- The course of events: the world after each. An event is a list of actions, and the world is a fold of them.
use Rattle.std.specs.Prelude.{ℕ, ◌+◌, ◌-◌, Bool, true, not, nat_lt, ◌||◌, ◌==◌, List, [], ◌∷◌, ◌++◌, map, slice_set, fold, flat_map, replicate, length, Option, Some, None, if◌then◌else◌}
use Rattle.std.specs.BTreeSet.{insert_key}
use Rattle.std.specs.List.{slice_get, range_with_len, find, list_any}
use Rattle.std.specs.Ordering.{nat_cmp}
use Rattle.rs_base.specs.Reading.{◌>>=◌}
use Rattle.rs_base.specs.declared.peer.Peer.{Peer}
use Rattle.rs_base.specs.declared.peer.Peer.TheVariants as peers
use Rattle.rs_base.specs.declared.txn.Origin.{Origin}
use Rattle.rs_msg.specs.declared.message.Message.{Message}
use Rattle.rs_msg.specs.declared.message.Message.TheVariants as messages
use Rattle.rs_msg.specs.Reader.{message_of}
use Rattle.rs_msg.specs.Written.{message_bytes}
use Rattle.rs_session.specs.declared.told.Told.{Told}
use Rattle.rs_sched.specs.declared.event.Event.{Event}
use Rattle.rs_sched.specs.declared.event.Event.TheVariants as events
use Rattle.rs_course.specs.declared.datagram.Datagram.{Datagram}
use Rattle.rs_course.specs.declared.input.Input.{Input}
use Rattle.rs_course.specs.declared.input.Input.TheVariants as inputs
use Rattle.rs_course.specs.declared.outs.Decided.{Decided}
use Rattle.rs_course.specs.declared.outs.Outs.{Outs}
use Rattle.rs_course.specs.declared.report.ReportedReply.{ReportedReply}
use Rattle.rs_course.specs.History.{with_entries}
use Rattle.rs_course.specs.Rules.{Rules}
use Rattle.rs_course.specs.World.{World, start, site_at}

-- ---- actions

pub data Action : Type 0 where
  Open : (last : ℕ) → Action  -- sites 1 to this one are opened
  Post : (origin : Origin) → (text : List ℕ) → Action  -- a client's ask is sent
  Give : (number : ℕ) → Action  -- the datagram of this number is delivered, also again
  GiveNext : Action  -- the pending datagram of the lowest number is delivered, if there is one
  Lose : (number : ℕ) → Action  -- the datagram of this number is lost
  Tick : (site : ℕ) → Action  -- a site's clock ticks
  Stop : (site : ℕ) → Action  -- a site stops
  Arm : (site : ℕ) → Action  -- a call of a site's disk is to fail
  Restart : (site : ℕ) → Action  -- a stopped site is opened again
  Noise : (site : ℕ) → (bytes : List ℕ) → Action  -- a site is given bytes, where they are no message

-- ---- datagrams

-- the datagram of a client's ask of a first part
abbrev pub ask_datagram : Origin → List ℕ → Datagram
ask_datagram origin text = record {
  from = peers.Client 0;
  to = origin.site;
  bytes = message_bytes (messages.Ask (record { user = origin.user; epoch = origin.epoch; number = origin.number; part = 0; text = text }));
}

-- the datagram of this number, if it was sent
abbrev pub datagram_at : {Site : Type 0} → World Site → ℕ → Option Datagram
datagram_at world number = if number == 0 then None else slice_get world.sent (number - 1)

abbrev pub is_gone : {Site : Type 0} → World Site → ℕ → Bool
is_gone world number = list_any (λ other. number == other) world.gone

-- the lowest number of a datagram that is neither delivered nor lost
abbrev pub lowest_pending : {Site : Type 0} → World Site → Option ℕ
lowest_pending world = find (λ number. not (is_gone world number)) (range_with_len 1 (length world.sent))

-- the number, if a datagram of it was sent
abbrev pub sent_number : {Site : Type 0} → World Site → ℕ → Option ℕ
sent_number world number = if number == 0 || nat_lt (length world.sent) number then None else Some number

-- the number of the datagram that an action delivers or loses, if it does
abbrev pub taken : {Site : Type 0} → World Site → Action → Option ℕ
taken world (Open last) = None
taken world (Post origin text) = None
taken world (Give number) = sent_number world number
taken world GiveNext = lowest_pending world
taken world (Lose number) = sent_number world number
taken world (Tick site) = None
taken world (Stop site) = None
taken world (Arm site) = None
taken world (Restart site) = None
taken world (Noise site bytes) = None

-- the world in which the datagram of this number is gone
abbrev pub without : {Site : Type 0} → Option ℕ → World Site → World Site
without None world = world
without (Some number) world = record world { gone = insert_key nat_cmp world.gone number }

-- ---- inputs

abbrev pub delivery_of : Datagram → ℕ × Input
delivery_of datagram = (datagram.to, inputs.Datagram datagram.from datagram.bytes)

abbrev pub delivery_at : {Site : Type 0} → World Site → Option ℕ → Option (ℕ × Input)
delivery_at world number = (number >>= datagram_at world) >>= λ datagram. Some (delivery_of datagram)

abbrev pub noise_of : ℕ → List ℕ → Option Message → Option (ℕ × Input)
noise_of site bytes None = Some (site, inputs.Datagram (peers.Client 0) bytes)
noise_of site bytes (Some message) = None

-- the number of the site that an action gives an input, and that input
abbrev pub gives : {Site : Type 0} → World Site → Action → Option (ℕ × Input)
gives world (Open last) = None
gives world (Post origin text) = None
gives world (Give number) = delivery_at world (sent_number world number)
gives world GiveNext = delivery_at world (lowest_pending world)
gives world (Lose number) = None
gives world (Tick site) = Some (site, inputs.Tick)
gives world (Stop site) = None
gives world (Arm site) = None
gives world (Restart site) = None
gives world (Noise site bytes) = noise_of site bytes (message_of bytes)

-- ---- steps of sites

-- what is sent to a site is numbered and stored; what goes to a client isn't
abbrev pub sent_by : ℕ → Peer × List ℕ → List Datagram
sent_by site (peers.Site to, bytes) = (record { from = peers.Site site; to = to; bytes = bytes }) ∷ []
sent_by site (peers.Client port, bytes) = []

abbrev pub reported_reply : Told → ReportedReply
reported_reply reported = record { origin = reported.origin; reply = reported.reply }

-- the output of a step of this site
abbrev pub after_outs : {Site : Type 0} → World Site → ℕ → Outs → World Site
after_outs world site outs = record world {
  sent = world.sent ++ flat_map (sent_by site) outs.sends;
  replies = world.replies ++ map reported_reply outs.replies;
  history = with_entries world.history outs.decided;
  runs = world.runs ++ outs.runs;
}

-- the world in which the site of this number is up in this state, or down
abbrev pub with_place : {Site : Type 0} → ℕ → Option Site → World Site → World Site
with_place number up world = record world { sites = slice_set world.sites (number - 1) (record { up = up }) }

-- ---- events

-- the largest number of deliveries of a settle without a count
unfoldable pub deliveries : List Action
deliveries = replicate 16777216 GiveNext

-- Settles with a count, deliveries by number, losses, ticks, stops, arms and restarts aren't played yet: they do nothing.
abbrev pub actions_of : Event → List Action
actions_of (events.Sites last) = Open last ∷ []
actions_of (events.Ask origin text) = Post origin text ∷ []
actions_of (events.Settle None) = deliveries
actions_of (events.Noise site bytes) = Noise site bytes ∷ []
actions_of (events.Settle (Some n)) = []
actions_of (events.Deliver k) = []
actions_of (events.Lose k) = []
actions_of (events.Tick site n) = []
actions_of (events.Stop site k j) = []
actions_of (events.Arm site c k j) = []
actions_of (events.Restart site) = []

-- ---- the course, by the rules of the sites

module _ {Site : Type 0} (rules : Rules Site) where
  -- What is given to a site that is down is lost.
  abbrev pub stepped : World Site → ℕ → Input → Option Site → World Site
  stepped world number input None = world
  stepped world number input (Some site) =
      let step = rules.step site input in
      after_outs (with_place number step.0 world) number step.1

  -- the site that is given an input takes it
  abbrev pub stepped_by : World Site → Option (ℕ × Input) → World Site
  stepped_by world None = world
  stepped_by world (Some (number, input)) = stepped world number input (site_at world number)

  -- the executions that a step of this site, by this input, reports as committed
  abbrev pub decided_in : Input → Option Site → List Decided
  decided_in input None = []
  decided_in input (Some site) = (rules.step site input).1.decided

  -- those that the step reports by which a site takes what it is given
  abbrev pub decided_by : World Site → Option (ℕ × Input) → List Decided
  decided_by world None = []
  decided_by world (Some (number, input)) = decided_in input (site_at world number)

  -- an action that delivers or loses a datagram, or gives a site an input
  abbrev pub moved : World Site → Action → World Site
  moved world action = stepped_by (without (taken world action) world) (gives world action)

  -- Stops, arms and restarts aren't played yet: they do nothing.
  abbrev pub act : World Site → Action → World Site
  act world (Open last) = record world { sites = map (λ me. record { up = Some (rules.opened me last) }) (range_with_len 1 last) }
  act world (Post origin text) = record world { sent = world.sent ++ ask_datagram origin text ∷ [] }
  act world (Give number) = moved world (Give number)
  act world GiveNext = moved world GiveNext
  act world (Lose number) = moved world (Lose number)
  act world (Tick site) = moved world (Tick site)
  act world (Stop site) = world
  act world (Arm site) = world
  act world (Restart site) = world
  act world (Noise site bytes) = moved world (Noise site bytes)

  -- the world after an event, and after each of several
  abbrev pub world_step : World Site → Event → World Site
  world_step world event = fold act world (actions_of event)

  abbrev pub course : List Event → World Site
  course given = fold world_step start given
