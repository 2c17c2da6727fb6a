-- What an action does to a world of one site that was only asked.
use Rattle.std.proofs.Common.{◌≡◌, ℕ, ◌+◌, ◌≤◌, false, List, [], ◌∷◌, ◌++◌, length, Option, Some, None, refl, sym, ap, ◌∙◌, arith, nat_lt}
use Rattle.std.specs.List.{slice_get, range_with_len, Contains}
use Rattle.std.proofs.lemmas.Bool.Decides.{nat_tests}
use Rattle.std.proofs.lemmas.List.{append-nil}
use Rattle.rs_base.specs.Reading.{◌>>=◌}
use Rattle.rs_base.specs.declared.peer.Peer.TheVariants as peers
use Rattle.rs_base.specs.declared.txn.Origin.{Origin}
use Rattle.rs_msg.specs.declared.message.Message.{Message}
use Rattle.rs_msg.specs.declared.message.Message.TheVariants as messages
use Rattle.rs_msg.specs.Reader.{message_of}
use Rattle.rs_msg.specs.Written.{message_bytes}
use Rattle.rs_course.specs.declared.input.Input.{Input}
use Rattle.rs_course.specs.declared.input.Input.TheVariants as inputs
use Rattle.rs_site.specs.Asking.{on_first}
use Rattle.rs_site.specs.Planned.{Planned, idle}
use Rattle.rs_site.specs.State.{SiteState}
use Rattle.rs_site.specs.Step.{most_bytes, on_read, planned_step}
use Rattle.rs_site.proofs.Planning.{when_true, when_false, by_when}
use Rattle.rs_course.specs.declared.datagram.Datagram.{Datagram}
use Rattle.rs_course.specs.Course.{Action, Open, Post, Give, GiveNext, Lose, Tick, Stop, Arm, Restart, Noise, after_outs, ask_datagram, noise_of}
use Rattle.rs_site.specs.Course.{stepped, stepped_by, act}
use Rattle.rs_site.specs.World.{World, Place}
use Rattle.rs_course.proofs.Pending.{AreGoneTo, get_below, get_past}
use Rattle.rs_site.proofs.Pending.{none_next, one_next}
use Rattle.rs_msg.proofs.Sizes.{ask_fits}
use Rattle.law_world.proofs.Messages.{ask_is_read}
use Rattle.law_world.proofs.Played.{ask_of, IsPost, IsPlayed}

-- ---- the site

abbrev asked_by : Origin → List ℕ → List ℕ
asked_by origin text = message_bytes (messages.Ask (ask_of origin text))

short : (bytes : List ℕ) → length bytes ≤ 32768 → nat_lt most_bytes (length bytes) ≡ false
short bytes le = grind (arith, nat_tests, le)

-- a site receives what was asked of it
pub step_of_ask : (site : SiteState) (origin : Origin) (text : List ℕ) → site.who.me ≡ 1 → IsPost origin text
    → planned_step site (inputs.Datagram (peers.Client 0) (asked_by origin text)) ≡ on_first site (peers.Client 0) origin text
unfolding planned_step
step_of_ask site origin text me is =
    when_false _ _ _ (short (asked_by origin text) (ask_fits (ask_of origin text) is.within))
    ∙ ap (λ (m : Option Message). on_read site (peers.Client 0) m) (ask_is_read (ask_of origin text) is.within)
    ∙ when_true _ _ _ refl
    ∙ ap (λ (s : ℕ). on_first site (peers.Client 0) (record { site = s; user = origin.user; epoch = origin.epoch; number = origin.number }) text) (me ∙ sym is.site)

-- a site receives what is no message
pub step_of_noise : (site : SiteState) (bytes : List ℕ) → message_of bytes ≡ None → planned_step site (inputs.Datagram (peers.Client 0) bytes) ≡ idle site
unfolding planned_step
step_of_noise site bytes none = by_when (λ (p : Planned). p ≡ idle site) _ _ _ (λ _. refl) (λ _. ap (λ (m : Option Message). on_read site (peers.Client 0) m) none)

-- ---- the world

-- a site that is up
abbrev pub place_of : SiteState → Place
place_of site = record { up = Some site }

-- the number of datagrams that are gone
abbrev pub gone_count : World → ℕ
gone_count world = length world.gone

-- the world has this one site, and the datagrams that are gone are the first ones
pub record IsOf (world : World) (site : SiteState) : Type 0 where
  pub sites : world.sites ≡ place_of site ∷ []
  pub me : site.who.me ≡ 1
  pub many : site.who.sites ≡ 1
  pub epoch : site.who.epoch ≡ 1
  pub gone : AreGoneTo world (gone_count world)

-- the world after its one site handled an input, with this output
abbrev pub became : World → Planned → World
became world came = after_outs (record world { sites = place_of came.after ∷ [] }) 1 came.outs

-- an ask that waits is received
abbrev pub receiving : World → Planned → World
receiving world came = became (record world { gone = range_with_len 1 (gone_count world + 1) }) came

-- the one site handles an input
accepted_alone : (world : World) (site : SiteState) (input : Input) (to : ℕ) (came : Planned) → world.sites ≡ place_of site ∷ [] → to ≡ 1 → planned_step site input ≡ came → stepped_by world (Some (to, input)) ≡ became world came
accepted_alone world site input to came sites one step =
    ap (λ (n : ℕ). stepped_by world (Some (n, input))) one
    ∙ ap (λ (all : List Place). stepped (record world { sites = all }) 1 input (slice_get all 0 >>= λ place. place.up)) sites
    ∙ ap (λ (p : Planned). became world p) step

-- a dropped input has no output
became_idle : (world : World) (site : SiteState) → world.sites ≡ place_of site ∷ [] → became world (idle site) ≡ world
became_idle world site sites =
    ap (λ (all : List Place). record world { sites = all; sent = world.sent ++ []; replies = world.replies ++ []; runs = world.runs ++ [] }) (sym sites)
    ∙ ap (λ (xs : List _). record world { sent = xs; replies = world.replies ++ []; runs = world.runs ++ [] }) (append-nil world.sent)
    ∙ ap (λ (xs : List _). record world { replies = xs; runs = world.runs ++ [] }) (append-nil world.replies)
    ∙ ap (λ (xs : List _). record world { runs = xs }) (append-nil world.runs)

-- What an action does after those before.
pub data Does (before : List Action) (world : World) (site : SiteState) (action : Action) : Type 0 where
  Posts : (origin : Origin) → (text : List ℕ) → IsPost origin text → action ≡ Post origin text → Does before world site action
  Receives : (origin : Origin) → (text : List ℕ) → IsPost origin text → Contains before (Post origin text) → action ≡ GiveNext → slice_get world.sent (gone_count world) ≡ Some (ask_datagram origin text)
      → act world action ≡ receiving world (on_first site (peers.Client 0) origin text) → Does before world site action
  Stays : act world action ≡ world → Does before world site action

-- the datagram is an ask of site 1 that was posted before
pub record IsAsked (before : List Action) (datagram : Datagram) : Type 0 where
  pub origin : Origin
  pub text : List ℕ
  pub is : datagram ≡ ask_datagram origin text
  pub post : IsPost origin text
  pub posted : Contains before (Post origin text)

module _ (before : List Action) (world : World) (site : SiteState) (one : IsOf world site) where
  -- the ask that waits longest is received by a delivery
  pub receives_next : (origin : Origin) (text : List ℕ) → IsPost origin text → slice_get world.sent (gone_count world) ≡ Some (ask_datagram origin text)
      → act world GiveNext ≡ receiving world (on_first site (peers.Client 0) origin text)
  receives_next origin text post there =
      one_next world (gone_count world) one.gone (get_below world.sent (gone_count world) (ask_datagram origin text) there) (ask_datagram origin text) there
      ∙ accepted_alone (record world { gone = range_with_len 1 (gone_count world + 1) }) site (inputs.Datagram (peers.Client 0) (asked_by origin text)) origin.site (on_first site (peers.Client 0) origin text)
      one.sites post.site (step_of_ask site origin text one.me post)

  by_sent : ((i : ℕ) (datagram : Datagram) → slice_get world.sent i ≡ Some datagram → IsAsked before datagram) → (next : Option Datagram) → slice_get world.sent (gone_count world) ≡ next
      → Does before world site GiveNext
  by_sent asked None e = Stays (none_next world (gone_count world) one.gone (get_past world.sent (gone_count world) e))
  by_sent asked (Some datagram) e =
      let a = asked (gone_count world) datagram e in
      let there : slice_get world.sent (gone_count world) ≡ Some (ask_datagram a.origin a.text) = e ∙ ap (λ (d : Datagram). Some d) a.is in
      Receives a.origin a.text a.post a.posted refl there (receives_next a.origin a.text a.post there)

  by_noise : (number : ℕ) (bytes : List ℕ) → number ≡ 1 → (read : Option Message) → message_of bytes ≡ read → stepped_by world (noise_of number bytes read) ≡ world
  by_noise number bytes first None e =
      accepted_alone world site (inputs.Datagram (peers.Client 0) bytes) number (idle site) one.sites first (step_of_noise site bytes e) ∙ became_idle world site one.sites
  by_noise number bytes first (Some message) e = refl

  -- noise does nothing
  pub noise_stays : (number : ℕ) (bytes : List ℕ) → number ≡ 1 → act world (Noise number bytes) ≡ world
  noise_stays number bytes first = by_noise number bytes first (message_of bytes) refl

  pub does : ((i : ℕ) (datagram : Datagram) → slice_get world.sent i ≡ Some datagram → IsAsked before datagram) → (action : Action) → IsPlayed action → Does before world site action
  does asked (Open last) is = absurd is
  does asked (Post origin text) is = Posts origin text is refl
  does asked (Give number) is = absurd is
  does asked GiveNext is = by_sent asked (slice_get world.sent (gone_count world)) refl
  does asked (Lose number) is = absurd is
  does asked (Tick number) is = absurd is
  does asked (Stop number) is = absurd is
  does asked (Arm number) is = absurd is
  does asked (Restart number) is = absurd is
  does asked (Noise number bytes) is = Stays (noise_stays number bytes is)
