-- A fact of the site, the replies and the history that holds after the opening, and is kept by each received ask, holds in
-- each state.
use Rattle.std.proofs.Common.{◌≡◌, ℕ, refl, List, [], ◌∷◌, ◌++◌, map, sym, ap, subst, ◌∙◌}
use Rattle.std.specs.List.{slice_get, Contains}
use Rattle.rs_base.specs.Reading.{◌>>=◌}
use Rattle.rs_base.specs.declared.peer.Peer.TheVariants as peers
use Rattle.rs_base.specs.declared.txn.Origin.{Origin}
use Rattle.rs_sched.specs.declared.event.Event.{Event}
use Rattle.rs_course.specs.declared.outs.Decided.{Decided}
use Rattle.rs_site.specs.Planned.{Planned}
use Rattle.rs_site.specs.State.{SiteState, opened}
use Rattle.rs_site.proofs.Asked.{Asked}
use Rattle.rs_course.specs.declared.report.ReportedReply.{ReportedReply}
use Rattle.rs_course.specs.World.{site_at}
use Rattle.rs_site.specs.World.{World, Place}
use Rattle.rs_course.proofs.Pending.{next_gives}
use Rattle.rs_course.specs.Course.{Action, Open, Post, GiveNext, reported_reply, ask_datagram}
use Rattle.rs_site.specs.Course.{act}
use Rattle.rs_course.specs.Moments.{actions, ask_input}
use Rattle.rs_site.specs.Moments.{IsStep, world_after, Receives}
use Rattle.law_world.proofs.Fresh.{below_received}
use Rattle.law_world.proofs.Played.{IsPost, IsPlayed, Playable}
use Rattle.law_world.proofs.Received.{gone_count}
use Rattle.law_world.proofs.Standing.{Stands, stands_first, stands_on, stands_posted, stands_received, same_site}
use Rattle.law_world.proofs.Turns.{Turns, Posted, Stayed, Received, onward, turns}
use Rattle.law_world.proofs.Walk.{after, after_push, walk}

-- The site receives this ask next, which was posted before.
pub record ReceivesNext (given : List Event) (before : List Action) (site : SiteState) (origin : Origin) (text : List ℕ) : Type 0 where
  pub receives : Receives given before GiveNext site origin text
  pub post : IsPost origin text
  pub posted : Contains before (Post origin text)
  pub stands : Stands before (world_after before) site

-- the next delivery leaves the site as this, and has this output
abbrev pub DeliversNext : List Action → Planned → Type 0
DeliversNext before came = world_after (before ++ GiveNext ∷ []) ≡ onward (world_after before) came.after (map reported_reply came.outs.replies) came.outs.decided

-- a fact of a prefix of the actions, and of the site, the replies and the history after it
abbrev pub Fact : Type 1
Fact = List Action → SiteState → List ReportedReply → List Decided → Type 0

-- the fact in this state
pub record StateAt (P : Fact) (before : List Action) (world : World) : Type 0 where
  pub site : SiteState
  pub stands : Stands before world site
  pub holds : P before site world.replies world.history

-- the fact holds after the opening, and is kept by each action
pub record IsLaw (given : List Event) (P : Fact) : Type 0 where
  pub first : P (Open 1 ∷ []) (opened 1 1) [] []
  pub later : (before : List Action) (action : Action) (site : SiteState) (givens : List ReportedReply) (entries : List Decided) → P before site givens entries → P (before ++ action ∷ []) site givens entries
  pub received : (before : List Action) (site : SiteState) (origin : Origin) (text : List ℕ) (came : Planned) → ReceivesNext given before site origin text
      → DeliversNext before came → Asked site (peers.Client 0) origin text came → P before site (world_after before).replies (world_after before).history
      → P before came.after ((world_after before).replies ++ map reported_reply came.outs.replies) ((world_after before).history ++ came.outs.decided)

module _ (given : List Event) (playable : Playable given) (P : Fact) (law : IsLaw given P) where
  abbrev At : List Action → Type 0
  At done = StateAt P (Open 1 ∷ done) (after done)

  at_first : At []
  at_first = record { site = opened 1 1; stands = stands_first; holds = law.first }

  at_turn : (done : List Action) (action : Action) (suffix : List Action) → playable.others ≡ done ++ action ∷ suffix → (now : At done) → (next : World) → after (done ++ action ∷ []) ≡ next
      → Turns (Open 1 ∷ done) (after done) now.site action next → StateAt P (Open 1 ∷ (done ++ action ∷ [])) next
  at_turn done action suffix separated now next is_next (Posted origin text post e made) = subst (StateAt P (Open 1 ∷ (done ++ action ∷ []))) (sym made) (record {
    site = now.site;
    stands = stands_posted (Open 1 ∷ done) (after done) now.site now.stands action origin text post e;
    holds = law.later (Open 1 ∷ done) action now.site (after done).replies (after done).history now.holds;
  })
  at_turn done action suffix separated now next is_next (Stayed made) = subst (StateAt P (Open 1 ∷ (done ++ action ∷ []))) (sym made) (record {
    site = now.site;
    stands = stands_on (Open 1 ∷ done) (after done) now.site now.stands action;
    holds = law.later (Open 1 ∷ done) action now.site (after done).replies (after done).history now.holds;
  })
  at_turn done action suffix separated now next is_next (Received origin text is came cases made) =
      let all : actions given ≡ (Open 1 ∷ done) ++ GiveNext ∷ suffix =
      playable.separated ∙ ap (λ (hs : List Action). Open 1 ∷ hs) separated ∙ ap (λ (h : Action). (Open 1 ∷ done) ++ h ∷ suffix) is.deliver in
      let step : IsStep given (Open 1 ∷ done) GiveNext now.site (ask_input origin text) = record {
        suffix = suffix;
        separated = all;
        number = origin.site;
        gives = next_gives (after done) (gone_count (after done)) now.stands.one.gone (ask_datagram origin text) is.next;
        at = ap (λ (n : ℕ). site_at (after done) n) is.post.site ∙ ap (λ (places : List Place). slice_get places 0 >>= λ place. place.up) now.stands.one.sites;
      } in
      let receives : Receives given (Open 1 ∷ done) GiveNext now.site origin text = record { step = step; home = refl } in
      let receiving : ReceivesNext given (Open 1 ∷ done) now.site origin text = record { receives = receives; post = is.post; posted = is.posted; stands = now.stands } in
      let delivers : DeliversNext (Open 1 ∷ done) came = sym (ap (λ (h : Action). after (done ++ h ∷ [])) is.deliver) ∙ is_next ∙ made in
      subst (StateAt P (Open 1 ∷ (done ++ action ∷ []))) (sym made) (record {
        site = came.after;
        stands = stands_received (Open 1 ∷ done) (after done) now.site now.stands action came.after (map reported_reply came.outs.replies) came.outs.decided (same_site now.site (peers.Client 0) origin text came cases)
            (below_received now.site (peers.Client 0) origin text (after done).history now.stands.below came cases);
        holds = law.later (Open 1 ∷ done) action came.after ((after done).replies ++ map reported_reply came.outs.replies) ((after done).history ++ came.outs.decided)
            (law.received (Open 1 ∷ done) now.site origin text came receiving delivers cases now.holds);
      })

  at_step : (done : List Action) (action : Action) (suffix : List Action) → playable.others ≡ done ++ action ∷ suffix → IsPlayed action → At done → At (done ++ action ∷ [])
  at_step done action suffix separated is now =
      subst (StateAt P (Open 1 ∷ (done ++ action ∷ []))) (sym (after_push done action))
      (at_turn done action suffix separated now (act (after done) action) (after_push done action) (turns (Open 1 ∷ done) (after done) now.site now.stands.one now.stands.below now.stands.sent action is))

  -- in each state after the opening
  pub at_each : (done suffix : List Action) → playable.others ≡ done ++ suffix → StateAt P (Open 1 ∷ done) (after done)
  at_each done suffix separated = walk At playable.others playable.are at_step at_first done suffix separated
