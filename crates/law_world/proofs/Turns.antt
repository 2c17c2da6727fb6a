-- The next world by an action: an ask is posted, nothing comes of it, or an ask is received.
use Rattle.std.proofs.Common.{◌≡◌, ℕ, ◌+◌, List, [], ◌∷◌, ◌++◌, map, Some, ap, ◌∙◌}
use Rattle.std.specs.Prelude.{flat_map}
use Rattle.std.specs.List.{slice_get, range_with_len, Contains}
use Rattle.std.proofs.lemmas.List.{append-nil}
use Rattle.rs_base.specs.declared.peer.Peer.{Peer}
use Rattle.rs_base.specs.declared.peer.Peer.TheVariants as peers
use Rattle.rs_base.specs.declared.txn.Origin.{Origin}
use Rattle.rs_course.specs.declared.outs.Decided.{Decided}
use Rattle.rs_course.specs.declared.outs.RunOf.{RunOf}
use Rattle.rs_site.specs.Asking.{on_first}
use Rattle.rs_site.specs.Planned.{Planned}
use Rattle.rs_site.specs.State.{SiteState}
use Rattle.rs_site.proofs.Asked.{Asked, Refused, RepliedAgain, Silent, NoRequest, Spent, Executed, asked}
use Rattle.rs_course.specs.declared.report.ReportedReply.{ReportedReply}
use Rattle.rs_course.specs.declared.datagram.Datagram.{Datagram}
use Rattle.rs_course.specs.Course.{Action, Post, GiveNext, sent_by, reported_reply, ask_datagram}
use Rattle.rs_site.specs.Course.{act}
use Rattle.rs_course.specs.History.{with_entries}
use Rattle.rs_site.specs.World.{World}
use Rattle.law_world.proofs.Fresh.{AreBelow, fresh_received}
use Rattle.law_world.proofs.Received.{IsOf, IsAsked, Does, Posts, Receives, Stays, place_of, gone_count, receiving, receives_next, does}
use Rattle.law_world.proofs.Played.{IsPost, IsPlayed}

-- the action is a delivery, by which this ask is received
pub record IsReceived (before : List Action) (world : World) (action : Action) (origin : Origin) (text : List ℕ) : Type 0 where
  pub post : IsPost origin text
  pub posted : Contains before (Post origin text)
  pub deliver : action ≡ GiveNext
  pub next : slice_get world.sent (gone_count world) ≡ Some (ask_datagram origin text)

-- the world after a delivery: its site is this one now, and it gave these replies and committed these executions
abbrev pub onward : World → SiteState → List ReportedReply → List Decided → World
onward world site givens entries = record {
  sites = place_of site ∷ [];
  sent = world.sent;
  gone = range_with_len 1 (gone_count world + 1);
  replies = world.replies ++ givens;
  history = world.history ++ entries;
  runs = world.runs;
}

pub data Turns (before : List Action) (world : World) (site : SiteState) (action : Action) (next : World) : Type 0 where
  Posted : (origin : Origin) → (text : List ℕ) → IsPost origin text → action ≡ Post origin text → next ≡ record world { sent = world.sent ++ ask_datagram origin text ∷ [] } → Turns before world site action next
  Stayed : next ≡ world → Turns before world site action next
  Received : (origin : Origin) → (text : List ℕ) → IsReceived before world action origin text → (came : Planned) → Asked site (peers.Client 0) origin text came
      → next ≡ onward world came.after (map reported_reply came.outs.replies) came.outs.decided → Turns before world site action next

no_sends : (site : SiteState) (from : Peer) (origin : Origin) (text : List ℕ) (came : Planned) → Asked site from origin text came → came.outs.sends ≡ []
no_sends site from origin text came (Refused reply is true e) = ap (λ (p : Planned). p.outs.sends) e
no_sends site from origin text came (RepliedAgain reply last kept e) = ap (λ (p : Planned). p.outs.sends) e
no_sends site from origin text came (Silent last none e) = ap (λ (p : Planned). p.outs.sends) e
no_sends site from origin text came (NoRequest next none e) = ap (λ (p : Planned). p.outs.sends) e
no_sends site from origin text came (Spent next stmt reads spent e) = ap (λ (p : Planned). p.outs.sends) e
no_sends site from origin text came (Executed next stmt reads room e) = ap (λ (p : Planned). p.outs.sends) e

no_runs : (site : SiteState) (from : Peer) (origin : Origin) (text : List ℕ) (came : Planned) → Asked site from origin text came → came.outs.runs ≡ []
no_runs site from origin text came (Refused reply is true e) = ap (λ (p : Planned). p.outs.runs) e
no_runs site from origin text came (RepliedAgain reply last kept e) = ap (λ (p : Planned). p.outs.runs) e
no_runs site from origin text came (Silent last none e) = ap (λ (p : Planned). p.outs.runs) e
no_runs site from origin text came (NoRequest next none e) = ap (λ (p : Planned). p.outs.runs) e
no_runs site from origin text came (Spent next stmt reads spent e) = ap (λ (p : Planned). p.outs.runs) e
no_runs site from origin text came (Executed next stmt reads room e) = ap (λ (p : Planned). p.outs.runs) e

receives_on : (world : World) (came : Planned) → came.outs.sends ≡ [] → came.outs.runs ≡ [] → with_entries world.history came.outs.decided ≡ world.history ++ came.outs.decided
    → receiving world came ≡ onward world came.after (map reported_reply came.outs.replies) came.outs.decided
receives_on world came none unrun fresh =
    let runs : world.runs ++ came.outs.runs ≡ world.runs = ap (λ (more : List RunOf). world.runs ++ more) unrun ∙ append-nil world.runs in
    let sent : world.sent ++ flat_map (sent_by 1) came.outs.sends ≡ world.sent = ap (λ (sends : List (Peer × List ℕ)). world.sent ++ flat_map (sent_by 1) sends) none ∙ append-nil world.sent in
    ap (λ (all : List Datagram). record (onward world came.after (map reported_reply came.outs.replies) []) { sent = all; history = with_entries world.history came.outs.decided; runs = world.runs ++ came.outs.runs }) sent
    ∙ ap (λ (history : List Decided). record (onward world came.after (map reported_reply came.outs.replies) []) { history = history; runs = world.runs ++ came.outs.runs }) fresh
    ∙ ap (λ (all : List RunOf). record (onward world came.after (map reported_reply came.outs.replies) came.outs.decided) { runs = all }) runs

-- the world after the delivery of the ask that waits longest
pub turns_received : (before : List Action) (world : World) (site : SiteState) → IsOf world site → AreBelow site world.history → (origin : Origin) (text : List ℕ) → IsPost origin text
    → slice_get world.sent (gone_count world) ≡ Some (ask_datagram origin text)
    → act world GiveNext ≡ onward world (on_first site (peers.Client 0) origin text).after (map reported_reply (on_first site (peers.Client 0) origin text).outs.replies) (on_first site (peers.Client 0) origin text).outs.decided
turns_received before world site one below origin text post there =
    let from = peers.Client 0 in
    let came = on_first site from origin text in
    let cases = asked site from origin text in
    receives_next before world site one origin text post there ∙ receives_on world came (no_sends site from origin text came cases) (no_runs site from origin text came cases) (fresh_received site from origin text world.history below came cases)

-- one of the cases is there
pub turns : (before : List Action) (world : World) (site : SiteState) → IsOf world site → AreBelow site world.history → ((i : ℕ) (datagram : Datagram) → slice_get world.sent i ≡ Some datagram → IsAsked before datagram) → (action : Action) → IsPlayed action
    → Turns before world site action (act world action)
turns before world site one below sent action is = by_case (does before world site one sent action is)
  where
    by_case : Does before world site action → Turns before world site action (act world action)
    by_case (Posts origin text post e) = Posted origin text post e (ap (λ (h : Action). act world h) e)
    by_case (Stays e) = Stayed e
    by_case (Receives origin text post posted deliver next e) =
        let from = peers.Client 0 in
        let came = on_first site from origin text in
        let cases = asked site from origin text in
        Received origin text (record { post = post; posted = posted; deliver = deliver; next = next }) came cases
        (e ∙ receives_on world came (no_sends site from origin text came cases) (no_runs site from origin text came cases) (fresh_received site from origin text world.history below came cases))
