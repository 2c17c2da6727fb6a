-- In each state after the opening the world has one site, and what was sent was asked of it.
use Rattle.std.proofs.Common.{◌≡◌, ℕ, ◌+◌, ap, inl, inr, List, [], ◌∷◌, ◌++◌, Some, refl, sym, subst, ◌∙◌}
use Rattle.std.specs.List.{slice_get, range_with_len, Contains}
use Rattle.std.proofs.lemmas.List.FromFn.{length-range_with_len}
use Rattle.std.proofs.lemmas.List.Elements.{Contains-append_left, Contains-push}
use Rattle.rs_base.specs.declared.peer.Peer.{Peer}
use Rattle.rs_base.specs.declared.txn.Origin.{Origin}
use Rattle.rs_course.specs.declared.outs.Decided.{Decided}
use Rattle.rs_site.specs.declared.who.Who.{Who}
use Rattle.rs_site.specs.Planned.{Planned}
use Rattle.rs_site.specs.State.{SiteState, opened}
use Rattle.rs_site.proofs.Asked.{Asked, Refused, RepliedAgain, Silent, NoRequest, Spent, Executed}
use Rattle.rs_course.specs.declared.report.ReportedReply.{ReportedReply}
use Rattle.rs_course.specs.declared.datagram.Datagram.{Datagram}
use Rattle.rs_site.specs.World.{World}
use Rattle.rs_course.specs.Course.{Action, Open, Post, ask_datagram}
use Rattle.law_world.proofs.Fresh.{AreBelow}
use Rattle.law_world.proofs.Received.{IsOf, IsAsked, gone_count}
use Rattle.law_world.proofs.Gets.{get_push}
use Rattle.law_world.proofs.Played.{IsPost}
use Rattle.law_world.proofs.Turns.{onward}
use Rattle.law_world.proofs.Walk.{after}

pub record Stands (before : List Action) (world : World) (site : SiteState) : Type 0 where
  pub one : IsOf world site
  pub sent : (i : ℕ) (datagram : Datagram) → slice_get world.sent i ≡ Some datagram → IsAsked before datagram
  pub below : AreBelow site world.history

pub stands_first : Stands (Open 1 ∷ []) (after []) (opened 1 1)
stands_first = record {
  one = record { sites = refl; me = refl; many = refl; epoch = refl; gone = refl };
  sent = λ i datagram at. absurd (nothing i datagram at);
  below = λ i entry at. absurd (nothing i entry at);
}
  where
    nothing : {X : Type 0} (i : ℕ) (x : X) → slice_get [] i ≡ Some x → ⊥
    nothing i x e = cc

-- a site stays the one that it is
pub same_site : (site : SiteState) (from : Peer) (origin : Origin) (text : List ℕ) (came : Planned) → Asked site from origin text came → came.after.who ≡ site.who
same_site site from origin text came (Refused reply is true e) = ap (λ (p : Planned). p.after.who) e
same_site site from origin text came (RepliedAgain reply last kept e) = ap (λ (p : Planned). p.after.who) e
same_site site from origin text came (Silent last none e) = ap (λ (p : Planned). p.after.who) e
same_site site from origin text came (NoRequest next none e) = ap (λ (p : Planned). p.after.who) e
same_site site from origin text came (Spent next stmt reads spent e) = ap (λ (p : Planned). p.after.who) e
same_site site from origin text came (Executed next stmt reads room e) = ap (λ (p : Planned). p.after.who) e

module _ (before : List Action) (world : World) (site : SiteState) (stands : Stands before world site) (action : Action) where
  later : (datagram : Datagram) → IsAsked before datagram → IsAsked (before ++ action ∷ []) datagram
  later datagram a = record { origin = a.origin; text = a.text; is = a.is; post = a.post; posted = Contains-append_left before (action ∷ []) (Post a.origin a.text) a.posted }

  pub stands_on : Stands (before ++ action ∷ []) world site
  stands_on = record { one = stands.one; sent = λ i datagram at. later datagram (stands.sent i datagram at); below = stands.below }

  pub stands_posted : (origin : Origin) (text : List ℕ) → IsPost origin text → action ≡ Post origin text → Stands (before ++ action ∷ []) (record world { sent = world.sent ++ ask_datagram origin text ∷ [] }) site
  stands_posted origin text post e = record {
    one = record { sites = stands.one.sites; me = stands.one.me; many = stands.one.many; epoch = stands.one.epoch; gone = stands.one.gone };
    sent = sent_next;
    below = stands.below;
  }
    where
      new : IsAsked (before ++ action ∷ []) (ask_datagram origin text)
      new = record { origin = origin; text = text; is = refl; post = post; posted = subst (λ (h : Action). Contains (before ++ action ∷ []) h) e (Contains-push before action) }

      sent_next : (i : ℕ) (datagram : Datagram) → slice_get (world.sent ++ ask_datagram origin text ∷ []) i ≡ Some datagram → IsAsked (before ++ action ∷ []) datagram
      sent_next i datagram at =
          elim (get_push world.sent (ask_datagram origin text) datagram i at) [
            | inl p ↦ later datagram (stands.sent i datagram p.1)
            | inr p ↦ subst (λ (d : Datagram). IsAsked (before ++ action ∷ []) d) p.1 new
          ]

  pub stands_received : (next : SiteState) (givens : List ReportedReply) (entries : List Decided) → next.who ≡ site.who → AreBelow next (world.history ++ entries) → Stands (before ++ action ∷ []) (onward world next givens entries) next
  stands_received next givens entries same below = record {
    one = record {
      sites = refl;
      me = ap (λ (w : Who). w.me) same ∙ stands.one.me;
      many = ap (λ (w : Who). w.sites) same ∙ stands.one.many;
      epoch = ap (λ (w : Who). w.epoch) same ∙ stands.one.epoch;
      gone = ap (λ (n : ℕ). range_with_len 1 n) (sym (length-range_with_len 1 (gone_count world + 1)));
    };
    sent = λ i datagram at. later datagram (stands.sent i datagram at);
    below = below;
  }
