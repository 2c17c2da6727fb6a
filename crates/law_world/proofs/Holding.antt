-- In each state the replies are true, stored and entered, and each entry was asked before.
use Rattle.std.proofs.Common.{◌≡◌, ℕ, ◌⊎◌, inl, inr, List, [], ◌∷◌, ◌++◌, Some, None, false, IsTrue, refl, sym, ap, subst, ◌∙◌}
use Rattle.std.specs.List.{slice_get, Contains}
use Rattle.std.proofs.lemmas.List.{append-nil}
use Rattle.std.proofs.lemmas.List.Elements.{Contains-append_left}
use Rattle.rs_base.specs.declared.peer.Peer.TheVariants as peers
use Rattle.rs_base.specs.declared.txn.Origin.{Origin}
use Rattle.rs_base.specs.declared.reply.Reply.{Reply}
use Rattle.rs_base.specs.declared.reply.Reply.TheVariants as replies
use Rattle.rs_sched.specs.declared.event.Event.{Event}
use Rattle.rs_sched.specs.Schedule.{IsValid}
use Rattle.rs_course.specs.declared.outs.Decided.{Decided}
use Rattle.rs_site.specs.Planned.{Planned}
use Rattle.rs_site.specs.State.{SiteState, opened}
use Rattle.rs_site.proofs.Asked.{Asked, Refused, RepliedAgain, Silent, NoRequest, Spent, Executed}
use Rattle.rs_course.specs.declared.report.ReportedReply.{ReportedReply}
use Rattle.rs_site.specs.World.{World}
use Rattle.rs_course.specs.Played.{are_accepted}
use Rattle.rs_course.specs.Course.{Action, Open, Post, GiveNext}
use Rattle.rs_site.specs.Course.{course}
use Rattle.rs_course.specs.Moments.{actions}
use Rattle.rs_site.specs.Moments.{world_after}
use Rattle.law_world.proofs.AtEach.{StateAt, IsLaw, at_each}
use Rattle.law_world.proofs.Kept.{Kept}
use Rattle.law_world.proofs.Gets.{get_push}
use Rattle.law_world.proofs.Played.{Playable, playable, course_is}
use Rattle.law_world.proofs.Reports.{reported_keeps}

-- each entry of the history was asked among these actions
abbrev pub ArePosted : List Action → List Decided → Type 0
ArePosted before history = (i : ℕ) (entry : Decided) → slice_get history i ≡ Some entry → Contains before (Post entry.origin entry.text)

pub record Holds (all : List Event) (before : List Action) (site : SiteState) (reports : List ReportedReply) (history : List Decided) : Type 0 where
  pub kept : Kept all site reports history
  pub posted : ArePosted before history

-- ---- at the opening

no_reply : (reply : Reply) → None ≡ Some reply → ⊥
no_reply reply e = cc

nothing_at : {X : Type 0} (k : ℕ) (x : X) → slice_get [] k ≡ Some x → ⊥
nothing_at k x e = cc

kept_first : (all : List Event) → Kept all (opened 1 1) [] []
kept_first all = record {
  truly = λ k reported at. absurd (nothing_at k reported at);
  syntax_replied = λ k position reported at. absurd (nothing_at k reported at);
  syntax_kept = λ user position at. absurd (no_reply (replies.Syntax position) at);
  keepable = λ user reply at. absurd (no_reply reply at);
  settled = λ k reported at. absurd (nothing_at k reported at);
  again = λ k l a b at_a at_b. absurd (nothing_at k a at_a);
  entered_replied = λ k reported at. absurd (nothing_at k reported at);
  entered_kept = λ user reply at. absurd (no_reply reply at);
}

---- by a received ask

-- what was committed is what was asked
pub record IsEntryOf (origin : Origin) (text : List ℕ) (entry : Decided) : Type 0 where
  pub origin_is : entry.origin ≡ origin
  pub text_is : entry.text ≡ text

abbrev AreOf : Origin → List ℕ → List Decided → Type 0
AreOf origin text entries = (entries ≡ []) ⊎ ((entry : Decided) × (entries ≡ entry ∷ []) × IsEntryOf origin text entry)

are_of : (site : SiteState) (origin : Origin) (text : List ℕ) (came : Planned) → Asked site (peers.Client 0) origin text came → AreOf origin text came.outs.decided
are_of site origin text came (Refused reply is true e) = inl (ap (λ (p : Planned). p.outs.decided) e)
are_of site origin text came (RepliedAgain reply last kept e) = inl (ap (λ (p : Planned). p.outs.decided) e)
are_of site origin text came (Silent last kept e) = inl (ap (λ (p : Planned). p.outs.decided) e)
are_of site origin text came (NoRequest next none e) = inl (ap (λ (p : Planned). p.outs.decided) e)
are_of site origin text came (Spent next stmt reads spent e) = inl (ap (λ (p : Planned). p.outs.decided) e)
are_of site origin text came (Executed next stmt reads room e) = inr (_, ap (λ (p : Planned). p.outs.decided) e, record { origin_is = refl; text_is = refl })

module _ (before : List Action) (history : List Decided) (posted : ArePosted before history) where
  posted_push : (entry : Decided) → Contains before (Post entry.origin entry.text) → ArePosted before (history ++ entry ∷ [])
  posted_push entry new i found at =
      elim (get_push history entry found i at) [
        | inl p ↦ posted i found p.1
        | inr p ↦ subst (λ (e : Decided). Contains before (Post e.origin e.text)) p.1 new
      ]

  posted_received : (origin : Origin) (text : List ℕ) → Contains before (Post origin text) → (entries : List Decided) → AreOf origin text entries → ArePosted before (history ++ entries)
  posted_received origin text asked entries (inl none) = subst (ArePosted before) (sym (ap (λ (es : List Decided). history ++ es) none ∙ append-nil history)) posted
  posted_received origin text asked entries (inr one) =
      let of_text : Contains before (Post origin one.0.text) = subst (λ (t : List ℕ). Contains before (Post origin t)) (sym one.2.text_is) asked in
      let new : Contains before (Post one.0.origin one.0.text) = subst (λ (o : Origin). Contains before (Post o one.0.text)) (sym one.2.origin_is) of_text in
      subst (λ (es : List Decided). ArePosted before (history ++ es)) (sym one.1) (posted_push one.0 new)

is_law : (all : List Event) → IsLaw all (Holds all)
is_law all = record {
  first = record { kept = kept_first all; posted = λ i entry at. absurd (nothing_at i entry at) };
  later = λ before action site reports history holds. record {
    kept = holds.kept;
    posted = λ i entry at. Contains-append_left before (action ∷ []) (Post entry.origin entry.text) (holds.posted i entry at);
  };
  received = λ before site origin text came next delivers cases holds. record {
    kept = reported_keeps all before GiveNext site (peers.Client 0) origin text next.receives next.post.within.text (next.post.site ∙ sym next.stands.one.me) (world_after before).replies (world_after before).history refl
        holds.kept came cases (ap (λ (w : World). w.replies) delivers);
    posted = posted_received before (world_after before).history holds.posted origin text next.posted came.outs.decided (are_of site origin text came cases);
  };
}

---- each state

module _ (all : List Event) (play : Playable all) where
  abbrev At : List Action → World → Type 0
  At before world = StateAt (Holds all) before world

  at_prefix : (before suffix : List Action) → actions all ≡ before ++ suffix → (before ≡ []) ⊎ At before (world_after before)
  at_prefix [] suffix e = inl refl
  at_prefix (first ∷ done) suffix e =
      let same : Open 1 ∷ play.others ≡ first ∷ (done ++ suffix) = sym play.separated ∙ e in
      let is : Open 1 ≡ first = cc in
      let others : play.others ≡ done ++ suffix = cc in
      inr (subst (λ (h : Action). At (h ∷ done) (world_after (h ∷ done))) is (at_each all play (Holds all) (is_law all) done suffix others))

  at_last : At (actions all) (course all)
  at_last =
      let now = at_each all play (Holds all) (is_law all) play.others [] (sym (append-nil play.others)) in
      let whole : At (actions all) (world_after (actions all)) = subst (λ (hs : List Action). At hs (world_after hs)) (sym play.separated) now in
      subst (At (actions all)) (sym (course_is all)) whole

-- at the end
pub holds_last : (all : List Event) → IsValid all → IsTrue (are_accepted false all) → StateAt (Holds all) (actions all) (course all)
holds_last all valid are = at_last all (playable all valid are)

-- in each state, but for the one before the opening
pub holds_at : (all : List Event) → IsValid all → IsTrue (are_accepted false all) → (before suffix : List Action) → actions all ≡ before ++ suffix → (before ≡ []) ⊎ StateAt (Holds all) before (world_after before)
holds_at all valid are = at_prefix all (playable all valid are)
