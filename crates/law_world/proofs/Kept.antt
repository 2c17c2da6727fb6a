-- Facts of the replies and the entries so far and of the stored sessions, and what a received ask does to them.
use Rattle.std.proofs.Common.{◌≡◌, ◌≢◌, ℕ, zero, suc, ◌<◌, ◌⊎◌, inl, inr, List, [], ◌∷◌, ◌++◌, length, Some, refl, sym, ap, subst, ◌∙◌, arith}
use Rattle.std.specs.Prelude.{slice_get}
use Rattle.rs_base.specs.declared.txn.Origin.{Origin}
use Rattle.rs_base.specs.declared.reply.Reply.{Reply}
use Rattle.rs_base.specs.declared.reply.Reply.TheVariants as replies
use Rattle.rs_sched.specs.declared.event.Event.{Event}
use Rattle.rs_session.specs.declared.session.Session.{Session}
use Rattle.rs_course.specs.declared.outs.Decided.{Decided}
use Rattle.rs_site.specs.declared.who.Who.{Who}
use Rattle.rs_session.specs.Sessions.{Book, session_of, with_session}
use Rattle.rs_site.specs.State.{SiteState}
use Rattle.rs_site.proofs.Asked.{IsNext}
use Rattle.rs_session.proofs.PutSessions.{session_put, session_beside, user_is}
use Rattle.rs_course.specs.declared.report.ReportedReply.{ReportedReply}
use Rattle.law_world.specs.Explains.{IsFinal, IsCommitted, IsGivenTruly, IsNoRequest}
use Rattle.law_world.proofs.Gets.{get_push}

-- the user's last accepted request
abbrev pub last_origin : SiteState → List ℕ → Origin
last_origin site user = record { site = site.who.me; user = user; epoch = site.who.epoch; number = (session_of user site.desk.sessions).last }

-- the history has an entry of this request
pub record IsEntered (history : List Decided) (request : Origin) : Type 0 where
  pub position : ℕ
  pub entry : Decided
  pub there : slice_get history position ≡ Some entry
  pub origin : entry.origin ≡ request

-- the reply is the one stored for its user's last request
pub record IsKept (site : SiteState) (reported : ReportedReply) : Type 0 where
  pub number : reported.origin.number ≡ (session_of reported.origin.user site.desk.sessions).last
  pub reply : (session_of reported.origin.user site.desk.sessions).reply ≡ Some reported.reply

-- it is that, or that of an earlier request
abbrev pub IsSettled : SiteState → ReportedReply → Type 0
IsSettled site reported = (reported.origin.number < (session_of reported.origin.user site.desk.sessions).last) ⊎ IsKept site reported

-- the stored replies
abbrev pub IsKeepable : Reply → Type 0
IsKeepable (replies.Done answered) = Unit {0}
IsKeepable (replies.Denied cause) = Unit {0}
IsKeepable (replies.Failed reason) = ⊥
IsKeepable (replies.Shown lines) = ⊥
IsKeepable (replies.Syntax position) = Unit {0}
IsKeepable (replies.OldEpoch epoch) = ⊥
IsKeepable (replies.OldRequest last) = ⊥
IsKeepable (replies.Gap last) = ⊥

pub record Kept (all : List Event) (site : SiteState) (reports : List ReportedReply) (history : List Decided) : Type 0 where
  pub truly : (k : ℕ) (reported : ReportedReply) → slice_get reports k ≡ Some reported → IsGivenTruly all k reported
  pub syntax_replied : (k position : ℕ) (reported : ReportedReply) → slice_get reports k ≡ Some reported → reported.reply ≡ replies.Syntax position → IsNoRequest all reported.origin position
  pub syntax_kept : (user : List ℕ) (position : ℕ) → (session_of user site.desk.sessions).reply ≡ Some (replies.Syntax position) → IsNoRequest all (last_origin site user) position
  pub keepable : (user : List ℕ) (reply : Reply) → (session_of user site.desk.sessions).reply ≡ Some reply → IsKeepable reply
  pub settled : (k : ℕ) (reported : ReportedReply) → slice_get reports k ≡ Some reported → IsFinal reported.reply → IsSettled site reported
  pub again : (k l : ℕ) (a b : ReportedReply) → slice_get reports k ≡ Some a → slice_get reports l ≡ Some b → a.origin ≡ b.origin → IsFinal a.reply → IsFinal b.reply → a.reply ≡ b.reply
  pub entered_replied : (k : ℕ) (reported : ReportedReply) → slice_get reports k ≡ Some reported → IsCommitted reported.reply → IsEntered history reported.origin
  pub entered_kept : (user : List ℕ) (reply : Reply) → (session_of user site.desk.sessions).reply ≡ Some reply → IsCommitted reply → IsEntered history (last_origin site user)

pub same_origin : (a b : Origin) → a.site ≡ b.site → a.user ≡ b.user → a.epoch ≡ b.epoch → a.number ≡ b.number → a ≡ b
same_origin a b site user epoch number = λ i. record { site = site i; user = user i; epoch = epoch i; number = number i }

-- an element keeps its position when the list grows
pub get_prefix : {X : Type 0} (xs ys : List X) (x : X) (i : ℕ) → slice_get xs i ≡ Some x → slice_get (xs ++ ys) i ≡ Some x
get_prefix [] ys x i e = absurd cc
get_prefix (z ∷ zs) ys x zero e = e
get_prefix (z ∷ zs) ys x (suc i) e = get_prefix zs ys x i e

pub entered_more : (history more : List Decided) (request : Origin) → IsEntered history request → IsEntered (history ++ more) request
entered_more history more request at = record { position = at.position; entry = at.entry; there = get_prefix history more at.entry at.position at.there; origin = at.origin }

-- ---- a reply is given

module _ (all : List Event) (site : SiteState) (reports : List ReportedReply) (history : List Decided) (holds : Kept all site reports history)
    (reported : ReportedReply) (truly : IsGivenTruly all (length reports) reported)
    (syntax_is : (position : ℕ) → reported.reply ≡ replies.Syntax position → IsNoRequest all reported.origin position)
    (final : IsFinal reported.reply → IsKept site reported) (entered : IsCommitted reported.reply → IsEntered history reported.origin) where
  meets : (k : ℕ) (a : ReportedReply) → slice_get reports k ≡ Some a → a.origin ≡ reported.origin → IsFinal a.reply → IsFinal reported.reply → a.reply ≡ reported.reply
  meets k a at same final_a final_replied =
      let now = final final_replied in
      let number : a.origin.number ≡ reported.origin.number = ap (λ (o : Origin). o.number) same in
      let session : session_of a.origin.user site.desk.sessions ≡ session_of reported.origin.user site.desk.sessions = ap (λ (o : Origin). session_of o.user site.desk.sessions) same in
      elim (holds.settled k a at final_a) [
        | inl low ↦ absurd (omega (arith, low, now.number, number, ap (λ (s : Session). s.last) session))
        | inr kept ↦ let both : Some a.reply ≡ Some reported.reply = sym kept.reply ∙ ap (λ (s : Session). s.reply) session ∙ now.reply in cc
      ]

  truly_next : (k : ℕ) (g : ReportedReply) → slice_get (reports ++ reported ∷ []) k ≡ Some g → IsGivenTruly all k g
  truly_next k g at =
      elim (get_push reports reported g k at) [
        | inl p ↦ holds.truly k g p.1
        | inr p ↦ subst (λ (n : ℕ). IsGivenTruly all n g) (sym p.0) (subst (λ (x : ReportedReply). IsGivenTruly all (length reports) x) p.1 truly)
      ]

  syntax_next : (k position : ℕ) (g : ReportedReply) → slice_get (reports ++ reported ∷ []) k ≡ Some g → g.reply ≡ replies.Syntax position → IsNoRequest all g.origin position
  syntax_next k position g at =
      elim (get_push reports reported g k at) [
        | inl p ↦ holds.syntax_replied k position g p.1
        | inr p ↦ subst (λ (x : ReportedReply). x.reply ≡ replies.Syntax position → IsNoRequest all x.origin position) p.1 (syntax_is position)
      ]

  settled_next : (k : ℕ) (g : ReportedReply) → slice_get (reports ++ reported ∷ []) k ≡ Some g → IsFinal g.reply → IsSettled site g
  settled_next k g at =
      elim (get_push reports reported g k at) [
        | inl p ↦ holds.settled k g p.1
        | inr p ↦ subst (λ (x : ReportedReply). IsFinal x.reply → IsSettled site x) p.1 (λ f. inr (final f))
      ]

  entered_next : (k : ℕ) (g : ReportedReply) → slice_get (reports ++ reported ∷ []) k ≡ Some g → IsCommitted g.reply → IsEntered history g.origin
  entered_next k g at =
      elim (get_push reports reported g k at) [
        | inl p ↦ holds.entered_replied k g p.1
        | inr p ↦ subst (λ (x : ReportedReply). IsCommitted x.reply → IsEntered history x.origin) p.1 entered
      ]

  again_next : (k l : ℕ) (a b : ReportedReply) → slice_get (reports ++ reported ∷ []) k ≡ Some a → slice_get (reports ++ reported ∷ []) l ≡ Some b → a.origin ≡ b.origin → IsFinal a.reply → IsFinal b.reply → a.reply ≡ b.reply
  again_next k l a b at_a at_b =
      elim (get_push reports reported a k at_a) [
        | inl p ↦ elim (get_push reports reported b l at_b) [
          | inl q ↦ holds.again k l a b p.1 q.1
          | inr q ↦ subst (λ (x : ReportedReply). a.origin ≡ x.origin → IsFinal a.reply → IsFinal x.reply → a.reply ≡ x.reply) q.1 (meets k a p.1)
        ]
        | inr p ↦ elim (get_push reports reported b l at_b) [
          | inl q ↦ subst (λ (x : ReportedReply). x.origin ≡ b.origin → IsFinal x.reply → IsFinal b.reply → x.reply ≡ b.reply) p.1 (λ same final_replied final_b. sym (meets l b q.1 (sym same) final_b final_replied))
          | inr q ↦ λ same final_a final_b. ap (λ (x : ReportedReply). x.reply) (sym p.1 ∙ q.1)
        ]
      ]

  pub said : Kept all site (reports ++ reported ∷ []) history
  said = record {
    truly = truly_next;
    syntax_replied = syntax_next;
    syntax_kept = holds.syntax_kept;
    keepable = holds.keepable;
    settled = settled_next;
    again = again_next;
    entered_replied = entered_next;
    entered_kept = holds.entered_kept;
  }

---- a request is accepted, and its reply stored

module _ (all : List Event) (site : SiteState) (reports : List ReportedReply) (history : List Decided) (holds : Kept all site reports history)
    (origin : Origin) (home : origin.site ≡ site.who.me) (next : IsNext site origin) (reply : Reply) (after : SiteState) (who : after.who ≡ site.who)
    (sessions : after.desk.sessions ≡ with_session origin.user (record { last = origin.number; reply = Some reply }) site.desk.sessions) (more : List Decided)
    (may_be : IsKeepable reply) (syntax_is : (position : ℕ) → reply ≡ replies.Syntax position → IsNoRequest all origin position) (entered : IsCommitted reply → IsEntered (history ++ more) origin) where
  abbrev accepted_session : Session
  accepted_session = record { last = origin.number; reply = Some reply }

  me : after.who.me ≡ site.who.me
  me = ap (λ (w : Who). w.me) who

  epoch : after.who.epoch ≡ site.who.epoch
  epoch = ap (λ (w : Who). w.epoch) who

  of_user : (user : List ℕ) → user ≡ origin.user → session_of user after.desk.sessions ≡ accepted_session
  of_user user e = ap (λ (u : List ℕ). session_of u after.desk.sessions) e ∙ ap (λ (book : Book). session_of origin.user book) sessions ∙ session_put origin.user accepted_session site.desk.sessions

  of_other : (user : List ℕ) → user ≢ origin.user → session_of user after.desk.sessions ≡ session_of user site.desk.sessions
  of_other user differ = ap (λ (book : Book). session_of user book) sessions ∙ session_beside origin.user accepted_session site.desk.sessions user differ

  is_last : (user : List ℕ) → user ≡ origin.user → origin ≡ last_origin after user
  is_last user e = same_origin origin (last_origin after user) (home ∙ sym me) (sym e) (next.epoch ∙ sym epoch) (sym (ap (λ (s : Session). s.last) (of_user user e)))

  as_before : (user : List ℕ) → user ≢ origin.user → last_origin site user ≡ last_origin after user
  as_before user differ = same_origin (last_origin site user) (last_origin after user) (sym me) refl (sym epoch) (sym (ap (λ (s : Session). s.last) (of_other user differ)))

  syntax_after : (user : List ℕ) (position : ℕ) → (session_of user after.desk.sessions).reply ≡ Some (replies.Syntax position) → IsNoRequest all (last_origin after user) position
  syntax_after user position kept =
      elim (user_is user origin.user) [
        | inl e ↦
            let both : Some reply ≡ Some (replies.Syntax position) = sym (ap (λ (s : Session). s.reply) (of_user user e)) ∙ kept in
            let is : reply ≡ replies.Syntax position = cc in
            subst (λ (o : Origin). IsNoRequest all o position) (is_last user e) (syntax_is position is)
        | inr differ ↦ subst (λ (o : Origin). IsNoRequest all o position) (as_before user differ) (holds.syntax_kept user position (sym (ap (λ (s : Session). s.reply) (of_other user differ)) ∙ kept))
      ]

  keepable_after : (user : List ℕ) (kept : Reply) → (session_of user after.desk.sessions).reply ≡ Some kept → IsKeepable kept
  keepable_after user kept at =
      elim (user_is user origin.user) [
        | inl e ↦
            let both : Some reply ≡ Some kept = sym (ap (λ (s : Session). s.reply) (of_user user e)) ∙ at in
            let is : reply ≡ kept = cc in
            subst IsKeepable is may_be
        | inr differ ↦ holds.keepable user kept (sym (ap (λ (s : Session). s.reply) (of_other user differ)) ∙ at)
      ]

  entered_after : (user : List ℕ) (kept : Reply) → (session_of user after.desk.sessions).reply ≡ Some kept → IsCommitted kept → IsEntered (history ++ more) (last_origin after user)
  entered_after user kept at committed =
      elim (user_is user origin.user) [
        | inl e ↦
            let both : Some reply ≡ Some kept = sym (ap (λ (s : Session). s.reply) (of_user user e)) ∙ at in
            let is : kept ≡ reply = cc in
            subst (λ (o : Origin). IsEntered (history ++ more) o) (is_last user e) (entered (subst IsCommitted is committed))
        | inr differ ↦
            let old = holds.entered_kept user kept (sym (ap (λ (s : Session). s.reply) (of_other user differ)) ∙ at) committed in
            subst (λ (o : Origin). IsEntered (history ++ more) o) (as_before user differ) (entered_more history more (last_origin site user) old)
      ]

  -- the numbers of earlier replies are below
  settled_after : (k : ℕ) (reported : ReportedReply) → slice_get reports k ≡ Some reported → IsFinal reported.reply → IsSettled after reported
  settled_after k reported at final =
      let old = holds.settled k reported at final in
      elim (user_is reported.origin.user origin.user) [
        | inl e ↦
            let now : (session_of reported.origin.user after.desk.sessions).last ≡ origin.number = ap (λ (s : Session). s.last) (of_user reported.origin.user e) in
            let was : (session_of reported.origin.user site.desk.sessions).last ≡ (session_of origin.user site.desk.sessions).last = ap (λ (u : List ℕ). (session_of u site.desk.sessions).last) e in
            inl (elim old [
              | inl low ↦ omega (arith, low, now, was, next.number)
              | inr kept ↦ omega (arith, kept.number, now, was, next.number)
            ])
        | inr differ ↦
            let same = of_other reported.origin.user differ in
            elim old [
              | inl low ↦ inl (omega (arith, low, ap (λ (s : Session). s.last) same))
              | inr kept ↦ inr (record { number = kept.number ∙ sym (ap (λ (s : Session). s.last) same); reply = ap (λ (s : Session). s.reply) same ∙ kept.reply })
            ]
      ]

  pub remembered : Kept all after reports (history ++ more)
  remembered = record {
    truly = holds.truly;
    syntax_replied = holds.syntax_replied;
    syntax_kept = syntax_after;
    keepable = keepable_after;
    settled = settled_after;
    again = holds.again;
    entered_replied = λ k reported at committed. entered_more history more reported.origin (holds.entered_replied k reported at committed);
    entered_kept = entered_after;
  }

  -- the reply that is stored then
  pub kept_then : IsKept after (record { origin = origin; reply = reply })
  kept_then = record { number = sym (ap (λ (s : Session). s.last) (of_user origin.user refl)); reply = ap (λ (s : Session). s.reply) (of_user origin.user refl) }
