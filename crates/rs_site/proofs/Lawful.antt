-- The laws of steps.
use Rattle.std.proofs.Common.{◌≡◌, ℕ, ◌+◌, ◌≤◌, true, ◌==◌, List, [], ◌∷◌, Some, map, refl, sym, ap, ◌∙◌, subst, arith, inl, inr, ◌⊎◌}
use Rattle.std.proofs.lemmas.Bool.{and_parts}
use Rattle.std.proofs.lemmas.Bool.Decides.{nat_tests}
use Rattle.rs_base.specs.declared.peer.Peer.{Peer}
use Rattle.rs_base.specs.declared.txn.Origin.{Origin}
use Rattle.rs_base.specs.declared.reply.Reply.{Reply}
use Rattle.rs_msg.specs.declared.message.Ask.{Ask}
use Rattle.rs_msg.specs.declared.message.Message.TheVariants as messages
use Rattle.rs_msg.specs.Reader.{message_of}
use Rattle.rs_site.specs.declared.desk.Desk.{Desk}
use Rattle.rs_course.specs.declared.input.Input.TheVariants as inputs
use Rattle.rs_course.specs.declared.outs.Decided.{Decided}
use Rattle.rs_session.specs.declared.session.Session.{Session}
use Rattle.rs_site.specs.Asking.{remembering, is_next, origin_of, on_ask}
use Rattle.rs_site.specs.Laws.{last_of, IsLogged, IsNextCommit, NumbersRise, CommitsAreMeaning, DecidedAreLogged, NoSectionRuns}
use Rattle.rs_session.specs.Sessions.{session_of, last_is_answered}
use Rattle.rs_site.specs.Planned.{Committed, Planned}
use Rattle.rs_site.specs.State.{SiteState, next_txn}
use Rattle.rs_site.specs.Step.{on_read, planned_step}
use Rattle.rs_session.proofs.PutSessions.{session_put, session_beside, user_is}
use Rattle.rs_site.proofs.Planning.{by_when}
use Rattle.rs_site.proofs.Sorts.{Stays, Kind, Staying, Remembering, Executing, step_kind, sent, again_stays, further_stays}

last_rises : (desk : Desk) (origin : Origin) (reply : Reply) (user : List ℕ) → origin.number ≡ last_of origin.user desk + 1 → last_of user desk ≤ last_of user (remembering desk origin reply)
last_rises desk origin reply user next =
    let session : Session = record { last = origin.number; reply = Some reply } in
    elim (user_is user origin.user) [
      | inl here ↦
          let there : last_of origin.user (remembering desk origin reply) ≡ origin.number = ap (λ s. s.last) (session_put origin.user session desk.sessions) in
          let now : last_of user (remembering desk origin reply) ≡ last_of origin.user (remembering desk origin reply) = ap (λ u. last_of u (remembering desk origin reply)) here in
          let before : last_of user desk ≡ last_of origin.user desk = ap (λ u. last_of u desk) here in
          omega (arith, there, now, before, next)
      | inr differ ↦
          let now : last_of user (remembering desk origin reply) ≡ last_of user desk = ap (λ s. s.last) (session_beside origin.user session desk.sessions user differ) in
          omega (arith, now)
    ]

-- ---- numbers rise

abbrev Rises : Desk → Desk → Type 0
Rises desk new = ((user : List ℕ) → last_of user desk ≤ last_of user new) × (desk.begun ≤ new.begun)

rises_not : (desk : Desk) → Rises desk desk
rises_not desk = (λ user. omega arith, omega arith)

numbers : (site : SiteState) (step : Planned) → Kind site step → Rises site.desk step.after.desk
numbers site step (Staying stays) = subst (λ (new : SiteState). Rises site.desk new.desk) (sym stays.same) (rises_not site.desk)
numbers site step (Remembering r) = subst (λ (p : Planned). Rises site.desk p.after.desk) (sym r.is) (λ user. last_rises site.desk r.origin _ user r.next, omega arith)
numbers site step (Executing x) =
    let begun : site.desk.begun ≤ site.desk.begun + 1 = omega arith in
    subst (λ (p : Planned). Rises site.desk p.after.desk) (sym x.is) (λ user. last_rises site.desk x.origin _ user x.next, begun)

pub numbers_rise : NumbersRise
numbers_rise site input = numbers site (planned_step site input) (step_kind site input)

-- ---- commits

abbrev Commits : SiteState → Planned → Type 0
Commits site step =
    ((step.outs.decided ≡ []) × (step.after.held.database ≡ site.held.database))
    ⊎ ((entry : Decided) × (step.outs.decided ≡ entry ∷ []) × IsNextCommit site entry step.after)

commits : (site : SiteState) (step : Planned) → Kind site step → Commits site step
commits site step (Staying stays) = inl (stays.none, ap (λ (s : SiteState). s.held.database) stays.same)
commits site step (Remembering r) = subst (Commits site) (sym r.is) (inl (refl, refl))
commits site step (Executing x) =
    let entry : Decided = record { txn = next_txn site.who site.desk; origin = x.origin; text = x.text } in
    subst (Commits site) (sym x.is) (inr (entry, refl, record { txn = refl; begun = refl; stmt = x.stmt; spelled = x.spelled; database = refl }))

pub commits_are_meaning : CommitsAreMeaning
commits_are_meaning site input = commits site (planned_step site input) (step_kind site input)

-- ---- the log

logged : (site : SiteState) (step : Planned) → Kind site step → IsLogged step
logged site step (Staying stays) = record { appended = stays.unlogged ∙ ap (λ (entries : List Decided). map Committed entries) (sym stays.none); forced = inl stays.none }
logged site step (Remembering r) = subst IsLogged (sym r.is) (record { appended = refl; forced = inl refl })
logged site step (Executing x) = subst IsLogged (sym x.is) (record { appended = refl; forced = inr refl })

pub decided_are_logged : DecidedAreLogged
decided_are_logged site input = logged site (planned_step site input) (step_kind site input)

-- ---- stored sections

unrun : (site : SiteState) (step : Planned) → Kind site step → step.outs.runs ≡ []
unrun site step (Staying stays) = stays.unrun
unrun site step (Remembering r) = ap (λ (p : Planned). p.outs.runs) r.is
unrun site step (Executing x) = ap (λ (p : Planned). p.outs.runs) x.is

pub no_section_runs : NoSectionRuns
no_section_runs site input = unrun site (planned_step site input) (step_kind site input)

-- ---- repeats

not_next : (n : ℕ) (session : Session) → n ≤ session.last → is_next n session ≡ true → ⊥
not_next n session low h = grind (arith, nat_tests, low, (and_parts (n == session.last + 1) (last_is_answered session) h).0)

repeat_stays : (site : SiteState) (from : Peer) (ask : Ask) → ask.number ≤ last_of ask.user site.desk → Stays site (on_ask site from ask)
repeat_stays site from ask low =
    let origin : Origin = origin_of site.who ask in
    let session : Session = session_of ask.user site.desk.sessions in
    by_when (Stays site) _ _ _
    (λ _. by_when (Stays site) _ _ _
    (λ _. by_when (Stays site) _ _ _ (λ _. sent site from _ refl refl)
    (λ _. by_when (Stays site) _ _ _ (λ _. again_stays site from origin 0 session.reply)
    (λ _. by_when (Stays site) _ _ _ (λ next. absurd (not_next ask.number session low next)) (λ _. sent site from _ refl refl))))
    (λ _. sent site from _ refl refl))
    (λ _. further_stays site from origin ask.part)

pub repeats_run_nothing : (site : SiteState) (from : Peer) (bytes : List ℕ) (ask : Ask) → message_of bytes ≡ Some (messages.Ask ask) → ask.number ≤ last_of ask.user site.desk
    → Stays site (planned_step site (inputs.Datagram from bytes))
unfolding planned_step
repeats_run_nothing site from bytes ask read low =
    by_when (Stays site) _ _ _ (λ _. sent site from _ refl refl) (λ _. subst (λ r. Stays site (on_read site from r)) (sym read) (repeat_stays site from ask low))
