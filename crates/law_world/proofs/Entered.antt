-- Facts of the history so far: its entries were accepted, one after the other, the site's database is what it builds, and
-- the replies that report its entries are their meanings.
use Rattle.std.proofs.Common.{◌≡◌, ◌≢◌, ℕ, ◌+◌, ◌<◌, ◌≤◌, inl, inr, List, [], ◌∷◌, ◌++◌, length, take, Option, Some, None, refl, sym, ap, subst, ◌∙◌, length-append, arith}
use Rattle.std.specs.List.{slice_get}
use Rattle.std.proofs.lemmas.List.{append-nil, take-append-le, take_all}
use Rattle.std.proofs.lemmas.List.Sums.{fold_push}
use Rattle.rs_base.specs.declared.txn.Txn.{Txn}
use Rattle.rs_base.specs.declared.txn.Origin.{Origin}
use Rattle.rs_base.specs.declared.reply.Reply.{Reply}
use Rattle.rs_ast.specs.declared.stmt.Stmt.{Stmt}
use Rattle.rs_site.specs.Statement.{statement_of}
use Rattle.rs_mean.specs.Database.{Database, empty, IsInOrder}
use Rattle.rs_mean.specs.Meaning.{meaning}
use Rattle.rs_mean.specs.Outcome.{Outcome}
use Rattle.rs_sched.specs.declared.event.Event.{Event}
use Rattle.rs_session.specs.declared.session.Session.{Session}
use Rattle.rs_course.specs.declared.outs.Decided.{Decided}
use Rattle.rs_site.specs.declared.who.Who.{Who}
use Rattle.rs_site.specs.Asking.{execution_of, reply_of, with_change, with_reply}
use Rattle.rs_session.specs.Sessions.{Book, session_of, with_session}
use Rattle.rs_site.specs.State.{SiteState, opened, next_txn}
use Rattle.rs_session.proofs.PutSessions.{session_put, session_beside, user_is}
use Rattle.rs_course.specs.declared.report.ReportedReply.{ReportedReply}
use Rattle.law_world.specs.Explains.{IsCommitted, IsMeaningAt}
use Rattle.rs_site.specs.History.{effect_of, effect, database_of, outcome_after}
use Rattle.rs_site.specs.Moments.{Accepts}
use Rattle.law_world.proofs.Kept.{last_origin, get_prefix}
use Rattle.rs_course.proofs.Pending.{get_below}
use Rattle.law_world.proofs.Gets.{get_push}
use Rattle.law_world.proofs.Reports.{get_last}
use Rattle.law_mean.proofs.Lawful.{names_stay_in_order}

-- ---- histories that grow

pub database_of-push : (history : List Decided) (entry : Decided) → database_of 1 (history ++ entry ∷ []) ≡ (effect (database_of 1 history) entry).0
database_of-push history entry = fold_push (λ db e. (effect db e).0) (empty 1) history entry

pub take_prefix : {X : Type 0} (xs ys : List X) → take (length xs) (xs ++ ys) ≡ xs
take_prefix xs ys = take-append-le (length xs) xs ys (omega arith) ∙ take_all (length xs) xs (omega arith)

pub meaning_more : (history more : List Decided) (i : ℕ) (reported : ReportedReply) → IsMeaningAt 1 history i reported → IsMeaningAt 1 (history ++ more) i reported
meaning_more history more i reported is =
    let below = get_below history i is.entry is.there in
    record {
      entry = is.entry;
      there = get_prefix history more is.entry i is.there;
      origin = is.origin;
      outcome = is.outcome;
      meaning = ap (λ (h : List Decided). outcome_after 1 h is.entry) (take-append-le i history more (omega (arith, below))) ∙ is.meaning;
      reply = is.reply;
    }

---- the facts

-- the transaction of the entry at this position
abbrev pub txn_at : ℕ → Txn
txn_at i = record { site = 1; epoch = 1; number = i + 1 }

pub record IsEntry (given : List Event) (state : SiteState) (entry : Decided) : Type 0 where
  pub home : entry.origin.site ≡ 1
  pub epoch : entry.origin.epoch ≡ 1
  pub low : entry.origin.number ≤ (session_of entry.origin.user state.desk.sessions).last
  pub accepts : Accepts given entry.origin entry.text

pub record Entered (given : List Event) (state : SiteState) (givens : List ReportedReply) (history : List Decided) : Type 0 where
  pub begun : state.desk.begun ≡ length history
  pub database : state.held.database ≡ database_of 1 history
  pub in_order : IsInOrder state.held.database
  pub txns : (i : ℕ) (entry : Decided) → slice_get history i ≡ Some entry → entry.txn ≡ txn_at i
  pub entries : (i : ℕ) (entry : Decided) → slice_get history i ≡ Some entry → IsEntry given state entry
  pub distinct : (i j : ℕ) (a b : Decided) → i < j → slice_get history i ≡ Some a → slice_get history j ≡ Some b → a.origin ≢ b.origin
  pub answers : (k : ℕ) (reported : ReportedReply) → slice_get givens k ≡ Some reported → IsCommitted reported.reply → (i : ℕ) × IsMeaningAt 1 history i reported
  pub known : (user : List ℕ) (reply : Reply) → (session_of user state.desk.sessions).reply ≡ Some reply → IsCommitted reply → (i : ℕ) × IsMeaningAt 1 history i (record { origin = last_origin state user; reply = reply })

nothing_at : {X : Type 0} (i : ℕ) (x : X) → slice_get [] i ≡ Some x → ⊥
nothing_at i x e = cc

none_is_none : {X : Type 0} (x : X) → None ≡ Some x → ⊥
none_is_none x e = cc

pub entered_first : (given : List Event) → Entered given (opened 1 1) [] []
entered_first given = record {
  begun = refl;
  database = refl;
  in_order = names_stay_in_order.0 1;
  txns = λ i entry at. absurd (nothing_at i entry at);
  entries = λ i entry at. absurd (nothing_at i entry at);
  distinct = λ i j a b lt at_a at_b. absurd (nothing_at i a at_a);
  answers = λ k reported at committed. absurd (nothing_at k reported at);
  known = λ user reply kept committed. absurd (none_is_none reply kept);
}

-- ---- a reply is given

pub entered_said : (given : List Event) (state : SiteState) (givens : List ReportedReply) (history : List Decided) (reported : ReportedReply)
    → (IsCommitted reported.reply → (i : ℕ) × IsMeaningAt 1 history i reported) → Entered given state givens history → Entered given state (givens ++ reported ∷ []) history
entered_said given state givens history reported meant holds = record {
  begun = holds.begun;
  database = holds.database;
  in_order = holds.in_order;
  txns = holds.txns;
  entries = holds.entries;
  distinct = holds.distinct;
  answers = answers_next;
  known = holds.known;
}
  where
    answers_next : (k : ℕ) (g : ReportedReply) → slice_get (givens ++ reported ∷ []) k ≡ Some g → IsCommitted g.reply → (i : ℕ) × IsMeaningAt 1 history i g
    answers_next k g at =
        elim (get_push givens reported g k at) [
          | inl p ↦ holds.answers k g p.1
          | inr p ↦ subst (λ (x : ReportedReply). IsCommitted x.reply → (i : ℕ) × IsMeaningAt 1 history i x) p.1 meant
        ]

---- a request is accepted

module _ (given : List Event) (state : SiteState) (origin : Origin) (reply : Reply) (number : origin.number ≡ (session_of origin.user state.desk.sessions).last + 1) where
  abbrev session : Session
  session = record { last = origin.number; reply = Some reply }

  abbrev book : Book
  book = with_session origin.user session state.desk.sessions

  of_user : (user : List ℕ) → user ≡ origin.user → session_of user book ≡ session
  of_user user e = ap (λ (u : List ℕ). session_of u book) e ∙ session_put origin.user session state.desk.sessions

  last_grows : (user : List ℕ) → (session_of user state.desk.sessions).last ≤ (session_of user book).last
  last_grows user =
      elim (user_is user origin.user) [
        | inl e ↦ omega (arith, number, ap (λ (u : List ℕ). (session_of u state.desk.sessions).last) e, ap (λ (s : Session). s.last) (of_user user e))
        | inr differ ↦ omega (arith, ap (λ (s : Session). s.last) (session_beside origin.user session state.desk.sessions user differ))
      ]

  entry_grows : (next : SiteState) → next.desk.sessions ≡ book → (entry : Decided) → IsEntry given state entry → IsEntry given next entry
  entry_grows next sessions entry is = record {
    home = is.home;
    epoch = is.epoch;
    low = omega (arith, is.low, last_grows entry.origin.user, ap (λ (b : Book). (session_of entry.origin.user b).last) sessions);
    accepts = is.accepts;
  }

  known_then : (next : SiteState) → next.desk.sessions ≡ book → next.who ≡ state.who → origin.site ≡ state.who.me → origin.epoch ≡ state.who.epoch
      → (history more : List Decided)
      → ((user : List ℕ) (kept : Reply) → (session_of user state.desk.sessions).reply ≡ Some kept → IsCommitted kept → (i : ℕ) × IsMeaningAt 1 history i (record { origin = last_origin state user; reply = kept }))
      → (IsCommitted reply → (i : ℕ) × IsMeaningAt 1 (history ++ more) i (record { origin = origin; reply = reply }))
      → (user : List ℕ) (kept : Reply) → (session_of user next.desk.sessions).reply ≡ Some kept → IsCommitted kept → (i : ℕ) × IsMeaningAt 1 (history ++ more) i (record { origin = last_origin next user; reply = kept })
  known_then next sessions who home of_epoch history more known meant user kept at committed =
      let me : next.who.me ≡ state.who.me = ap (λ (w : Who). w.me) who in
      let epoch : next.who.epoch ≡ state.who.epoch = ap (λ (w : Who). w.epoch) who in
      elim (user_is user origin.user) [
        | inl e ↦
            let now : session_of user next.desk.sessions ≡ session = ap (λ (b : Book). session_of user b) sessions ∙ of_user user e in
            let both : Some reply ≡ Some kept = sym (ap (λ (s : Session). s.reply) now) ∙ at in
            let is : reply ≡ kept = cc in
            let asked : origin ≡ last_origin next user = λ i. record { site = (home ∙ sym me) i; user = sym e i; epoch = (of_epoch ∙ sym epoch) i; number = sym (ap (λ (s : Session). s.last) now) i } in
            let there = meant (subst IsCommitted (sym is) committed) in (
              there.0,
              subst (λ (r : Reply). IsMeaningAt 1 (history ++ more) there.0 (record { origin = last_origin next user; reply = r })) is
                  (subst (λ (o : Origin). IsMeaningAt 1 (history ++ more) there.0 (record { origin = o; reply = reply })) asked there.1),
            )
        | inr differ ↦
            let same : session_of user next.desk.sessions ≡ session_of user state.desk.sessions = ap (λ (b : Book). session_of user b) sessions ∙ session_beside origin.user session state.desk.sessions user differ in
            let there = known user kept (sym (ap (λ (s : Session). s.reply) same) ∙ at) committed in
            let asked : last_origin state user ≡ last_origin next user = λ i. record { site = sym me i; user = user; epoch = sym epoch i; number = sym (ap (λ (s : Session). s.last) same) i } in
            (there.0, subst (λ (o : Origin). IsMeaningAt 1 (history ++ more) there.0 (record { origin = o; reply = kept })) asked (meaning_more history more there.0 (record { origin = last_origin state user; reply = kept }) there.1))
      ]

-- a text without a supported statement is accepted
pub entered_remembered : (given : List Event) (state : SiteState) (givens : List ReportedReply) (history : List Decided) (origin : Origin) (reply : Reply)
    → origin.number ≡ (session_of origin.user state.desk.sessions).last + 1 → origin.site ≡ state.who.me → origin.epoch ≡ state.who.epoch → (IsCommitted reply → ⊥)
    → Entered given state givens history → Entered given (with_reply origin reply state) givens history
entered_remembered given state givens history origin reply number home of_epoch open_ended holds = record {
  begun = holds.begun;
  database = holds.database;
  in_order = holds.in_order;
  txns = holds.txns;
  entries = λ i entry at. entry_grows given state origin reply number (with_reply origin reply state) refl entry (holds.entries i entry at);
  distinct = holds.distinct;
  answers = holds.answers;
  known = known_next;
}
  where
    known_next : (user : List ℕ) (kept : Reply) → (session_of user (with_reply origin reply state).desk.sessions).reply ≡ Some kept → IsCommitted kept
        → (i : ℕ) × IsMeaningAt 1 history i (record { origin = last_origin (with_reply origin reply state) user; reply = kept })
    known_next user kept at committed = subst (λ (h : List Decided). (i : ℕ) × IsMeaningAt 1 h i (record { origin = last_origin (with_reply origin reply state) user; reply = kept })) (append-nil history)
        (known_then given state origin reply number (with_reply origin reply state) refl refl home of_epoch history [] holds.known (λ c. absurd (open_ended c)) user kept at committed)

-- ---- a statement is executed

module _ (given : List Event) (state : SiteState) (givens : List ReportedReply) (history : List Decided) (origin : Origin) (text : List ℕ) (stmt : Stmt)
    (reads : statement_of text ≡ Some stmt) (number : origin.number ≡ (session_of origin.user state.desk.sessions).last + 1) (home : origin.site ≡ state.who.me) (of_epoch : origin.epoch ≡ state.who.epoch)
    (me : state.who.me ≡ 1) (epoch : state.who.epoch ≡ 1) (accepts : Accepts given origin text) (holds : Entered given state givens history) where
  abbrev entry : Decided
  entry = record { txn = next_txn state.who state.desk; origin = origin; text = text }

  abbrev made : Database × Outcome
  made = meaning state.held.database (execution_of (next_txn state.who state.desk) origin stmt)

  abbrev reported : ReportedReply
  reported = record { origin = origin; reply = reply_of made.1 }

  abbrev next : SiteState
  next = with_reply origin (reply_of made.1) (with_change made.0 state)

  abbrev longer : List Decided
  longer = history ++ entry ∷ []

  does : effect (database_of 1 history) entry ≡ (made.0, Some made.1)
  does = ap (λ (read : Option Stmt). effect_of (database_of 1 history) entry read) reads
      ∙ ap (λ (db : Database). ((meaning db (execution_of (next_txn state.who state.desk) origin stmt)).0, Some (meaning db (execution_of (next_txn state.who state.desk) origin stmt)).1)) (sym holds.database)

  length_next : length longer ≡ length history + 1
  length_next = length-append history (entry ∷ [])

  database_next : made.0 ≡ database_of 1 longer
  database_next = sym (database_of-push history entry ∙ ap (λ (p : Database × Option Outcome). p.0) does)

  txns_next : (i : ℕ) (e : Decided) → slice_get longer i ≡ Some e → e.txn ≡ txn_at i
  txns_next i e at =
      elim (get_push history entry e i at) [
        | inl p ↦ holds.txns i e p.1
        | inr p ↦
            let same : state.desk.begun + 1 ≡ i + 1 = omega (arith, holds.begun, p.0) in
            let is : next_txn state.who state.desk ≡ txn_at i = λ t. record { site = me t; epoch = epoch t; number = same t } in
            ap (λ (x : Decided). x.txn) (sym p.1) ∙ is
      ]

  last_is : (session_of origin.user next.desk.sessions).last ≡ origin.number
  last_is = ap (λ (s : Session). s.last) (session_put origin.user (record { last = origin.number; reply = Some (reply_of made.1) }) state.desk.sessions)

  entries_next : (i : ℕ) (e : Decided) → slice_get longer i ≡ Some e → IsEntry given next e
  entries_next i e at =
      elim (get_push history entry e i at) [
        | inl p ↦ entry_grows given state origin (reply_of made.1) number next refl e (holds.entries i e p.1)
        | inr p ↦ subst (λ (x : Decided). IsEntry given next x) p.1 (record { home = home ∙ me; epoch = of_epoch ∙ epoch; low = omega (arith, last_is); accepts = accepts })
      ]

  apart : (i : ℕ) (a : Decided) → slice_get history i ≡ Some a → a.origin ≢ origin
  apart i a at same = omega (arith, (holds.entries i a at).low, number, ap (λ (o : Origin). o.number) same, ap (λ (o : Origin). (session_of o.user state.desk.sessions).last) same)

  distinct_next : (i j : ℕ) (a b : Decided) → i < j → slice_get longer i ≡ Some a → slice_get longer j ≡ Some b → a.origin ≢ b.origin
  distinct_next i j a b lt at_a at_b =
      elim (get_push history entry a i at_a) [
        | inl p ↦ elim (get_push history entry b j at_b) [
          | inl q ↦ holds.distinct i j a b lt p.1 q.1
          | inr q ↦ subst (λ (x : Decided). a.origin ≢ x.origin) q.1 (apart i a p.1)
        ]
        | inr p ↦ absurd (omega (arith, p.0, lt, get_below longer j b at_b, length_next))
      ]

  answers_next : (k : ℕ) (g : ReportedReply) → slice_get givens k ≡ Some g → IsCommitted g.reply → (i : ℕ) × IsMeaningAt 1 longer i g
  answers_next k g at committed = let there = holds.answers k g at committed in (there.0, meaning_more history (entry ∷ []) there.0 g there.1)

  meaning_here : IsMeaningAt 1 longer (length history) reported
  meaning_here = record {
    entry = entry;
    there = get_last history entry;
    origin = refl;
    outcome = made.1;
    meaning = ap (λ (h : List Decided). outcome_after 1 h entry) (take_prefix history (entry ∷ [])) ∙ ap (λ (p : Database × Option Outcome). p.1) does;
    reply = refl;
  }

  executed_kept : Entered given next givens longer
  executed_kept = record {
    begun = ap (λ (n : ℕ). n + 1) holds.begun ∙ sym length_next;
    database = database_next;
    in_order = names_stay_in_order.1 state.held.database (execution_of (next_txn state.who state.desk) origin stmt) holds.in_order;
    txns = txns_next;
    entries = entries_next;
    distinct = distinct_next;
    answers = answers_next;
    known = known_then given state origin (reply_of made.1) number next refl refl home of_epoch history (entry ∷ []) holds.known (λ committed. (length history, meaning_here));
  }

  pub entered_executed : Entered given next (givens ++ reported ∷ []) longer
  entered_executed = entered_said given next givens longer reported (λ committed. (length history, meaning_here)) executed_kept
