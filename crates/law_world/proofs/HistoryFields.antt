-- What the report's history, its committed replies and its site explain.
use Rattle.std.proofs.Common.{◌≡◌, ◌≢◌, ℕ, zero, suc, ◌+◌, ◌-◌, ◌<◌, List, [], ◌∷◌, ◌++◌, map, length, take, Option, Some, None, sym, ap, subst, ◌∙◌, arith}
use Rattle.std.specs.List.{slice_get, enumerate_from}
use Rattle.rs_base.specs.Reading.{◌>>=◌}
use Rattle.std.proofs.lemmas.List.{append-nil}
use Rattle.rs_base.specs.declared.txn.Txn.{Txn}
use Rattle.rs_base.specs.declared.reply.Denial.{Denial}
use Rattle.rs_ast.specs.declared.stmt.Stmt.{Stmt}
use Rattle.rs_site.specs.Statement.{statement_of}
use Rattle.rs_mean.specs.Database.{Database, IsInOrder}
use Rattle.rs_mean.specs.Meaning.{meaning}
use Rattle.rs_mean.specs.Outcome.{Denied}
use Rattle.law_mean.proofs.Lawful.{denied_changes_nothing as after_denied}
use Rattle.rs_sched.specs.declared.event.Event.{Event}
use Rattle.rs_course.specs.declared.outs.Decided.{Decided}
use Rattle.rs_site.specs.Asking.{execution_of}
use Rattle.rs_site.specs.State.{SiteState}
use Rattle.rs_course.specs.declared.report.ReportedReply.{ReportedReply}
use Rattle.rs_course.specs.declared.report.SiteView.{SiteView}
use Rattle.rs_course.specs.Course.{Action, Open}
use Rattle.rs_site.specs.Course.{course}
use Rattle.law_world.specs.Explains.{IsCommitted, IsMeaningAt}
use Rattle.rs_site.specs.History.{effect_of, database_of, outcome_after}
use Rattle.rs_course.specs.Moments.{actions}
use Rattle.rs_site.specs.Moments.{world_after, Accepts}
use Rattle.rs_site.specs.Report.{report_of, view_of}
use Rattle.rs_site.specs.Tables.{tables_at}
use Rattle.rs_course.specs.World.{site_at}
use Rattle.rs_site.specs.World.{World, Place}
use Rattle.law_world.proofs.AtEach.{StateAt, at_each}
use Rattle.law_world.proofs.Entered.{Entered, database_of-push, txn_at}
use Rattle.law_world.proofs.Entering.{entered_law}
use Rattle.law_world.proofs.Growing.{grows}
use Rattle.law_world.proofs.Gets.{take-get}
use Rattle.law_world.proofs.Played.{Playable, course_is}
use Rattle.law_world.proofs.Received.{place_of}
use Rattle.law_world.proofs.Walk.{after}

-- the last world is the one after all actions
pub last_is : (given : List Event) (can : Playable given) → course given ≡ after can.others
last_is given can = course_is given ∙ ap world_after can.separated

-- the facts of the history in the end
pub in_the_end : (given : List Event) → Playable given → StateAt (λ before state givens history. Entered given state givens history) (actions given) (course given)
in_the_end given can =
    let whole = at_each given can (λ before state givens history. Entered given state givens history) (entered_law given) can.others [] (sym (append-nil can.others)) in
    subst (λ (hs : List Action). StateAt (λ before state givens history. Entered given state givens history) hs (course given)) (sym can.separated)
    (subst (λ (w : World). StateAt (λ before state givens history. Entered given state givens history) (Open 1 ∷ can.others) w) (sym (last_is given can)) whole)

denied_at : (db : Database) (entry : Decided) (read : Option Stmt) (cause : Denial) → (effect_of db entry read).1 ≡ Some (Denied cause) → (effect_of db entry read).0 ≡ db
denied_at db entry None cause e = absurd cc
denied_at db entry (Some stmt) cause e =
    let is : (meaning db (execution_of entry.txn entry.origin stmt)).1 ≡ Denied cause = cc in
    after_denied db (execution_of entry.txn entry.origin stmt) cause is

-- an entry that was denied changed nothing
pub denied_changes_nothing : (history : List Decided) (i : ℕ) (entry : Decided) (cause : Denial) → slice_get history i ≡ Some entry → outcome_after 1 (take i history) entry ≡ Some (Denied cause)
    → database_of 1 (take (i + 1) history) ≡ database_of 1 (take i history)
denied_changes_nothing history i entry cause at denied =
    ap (λ (h : List Decided). database_of 1 h) (take-get history i entry at) ∙ database_of-push (take i history) entry ∙ denied_at (database_of 1 (take i history)) entry (statement_of entry.text) cause denied

-- the history in each state is a prefix of that in each later one
pub history_grows : (given : List Event) (before between suffix : List Action) → actions given ≡ before ++ between ++ suffix
    → (more : List Decided) × ((world_after (before ++ between)).history ≡ (world_after before).history ++ more)
history_grows given before between suffix separated = let on = grows before between in (on.entries, on.history)

-- the history in the end is that of the last state
pub history_is_last : (given : List Event) → (course given).history ≡ (world_after (actions given)).history
history_is_last given = ap (λ (w : World). w.history) (course_is given)

-- the history in each state is a prefix of the last
pub grows_to_last : (given : List Event) (before suffix : List Action) → actions given ≡ before ++ suffix → (more : List Decided) × ((course given).history ≡ (world_after before).history ++ more)
grows_to_last given before suffix separated =
    let on = grows before suffix in
    (on.entries, ap (λ (w : World). w.history) (course_is given ∙ ap world_after separated) ∙ on.history)

-- each site of the world that is up is the one site
pub the_one : (places : List Place) (state site : SiteState) (i : ℕ) → places ≡ place_of state ∷ [] → (slice_get places i >>= λ place. place.up) ≡ Some site → site ≡ state
the_one [] state site i e at = absurd cc
the_one (first ∷ []) state site zero e at =
    let up : first.up ≡ Some state = ap (λ (places : List Place). slice_get places 0 >>= λ place. place.up) e in
    let both : Some state ≡ Some site = sym up ∙ at in
    let same : site ≡ state = cc in
    same
the_one (first ∷ []) state site (suc i) e at = absurd cc
the_one (first ∷ next ∷ places) state site i e at = absurd (let two : length (first ∷ next ∷ places) ≡ 1 = ap (λ (all : List Place). length all) e in omega (arith, two))

module _ (given : List Event) (can : Playable given) where
  pub end : StateAt (λ before state givens history. Entered given state givens history) (actions given) (course given)
  end = in_the_end given can

  pub entries_distinct : (i j : ℕ) (a b : Decided) → i < j → slice_get (course given).history i ≡ Some a → slice_get (course given).history j ≡ Some b → (a.txn ≢ b.txn) × (a.origin ≢ b.origin)
  entries_distinct i j a b lt at_a at_b = (txns_differ, end.holds.distinct i j a b lt at_a at_b)
    where
      txns_differ : a.txn ≢ b.txn
      txns_differ same =
          let both : txn_at i ≡ txn_at j = sym (end.holds.txns i a at_a) ∙ same ∙ end.holds.txns j b at_b in
          omega (arith, lt, ap (λ (t : Txn). t.number) both)

  pub entries_asked : (i : ℕ) (entry : Decided) → slice_get (course given).history i ≡ Some entry → Accepts given entry.origin entry.text
  entries_asked i entry at = (end.holds.entries i entry at).accepts

  pub answers_are_meaning : (k : ℕ) (reported : ReportedReply) → slice_get (course given).replies k ≡ Some reported → IsCommitted reported.reply → (i : ℕ) × IsMeaningAt 1 (course given).history i reported
  answers_are_meaning k reported at committed = end.holds.answers k reported at committed

  -- in each state the database of a site that is up is that of the history so far
  pub databases_follow : (before suffix : List Action) (number : ℕ) (site : SiteState) → actions given ≡ before ++ suffix
      → site_at (world_after before) number ≡ Some site → site.held.database ≡ database_of 1 (world_after before).history
  databases_follow [] suffix number site separated at = absurd cc
  databases_follow (first ∷ done) suffix number site separated at =
      let heads : Open 1 ∷ can.others ≡ first ∷ (done ++ suffix) = sym can.separated ∙ separated in
      let opens : first ≡ Open 1 = cc in
      let rest : can.others ≡ done ++ suffix = cc in
      let now = at_each given can (λ before state givens history. Entered given state givens history) (entered_law given) done suffix rest in
      let there : site_at (after done) number ≡ Some site = subst (λ (h : Action). site_at (world_after (h ∷ done)) number ≡ Some site) opens at in
      let is : site ≡ now.site = the_one (after done).sites now.site site (number - 1) now.stands.one.sites there in
      subst (λ (h : Action). site.held.database ≡ database_of 1 (world_after (h ∷ done)).history) (sym opens) (ap (λ (s : SiteState). s.held.database) is ∙ now.holds.database)

  -- the one site shows the tables of the history
  pub sites_are : (report_of (course given)).sites ≡ (record { site = 1; up = Some 1; tables = tables_at 1 (database_of 1 (course given).history) }) ∷ []
  sites_are =
      ap (λ (places : List Place). map view_of (enumerate_from 1 places)) end.stands.one.sites
      ∙ (λ i. (record { site = 1; up = Some (end.stands.one.epoch i); tables = tables_at 1 (end.holds.database i) }) ∷ [])

  pub one_place : (course given).sites ≡ place_of end.site ∷ []
  one_place = end.stands.one.sites

  -- a site that is up shows its epoch and the tables of the history
  pub views_agree : (i : ℕ) (site : SiteState) → slice_get (course given).sites i ≡ Some (place_of site)
      → slice_get (report_of (course given)).sites i ≡ Some (record { site = i + 1; up = Some site.who.epoch; tables = tables_at (i + 1) (database_of 1 (course given).history) })
  views_agree i site at = by i (ap (λ (places : List Place). slice_get places i) (sym one_place) ∙ at)
    where
      by : (i : ℕ) → slice_get (place_of end.site ∷ []) i ≡ Some (place_of site)
          → slice_get (report_of (course given)).sites i ≡ Some (record { site = i + 1; up = Some site.who.epoch; tables = tables_at (i + 1) (database_of 1 (course given).history) })
      by (suc i) there = absurd cc
      by zero there =
          let same : place_of end.site ≡ place_of site = cc in
          let up : Some end.site ≡ Some site = ap (λ (place : Place). place.up) same in
          let is : end.site ≡ site = cc in
          ap (λ (views : List SiteView). slice_get views 0) sites_are
          ∙ ap (λ (epoch : ℕ). Some (record { site = 1; up = Some epoch; tables = tables_at 1 (database_of 1 (course given).history) })) (sym end.stands.one.epoch ∙ ap (λ (s : SiteState). s.who.epoch) is)

  pub tables_in_order : IsInOrder (database_of 1 (course given).history)
  tables_in_order = subst IsInOrder end.holds.database end.holds.in_order
