-- An entry whose reply was given before the request of another was asked comes before that.
use Rattle.std.proofs.Common.{◌≡◌, ◌≢◌, ℕ, ◌<◌, inl, inr, List, [], ◌++◌, length, Some, false, IsTrue, sym, subst, ◌∙◌, arith}
use Rattle.std.specs.List.{slice_get, Contains}
use Rattle.std.proofs.lemmas.Bool.{cases_lt, cases_order}
use Rattle.rs_base.specs.declared.txn.Origin.{Origin}
use Rattle.rs_sched.specs.declared.event.Event.{Event}
use Rattle.rs_sched.specs.Schedule.{IsValid}
use Rattle.rs_course.specs.declared.outs.Decided.{Decided}
use Rattle.rs_course.specs.declared.report.ReportedReply.{ReportedReply}
use Rattle.rs_course.specs.Played.{are_accepted}
use Rattle.rs_course.specs.Course.{Action, Post}
use Rattle.rs_site.specs.Course.{course}
use Rattle.rs_site.specs.Report.{report_of}
use Rattle.law_world.specs.Explains.{IsCommitted}
use Rattle.rs_course.specs.Moments.{actions}
use Rattle.rs_site.specs.Moments.{world_after}
use Rattle.law_world.proofs.Holding.{ArePosted, holds_at}
use Rattle.law_world.proofs.Kept.{IsEntered, get_prefix}
use Rattle.rs_course.proofs.Pending.{get_below}
use Rattle.law_world.proofs.Gets.{get_at}

-- no two entries have one request
abbrev pub AreDistinct : List Decided → Type 0
AreDistinct history = (i j : ℕ) (a b : Decided) → i < j → slice_get history i ≡ Some a → slice_get history j ≡ Some b → (a.txn ≢ b.txn) × (a.origin ≢ b.origin)

one_place : (history : List Decided) → AreDistinct history → (i j : ℕ) (a b : Decided) → slice_get history i ≡ Some a → slice_get history j ≡ Some b → a.origin ≡ b.origin → i ≡ j
one_place history distinct i j a b at_a at_b same =
    elim (cases_order i j) [
      | inl e ↦ e
      | inr (inl lt) ↦ absurd ((distinct i j a b lt at_a at_b).1 same)
      | inr (inr lt) ↦ absurd ((distinct j i b a lt at_b at_a).1 (sym same))
    ]

-- an element before the prefix's end is in the prefix
at_start : (prefix more : List Decided) (entry : Decided) (j : ℕ) → slice_get (prefix ++ more) j ≡ Some entry → j < length prefix → slice_get prefix j ≡ Some entry
at_start prefix more entry j at lt =
    let found = get_at prefix j lt in
    let both : Some found.0 ≡ Some entry = sym (get_prefix prefix more found.0 j found.1) ∙ at in
    found.1 ∙ both

module _ (before : List Action) (prefix more : List Decided) (posted : ArePosted before prefix) (distinct : AreDistinct (prefix ++ more)) where
  earlier : (i j : ℕ) (origin : Origin) (a b : Decided) → IsEntered prefix origin → slice_get (prefix ++ more) i ≡ Some a → a.origin ≡ origin
      → slice_get (prefix ++ more) j ≡ Some b → ((text : List ℕ) → Contains before (Post b.origin text) → ⊥) → i < j
  earlier i j origin a b entered at_a is at_b unasked =
      let same : i ≡ entered.position = one_place (prefix ++ more) distinct i entered.position a entered.entry at_a (get_prefix prefix more entered.entry entered.position entered.there) (is ∙ sym entered.origin) in
      let low : entered.position < length prefix = get_below prefix entered.position entered.entry entered.there in
      elim (cases_lt j (length prefix)) [
        | inl lt ↦ absurd (unasked b.text (posted j b (at_start prefix more b j at_b lt)))
        | inr le ↦ omega (arith, same, low, le)
      ]

nothing_replied : (before : List Action) → before ≡ [] → (k : ℕ) (given : ReportedReply) → slice_get (world_after before).replies k ≡ Some given → ⊥
nothing_replied before none k given at = nothing (subst (λ (hs : List Action). slice_get (world_after hs).replies k ≡ Some given) none at)
  where
    nothing : slice_get [] k ≡ Some given → ⊥
    nothing e = cc

-- since no two entries have one request, and the history in each state is a prefix of the last
pub after_what_was_reported : (all : List Event) → IsValid all → IsTrue (are_accepted false all) → AreDistinct (report_of (course all)).history
    → ((before suffix : List Action) → actions all ≡ before ++ suffix → (more : List Decided) × ((report_of (course all)).history ≡ (world_after before).history ++ more))
    → (before suffix : List Action) (k i j : ℕ) (given : ReportedReply) (a b : Decided)
    → actions all ≡ before ++ suffix
    → slice_get (world_after before).replies k ≡ Some given → IsCommitted given.reply
    → slice_get (report_of (course all)).history i ≡ Some a → a.origin ≡ given.origin
    → slice_get (report_of (course all)).history j ≡ Some b → ((text : List ℕ) → Contains before (Post b.origin text) → ⊥)
    → i < j
after_what_was_reported all valid are distinct grows before suffix k i j given a b separated at committed at_a is at_b unasked =
    let grown = grows before suffix separated in
    elim (holds_at all valid are before suffix separated) [
      | inl none ↦ absurd (nothing_replied before none k given at)
      | inr now ↦ earlier before (world_after before).history grown.0 now.holds.posted (subst AreDistinct grown.1 distinct) i j given.origin a b (now.holds.kept.entered_replied k given at committed)
          (subst (λ (h : List Decided). slice_get h i ≡ Some a) grown.1 at_a) is (subst (λ (h : List Decided). slice_get h j ≡ Some b) grown.1 at_b) unasked
    ]
