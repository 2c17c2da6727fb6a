-- The history in each state is a prefix of that in each later one, and so are the replies.
use Rattle.std.proofs.Common.{◌≡◌, List, [], ◌∷◌, ◌++◌, refl, sym, ap, subst, ◌∙◌, append_assoc}
use Rattle.std.specs.Prelude.{fold}
use Rattle.std.proofs.lemmas.List.{append-nil}
use Rattle.std.proofs.lemmas.List.Sums.{fold-append}
use Rattle.rs_course.specs.declared.outs.Decided.{Decided}
use Rattle.rs_course.specs.declared.outs.RunOf.{RunOf}
use Rattle.rs_site.proofs.Lawful.{no_section_runs}
use Rattle.rs_site.specs.State.{SiteState}
use Rattle.rs_site.specs.Step.{site_step}
use Rattle.rs_course.specs.declared.input.Input.{Input}
use Rattle.std.proofs.Common.{ℕ, Option, Some, None}
use Rattle.rs_course.specs.declared.report.ReportedReply.{ReportedReply}
use Rattle.rs_course.specs.Course.{Action, Open, Post, Give, GiveNext, Lose, Tick, Stop, Arm, Restart, Noise, gives, taken, without}
use Rattle.rs_site.specs.Course.{stepped, stepped_by, act}
use Rattle.rs_site.specs.Moments.{world_after}
use Rattle.rs_course.specs.World.{start, site_at}
use Rattle.rs_site.specs.World.{World}
use Rattle.law_world.proofs.Fresh.{grows_entries}

-- what was given and committed stays, and no stored section runs
pub record Grows (world next : World) : Type 0 where
  pub givens : List ReportedReply
  pub replies : next.replies ≡ world.replies ++ givens
  pub entries : List Decided
  pub history : next.history ≡ world.history ++ entries
  pub runs : next.runs ≡ world.runs

grows_not : (world next : World) → next.replies ≡ world.replies → next.history ≡ world.history → next.runs ≡ world.runs → Grows world next
grows_not world next replies history runs = record { givens = []; replies = replies ∙ sym (append-nil world.replies); entries = []; history = history ∙ sym (append-nil world.history); runs = runs }

grows_twice : (a b c : World) → Grows a b → Grows b c → Grows a c
grows_twice a b c first second = record {
  givens = first.givens ++ second.givens;
  replies = second.replies ∙ ap (λ (xs : List ReportedReply). xs ++ second.givens) first.replies ∙ append_assoc a.replies first.givens second.givens;
  entries = first.entries ++ second.entries;
  history = second.history ∙ ap (λ (xs : List Decided). xs ++ second.entries) first.history ∙ append_assoc a.history first.entries second.entries;
  runs = second.runs ∙ first.runs;
}

grows_stepped : (world : World) (number : ℕ) (input : Input) (site : Option SiteState) → Grows world (stepped world number input site)
grows_stepped world number input None = grows_not world world refl refl refl
grows_stepped world number input (Some site) =
    let more = grows_entries world.history (site_step site input).1.decided in
    let runs : world.runs ++ (site_step site input).1.runs ≡ world.runs = ap (λ (runs : List RunOf). world.runs ++ runs) (no_section_runs site input) ∙ append-nil world.runs in
    record { givens = _; replies = refl; entries = more.0; history = more.1; runs = runs }

grows_given : (world : World) (given : Option (ℕ × Input)) → Grows world (stepped_by world given)
grows_given world None = grows_not world world refl refl refl
grows_given world (Some (number, input)) = grows_stepped world number input (site_at world number)

grows_moved : (world : World) (number : Option ℕ) (given : Option (ℕ × Input)) → Grows world (stepped_by (without number world) given)
grows_moved world None given = grows_given world given
grows_moved world (Some number) given =
    let on = grows_given (without (Some number) world) given in
    record { givens = on.givens; replies = on.replies; entries = on.entries; history = on.history; runs = on.runs }

grows_once : (world : World) (action : Action) → Grows world (act world action)
grows_once world (Open last) = grows_not world (act world (Open last)) refl refl refl
grows_once world (Post origin text) = grows_not world (act world (Post origin text)) refl refl refl
grows_once world (Give number) = grows_moved world (taken world (Give number)) (gives world (Give number))
grows_once world GiveNext = grows_moved world (taken world GiveNext) (gives world GiveNext)
grows_once world (Lose number) = grows_moved world (taken world (Lose number)) None
grows_once world (Tick site) = grows_moved world None (gives world (Tick site))
grows_once world (Stop site) = grows_not world world refl refl refl
grows_once world (Arm site) = grows_not world world refl refl refl
grows_once world (Restart site) = grows_not world world refl refl refl
grows_once world (Noise site bytes) = grows_moved world None (gives world (Noise site bytes))

grows_by : (world : World) (more : List Action) → Grows world (fold act world more)
grows_by world [] = grows_not world world refl refl refl
grows_by world (action ∷ more) = grows_twice world (act world action) (fold act (act world action) more) (grows_once world action) (grows_by (act world action) more)

-- from each state to each later one
pub grows : (before suffix : List Action) → Grows (world_after before) (world_after (before ++ suffix))
grows before suffix = subst (Grows (world_after before)) (sym (fold-append act start before suffix)) (grows_by (world_after before) suffix)

-- no stored section has run
pub no_runs : (done : List Action) → (world_after done).runs ≡ []
no_runs done = (grows [] done).runs
