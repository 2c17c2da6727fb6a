-- A fact that holds after the opening, and is kept by each action, holds in each state.
use Rattle.std.proofs.Common.{◌≡◌, List, [], ◌∷◌, ◌++◌, sym, subst, ◌∙◌, append_assoc}
use Rattle.std.proofs.lemmas.List.{append-nil}
use Rattle.std.proofs.lemmas.List.Sums.{fold_push}
use Rattle.rs_course.specs.Course.{Action, Open}
use Rattle.rs_site.specs.Course.{act}
use Rattle.rs_site.specs.Moments.{world_after}
use Rattle.rs_course.specs.World.{start}
use Rattle.rs_site.specs.World.{World}
use Rattle.law_world.proofs.Played.{IsPlayed, ArePlayed, played_first}

-- the world after the opening of site 1 and these actions
abbrev pub after : List Action → World
after done = world_after (Open 1 ∷ done)

pub after_push : (done : List Action) (action : Action) → after (done ++ action ∷ []) ≡ act (after done) action
after_push done action = fold_push act start (Open 1 ∷ done) action

pub played_after : (xs ys : List Action) → ArePlayed (xs ++ ys) → ArePlayed ys
played_after [] ys are = are
played_after (x ∷ xs) ys are = played_after xs ys (played_first x (xs ++ ys) are).1

module _ (P : List Action → Type 0) (whole : List Action) (are : ArePlayed whole)
    (step : (done : List Action) (action : Action) (suffix : List Action) → whole ≡ done ++ action ∷ suffix → IsPlayed action → P done → P (done ++ action ∷ [])) where
  pub walk_on : (done todo suffix : List Action) → whole ≡ done ++ (todo ++ suffix) → P done → P (done ++ todo)
  walk_on done [] suffix e holds = subst P (sym (append-nil done)) holds
  walk_on done (action ∷ todo) suffix e holds =
      let played = played_first action (todo ++ suffix) (played_after done (action ∷ (todo ++ suffix)) (subst ArePlayed e are)) in
      let next = step done action (todo ++ suffix) e played.0 holds in
      let onto : whole ≡ (done ++ action ∷ []) ++ (todo ++ suffix) = e ∙ sym (append_assoc done (action ∷ []) (todo ++ suffix)) in
      subst P (append_assoc done (action ∷ []) todo) (walk_on (done ++ action ∷ []) todo suffix onto next)

  pub walk : P [] → (done suffix : List Action) → whole ≡ done ++ suffix → P done
  walk first done suffix e = walk_on [] done suffix e first
