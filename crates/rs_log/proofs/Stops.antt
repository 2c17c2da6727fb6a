-- A run of device calls through which a stop leaves only what is wanted.
use Rattle.std.proofs.Common.{inl, inr, Bool, true, false, if◌then◌else◌, List, [], ◌∷◌, ℕ, sym, subst}
use Rattle.rs_disk.specs.declared.call.Call.{Call}
use Rattle.rs_disk.specs.declared.call.Call.TheVariants as calls
use Rattle.rs_disk.specs.declared.call.State.{State}
use Rattle.rs_disk.specs.declared.call.Act.{Act}
use Rattle.rs_disk.specs.declared.call.Act.TheVariants as happened
use Rattle.rs_disk.specs.Disk.{content, in_range, changed, done, tried}
use Rattle.rs_disk.specs.Images.{IsImage, MayLeave}
use Rattle.rs_disk.specs.Answers.{IsFailure}
use Rattle.rs_log.specs.Runs.{SomeDone, OneFailed}

module _ (P : List ℕ → Type 0) where
  -- each image is wanted
  abbrev pub Good : State → Type 0
  Good s = (image : List ℕ) → IsImage s image → P image

  -- each state of the run has wanted images alone
  abbrev pub AllGood : State → List Call → Type 0
  AllGood s [] = Good s
  AllGood s (call ∷ calls) = Good s × AllGood (done call s) calls

  first_good : (s : State) (calls : List Call) → AllGood s calls → Good s
  first_good s [] good = good
  first_good s (call ∷ calls) good = good.0

  good_if : (test : Bool) (one other : State) → Good one → Good other → Good (if test then one else other)
  good_if true one other a b = a
  good_if false one other a b = b

  tried_good : (call : Call) (s : State) → Good s → Good (done call s) → Good (tried call s)
  tried_good calls.Size s here next = here
  tried_good (calls.Read at len) s here next = here
  tried_good (calls.Write at bytes) s here next = good_if (in_range (calls.Write at bytes) (content s)) (changed (calls.Write at bytes) s) s next here
  tried_good (calls.Cut len) s here next = good_if (in_range (calls.Cut len) (content s)) (changed (calls.Cut len) s) s next here
  tried_good calls.Sync s here next = here

  -- a call that failed
  failed_good : (call : Call) (s : State) (act : Act) (image : List ℕ) → Good s → Good (done call s) → IsFailure call s act → MayLeave s (act ∷ []) image → P image
  failed_good call s (happened.Done one) image here next failure left = absurd failure
  failed_good call s (happened.Stopped one) image here next failure left = absurd failure
  failed_good call s (happened.Refused one) image here next failure left = elim left [
    | inl now ↦ here image now
    | inr (inl during) ↦ subst (λ (c : Call). IsImage (tried c s) image → P image) (sym failure.0) (tried_good call s here next image) during
    | inr (inr later) ↦ here image later
  ]
  failed_good call s (happened.Failed one rest) image here next failure left = elim left [
    | inl now ↦ here image now
    | inr (inl during) ↦ subst (λ (c : Call). IsImage (tried c s) image → P image) (sym failure.0) (tried_good call s here next image) during
    | inr (inr later) ↦ tried_good call s here next image (failure.1.images image later)
  ]

  done_good : (call : Call) (s : State) (acts : List Act) (image : List ℕ) → Good s → Good (done call s) → (MayLeave (done call s) acts image → P image) → MayLeave s (happened.Done call ∷ acts) image → P image
  done_good call s acts image here next later left = elim left [
    | inl now ↦ here image now
    | inr (inl during) ↦ tried_good call s here next image during
    | inr (inr more) ↦ later more
  ]

  pub some_good : (s : State) (calls : List Call) (acts : List Act) (image : List ℕ) → AllGood s calls → SomeDone s calls acts → MayLeave s acts image → P image
  some_good s calls [] image good run left = first_good s calls good image left
  some_good s [] (act ∷ acts) image good run left = absurd run
  some_good s (call ∷ calls) (act ∷ acts) image good run left =
      done_good call s acts image good.0 (first_good (done call s) calls good.1) (some_good (done call s) calls acts image good.1 run.2)
      (subst (λ (a : Act). MayLeave s (a ∷ acts) image) run.0 left)

  pub one_failed_good : (s : State) (calls : List Call) (acts : List Act) (image : List ℕ) → AllGood s calls → OneFailed s calls acts → MayLeave s acts image → P image
  one_failed_good s [] acts image good run left = absurd run
  one_failed_good s (call ∷ calls) [] image good run left = absurd run
  one_failed_good s (call ∷ calls) (act ∷ acts) image good (inl failed) left =
      failed_good call s act image good.0 (first_good (done call s) calls good.1) failed.0 (subst (λ (more : List Act). MayLeave s (act ∷ more) image) failed.1 left)
  one_failed_good s (call ∷ calls) (act ∷ acts) image good (inr run) left =
      done_good call s acts image good.0 (first_good (done call s) calls good.1) (one_failed_good (done call s) calls acts image good.1 run.2)
      (subst (λ (a : Act). MayLeave s (a ∷ acts) image) run.0 left)
