-- What a force makes of a log at rest.
use Rattle.std.proofs.Common.{◌≡◌, ◌≢◌, ◌⊎◌, inl, inr, ℕ, ◌+◌, ◌<◌, ◌^◌, List, [], ◌∷◌, ◌++◌, Some, None, Result, Ok, Err, length, refl, sym, ap, ap₂, ◌∙◌, subst, arith, append-nil, length-append}
use Rattle.std.specs.Prelude.{IsErrOf}
use Rattle.std.proofs.Common.{◌≤◌, le-leb}
use Rattle.rs_disk.specs.Disk.{put}
use Rattle.std.specs.Int.{w64, to_be_bytes}
use Rattle.rs_codec.specs.Written.{count_bytes, text_bytes}
use Rattle.rs_base.specs.declared.fault.Fault.{Fault}
use Rattle.rs_base.specs.declared.fault.Fault.TheVariants as faults
use Rattle.rs_disk.specs.declared.call.Call.{Call}
use Rattle.rs_disk.specs.declared.call.State.{State}
use Rattle.rs_disk.specs.declared.call.Act.{Act}
use Rattle.rs_disk.specs.Disk.{settled, done, after, after_all, state_of}
use Rattle.rs_disk.specs.Images.{MayLeave, IsImage}
use Rattle.rs_disk.specs.Answers.{Course}
use Rattle.rs_disk.proofs.Images.{one_image, length_put}
use Rattle.rs_log.specs.Format.{Item, Found, batch_bytes, items_bytes, found}
use Rattle.rs_log.specs.Format.Found.{Log}
use Rattle.rs_log.specs.Calls.{batch_calls, force_calls}
use Rattle.rs_log.specs.Gated.{IsAtRest, MayBeUsed, Gains, KeepsAlways, IsSteadyForce}
use Rattle.rs_log.specs.Laws.{Fits, at_rest, front}
use Rattle.rs_log.specs.Runs.{AreDone, SomeDone, OneFailed, RunOf, Runs, AllInRange, StaysSteadyBy}
use Rattle.rs_log.proofs.Forces.{Kept, force_good, opened_is}
use Rattle.rs_log.proofs.Scans.{fit_push, items_push, one_more, found_closed, text_some}
use Rattle.rs_log.proofs.Stops.{some_good, one_failed_good}

-- ---- calls that are all done

all_done : (s : State) (calls : List Call) (acts : List Act) → AreDone s calls acts → SomeDone s calls acts
all_done s [] acts run = subst (λ (as' : List Act). SomeDone s [] as') (sym run) tt
all_done s (call ∷ calls) [] run = tt
all_done s (call ∷ calls) (act ∷ acts) run = (run.0, run.1, all_done (done call s) calls acts run.2)

all_calls : State → List Call → State
all_calls s [] = s
all_calls s (call ∷ calls) = all_calls (done call s) calls

state_after : (s : State) (calls : List Call) (acts : List Act) → AreDone s calls acts → after_all acts s ≡ all_calls s calls
unfolding all_calls
state_after s [] acts run = ap (λ (more : List Act). after_all more s) run
state_after s (call ∷ calls) [] run = absurd run
state_after s (call ∷ calls) (act ∷ acts) run =
    ap (λ (a : Act). after_all acts (after a s)) run.0 ∙ state_after (done call s) calls acts run.2

after_both : (past more : List Act) (s : State) → after_all (past ++ more) s ≡ after_all more (after_all past s)
after_both [] more s = refl
after_both (act ∷ past) more s = after_both past more (after act s)

-- ---- a log at rest

module _ (item : Item) (items : List Item) (fit : Fits (item ∷ items)) where
  abbrev tail : List Item
  tail = item ∷ items

  -- after a force its items are stable
  gains_in : (past : List Act) (new : Course) (was : ℕ) → ((more : List Act) × (new ≡ Some (past ++ more)) × AreDone (state_of past) (force_calls was tail) more)
      → (stable : List Item) → IsAtRest past stable was → (now : List Act) × (new ≡ Some now) × IsAtRest now (stable ++ tail) (was + length (batch_bytes tail ++ 0 ∷ []))
  unfolding all_calls
  gains_in past new was run stable rest =
      let batches = rest.batches in
      let here : AreDone (settled (at_rest batches)) (force_calls (length (front batches)) tail) run.0 =
      subst (λ (gate : ℕ). AreDone (settled (at_rest batches)) (force_calls gate tail) run.0) (sym rest.same_gate) (subst (λ (s : State). AreDone s (force_calls was tail) run.0) rest.synced run.2) in
      let state : state_of (past ++ run.0) ≡ settled (at_rest (batches ++ tail ∷ [])) =
      after_both past run.0 (settled []) ∙ ap (λ (s : State). after_all run.0 s) rest.synced
      ∙ state_after (settled (at_rest batches)) (force_calls (length (front batches)) tail) run.0 here
      ∙ ap settled (opened_is batches item items rest.fit fit ∙ sym (one_more batches tail)) in
      let gate : length (front (batches ++ tail ∷ [])) ≡ was + length (batch_bytes tail ++ 0 ∷ []) =
      omega (arith, rest.same_gate, ap length (one_more batches tail), length-append (front (batches ++ tail ∷ [])) (0 ∷ []), length-append (front batches) (1 ∷ (batch_bytes tail ++ 0 ∷ [])), length-append (batch_bytes tail) (0 ∷ [])) in (
        past ++ run.0,
        run.1,
        record {
          batches = batches ++ tail ∷ [];
          fit = fit_push batches tail rest.fit fit;
          synced = state;
          same_items = items_push batches tail ∙ ap (λ (all : List Item). all ++ tail) rest.same_items;
          same_gate = gate;
        },
      )

  pub gains : {X : Type 0} (x : X) (old new : Course) (was : ℕ) → Runs (Ok x) (force_calls was tail) old new → Gains tail old new was (was + length (batch_bytes tail ++ 0 ∷ []))
  gains x None new was run = tt
  gains x (Some past) new was run = gains_in past new was run

  kept_in : (past more : List Act) (was : ℕ) → SomeDone (state_of past) (force_calls was tail) more ⊎ OneFailed (state_of past) (force_calls was tail) more
      → (stable : List Item) → IsAtRest past stable was → (image : List ℕ) → MayLeave (state_of past) more image
      → (last : ℕ) × ((found image ≡ Log stable last) ⊎ (found image ≡ Log (stable ++ tail) last))
  kept_in past more was run stable rest image left =
      let batches = rest.batches in
      let kept = Kept batches item items rest.fit fit in
      let good = force_good batches item items rest.fit fit in
      let calls = force_calls (length (front batches)) tail in
      let here = subst (λ (s : State). MayLeave s more image) rest.synced left in
      let at_gate = subst (λ (gate : ℕ). SomeDone (settled (at_rest batches)) (force_calls gate tail) more ⊎ OneFailed (settled (at_rest batches)) (force_calls gate tail) more) (sym rest.same_gate)
      (subst (λ (s : State). SomeDone s (force_calls was tail) more ⊎ OneFailed s (force_calls was tail) more) rest.synced run) in
      let found : kept image = elim at_gate [ inl some ↦ some_good kept (settled (at_rest batches)) calls more image good some here | inr failed ↦ one_failed_good kept (settled (at_rest batches)) calls more image good failed here ] in
      subst (λ (all : List Item). (last : ℕ) × ((Rattle.rs_log.specs.Format.found image ≡ Log all last) ⊎ (Rattle.rs_log.specs.Format.found image ≡ Log (all ++ tail) last))) rest.same_items found

  either_run : {X : Type 0} (r : Result X Fault) (s : State) (calls : List Call) (more : List Act) → RunOf r s calls more → SomeDone s calls more ⊎ OneFailed s calls more
  either_run (Ok x) s calls more run = inl (all_done s calls more run)
  either_run (Err faults.Failed) s calls more run = inr run
  either_run (Err faults.NoMemory) s calls more run = inl run

  pub keeps : {X : Type 0} (r : Result X Fault) (old new : Course) (was : ℕ) → Runs r (force_calls was tail) old new → KeepsAlways tail old new was
  keeps r None new was run = tt
  keeps r (Some past) new was run = λ stable rest. (run.0, run.1, kept_in past run.0 was (either_run r (state_of past) (force_calls was tail) run.0 run.2) stable rest)

-- no call is made
same_items : (past : List Act) (stable : List Item) (was : ℕ) → IsAtRest past stable was → (image : List ℕ) → MayLeave (state_of past) [] image → found image ≡ Log stable was
same_items past stable was rest image left =
    ap found (one_image (at_rest rest.batches) image (subst (λ (s : State). IsImage s image) rest.synced left))
    ∙ found_closed rest.batches 0 [] rest.fit (omega arith) ∙ ap₂ (λ (all : List Item) (gate : ℕ). Log all gate) rest.same_items rest.same_gate

pub no_call : (some : List Item) (course : Course) (was : ℕ) → KeepsAlways some course course was
no_call some None was = tt
no_call some (Some past) was = λ stable rest.
    ([], ap (λ (acts : List Act). Some acts) (sym (append-nil past)), λ image left. (was, inl (same_items past stable was rest image left)))

-- ---- a force

fits_of : (item : Item) (items : List Item) → length (batch_bytes (item ∷ items) ++ 0 ∷ []) < 2 ^ 63 → Fits (item ∷ items)
fits_of item items short =
    let n = length (items_bytes (item ∷ items)) in
    let size : n < 2 ^ 63 = omega (arith, short, length-append (batch_bytes (item ∷ items)) (0 ∷ []), length-append (to_be_bytes w64 n) (items_bytes (item ∷ items))) in
    let both = length-append (text_bytes item) (items_bytes items) in
    let some = text_some item (omega (arith, both, size, length-append (count_bytes (length item)) item)) in
    (omega (arith, both, some), size)

pub force_keeps : {X : Type 0} (r : Result X Fault) (some : List Item) (batch : List ℕ) (old new : Course) (was : ℕ) → some ≢ [] → batch ≡ batch_bytes some ++ 0 ∷ [] → length batch < 2 ^ 63
    → Runs r (batch_calls was batch) old new → KeepsAlways some old new was
force_keeps r [] batch old new was more is short run = absurd (more refl)
force_keeps r (item ∷ items) batch old new was more is short run =
    keeps item items (fits_of item items (subst (λ (bytes : List ℕ). length bytes < 2 ^ 63) is short)) r old new was (subst (λ (bytes : List ℕ). Runs r (batch_calls was bytes) old new) is run)

pub force_gains : {X : Type 0} (x : X) (some : List Item) (batch : List ℕ) (old new : Course) (was next : ℕ) → some ≢ [] → batch ≡ batch_bytes some ++ 0 ∷ [] → length batch < 2 ^ 63
    → next ≡ was + length batch → Runs (Ok x) (batch_calls was batch) old new → Gains some old new was next
force_gains x [] batch old new was next more is short gate run = absurd (more refl)
force_gains x (item ∷ items) batch old new was next more is short gate run =
    subst (λ (n : ℕ). Gains (item ∷ items) old new was n) (sym (gate ∙ ap (λ (bytes : List ℕ). was + length bytes) is))
    (gains item items (fits_of item items (subst (λ (bytes : List ℕ). length bytes < 2 ^ 63) is short)) x old new was (subst (λ (bytes : List ℕ). Runs (Ok x) (batch_calls was bytes) old new) is run))

-- ---- steady disks

in_range_at_rest : (batches : List (List Item)) (batch : List ℕ) → AllInRange (settled (at_rest batches)) (batch_calls (length (front batches)) batch)
in_range_at_rest batches batch =
    let n = length (front batches) in
    let size : length (at_rest batches) ≡ n + 1 = length-append (front batches) (0 ∷ []) in
    let written = put (n + 1) batch (at_rest batches) in
    let long : n ≤ length written = omega (arith, size, length_put (n + 1) batch (at_rest batches) (omega (arith, size))) in
    (le-leb (n + 1) (length (at_rest batches)) (omega (arith, size)), (refl, (le-leb n (length written) long, (refl, tt))))

in_range_past : (past : List Act) (items : List Item) (was : ℕ) (batch : List ℕ) → IsAtRest past items was → AllInRange (state_of past) (batch_calls was batch)
in_range_past past items was batch rest =
    subst (λ (gate : ℕ). AllInRange (state_of past) (batch_calls gate batch)) rest.same_gate
    (subst (λ (s : State). AllInRange s (batch_calls (length (front rest.batches)) batch)) (sym rest.synced) (in_range_at_rest rest.batches batch))

pub steady_force : {X : Type 0} (r : Result X Fault) (course : Course) (gate : ℕ) (batch : List ℕ) (was is : Type 0) → MayBeUsed course gate → StaysSteadyBy r (batch_calls gate batch) course was is → IsSteadyForce r course was is
steady_force r None gate batch was is used steady = tt
steady_force r (Some past) gate batch was is used steady = steady past refl (in_range_past past used.0 gate batch used.1)

pub steady_still : {X : Type 0} (r : Result X Fault) (course : Course) (was : Type 0) → (IsErrOf r faults.Failed → ⊥) → IsSteadyForce r course was was
steady_still r None was never = tt
steady_still r (Some past) was never = λ here. (here, never)
