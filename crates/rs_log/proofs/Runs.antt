-- How a run of device calls goes on.
use Rattle.std.proofs.Common.{◌≡◌, inl, inr, List, [], ◌∷◌, ◌++◌, Some, None, Result, Ok, Err, IsTrue, refl, sym, ap, ◌∙◌, subst, append_assoc, append-nil}
use Rattle.rs_base.specs.declared.fault.Fault.{Fault}
use Rattle.rs_base.specs.declared.fault.Fault.TheVariants as faults
use Rattle.rs_disk.specs.declared.call.Call.{Call}
use Rattle.rs_disk.specs.declared.call.State.{State}
use Rattle.rs_disk.specs.declared.call.Act.{Act}
use Rattle.rs_disk.specs.declared.call.Act.TheVariants as happened
use Rattle.rs_disk.specs.Disk.{content, in_range, settled, done, state_of}
use Rattle.rs_disk.specs.Answers.{Course, WasDone, Fails, Answers}
use Rattle.rs_disk.proofs.Crashes.{after_last}
use Rattle.rs_log.specs.Runs.{RunOf, Runs, AllInRange}

run_more : {X : Type 0} (r : Result X Fault) (s : State) (call : Call) (calls : List Call) (acts : List Act) → IsTrue (in_range call (content s)) → RunOf r (done call s) calls acts → RunOf r s (call ∷ calls) (happened.Done call ∷ acts)
run_more (Ok x) s call calls acts is run = (refl, is, run)
run_more (Err faults.Failed) s call calls acts is run = inr (refl, is, run)
run_more (Err faults.NoMemory) s call calls acts is run = (refl, is, run)

-- a call that was done, and then a run
pub goes_on : {X : Type 0} (r : Result X Fault) (call : Call) (calls : List Call) (old mid new : Course) → WasDone call old mid → Runs r calls mid new → Runs r (call ∷ calls) old new
goes_on r call calls None mid new was run = tt
goes_on r call calls (Some past) mid new was run =
    let next = past ++ happened.Done call ∷ [] in
    let later = subst (λ (course : Course). Runs r calls course new) was.0 run in
    let state : state_of next ≡ done call (state_of past) = after_last past (happened.Done call) (settled []) in (
      happened.Done call ∷ later.0,
      later.1 ∙ ap (λ (acts : List Act). Some acts) (append_assoc past (happened.Done call ∷ []) later.0),
      run_more r (state_of past) call calls later.0 was.1 (subst (λ (s : State). RunOf r s calls later.0) state later.2),
    )

-- a call that failed, or found no memory
pub ends : (X : Type 0) (fault : Fault) (call : Call) (calls : List Call) (old new : Course) → Fails fault call old new → Runs {X = X} (Err fault) (call ∷ calls) old new
ends X faults.Failed call calls None new failed = tt
ends X faults.NoMemory call calls None new failed = tt
ends X faults.Failed call calls (Some past) new failed = (failed.0 ∷ [], failed.1, inl (failed.2, refl))
ends X faults.NoMemory call calls (Some past) new failed = ([], failed ∙ ap (λ (acts : List Act). Some acts) (sym (append-nil past)), tt)

-- the last call
pub last : {X : Type 0} (r : Result X Fault) (call : Call) (old new : Course) → Answers r call old new → Runs r (call ∷ []) old new
last (Ok x) call None new is = tt
last (Ok x) call (Some past) new is = (happened.Done call ∷ [], is.0, (refl, is.1, refl))
last {X} (Err fault) call old new is = ends X fault call [] old new is

-- ---- steady disks

-- the course and the calls that are left after one that was done
pub left_after : (call : Call) (calls : List Call) (old mid : Course) (past : List Act) → old ≡ Some past → WasDone call old mid → AllInRange (state_of past) (call ∷ calls)
    → (now : List Act) × (mid ≡ Some now) × AllInRange (state_of now) calls
left_after call calls old mid past is was within =
    let done_now = subst (λ (course : Course). WasDone call course mid) is was in
    let next = past ++ happened.Done call ∷ [] in
    let state : state_of next ≡ done call (state_of past) = after_last past (happened.Done call) (settled []) in
    (next, done_now.0, subst (λ (s : State). AllInRange s calls) (sym state) within.1)
