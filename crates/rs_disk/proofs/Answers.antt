-- The answers of a disk in memory are those of a disk.
use Rattle.std.proofs.Common.{◌≡◌, ◌⊎◌, inl, inr, ℕ, Bool, true, false, if◌then◌else◌, List, [], Option, Some, None, unwrap_or, Result, Ok, Err, IsTrue, IsFalse, IsErrOf, is_ok, true≢false, refl, sym, ap, subst, ◌∙◌, arith}
use Rattle.std.specs.Prelude.{⊤}
use Rattle.rs_base.specs.declared.fault.Fault.{Fault}
use Rattle.rs_base.specs.declared.fault.Fault.TheVariants as faults
use Rattle.rs_base.specs.Faults.{CountsFault, Rises}
use Rattle.rs_disk.specs.declared.call.Call.{Call}
use Rattle.rs_disk.specs.declared.call.Call.TheVariants as calls
use Rattle.rs_disk.specs.declared.call.State.{State}
use Rattle.rs_disk.specs.declared.call.Arm.{Arm}
use Rattle.rs_disk.specs.declared.call.Act.{Act}
use Rattle.rs_disk.specs.declared.call.Act.TheVariants as acts
use Rattle.rs_disk.specs.Answers.{Answers, StaysSteady}
use Rattle.rs_disk.specs.Disk.{content, content_of, in_range, tried, changed, settled, state_of, IsPlain}
use Rattle.rs_disk.specs.Images.{IsInRange, IsLeft, IsImage}
use Rattle.rs_disk.specs.MemDisk.{MemDisk, IsCalled, is_due, nearer, left_by, failed, refused, performed}
use Rattle.rs_disk.proofs.Images.{crash_leaves, one_image}
use Rattle.rs_disk.proofs.Crashes.{one_more}
use Rattle.rs_disk.proofs.Kept.{pushed, plain_done}

-- ---- cases of the two tests

when_done : (due within : Bool) (f p r new : MemDisk) → IsTrue (if due then false else within) → new ≡ (if due then f else (if within then p else r)) → (due ≡ false) × (within ≡ true) × (new ≡ p)
when_done true within f p r new is same = absurd (true≢false (sym is))
when_done false true f p r new is same = (refl, refl, same)
when_done false false f p r new is same = absurd (true≢false (sym is))

when_failed : (due within : Bool) (f p r new : MemDisk) → IsFalse (if due then false else within) → new ≡ (if due then f else (if within then p else r)) → ((due ≡ true) × (new ≡ f)) ⊎ ((due ≡ false) × (within ≡ false) × (new ≡ r))
when_failed true within f p r new is same = inl (refl, same)
when_failed false true f p r new is same = absurd (true≢false is)
when_failed false false f p r new is same = inr (refl, refl, same)

-- ---- what a crash leaves

tried_if : (within : Bool) (call : Call) (s : State) → IsInRange s → within ≡ in_range call (content s) → IsInRange (if within then changed call s else s)
tried_if true call s are is = one_more s.changes call s.base are (sym is)
tried_if false call s are is = are

tried_in_range : (call : Call) (s : State) → IsInRange s → IsInRange (tried call s)
tried_in_range calls.Size s are = are
tried_in_range (calls.Read at len) s are = are
tried_in_range (calls.Write at bytes) s are = tried_if (in_range (calls.Write at bytes) (content s)) (calls.Write at bytes) s are refl
tried_in_range (calls.Cut len) s are = tried_if (in_range (calls.Cut len) (content s)) (calls.Cut len) s are refl
tried_in_range calls.Sync s are = are

left_is_image : (arm : Option Arm) (s : State) → IsInRange s → IsImage s (left_by arm s)
left_is_image None s are = crash_leaves s 0 0 are
left_is_image (Some arm) s are = crash_leaves s arm.writes arm.bytes are

pub is_left : (arm : Option Arm) (s : State) → IsInRange s → IsLeft s (settled (left_by arm s))
is_left arm s are = record {
  in_range = tt;
  images = λ image is. subst (λ (bytes : List ℕ). IsImage s bytes) (sym (one_image (left_by arm s) image is)) (left_is_image arm s are);
}

-- ---- the clauses

-- a size or a read that is done is in range, and leaves the content
pub plain : (call : Call) (old new : MemDisk) → IsPlain call → IsCalled {X = ⊤} (Ok tt) call old new → (content_of new.acts ≡ content_of old.acts) × IsTrue (in_range call (content_of old.acts))
plain call old new is called =
    let by = when_done (is_due old.arm) (in_range call (content_of old.acts)) (failed call old) (performed call old) (refused call old) new called.0 called.1 in
    let state = pushed old.acts new.acts (acts.Done call) (ap (λ (disk : MemDisk). disk.acts) by.2) ∙ plain_done call (state_of old.acts) is in
    (ap content state, by.1)

ok_no_err : {X : Type 0} {x : X} {fault : Fault} → IsErrOf (Ok x) fault → ⊥
ok_no_err {X} {x} {fault} err = true≢false (ap is_ok err)

out_of_memory : {X : Type 0} → Result X Fault → Bool
out_of_memory (Ok x) = false
out_of_memory (Err faults.NoMemory) = true
out_of_memory (Err faults.Failed) = false

other_fault : (X : Type 0) (r : Result X Fault) → r ≡ Err faults.NoMemory → IsErrOf r faults.Failed → ⊥
unfolding out_of_memory
other_fault X r is err = true≢false (ap out_of_memory (sym is ∙ err))

-- a disk that reports nothing
pub no_course : {X : Type 0} (r : Result X Fault) (call : Call) → Answers r call None None
no_course (Ok x) call = tt
no_course (Err faults.NoMemory) call = refl
no_course (Err faults.Failed) call = tt

module _ (call : Call) (old new : MemDisk) where
  done_case : IsTrue (if is_due old.arm then false else in_range call (content_of old.acts)) → new ≡ (if is_due old.arm then failed call old else (if in_range call (content_of old.acts) then performed call old else refused call old))
      → (is_due old.arm ≡ false) × (in_range call (content_of old.acts) ≡ true) × (new ≡ performed call old)
  done_case is same = when_done (is_due old.arm) (in_range call (content_of old.acts)) (failed call old) (performed call old) (refused call old) new is same

  failed_case : IsFalse (if is_due old.arm then false else in_range call (content_of old.acts)) → new ≡ (if is_due old.arm then failed call old else (if in_range call (content_of old.acts) then performed call old else refused call old))
      → ((is_due old.arm ≡ true) × (new ≡ failed call old)) ⊎ ((is_due old.arm ≡ false) × (in_range call (content_of old.acts) ≡ false) × (new ≡ refused call old))
  failed_case is same = when_failed (is_due old.arm) (in_range call (content_of old.acts)) (failed call old) (performed call old) (refused call old) new is same

  pub answers : {X : Type 0} (r : Result X Fault) → IsInRange (state_of old.acts) → IsCalled r call old new → Answers r call (Some old.acts) (Some new.acts)
  answers (Ok x) are is = let by = done_case is.0 is.1 in (ap (λ (disk : MemDisk). Some disk.acts) by.2, by.1)
  answers (Err faults.NoMemory) are is = ap (λ (disk : MemDisk). Some disk.acts) is
  answers (Err faults.Failed) are is = elim (failed_case is.0 is.1) [
    | inl by ↦ (_, ap (λ (disk : MemDisk). Some disk.acts) by.1, (refl, is_left old.arm (tried call (state_of old.acts)) (tried_in_range call (state_of old.acts) are)))
    | inr by ↦ (_, ap (λ (disk : MemDisk). Some disk.acts) by.2, (refl, by.1))
  ]

  pub counts : {X : Type 0} (r : Result X Fault) → IsCalled r call old new → CountsFault r old.faults new.faults
  counts (Ok x) is = let by = done_case is.0 is.1 in ap (λ (disk : MemDisk). disk.faults) by.2
  counts (Err faults.NoMemory) is = ap (λ (disk : MemDisk). disk.faults) is
  counts (Err faults.Failed) is = elim (failed_case is.0 is.1) [
    | inl by ↦ rises (ap (λ (disk : MemDisk). disk.faults) by.1)
    | inr by ↦ rises (ap (λ (disk : MemDisk). disk.faults) by.2)
  ]
    where
      rises : new.faults ≡ (failed call old).faults → Rises old.faults new.faults
      rises is = omega (arith, is)

  some_same : {past more : List Act} → Some past ≡ Some more → past ≡ more
  some_same {past} {more} same = ap (λ (course : Option (List Act)). unwrap_or course []) same

  pub steady : {X : Type 0} (r : Result X Fault) → IsCalled r call old new → StaysSteady r call (Some old.acts) (old.arm ≡ None) (new.arm ≡ None)
  steady {X} r is was past same within = by r is
    where
      not_due : is_due old.arm ≡ false
      not_due = ap is_due was

      here : in_range call (content_of old.acts) ≡ true
      here = ap (λ (more : List Act). in_range call (content_of more)) (some_same same) ∙ within

      by : (r : Result X Fault) → IsCalled r call old new → (new.arm ≡ None) × (IsErrOf r faults.Failed → ⊥)
      by (Ok x) is = let done = done_case is.0 is.1 in (ap (λ (disk : MemDisk). disk.arm) done.2 ∙ ap nearer was, λ err. absurd (ok_no_err err))
      by (Err faults.NoMemory) is = (ap (λ (disk : MemDisk). disk.arm) is ∙ was, λ err. absurd (other_fault X (Err faults.NoMemory) refl err))
      by (Err faults.Failed) is = elim (failed_case is.0 is.1) [
        | inl failed ↦ absurd (true≢false (sym failed.0 ∙ not_due))
        | inr failed ↦ absurd (true≢false (sym here ∙ failed.1))
      ]
