-- Courses of a disk: what happened is in range.
use Rattle.std.proofs.Common.{◌≡◌, ℕ, List, [], ◌∷◌, ◌++◌, IsTrue, refl}
use Rattle.rs_disk.specs.declared.call.Call.{Call}
use Rattle.rs_disk.specs.declared.call.Call.TheVariants as calls
use Rattle.rs_disk.specs.declared.call.State.{State}
use Rattle.rs_disk.specs.declared.call.Act.{Act}
use Rattle.rs_disk.specs.declared.call.Act.TheVariants as acts
use Rattle.rs_disk.specs.Disk.{all_applied, applied, content, in_range, done, after, after_all}
use Rattle.rs_disk.specs.Images.{AreInRange, IsInRange}
use Rattle.rs_disk.specs.Laws.{AllMayHappen}

-- the last of several acts
pub after_last : (acts : List Act) (act : Act) (s : State) → after_all (acts ++ act ∷ []) s ≡ after act (after_all acts s)
after_last [] act s = refl
after_last (first ∷ acts) act s = after_last acts act (after first s)

pub applied_last : (changes : List Call) (call : Call) (bytes : List ℕ) → all_applied (changes ++ call ∷ []) bytes ≡ applied call (all_applied changes bytes)
applied_last [] call bytes = refl
applied_last (change ∷ changes) call bytes = applied_last changes call (applied change bytes)

pub one_more : (changes : List Call) (call : Call) (bytes : List ℕ) → AreInRange changes bytes → IsTrue (in_range call (all_applied changes bytes)) → AreInRange (changes ++ call ∷ []) bytes
one_more [] call bytes are is = (is, tt)
one_more (change ∷ changes) call bytes are is = (are.0, one_more changes call (applied change bytes) are.1 is)

pub done_in_range : (call : Call) (s : State) → IsInRange s → IsTrue (in_range call (content s)) → IsInRange (done call s)
done_in_range calls.Size s are is = are
done_in_range (calls.Read at len) s are is = are
done_in_range (calls.Write at bytes) s are is = one_more s.changes (calls.Write at bytes) s.base are is
done_in_range (calls.Cut len) s are is = one_more s.changes (calls.Cut len) s.base are is
done_in_range calls.Sync s are is = tt

pub course_in_range : (acts : List Act) (s : State) → IsInRange s → AllMayHappen s acts → IsInRange (after_all acts s)
course_in_range [] s are may = are
course_in_range (acts.Done call ∷ acts) s are may = course_in_range acts (done call s) (done_in_range call s are may.0) may.1
course_in_range (acts.Refused call ∷ acts) s are may = course_in_range acts s are may.1
course_in_range (acts.Failed call left ∷ acts) s are may = course_in_range acts left may.0.in_range may.1
course_in_range (acts.Stopped left ∷ acts) s are may = course_in_range acts left may.0.in_range may.1
