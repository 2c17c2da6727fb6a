-- The states of a part, and what it answers to Prepare, Commit and Abort in each.
use Rattle.std.specs.Prelude.{Bool, true, false}
use Rattle.rs_commit.specs.declared.subordinate.Subordinate.{Subordinate}
use Rattle.rs_commit.specs.declared.subordinate.Subordinate.TheVariants.{Working, Prepared, Committed, Aborted}
use Rattle.rs_commit.specs.declared.subordinate.Prep.{Prep}
use Rattle.rs_commit.specs.declared.subordinate.Prep.TheVariants as preps
use Rattle.rs_commit.specs.declared.subordinate.Com.{Com}
use Rattle.rs_commit.specs.declared.subordinate.Com.TheVariants as coms
use Rattle.rs_commit.specs.declared.subordinate.Abo.{Abo}
use Rattle.rs_commit.specs.declared.subordinate.Abo.TheVariants as abos

-- the first state
abbrev pub working : Subordinate
working = Working

abbrev pub is_prepared : Subordinate → Bool
is_prepared Working = false
is_prepared Prepared = true
is_prepared Committed = false
is_prepared Aborted = false

abbrev pub prepare_answer : Subordinate → Prep
prepare_answer Working = preps.Force
prepare_answer Prepared = preps.Again
prepare_answer Committed = preps.Gone
prepare_answer Aborted = preps.Gone

abbrev pub after_prepare : Subordinate → Subordinate
after_prepare Working = Prepared
after_prepare Prepared = Prepared
after_prepare Committed = Committed
after_prepare Aborted = Aborted

abbrev pub commit_answer : Subordinate → Com
commit_answer Working = coms.Nothing
commit_answer Prepared = coms.Force
commit_answer Committed = coms.Again
commit_answer Aborted = coms.Nothing

abbrev pub after_commit : Subordinate → Subordinate
after_commit Working = Working
after_commit Prepared = Committed
after_commit Committed = Committed
after_commit Aborted = Aborted

abbrev pub abort_answer : Subordinate → Abo
abort_answer Working = abos.Release
abort_answer Prepared = abos.Note
abort_answer Committed = abos.Nothing
abort_answer Aborted = abos.Nothing

abbrev pub after_abort : Subordinate → Subordinate
after_abort Working = Aborted
after_abort Prepared = Aborted
after_abort Committed = Committed
after_abort Aborted = Aborted
