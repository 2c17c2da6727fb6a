-- The fields of a disk in memory after one more act.
use Rattle.std.proofs.Common.{◌≡◌, List, [], ◌∷◌, ◌++◌, refl, ap, ◌∙◌}
use Rattle.rs_disk.specs.declared.call.Call.{Call}
use Rattle.rs_disk.specs.declared.call.Call.TheVariants as calls
use Rattle.rs_disk.specs.declared.call.State.{State}
use Rattle.rs_disk.specs.declared.call.Act.{Act}
use Rattle.rs_disk.specs.Disk.{settled, changed, done, after, state_of, IsPlain, IsChange}
use Rattle.rs_disk.proofs.Crashes.{after_last}

pub pushed : (acts new : List Act) (act : Act) → new ≡ acts ++ act ∷ [] → state_of new ≡ after act (state_of acts)
pushed acts new act is = ap state_of is ∙ after_last acts act (settled [])

pub plain_done : (call : Call) (s : State) → IsPlain call → done call s ≡ s
plain_done calls.Size s is = refl
plain_done (calls.Read at len) s is = refl
plain_done (calls.Write at bytes) s is = absurd is
plain_done (calls.Cut len) s is = absurd is
plain_done calls.Sync s is = absurd is

pub change_done : (call : Call) (s : State) → IsChange call → done call s ≡ changed call s
change_done calls.Size s is = absurd is
change_done (calls.Read at len) s is = absurd is
change_done (calls.Write at bytes) s is = refl
change_done (calls.Cut len) s is = refl
change_done calls.Sync s is = absurd is
