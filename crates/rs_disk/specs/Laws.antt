-- What holds of each disk whose calls answer as `Answers` says.
use Rattle.std.specs.Prelude.{◌≡◌, ⊤, ℕ, List, [], ◌∷◌, IsTrue}
use Rattle.rs_disk.specs.declared.call.State.{State}
use Rattle.rs_disk.specs.declared.call.Act.{Act}
use Rattle.rs_disk.specs.declared.call.Act.TheVariants as acts
use Rattle.rs_disk.specs.Disk.{content, content_of, settled, after, state_of, in_range, tried}
use Rattle.rs_disk.specs.Images.{IsImage, IsLeft}
use Rattle.rs_disk.specs.MemDisk.{crashed}

-- an act may happen in this state: a call that is done is in range, and what a failure or a stop leaves might be left
abbrev pub MayHappen : State → Act → Type 0
MayHappen s (acts.Done call) = IsTrue (in_range call (content s))
MayHappen s (acts.Refused call) = ⊤
MayHappen s (acts.Failed call left) = IsLeft (tried call s) left
MayHappen s (acts.Stopped left) = IsLeft s left

abbrev pub AllMayHappen : State → List Act → Type 0
AllMayHappen s [] = ⊤
AllMayHappen s (act ∷ acts) = MayHappen s act × AllMayHappen (after act s) acts

-- these acts may happen to a disk that is empty at first
abbrev pub IsCourse : List Act → Type 0
IsCourse acts = AllMayHappen (settled []) acts

-- a sync leaves one image: what a read gives
abbrev pub SyncedHasOneImage : Type 0
SyncedHasOneImage = (bytes image : List ℕ) → IsImage (settled bytes) image → image ≡ bytes

-- what a read gives is an image
abbrev pub ContentIsImage : Type 0
ContentIsImage = (acts : List Act) → IsCourse acts → IsImage (state_of acts) (content_of acts)

-- what a crash of a disk in memory leaves is an image
abbrev pub CrashIsImage : Type 0
CrashIsImage = (acts : List Act) (writes bytes : ℕ) → IsCourse acts → IsImage (state_of acts) (crashed writes bytes (state_of acts))
