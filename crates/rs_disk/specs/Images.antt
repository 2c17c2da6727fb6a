-- What a stop may leave of a disk. Between two syncs each written range and the part past the shortest length since the
-- earlier sync may hold any bytes; bytes outside stay; the length is any from the shortest to the longest since then.
use Rattle.std.specs.Prelude.{◌≡◌, ◌⊎◌, ⊤, ℕ, zero, suc, ◌+◌, ◌≤◌, max, List, [], ◌∷◌, length, map, take, Option, Some, None, IfSome, IsTrue}
use Rattle.rs_disk.specs.declared.call.Call.{Call}
use Rattle.rs_disk.specs.declared.call.Call.TheVariants as calls
use Rattle.rs_disk.specs.declared.call.State.{State}
use Rattle.rs_disk.specs.declared.call.Act.{Act}
use Rattle.rs_disk.specs.declared.call.Act.TheVariants as acts
use Rattle.rs_disk.specs.Disk.{applied, in_range, tried, after}

-- of the bytes that are sure, the n from this offset on no longer are
abbrev pub forget : ℕ → ℕ → List (Option ℕ) → List (Option ℕ)
forget at n [] = []
forget zero zero (byte ∷ bytes) = byte ∷ bytes
forget zero (suc n) (byte ∷ bytes) = None ∷ forget zero n bytes
forget (suc at) n (byte ∷ bytes) = byte ∷ forget at n bytes

-- The bytes up to the shortest length since a sync, None for those in a written range.
abbrev pub sure : List Call → List (Option ℕ) → List (Option ℕ)
sure [] bytes = bytes
sure (calls.Size ∷ changes) bytes = sure changes bytes
sure (calls.Read at len ∷ changes) bytes = sure changes bytes
sure (calls.Write at written ∷ changes) bytes = sure changes (forget at (length written) bytes)
sure (calls.Cut len ∷ changes) bytes = sure changes (take len bytes)
sure (calls.Sync ∷ changes) bytes = sure changes bytes

-- The longest length since a sync.
abbrev pub longest : List Call → ℕ → ℕ
longest [] most = most
longest (calls.Size ∷ changes) most = longest changes most
longest (calls.Read at len ∷ changes) most = longest changes most
longest (calls.Write at written ∷ changes) most = longest changes (max most (at + length written))
longest (calls.Cut len ∷ changes) most = longest changes most
longest (calls.Sync ∷ changes) most = longest changes most

-- the bytes are at least as many as these, and equal to those that are sure
abbrev pub Agrees : List (Option ℕ) → List ℕ → Type 0
Agrees [] image = ⊤
Agrees (byte ∷ bytes) [] = ⊥
Agrees (byte ∷ bytes) (b ∷ image) = IfSome byte (λ is. b ≡ is) × Agrees bytes image

-- a stop now may leave this
pub record IsImage (s : State) (image : List ℕ) : Type 0 where
  pub agrees : Agrees (sure s.changes (map Some s.base)) image
  pub no_longer : length image ≤ longest s.changes (length s.base)

-- how far it comes while this happens
abbrev pub reached : Act → State → State
reached (acts.Done call) s = tried call s
reached (acts.Refused call) s = tried call s
reached (acts.Failed call left) s = tried call s
reached (acts.Stopped left) s = s

-- a stop may leave this, now or while these things happen, during a call or between two
abbrev pub MayLeave : State → List Act → List ℕ → Type 0
MayLeave s [] image = IsImage s image
MayLeave s (act ∷ acts) image = IsImage s image ⊎ (IsImage (reached act s) image ⊎ MayLeave (after act s) acts image)

-- the writes and cuts are in range, each of the content before it
abbrev pub AreInRange : List Call → List ℕ → Type 0
AreInRange [] content = ⊤
AreInRange (call ∷ calls) content = IsTrue (in_range call content) × AreInRange calls (applied call content)

abbrev pub IsInRange : State → Type 0
IsInRange s = AreInRange s.changes s.base

-- A call that failed leaves this: what a read gives, and each image, is one that a stop in the call might have left.
pub record IsLeft (reached left : State) : Type 0 where
  pub in_range : IsInRange left
  pub images : (image : List ℕ) → IsImage left image → IsImage reached image
