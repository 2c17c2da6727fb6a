-- Bytes put over a content, the bytes past its end first.
use Rattle.std.proofs.Common.{◌≡◌, ℕ, zero, suc, ◌-◌, List, ◌∷◌, ◌≢◌, refl, sym, ap, arith}
use Rattle.rs_disk.specs.declared.call.Call.{Call}
use Rattle.rs_disk.specs.MemDisk.{kept}

-- the changes that are kept, one after the other
pub kept_more : (writes j : ℕ) (call : Call) (calls : List Call) → writes ≢ 0 → kept writes j (call ∷ calls) ≡ call ∷ kept (writes - 1) j calls
kept_more zero j call calls some = absurd (some refl)
kept_more (suc writes) j call calls some = let same : suc writes - 1 ≡ writes = omega arith in ap (λ (n : ℕ). call ∷ kept n j calls) (sym same)
