-- The words of a run.
use Rattle.std.proofs.Common.{◌≡◌, ℕ, ◌<◌, Bool, List, [], ◌∷◌, length, get_or, codes, sym, ap, ◌∙◌, arith}
use Rattle.std.specs.Prelude.{String, string_bytes, bytes_eq, IsTrue}
use Rattle.std.specs.declared.alloc.Global.{Global}
use Rattle.std.proofs.lemmas.Slice.Eq.{bytes_eq-Decides}
use Rattle.rs_run.specs.Run.{IsReplay}

-- one word, and whether it is `replay`
pub is_replay-one : (words : List (String Global)) (word : String Global) (same : Bool) → 0 < length words → length words < 2 → word ≡ get_or words 0 word → same ≡ bytes_eq (string_bytes word) (codes "replay")
    → (IsTrue same → IsReplay words) × (IsReplay words → IsTrue same)
is_replay-one [] word same long short at is = absurd (omega arith)
is_replay-one (w ∷ v ∷ words) word same long short at is = absurd (omega arith)
is_replay-one (w ∷ []) word same long short at is =
    let decides = bytes_eq-Decides (string_bytes word) (codes "replay") in (
      (λ yes. ap (λ (x : String Global). string_bytes x ∷ []) (sym at) ∙ ap (λ (bs : List ℕ). bs ∷ []) (decides.0 (sym is ∙ yes))),
      (λ replay. is ∙ decides.1 (ap string_bytes at ∙ head_is (string_bytes w) (codes "replay") replay)),
    )
  where
    head_is : (a b : List ℕ) → a ∷ [] ≡ b ∷ [] → a ≡ b
    head_is a b e = cc
