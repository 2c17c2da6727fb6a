-- Bytes that begin with those that were there.
use Rattle.std.proofs.Common.{◌≡◌, ℕ, ◌+◌, ◌≤◌, List, ◌++◌, length, take, Result, Ok, Err, sym, ap, ◌∙◌, arith, length-append}
use Rattle.std.specs.Prelude.{OnErr}
use Rattle.std.proofs.Math.Seq.{take-append_seam, take-length}
use Rattle.std.proofs.lemmas.List.{take-take}
use Rattle.rs_base.specs.Keeping.{Keeps}

-- some bytes were appended, and then others, as far as there was memory
pub keeps_more : (old more between new : List ℕ) → between ≡ old ++ more → Keeps between new → Keeps old new
keeps_more old more between new e keeps =
    let long : length between ≡ length old + length more = ap length e ∙ length-append old more in
    let within : length old ≤ length between = omega arith in
    record { first = sym (take-take (length old) (length between) new within) ∙ ap (take (length old)) (keeps.first ∙ e) ∙ take-append_seam old more }

-- they stay
pub keeps_same : (old new : List ℕ) → new ≡ old → Keeps old new
keeps_same old new e = record { first = ap (take (length old)) e ∙ take-length old }

-- what holds anyway holds on an error
pub held_on_err : {T E P : Type 0} (result : Result T E) → P → OnErr result P
held_on_err (Ok x) p = tt
held_on_err (Err e) p = p
