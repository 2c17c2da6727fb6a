-- Rows updated one after the other.
use Rattle.std.specs.Prelude.{◌≡◌, List, [], ◌∷◌, ◌++◌, Result, Ok, Err}
use Rattle.rs_base.specs.declared.reply.Denial.{Denial}
use Rattle.rs_base.specs.declared.value.Value.{Value}

-- The new row is appended to those before, or the denial is returned.
abbrev pub Puts : {T : Type 0} → Result T Denial → List (List Value) → List (List Value) → Result (List Value) Denial → Type 0
Puts (Ok done) old new (Ok row) = new ≡ old ++ row ∷ []
Puts (Err cause) old new (Err why) = cause ≡ why
Puts (Ok done) old new (Err why) = ⊥
Puts (Err cause) old new (Ok row) = ⊥
