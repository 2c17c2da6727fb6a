-- The denial of an item by its tests.
use Rattle.std.specs.Prelude.{◌≡◌, List, Option}
use Rattle.std.specs.Borrow.{Bor}
use Rattle.rs_base.specs.declared.reply.Denial.{Denial}
use Rattle.rs_scope.specs.Denials.{Test, first_denial}

-- each result for an item is the first denial of its tests
abbrev pub IsDenialBy : {T : Type 0} → (T → List Test) → (Bor T → Option Denial → Type 0) → Type 0
IsDenialBy {T} tests gives = (item : Bor T) (denial : Option Denial) → gives item denial
    → denial ≡ first_denial (tests item.now)
