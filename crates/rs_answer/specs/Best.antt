-- The better of two optional values.
use Rattle.std.specs.Prelude.{Option, Some, None}
use Rattle.rs_base.specs.declared.value.Value.{Value}

-- the chosen one of two values, if both are there
abbrev pub better_of : (Value → Value → Value) → Option Value → Option Value → Option Value
better_of better None found = found
better_of better (Some best) None = Some best
better_of better (Some best) (Some value) = Some (better best value)
