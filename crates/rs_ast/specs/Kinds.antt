-- Kinds of values, as far as they are known.
use Rattle.std.specs.Prelude.{Bool, true, false, Option, Some, None}
use Rattle.rs_base.specs.declared.value.Kind.{Kind}
use Rattle.rs_base.specs.declared.value.Kind.TheVariants as kinds

abbrev pub same_kind : Kind → Kind → Bool
same_kind kinds.Int kinds.Int = true
same_kind kinds.Int kinds.Text = false
same_kind kinds.Text kinds.Int = false
same_kind kinds.Text kinds.Text = true

-- two kinds are the same; an unknown one, that of a parameter without a value, fits any
abbrev pub kinds_fit : Option Kind → Option Kind → Bool
kinds_fit None other = true
kinds_fit (Some kind) None = true
kinds_fit (Some kind) (Some other) = same_kind kind other
