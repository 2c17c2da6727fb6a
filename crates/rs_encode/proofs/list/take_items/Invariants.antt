use Rattle.std.proofs.Common.{◌≡◌, ◌-◌}
use Rattle.rs_base.specs.Reading.{with_prefix}
use Rattle.rs_encode.specs.Form.{items_at}
use Rattle.rs_encode.proofs.list.take_items.Given as goal

-- what is still read, after the items so far, is what was to be read
abbrev pub invariant-loop : goal.invariant-loop
invariant-loop g l = with_prefix l.items (items_at g.C.Codec.form (l.n - l.counter) l.fields) ≡ items_at g.C.Codec.form l.fn.n l.fn.fields
