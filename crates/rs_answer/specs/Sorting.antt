-- Rows in an order.
use Rattle.std.specs.Prelude.{List, [], ◌∷◌, slice_get, if◌then◌else◌}
use Rattle.std.specs.Option.{option_cmp}
use Rattle.std.specs.Ordering.{match_ordering, ordering_reverse, ordering_then}
use Rattle.std.specs.declared.cmp.Ordering.{Ordering}
use Rattle.rs_base.specs.declared.value.Value.{Value}
use Rattle.rs_base.specs.Value.{value_cmp, row_cmp}
use Rattle.rs_ast.specs.declared.shape.ShapeKey.{ShapeKey}

-- ---- sorting by any order

-- inserts the item before the first one that isn't below it
abbrev pub put_in_order : {A : Type 0} → (A → A → Ordering) → A → List A → List A
put_in_order order item [] = item ∷ []
put_in_order order item (other ∷ items) =
    match_ordering (order item other) (item ∷ other ∷ items) (item ∷ other ∷ items) (other ∷ put_in_order order item items)

-- the same items, each as often, rising; those that tie keep their order
abbrev pub sorted_by : {A : Type 0} → (A → A → Ordering) → List A → List A
sorted_by order [] = []
sorted_by order (item ∷ items) = put_in_order order item (sorted_by order items)

-- ---- the order of an answer

abbrev pub reversed : ShapeKey → Ordering → Ordering
reversed key order = if key.desc then ordering_reverse order else order

-- two rows of an answer by one key: the item that it names, rising or falling
abbrev pub key_cmp : ShapeKey → List Value → List Value → Ordering
key_cmp key one other = reversed key (option_cmp value_cmp (slice_get one key.item) (slice_get other key.item))

-- by the keys, and then by all columns, rising
abbrev pub answer_cmp : List ShapeKey → List Value → List Value → Ordering
answer_cmp [] one other = row_cmp one other
answer_cmp (key ∷ keys) one other = ordering_then (key_cmp key one other) (answer_cmp keys one other)
