-- The forms of queries.
use Rattle.rs_ast.specs.declared.clause.Clause.{Clause}
use Rattle.rs_ast.specs.declared.column.ColRef.{ColRef}
use Rattle.rs_ast.specs.declared.select.Item.{Item}
use Rattle.rs_ast.specs.declared.select.Item.TheVariants as items
use Rattle.rs_ast.specs.declared.select.Key.{Key}
use Rattle.rs_ast.specs.declared.select.KeyBy.{KeyBy}
use Rattle.rs_ast.specs.declared.select.KeyBy.TheVariants as key_bys
use Rattle.rs_ast.specs.declared.select.Select.{Select}
use Rattle.rs_ast.specs.declared.select.TableRef.{TableRef}
use Rattle.rs_base.specs.declared.name.NameText.{NameText}
use Rattle.rs_encode.specs.Form.{Form, bare, both, list, option, via}
use Rattle.rs_encode.specs.Values.{bool, count_below, ident, name_text}
use Rattle.rs_encode.specs.Variants.{enum, last, variant}
use Rattle.rs_encode_ast.specs.Clauses.{clause, col_ref}
use Rattle.std.specs.Prelude.{Bool, List, Option, ℕ, ◌⊎◌}
use mathlib.Core.Logic.{inl, inr}

abbrev pub item_of : ColRef ⊎ ((Unit {0}) ⊎ (ColRef ⊎ (ColRef ⊎ ColRef))) → Item
item_of (inl f) = items.Col f
item_of (inr (inl f)) = items.Count
item_of (inr (inr (inl f))) = items.Sum f
item_of (inr (inr (inr (inl f)))) = items.Min f
item_of (inr (inr (inr (inr f)))) = items.Max f

abbrev pub item_parts : Item → ColRef ⊎ ((Unit {0}) ⊎ (ColRef ⊎ (ColRef ⊎ ColRef)))
item_parts (items.Col field) = inl field
item_parts items.Count = inr (inl tt)
item_parts (items.Sum field) = inr (inr (inl field))
item_parts (items.Min field) = inr (inr (inr (inl field)))
item_parts (items.Max field) = inr (inr (inr (inr field)))

-- an item of a select list
unfoldable pub item : Form Item
item = enum item_of item_parts
    (variant 1 col_ref
    (variant 2 bare
    (variant 3 col_ref
    (variant 4 col_ref
    (last 5 col_ref)))))

abbrev pub key_by_of : ColRef ⊎ ℕ → KeyBy
key_by_of (inl f) = key_bys.Col f
key_by_of (inr f) = key_bys.Place f

abbrev pub key_by_parts : KeyBy → ColRef ⊎ ℕ
key_by_parts (key_bys.Col field) = inl field
key_by_parts (key_bys.Place field) = inr field

-- a sort expression
unfoldable pub key_by : Form KeyBy
key_by = enum key_by_of key_by_parts
    (variant 1 col_ref
    (last 2 (count_below 4294967296)))

abbrev pub key_of : KeyBy × Bool → Key
key_of f = record { by = f.0; desc = f.1 }

abbrev pub key_parts : Key → KeyBy × Bool
key_parts x = (x.by, x.desc)

-- a sort key
unfoldable pub key : Form Key
key = via key_of key_parts (both key_by bool)

abbrev pub table_ref_of : NameText × (Option (List ℕ)) → TableRef
table_ref_of f = record { name = f.0; alias = f.1 }

abbrev pub table_ref_parts : TableRef → NameText × (Option (List ℕ))
table_ref_parts x = (x.name, x.alias)

-- a table of FROM
unfoldable pub table_ref : Form TableRef
table_ref = via table_ref_of table_ref_parts (both name_text (option ident))

abbrev pub query_of : Bool × ((Option (List Item)) × ((List TableRef) × ((List Clause) × ((List ColRef) × (List Key))))) → Select
query_of f =
    record { distinct = f.0; items = f.1.0; from = f.1.1.0; clauses = f.1.1.1.0; group = f.1.1.1.1.0; order = f.1.1.1.1.1 }

abbrev pub query_parts : Select → Bool × ((Option (List Item)) × ((List TableRef) × ((List Clause) × ((List ColRef) × (List Key)))))
query_parts x = (x.distinct, (x.items, (x.from, (x.clauses, (x.group, x.order)))))

-- a query
unfoldable pub query : Form Select
query =
    via query_of query_parts (both bool (both (option (list item)) (both (list table_ref) (both (list clause) (both (list
    col_ref) (list key))))))
