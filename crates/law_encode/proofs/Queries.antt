-- Queries are paid for by their tokens, if their names of tables are.
use Rattle.std.proofs.Common.{◌≡◌, ℕ, suc, ◌+◌, ◌*◌, Bool, true, false, List, [], ◌∷◌, map, length, codes, Option, Some, None, refl, ap, arith}
use Rattle.std.proofs.lemmas.List.{length-append}
use Rattle.rs_base.specs.declared.name.NameText.{NameText}
use Rattle.rs_ast.specs.declared.column.ColRef.{ColRef}
use Rattle.rs_ast.specs.declared.select.Item.{Item}
use Rattle.rs_ast.specs.declared.select.Item.TheVariants as items
use Rattle.rs_ast.specs.declared.select.Key.{Key}
use Rattle.rs_ast.specs.declared.select.KeyBy.{KeyBy}
use Rattle.rs_ast.specs.declared.select.KeyBy.TheVariants as keys
use Rattle.rs_ast.specs.declared.select.Select.{Select}
use Rattle.rs_ast.specs.declared.select.TableRef.{TableRef}
use Rattle.rs_codec.specs.Written.{count_bytes}
use Rattle.rs_token.specs.declared.token.Symbol.TheVariants as symbols
use Rattle.rs_encode.specs.Form.{list, option}
use Rattle.rs_encode.specs.Values.{bool, count, count_below, ident, name_text}
use Rattle.rs_encode_ast.specs.Clauses.{clause, col_ref}
use Rattle.rs_encode_ast.specs.Queries.{item, key, key_by, query, table_ref}
use Rattle.rs_parse.specs.Phrases.{AtMost}
use Rattle.rs_parse.specs.Grammar.{IsCommaList, IsName, IsOfColumn, IsItem, IsItems, IsDistinct, IsTableRef, IsGroup, IsKeyBy, IsDirection, IsKey, IsOrder, IsSelect}
use Rattle.law_encode.specs.Renamed.{renamed_ref, renamed_query}
use Rattle.law_encode.proofs.Costs.{costs, count_grows}
use Rattle.law_encode.proofs.Paid.{IsPaid, unpaid, less, ◌▹◌, of_six, some_size, none_size, no_items, few_paid, few_mapped_paid}
use Rattle.law_encode.proofs.Parts.{word_paid, symbol_paid, comma, optional_ident_paid, col_ref_paid}
use Rattle.law_encode.proofs.Clauses.{where_paid}

-- ---- select items

column_size : (c : ColRef) → length (item.bytes (items.Col c)) ≡ suc (length (col_ref.bytes c))
unfolding item
column_size c = refl

count_size : length (item.bytes items.Count) ≡ 1
unfolding item
count_size = refl

sum_size : (c : ColRef) → length (item.bytes (items.Sum c)) ≡ suc (length (col_ref.bytes c))
unfolding item
sum_size c = refl

min_size : (c : ColRef) → length (item.bytes (items.Min c)) ≡ suc (length (col_ref.bytes c))
unfolding item
min_size c = refl

max_size : (c : ColRef) → length (item.bytes (items.Max c)) ≡ suc (length (col_ref.bytes c))
unfolding item
max_size c = refl

of_column_paid : (word : List ℕ) (c : ColRef) → IsPaid (IsOfColumn word c) (length (col_ref.bytes c)) 1
of_column_paid word c = less (word_paid word ▹ symbol_paid symbols.Open ▹ col_ref_paid c ▹ symbol_paid symbols.Close) (omega arith)

item_paid : (x : Item) → IsPaid (IsItem x) (length (item.bytes x)) 2
item_paid (items.Col c) = less (col_ref_paid c) (omega (arith, column_size c))
item_paid items.Count = less (unpaid 1) (omega (arith, count_size))
item_paid (items.Sum c) = less (of_column_paid (codes "sum") c) (omega (arith, sum_size c))
item_paid (items.Min c) = less (of_column_paid (codes "min") c) (omega (arith, min_size c))
item_paid (items.Max c) = less (of_column_paid (codes "max") c) (omega (arith, max_size c))

items_paid : (shown : Option (List Item)) → IsPaid (IsItems shown) (length ((option (list item)).bytes shown)) 49
items_paid None = less (unpaid 1) (omega (arith, none_size (list item)))
items_paid (Some shown) = less (few_paid item 16 comma item_paid shown) (omega (arith, some_size (list item) shown))

-- ---- truth values

bool_size : (b : Bool) → length (bool.bytes b) ≡ 1
unfolding bool
bool_size false = refl
bool_size true = refl

distinct_paid : (b : Bool) → IsPaid (IsDistinct b) (length (bool.bytes b)) 1
distinct_paid b = less (unpaid 1) (omega (arith, bool_size b))

direction_paid : (b : Bool) → IsPaid (IsDirection b) (length (bool.bytes b)) 1
direction_paid b = less (unpaid 1) (omega (arith, bool_size b))

-- ---- groups and order

group_paid : (group : List ColRef) → IsPaid (IsGroup group) (length ((list col_ref).bytes group)) 32
group_paid [] = less (unpaid 1) (omega (arith, no_items col_ref))
group_paid (c ∷ group) = less (word_paid (codes "group") ▹ word_paid (codes "by") ▹ few_paid col_ref 16 comma col_ref_paid (c ∷ group)) (omega arith)

key_column_size : (c : ColRef) → length (key_by.bytes (keys.Col c)) ≡ suc (length (col_ref.bytes c))
unfolding key_by
key_column_size c = refl

key_place_size : (n : ℕ) → length (key_by.bytes (keys.Place n)) ≡ suc (length (count_bytes n))
unfolding key_by count_below count
key_place_size n = refl

key_by_paid : (x : KeyBy) → IsPaid (IsKeyBy x) (length (key_by.bytes x)) 2
key_by_paid (keys.Col c) = less (col_ref_paid c) (omega (arith, key_column_size c))
key_by_paid (keys.Place n) = record {
  paid = λ ts formed is.
      let grows = count_grows n (2 * n) (omega arith) in
      omega (arith, ap costs is.1, key_place_size n, grows);
}

key_size : (x : Key) → length (key.bytes x) ≡ length (key_by.bytes x.by) + length (bool.bytes x.desc)
unfolding key
key_size x = length-append (key_by.bytes x.by) (bool.bytes x.desc)

key_paid : (x : Key) → IsPaid (IsKey x) (length (key.bytes x)) 3
key_paid x = less (key_by_paid x.by ▹ direction_paid x.desc) (omega (arith, key_size x))

order_paid : (order : List Key) → IsPaid (IsOrder order) (length ((list key).bytes order)) 64
order_paid [] = less (unpaid 1) (omega (arith, no_items key))
order_paid (k ∷ order) = less (word_paid (codes "order") ▹ word_paid (codes "by") ▹ few_paid key 16 comma key_paid (k ∷ order)) (omega arith)

-- ---- queries

table_ref_size : (x : TableRef) → length (table_ref.bytes x) ≡ length (name_text.bytes x.name) + length ((option ident).bytes x.alias)
unfolding table_ref
table_ref_size x = length-append (name_text.bytes x.name) ((option ident).bytes x.alias)

query_size : (x : Select) → length (query.bytes x)
    ≡ length (bool.bytes x.distinct) + (length ((option (list item)).bytes x.items) + (length ((list table_ref).bytes x.from)
    + (length ((list clause).bytes x.clauses) + (length ((list col_ref).bytes x.group) + length ((list key).bytes x.order)))))
unfolding query
query_size x = of_six (bool.bytes x.distinct) ((option (list item)).bytes x.items) ((list table_ref).bytes x.from)
    ((list clause).bytes x.clauses) ((list col_ref).bytes x.group) ((list key).bytes x.order)

module _ (rename : NameText → NameText) (named : (name : NameText) → IsPaid (IsName name) (length (name_text.bytes (rename name))) 55) where
  table_ref_paid : (x : TableRef) → IsPaid (IsTableRef x) (length (table_ref.bytes (renamed_ref rename x))) 56
  table_ref_paid x = less (named x.name ▹ optional_ident_paid x.alias) (omega (arith, table_ref_size (renamed_ref rename x)))

  tables_paid : (from : List TableRef) → IsPaid (AtMost 6 (IsCommaList IsTableRef) from) (length ((list table_ref).bytes (map (renamed_ref rename) from))) 342
  tables_paid from = less (few_mapped_paid table_ref (renamed_ref rename) 6 comma table_ref_paid from) (omega arith)

  pub query_paid : (x : Select) → IsPaid (IsSelect x) (length (query.bytes (renamed_query rename x))) 489
  query_paid x =
      less (word_paid (codes "select") ▹ distinct_paid x.distinct ▹ items_paid x.items ▹ word_paid (codes "from") ▹ tables_paid x.from
      ▹ where_paid x.clauses ▹ group_paid x.group ▹ order_paid x.order)
      (omega (arith, query_size (renamed_query rename x)))
