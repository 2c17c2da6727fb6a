-- The readers of queries read the phrases of the grammar.
use Rattle.std.proofs.Common.{◌≡◌, ℕ, ◌<◌, ◌^◌, Bool, true, false, cond, ltb, ◌||◌, List, [], ◌∷◌, ◌++◌, Option, Some, None, codes, refl, sym, ap, subst, ◌∙◌, inl, inr}
use Rattle.std.specs.Prelude.{is_some, bytes_eq}
use Rattle.std.proofs.lemmas.Bool.{false≢true, ltb-true, lt-ltb}
use Rattle.std.proofs.lemmas.Option.{cond_some, none-some}
use Rattle.std.proofs.lemmas.Slice.Eq.{bytes_eq-Decides}
use Rattle.rs_base.specs.declared.name.NameText.{NameText}
use Rattle.rs_ast.specs.declared.clause.Clause.{Clause}
use Rattle.rs_ast.specs.declared.column.ColRef.{ColRef}
use Rattle.rs_ast.specs.declared.select.Item.{Item}
use Rattle.rs_ast.specs.declared.select.Item.TheVariants as items
use Rattle.rs_ast.specs.declared.select.Key.{Key}
use Rattle.rs_ast.specs.declared.select.KeyBy.{KeyBy}
use Rattle.rs_ast.specs.declared.select.KeyBy.TheVariants as keys
use Rattle.rs_ast.specs.declared.select.Select.{Select}
use Rattle.rs_ast.specs.declared.select.TableRef.{TableRef}
use Rattle.rs_token.specs.declared.token.Symbol.TheVariants as symbols
use Rattle.rs_token.specs.declared.token.Token.{Token}
use Rattle.rs_token.specs.declared.token.Token.TheVariants as tokens
use Rattle.rs_token.specs.Reserved.{is_reserved}
use Rattle.rs_token.specs.Token.{is_symbol, is_word, same_symbol}
use Rattle.rs_token.proofs.TokenLaws.{is_symbol_self}
use Rattle.rs_parse.specs.Phrases.{Phrase, Is, Optional, AtMost}
use Rattle.rs_parse.specs.Read.{Got, ◌>>=◌, begins, either_at, optional_at}
use Rattle.rs_parse.specs.Grammar.{IsIdent, IsColRef, IsCommaList, IsOfColumn, IsItem, IsItems, IsDistinct, IsTableRef, IsGroup, IsKeyBy, IsDirection, IsKey, IsOrder, IsWhere, IsSelect}
use Rattle.rs_parse.specs.Reader.{word_at, ident_at, is_ident_token, ordinal_of, ordinal_at, count_at, of_column_at, item_at, items_at, distinct_at, table_ref_at, group_by_at, group_at, key_by_at, direction_at, key_at, order_by_at, order_at, select_at, list_at, where_at}
use Rattle.rs_parse.proofs.Readers.{IsReader, Then, Made, Either, Empty, IsToken, Begins, never, or_left, or_right, gives_before, reads_one, reads_optional, then_reads, suffix_reads, made_reads, either_reads, as_reads, before_reads, token_begins, end_begins, empty_begins, begins_fewer, begins_made, begins_either, suffix_begins}
use Rattle.rs_parse.proofs.Series.{begins_apart}
use Rattle.rs_parse.proofs.NameRules.{symbol_reads, word_reads, ident_reads, on_column, col_ref_reads, on_name, name_reads}
use Rattle.rs_parse.proofs.TermRules.{ident_begins, on_list, list_reads}
use Rattle.rs_parse.proofs.ClauseRules.{ident_no_symbol, col_ref_begins, on_where, where_reads, where_begins}

-- ---- identifiers and keywords

ident_free : (w : List ℕ) (test : Bool) → is_reserved w ≡ test → is_some (cond test None (Some w)) ≡ true → is_reserved w ≡ false
ident_free w true r e = absurd (false≢true e)
ident_free w false r e = r

other_word : (word w : List ℕ) (test : Bool) → bytes_eq w word ≡ test → is_reserved word ≡ true → is_reserved w ≡ false → test ≡ false
other_word word w true same reserved free = absurd (false≢true (sym free ∙ ap is_reserved ((bytes_eq-Decides w word).0 same) ∙ reserved))
other_word word w false same reserved free = refl

pub ident_no_word : (word : List ℕ) → is_reserved word ≡ true → (t : Token) → is_ident_token t ≡ true → is_word word t ≡ false
ident_no_word word reserved (tokens.Word w) e = other_word word w (bytes_eq w word) refl reserved (ident_free w (is_reserved w) refl e)
ident_no_word word reserved (tokens.Number n) e = refl
ident_no_word word reserved (tokens.Text text) e = refl
ident_no_word word reserved (tokens.Symbol symbol) e = refl

-- ---- items

close_no_dot : on_column (tokens.Symbol symbols.Close) ≡ false
unfolding same_symbol
close_no_dot = refl

pub comma_no_dot : on_column (tokens.Symbol symbols.Comma) ≡ false
unfolding same_symbol
comma_no_dot = refl

abbrev closed : ColRef → Unit {0} → ColRef
closed c close = c

of_column_reads : (word : List ℕ) → IsReader (IsOfColumn word) never (of_column_at word)
unfolding of_column_at
of_column_reads word = as_reads (IsOfColumn word)
    (suffix_reads (word_reads word) (λ named. suffix_reads (symbol_reads symbols.Open) (λ opened. then_reads col_ref_reads (λ c. made_reads (closed c) (symbol_reads symbols.Close))
    (λ c made suffix rest q ends. end_begins on_column (tokens.Symbol symbols.Close) false close_no_dot suffix rest q.1))))
    (λ c ts (named, f, b, is, (opened, f1, b1, is_open, (column, f2, b2, is_column, (close, is_close, e), p2), p1), p). subst (λ (z : ColRef). IsOfColumn word z ts) e (f, b, is, (f1, b1, is_open, (f2, b2, is_column, is_close, p2), p1), p))
    (λ c ts (f, b, is, (f1, b1, is_open, (f2, b2, is_column, is_close, p2), p1), p). (tt, f, b, is, (tt, f1, b1, is_open, (c, f2, b2, is_column, (tt, is_close, refl), p2), p1), p))

of_column_begins : (word : List ℕ) (is : Token → Bool) (c : Bool) → is (tokens.Word word) ≡ c → Begins is c (IsOfColumn word)
of_column_begins word is c e column prefix rest p = token_begins is (tokens.Word word) c e p.0 p.1 prefix rest p.2 p.4

abbrev counted : Unit {0} → Item
counted close = items.Count

abbrev CountChain : Phrase Item
CountChain = Then (IsToken (tokens.Word (codes "count"))) (λ named. Then (IsToken (tokens.Symbol symbols.Open)) (λ opened. Then (IsToken (tokens.Symbol symbols.Star)) (λ star. Made counted (IsToken (tokens.Symbol symbols.Close)))))

count_reads : IsReader CountChain never count_at
unfolding count_at
count_reads = suffix_reads (word_reads (codes "count")) (λ named. suffix_reads (symbol_reads symbols.Open) (λ opened. suffix_reads (symbol_reads symbols.Star) (λ star. made_reads counted (symbol_reads symbols.Close))))

abbrev MaxPart : Phrase Item
MaxPart = Made items.Max (IsOfColumn (codes "max"))

abbrev MinPart : Phrase Item
MinPart = Either (Made items.Min (IsOfColumn (codes "min"))) MaxPart

abbrev SumPart : Phrase Item
SumPart = Either (Made items.Sum (IsOfColumn (codes "sum"))) MinPart

abbrev CountPart : Phrase Item
CountPart = Either CountChain SumPart

max_begins : (is : Token → Bool) (c : Bool) → is (tokens.Word (codes "max")) ≡ c → Begins is c MaxPart
max_begins is c e = begins_made (IsOfColumn (codes "max")) items.Max is c (of_column_begins (codes "max") is c e)

min_begins : (is : Token → Bool) (c : Bool) → is (tokens.Word (codes "min")) ≡ c → is (tokens.Word (codes "max")) ≡ c → Begins is c MinPart
min_begins is c e e' = begins_either (Made items.Min (IsOfColumn (codes "min"))) MaxPart is c (begins_made (IsOfColumn (codes "min")) items.Min is c (of_column_begins (codes "min") is c e)) (max_begins is c e')

sum_begins : (is : Token → Bool) (c : Bool) → is (tokens.Word (codes "sum")) ≡ c → is (tokens.Word (codes "min")) ≡ c → is (tokens.Word (codes "max")) ≡ c → Begins is c SumPart
sum_begins is c e e' e'' = begins_either (Made items.Sum (IsOfColumn (codes "sum"))) MinPart is c (begins_made (IsOfColumn (codes "sum")) items.Sum is c (of_column_begins (codes "sum") is c e)) (min_begins is c e' e'')

count_begins : (is : Token → Bool) (c : Bool) → is (tokens.Word (codes "count")) ≡ c → is (tokens.Word (codes "sum")) ≡ c → is (tokens.Word (codes "min")) ≡ c → is (tokens.Word (codes "max")) ≡ c → Begins is c CountPart
count_begins is c e e' e'' e''' = begins_either CountChain SumPart is c
    (λ x prefix rest p. token_begins is (tokens.Word (codes "count")) c e p.1 p.2 prefix rest p.3 p.5)
    (sum_begins is c e' e'' e''')

count_no_ident : Begins is_ident_token false CountPart
unfolding is_reserved
count_no_ident = count_begins is_ident_token false refl refl refl refl

abbrev ItemChain : Phrase Item
ItemChain = Either (Made items.Col IsColRef) CountPart

item_to : (item : Item) (ts : List Token) → ItemChain item ts → IsItem item ts
item_to item ts (inl (c, is, e)) = subst (λ (x : Item). IsItem x ts) e is
item_to item ts (inr (inl (named, f, b, is, (opened, f1, b1, is_open, (star, f2, b2, is_star, (close, is_close, e), p2), p1), p))) = subst (λ (x : Item). IsItem x ts) e (f, b, is, (f1, b1, is_open, (f2, b2, is_star, is_close, p2), p1), p)
item_to item ts (inr (inr (inl (c, is, e)))) = subst (λ (x : Item). IsItem x ts) e is
item_to item ts (inr (inr (inr (inl (c, is, e))))) = subst (λ (x : Item). IsItem x ts) e is
item_to item ts (inr (inr (inr (inr (c, is, e))))) = subst (λ (x : Item). IsItem x ts) e is

item_from : (item : Item) (ts : List Token) → IsItem item ts → ItemChain item ts
item_from (items.Col c) ts is = inl (c, is, refl)
item_from items.Count ts (f, b, is, (f1, b1, is_open, (f2, b2, is_star, is_close, p2), p1), p) = inr (inl (tt, f, b, is, (tt, f1, b1, is_open, (tt, f2, b2, is_star, (tt, is_close, refl), p2), p1), p))
item_from (items.Sum c) ts is = inr (inr (inl (c, is, refl)))
item_from (items.Min c) ts is = inr (inr (inr (inl (c, is, refl))))
item_from (items.Max c) ts is = inr (inr (inr (inr (c, is, refl))))

count_part_reads : IsReader CountPart never
    (either_at (is_word (codes "count")) count_at
    (either_at (is_word (codes "sum")) (λ ts. of_column_at (codes "sum") ts >>= λ column. Got (items.Sum column.0) column.1)
    (either_at (is_word (codes "min")) (λ ts. of_column_at (codes "min") ts >>= λ column. Got (items.Min column.0) column.1)
    (λ ts. of_column_at (codes "max") ts >>= λ column. Got (items.Max column.0) column.1))))
count_part_reads = either_reads (is_word (codes "count")) count_reads
    (either_reads (is_word (codes "sum")) (made_reads items.Sum (of_column_reads (codes "sum")))
    (either_reads (is_word (codes "min")) (made_reads items.Min (of_column_reads (codes "min"))) (made_reads items.Max (of_column_reads (codes "max")))
    (begins_made (IsOfColumn (codes "min")) items.Min (is_word (codes "min")) true (of_column_begins (codes "min") (is_word (codes "min")) true refl))
    (λ item prefix rest p ends. max_begins (is_word (codes "min")) false refl item prefix rest p))
    (begins_made (IsOfColumn (codes "sum")) items.Sum (is_word (codes "sum")) true (of_column_begins (codes "sum") (is_word (codes "sum")) true refl))
    (λ item prefix rest p ends. min_begins (is_word (codes "sum")) false refl refl item prefix rest p))
    (λ item prefix rest p. token_begins (is_word (codes "count")) (tokens.Word (codes "count")) true refl p.1 p.2 prefix rest p.3 p.5)
    (λ item prefix rest p ends. sum_begins (is_word (codes "count")) false refl refl refl item prefix rest p)

item_reads : IsReader IsItem on_column item_at
unfolding item_at
item_reads = as_reads IsItem
    (either_reads is_ident_token (made_reads items.Col col_ref_reads) (before_reads on_column (λ t e. refl) count_part_reads)
    (λ item prefix rest p. col_ref_begins p.0 prefix rest p.1)
    (λ item prefix rest p ends. count_no_ident item prefix rest p))
    item_to item_from

-- a test that no identifier and no function's name passes
item_begins : (is : Token → Bool) → ((t : Token) → is_ident_token t ≡ true → is t ≡ false) → is (tokens.Word (codes "count")) ≡ false → is (tokens.Word (codes "sum")) ≡ false → is (tokens.Word (codes "min")) ≡ false → is (tokens.Word (codes "max")) ≡ false → Begins is false IsItem
item_begins is apart e e' e'' e''' item prefix rest p = go (item_from item prefix p)
  where
    go : ItemChain item prefix → begins is (prefix ++ rest) ≡ false
    go (inl q) = begins_apart is_ident_token is apart (prefix ++ rest) (col_ref_begins q.0 prefix rest q.1)
    go (inr q) = count_begins is false e e' e'' e''' item prefix rest q

pub list_begins : {A : Type 0} (P : Phrase A) (n : ℕ) (is : Token → Bool) (c : Bool) → Begins is c P → Begins is c (AtMost n (IsCommaList P))
list_begins P n is c b [] prefix rest p = absurd p.1
list_begins P n is c b (x ∷ xs) prefix rest (le, (one, two, p, others, e)) = suffix_begins is prefix one two rest c e (b x one (two ++ rest) p)

abbrev no_items : Unit {0} → Option (List Item)
no_items star = None

abbrev ItemsChain : Phrase (Option (List Item))
ItemsChain = Either (Made no_items (IsToken (tokens.Symbol symbols.Star))) (Made Some (AtMost 16 (IsCommaList IsItem)))

items_to : (found : Option (List Item)) (ts : List Token) → ItemsChain found ts → IsItems found ts
items_to found ts (inl (star, is, e)) = subst (λ (x : Option (List Item)). IsItems x ts) e is
items_to found ts (inr (separated_list, is, e)) = subst (λ (x : Option (List Item)). IsItems x ts) e is

items_from : (found : Option (List Item)) (ts : List Token) → IsItems found ts → ItemsChain found ts
items_from None ts is = inl (tt, is, refl)
items_from (Some separated_list) ts is = inr (separated_list, is, refl)

pub items_reads : IsReader IsItems (on_list on_column) items_at
unfolding items_at
items_reads = as_reads IsItems
    (either_reads (is_symbol symbols.Star) (before_reads (on_list on_column) (λ t e. refl) (made_reads no_items (symbol_reads symbols.Star))) (made_reads Some (list_reads 15 item_reads comma_no_dot))
    (λ found prefix rest p. end_begins (is_symbol symbols.Star) (tokens.Symbol symbols.Star) true (is_symbol_self symbols.Star) prefix rest p.1)
    (λ found prefix rest p ends. list_begins IsItem 16 (is_symbol symbols.Star) false (item_begins (is_symbol symbols.Star) (ident_no_symbol symbols.Star) refl refl refl refl) p.0 prefix rest p.1))
    items_to items_from

distinct_is_reserved : is_reserved (codes "distinct") ≡ true
unfolding is_reserved
distinct_is_reserved = refl

items_no_distinct : Begins (is_word (codes "distinct")) false IsItems
items_no_distinct None prefix rest is = end_begins (is_word (codes "distinct")) (tokens.Symbol symbols.Star) false refl prefix rest is
items_no_distinct (Some separated_list) prefix rest is =
    list_begins IsItem 16 (is_word (codes "distinct")) false (item_begins (is_word (codes "distinct")) (ident_no_word (codes "distinct") distinct_is_reserved) refl refl refl refl) separated_list prefix rest is

-- ---- DISTINCT

abbrev is_distinct : Token → Bool
is_distinct t = is_word (codes "distinct") t

abbrev distinctly : Unit {0} → Bool
distinctly word = true

abbrev DistinctChain : Phrase Bool
DistinctChain = Either (Made distinctly (IsToken (tokens.Word (codes "distinct")))) (Empty false)

distinct_to : (distinct : Bool) (ts : List Token) → DistinctChain distinct ts → IsDistinct distinct ts
distinct_to distinct ts (inl (word, is, e)) = subst (λ (x : Bool). IsDistinct x ts) e is
distinct_to distinct ts (inr (e, nothing)) = subst (λ (x : Bool). IsDistinct x ts) e nothing

distinct_from : (distinct : Bool) (ts : List Token) → IsDistinct distinct ts → DistinctChain distinct ts
distinct_from false ts nothing = inr (refl, nothing)
distinct_from true ts is = inl (tt, is, refl)

distinct_reads : IsReader IsDistinct is_distinct distinct_at
unfolding distinct_at
distinct_reads = as_reads IsDistinct
    (either_reads (is_word (codes "distinct")) (before_reads is_distinct (λ t e. refl) (made_reads distinctly (word_reads (codes "distinct")))) (gives_before false is_distinct)
    (λ distinct prefix rest p. end_begins (is_word (codes "distinct")) (tokens.Word (codes "distinct")) true refl prefix rest p.1)
    (λ distinct prefix rest p ends. empty_begins (is_word (codes "distinct")) is_distinct (λ t e. e) prefix rest p.1 ends))
    distinct_to distinct_from

-- ---- FROM

abbrev on_alias : Token → Bool
on_alias t = is_ident_token t || never t

-- an alias continues, or what continues a name
abbrev on_table : Token → Bool
on_table t = on_alias t || on_name t

on_table_alias : (t : Token) → on_table t ≡ false → on_alias t ≡ false
on_table_alias t e = or_left (on_alias t) (on_name t) e

on_table_name : (t : Token) → on_table t ≡ false → on_name t ≡ false
on_table_name t e = or_right (on_alias t) (on_name t) e

abbrev table_of : NameText → Option (List ℕ) → TableRef
table_of name alias = record { name = name; alias = alias }

alias_reads : IsReader (Optional IsIdent) on_alias (optional_at is_ident_token ident_at)
alias_reads = reads_optional IsIdent is_ident_token never ident_at ident_reads ident_begins

alias_follows : (alias : Option (List ℕ)) (suffix rest : List Token) → Optional IsIdent alias suffix → begins on_table rest ≡ false → begins on_name (suffix ++ rest) ≡ false
alias_follows None suffix rest nothing ends = empty_begins on_name on_table on_table_name suffix rest nothing ends
alias_follows (Some alias) suffix rest (free, at) ends = end_begins on_name (tokens.Word alias) false refl suffix rest at

table_ref_reads : IsReader IsTableRef on_table table_ref_at
unfolding table_ref_at
table_ref_reads = as_reads IsTableRef
    (then_reads name_reads (λ name. before_reads on_table on_table_alias (made_reads (table_of name) alias_reads)) (λ name made suffix rest q ends. alias_follows q.0 suffix rest q.1 ends))
    (λ table ts (name, f, b, is, (alias, is_alias, e), p). subst (λ (x : TableRef). IsTableRef x ts) e (f, b, is, is_alias, p))
    (λ table ts (f, b, is, is_alias, p). (table.name, f, b, is, (table.alias, is_alias, refl), p))

comma_ends_table : on_table (tokens.Symbol symbols.Comma) ≡ false
unfolding same_symbol
comma_ends_table = refl

-- the tokens that continue the tables of a query
abbrev on_tables : Token → Bool
on_tables t = on_list on_table t

-- ---- GROUP BY

abbrev GroupChain : Phrase (List ColRef)
GroupChain = Then (IsToken (tokens.Word (codes "group"))) (λ group. Then (IsToken (tokens.Word (codes "by"))) (λ by. AtMost 16 (IsCommaList IsColRef)))

group_by_reads : IsReader GroupChain (on_list on_column) group_by_at
unfolding group_by_at
group_by_reads = suffix_reads (word_reads (codes "group")) (λ group. suffix_reads (word_reads (codes "by")) (λ by. list_reads 15 col_ref_reads comma_no_dot))

abbrev on_group : Token → Bool
on_group t = is_word (codes "group") t || on_list on_column t

group_to : (cs : List ColRef) (ts : List Token) → Either GroupChain (Empty []) cs ts → IsGroup cs ts
group_to [] ts (inl (group, f, b, is, (by, f1, b1, is_by, list, p1), p)) = absurd list.1
group_to (c ∷ cs) ts (inl (group, f, b, is, (by, f1, b1, is_by, list, p1), p)) = (f, b, is, (f1, b1, is_by, list, p1), p)
group_to cs ts (inr (e, nothing)) = subst (λ (x : List ColRef). IsGroup x ts) e nothing

group_from : (cs : List ColRef) (ts : List Token) → IsGroup cs ts → Either GroupChain (Empty []) cs ts
group_from [] ts nothing = inr (refl, nothing)
group_from (c ∷ cs) ts (f, b, is, (f1, b1, is_by, list, p1), p) = inl (tt, f, b, is, (tt, f1, b1, is_by, list, p1), p)

group_reads : IsReader IsGroup on_group group_at
unfolding group_at
group_reads = as_reads IsGroup
    (either_reads (is_word (codes "group")) (before_reads on_group (λ t e. or_right (is_word (codes "group") t) (on_list on_column t) e) group_by_reads) (gives_before [] on_group)
    (λ cs prefix rest p. token_begins (is_word (codes "group")) (tokens.Word (codes "group")) true refl p.1 p.2 prefix rest p.3 p.5)
    (λ cs prefix rest p ends. empty_begins (is_word (codes "group")) on_group (λ t e. or_left (is_word (codes "group") t) (on_list on_column t) e) prefix rest p.1 ends))
    group_to group_from

group_begins : (is : Token → Bool) → is (tokens.Word (codes "group")) ≡ false → (cs : List ColRef) (prefix rest : List Token) → IsGroup cs prefix → begins is rest ≡ false → begins is (prefix ++ rest) ≡ false
group_begins is e [] prefix rest nothing ends = ap (λ (us : List Token). begins is (us ++ rest)) nothing ∙ ends
group_begins is e (c ∷ cs) prefix rest (f, b, at, others, p) ends = token_begins is (tokens.Word (codes "group")) false e f b prefix rest at p

-- ---- ORDER BY

abbrev IsOrdinal : Phrase ℕ
IsOrdinal n ts = (n < 2 ^ 32) × Is (tokens.Number n) ts

ordinal_is : (t : Token) (n : ℕ) → ordinal_of t ≡ Some n → (n < 2 ^ 32) × (t ≡ tokens.Number n)
ordinal_is (tokens.Word word) n e = absurd (none-some n e)
ordinal_is (tokens.Number m) n e =
    let g = cond_some (ltb m (2 ^ 32)) m n e in
    subst (λ (k : ℕ). (k < 2 ^ 32) × (tokens.Number m ≡ tokens.Number k)) g.1 (ltb-true m (2 ^ 32) g.0, refl)
ordinal_is (tokens.Text text) n e = absurd (none-some n e)
ordinal_is (tokens.Symbol symbol) n e = absurd (none-some n e)

ordinal_reads : IsReader IsOrdinal never ordinal_at
unfolding ordinal_at
ordinal_reads = as_reads IsOrdinal (reads_one ordinal_of (tokens.Number 0) 0 refl)
    (λ n ts is. let g = ordinal_is is.0 n is.1 in (g.0, is.2 ∙ ap (λ (t : Token). t ∷ []) g.1))
    (λ n ts is. (tokens.Number n, ap (λ (test : Bool). cond test (Some n) None) (lt-ltb n (2 ^ 32) is.0), is.1))

abbrev KeyByChain : Phrase KeyBy
KeyByChain = Either (Made keys.Col IsColRef) (Made keys.Place IsOrdinal)

key_by_to : (by : KeyBy) (ts : List Token) → KeyByChain by ts → IsKeyBy by ts
key_by_to by ts (inl (c, is, e)) = subst (λ (x : KeyBy). IsKeyBy x ts) e is
key_by_to by ts (inr (n, is, e)) = subst (λ (x : KeyBy). IsKeyBy x ts) e is

key_by_from : (by : KeyBy) (ts : List Token) → IsKeyBy by ts → KeyByChain by ts
key_by_from (keys.Col c) ts is = inl (c, is, refl)
key_by_from (keys.Place n) ts is = inr (n, is, refl)

key_by_reads : IsReader IsKeyBy on_column key_by_at
unfolding key_by_at
key_by_reads = as_reads IsKeyBy
    (either_reads is_ident_token (made_reads keys.Col col_ref_reads) (before_reads on_column (λ t e. refl) (made_reads keys.Place ordinal_reads))
    (λ by prefix rest p. col_ref_begins p.0 prefix rest p.1)
    (λ by prefix rest p ends. end_begins is_ident_token (tokens.Number p.0) false refl prefix rest p.1.1))
    key_by_to key_by_from

abbrev on_direction : Token → Bool
on_direction t = is_word (codes "desc") t || is_word (codes "asc") t

on_direction_desc : (t : Token) → on_direction t ≡ false → is_word (codes "desc") t ≡ false
on_direction_desc t e = or_left (is_word (codes "desc") t) (is_word (codes "asc") t) e

on_direction_asc : (t : Token) → on_direction t ≡ false → is_word (codes "asc") t ≡ false
on_direction_asc t e = or_right (is_word (codes "desc") t) (is_word (codes "asc") t) e

abbrev falling : Unit {0} → Bool
falling word = true

abbrev rising : Unit {0} → Bool
rising word = false

abbrev AscChain : Phrase Bool
AscChain = Either (Made rising (IsToken (tokens.Word (codes "asc")))) (Empty false)

abbrev DirectionChain : Phrase Bool
DirectionChain = Either (Made falling (IsToken (tokens.Word (codes "desc")))) AscChain

direction_to : (desc : Bool) (ts : List Token) → DirectionChain desc ts → IsDirection desc ts
direction_to desc ts (inl (word, is, e)) = subst (λ (x : Bool). IsDirection x ts) e is
direction_to desc ts (inr (inl (word, is, e))) = subst (λ (x : Bool). IsDirection x ts) e (inr is)
direction_to desc ts (inr (inr (e, nothing))) = subst (λ (x : Bool). IsDirection x ts) e (inl nothing)

direction_from : (desc : Bool) (ts : List Token) → IsDirection desc ts → DirectionChain desc ts
direction_from false ts (inl nothing) = inr (inr (refl, nothing))
direction_from false ts (inr is) = inr (inl (tt, is, refl))
direction_from true ts is = inl (tt, is, refl)

asc_begins : (desc : Bool) (prefix rest : List Token) → AscChain desc prefix → begins on_direction rest ≡ false → begins (is_word (codes "desc")) (prefix ++ rest) ≡ false
asc_begins desc prefix rest (inl p) ends = end_begins (is_word (codes "desc")) (tokens.Word (codes "asc")) false refl prefix rest p.1
asc_begins desc prefix rest (inr p) ends = empty_begins (is_word (codes "desc")) on_direction on_direction_desc prefix rest p.1 ends

direction_reads : IsReader IsDirection on_direction direction_at
unfolding direction_at
direction_reads = as_reads IsDirection
    (either_reads (is_word (codes "desc")) (before_reads on_direction (λ t e. refl) (made_reads falling (word_reads (codes "desc"))))
    (either_reads (is_word (codes "asc")) (before_reads on_direction (λ t e. refl) (made_reads rising (word_reads (codes "asc")))) (gives_before false on_direction)
    (λ desc prefix rest p. end_begins (is_word (codes "asc")) (tokens.Word (codes "asc")) true refl prefix rest p.1)
    (λ desc prefix rest p ends. empty_begins (is_word (codes "asc")) on_direction on_direction_asc prefix rest p.1 ends))
    (λ desc prefix rest p. end_begins (is_word (codes "desc")) (tokens.Word (codes "desc")) true refl prefix rest p.1)
    asc_begins)
    direction_to direction_from

abbrev on_key : Token → Bool
on_key t = on_direction t || on_column t

on_key_direction : (t : Token) → on_key t ≡ false → on_direction t ≡ false
on_key_direction t e = or_left (on_direction t) (on_column t) e

on_key_column : (t : Token) → on_key t ≡ false → on_column t ≡ false
on_key_column t e = or_right (on_direction t) (on_column t) e

abbrev key_of : KeyBy → Bool → Key
key_of by desc = record { by = by; desc = desc }

direction_follows : (desc : Bool) (suffix rest : List Token) → IsDirection desc suffix → begins on_key rest ≡ false → begins on_column (suffix ++ rest) ≡ false
direction_follows false suffix rest (inl nothing) ends = empty_begins on_column on_key on_key_column suffix rest nothing ends
direction_follows false suffix rest (inr at) ends = end_begins on_column (tokens.Word (codes "asc")) false refl suffix rest at
direction_follows true suffix rest at ends = end_begins on_column (tokens.Word (codes "desc")) false refl suffix rest at

key_reads : IsReader IsKey on_key key_at
unfolding key_at
key_reads = as_reads IsKey
    (then_reads key_by_reads (λ by. before_reads on_key on_key_direction (made_reads (key_of by) direction_reads)) (λ by made suffix rest q ends. direction_follows q.0 suffix rest q.1 ends))
    (λ key ts (by, f, b, is, (desc, is_direction, e), p). subst (λ (x : Key). IsKey x ts) e (f, b, is, is_direction, p))
    (λ key ts (f, b, is, is_direction, p). (key.by, f, b, is, (key.desc, is_direction, refl), p))

comma_ends_key : on_key (tokens.Symbol symbols.Comma) ≡ false
unfolding same_symbol
comma_ends_key = refl

abbrev OrderChain : Phrase (List Key)
OrderChain = Then (IsToken (tokens.Word (codes "order"))) (λ order. Then (IsToken (tokens.Word (codes "by"))) (λ by. AtMost 16 (IsCommaList IsKey)))

order_by_reads : IsReader OrderChain (on_list on_key) order_by_at
unfolding order_by_at
order_by_reads = suffix_reads (word_reads (codes "order")) (λ order. suffix_reads (word_reads (codes "by")) (λ by. list_reads 15 key_reads comma_ends_key))

abbrev on_order : Token → Bool
on_order t = is_word (codes "order") t || on_list on_key t

order_to : (ks : List Key) (ts : List Token) → Either OrderChain (Empty []) ks ts → IsOrder ks ts
order_to [] ts (inl (order, f, b, is, (by, f1, b1, is_by, list, p1), p)) = absurd list.1
order_to (k ∷ ks) ts (inl (order, f, b, is, (by, f1, b1, is_by, list, p1), p)) = (f, b, is, (f1, b1, is_by, list, p1), p)
order_to ks ts (inr (e, nothing)) = subst (λ (x : List Key). IsOrder x ts) e nothing

order_from : (ks : List Key) (ts : List Token) → IsOrder ks ts → Either OrderChain (Empty []) ks ts
order_from [] ts nothing = inr (refl, nothing)
order_from (k ∷ ks) ts (f, b, is, (f1, b1, is_by, list, p1), p) = inl (tt, f, b, is, (tt, f1, b1, is_by, list, p1), p)

order_reads : IsReader IsOrder on_order order_at
unfolding order_at
order_reads = as_reads IsOrder
    (either_reads (is_word (codes "order")) (before_reads on_order (λ t e. or_right (is_word (codes "order") t) (on_list on_key t) e) order_by_reads) (gives_before [] on_order)
    (λ ks prefix rest p. token_begins (is_word (codes "order")) (tokens.Word (codes "order")) true refl p.1 p.2 prefix rest p.3 p.5)
    (λ ks prefix rest p ends. empty_begins (is_word (codes "order")) on_order (λ t e. or_left (is_word (codes "order") t) (on_list on_key t) e) prefix rest p.1 ends))
    order_to order_from

order_begins : (is : Token → Bool) → is (tokens.Word (codes "order")) ≡ false → (ks : List Key) (prefix rest : List Token) → IsOrder ks prefix → begins is rest ≡ false → begins is (prefix ++ rest) ≡ false
order_begins is e [] prefix rest nothing ends = ap (λ (us : List Token). begins is (us ++ rest)) nothing ∙ ends
order_begins is e (k ∷ ks) prefix rest (f, b, at, others, p) ends = token_begins is (tokens.Word (codes "order")) false e f b prefix rest at p

-- ---- queries

-- the tokens that continue the last part of a query
abbrev pub on_select : Token → Bool
on_select t = on_order t || (on_group t || (on_where t || on_tables t))

on_select_order : (t : Token) → on_select t ≡ false → on_order t ≡ false
on_select_order t e = or_left (on_order t) (on_group t || (on_where t || on_tables t)) e

on_select_group : (t : Token) → on_select t ≡ false → on_group t ≡ false
on_select_group t e = or_left (on_group t) (on_where t || on_tables t) (or_right (on_order t) (on_group t || (on_where t || on_tables t)) e)

on_select_where : (t : Token) → on_select t ≡ false → on_where t ≡ false
on_select_where t e = or_left (on_where t) (on_tables t) (or_right (on_group t) (on_where t || on_tables t) (or_right (on_order t) (on_group t || (on_where t || on_tables t)) e))

on_select_tables : (t : Token) → on_select t ≡ false → on_tables t ≡ false
on_select_tables t e = or_right (on_where t) (on_tables t) (or_right (on_group t) (on_where t || on_tables t) (or_right (on_order t) (on_group t || (on_where t || on_tables t)) e))

abbrev select_of : Bool → Option (List Item) → List TableRef → List Clause → List ColRef → List Key → Select
select_of distinct found tables clauses group order = record { distinct = distinct; items = found; from = tables; clauses = clauses; group = group; order = order }

abbrev OrderEnd : Bool → Option (List Item) → List TableRef → List Clause → List ColRef → Phrase Select
OrderEnd distinct found tables clauses group = Made (select_of distinct found tables clauses group) IsOrder

abbrev GroupEnd : Bool → Option (List Item) → List TableRef → List Clause → Phrase Select
GroupEnd distinct found tables clauses = Then IsGroup (OrderEnd distinct found tables clauses)

abbrev WhereEnd : Bool → Option (List Item) → List TableRef → Phrase Select
WhereEnd distinct found tables = Then IsWhere (GroupEnd distinct found tables)

group_no_order : on_group (tokens.Word (codes "order")) ≡ false
group_no_order = refl

where_no_order : on_where (tokens.Word (codes "order")) ≡ false
where_no_order = refl

where_no_group : on_where (tokens.Word (codes "group")) ≡ false
where_no_group = refl

tables_no_where : on_tables (tokens.Word (codes "where")) ≡ false
unfolding is_reserved
tables_no_where = refl

tables_no_group : on_tables (tokens.Word (codes "group")) ≡ false
unfolding is_reserved
tables_no_group = refl

tables_no_order : on_tables (tokens.Word (codes "order")) ≡ false
unfolding is_reserved
tables_no_order = refl

tables_follow : (distinct : Bool) (found : Option (List Item)) (tables : List TableRef) (select : Select) (suffix rest : List Token) → WhereEnd distinct found tables select suffix → begins on_select rest ≡ false → begins on_tables (suffix ++ rest) ≡ false
tables_follow distinct found tables select suffix rest (clauses, f, b, is_where, (group, f1, b1, is_group, (order, is_order, e), p1), p) ends =
    suffix_begins on_tables suffix f b rest false p (where_begins on_tables tables_no_where clauses f (b ++ rest) is_where
    (suffix_begins on_tables b f1 b1 rest false p1 (group_begins on_tables tables_no_group group f1 (b1 ++ rest) is_group
    (order_begins on_tables tables_no_order order b1 rest is_order (begins_fewer on_tables on_select on_select_tables rest ends)))))

where_follows : (distinct : Bool) (found : Option (List Item)) (tables : List TableRef) (clauses : List Clause) (select : Select) (suffix rest : List Token) → GroupEnd distinct found tables clauses select suffix → begins on_select rest ≡ false → begins on_where (suffix ++ rest) ≡ false
where_follows distinct found tables clauses select suffix rest (group, f, b, is_group, (order, is_order, e), p) ends =
    suffix_begins on_where suffix f b rest false p (group_begins on_where where_no_group group f (b ++ rest) is_group
    (order_begins on_where where_no_order order b rest is_order (begins_fewer on_where on_select on_select_where rest ends)))

group_follows : (distinct : Bool) (found : Option (List Item)) (tables : List TableRef) (clauses : List Clause) (group : List ColRef) (select : Select) (suffix rest : List Token) → OrderEnd distinct found tables clauses group select suffix → begins on_select rest ≡ false → begins on_group (suffix ++ rest) ≡ false
group_follows distinct found tables clauses group select suffix rest (order, is_order, e) ends =
    order_begins on_group group_no_order order suffix rest is_order (begins_fewer on_group on_select on_select_group rest ends)

items_no_from : on_list on_column (tokens.Word (codes "from")) ≡ false
items_no_from = refl

abbrev FromEnd : Bool → Option (List Item) → Phrase Select
FromEnd distinct found = Then (IsToken (tokens.Word (codes "from"))) (λ word. Then (AtMost 6 (IsCommaList IsTableRef)) (WhereEnd distinct found))

items_follow : (distinct : Bool) (found : Option (List Item)) (select : Select) (suffix rest : List Token) → FromEnd distinct found select suffix → begins (on_list on_column) (suffix ++ rest) ≡ false
items_follow distinct found select suffix rest q = token_begins (on_list on_column) (tokens.Word (codes "from")) false items_no_from q.1 q.2 suffix rest q.3 q.5

distinct_follows : (distinct : Bool) (select : Select) (suffix rest : List Token) → Then IsItems (FromEnd distinct) select suffix → begins is_distinct (suffix ++ rest) ≡ false
distinct_follows distinct select suffix rest (found, f, b, is, q, p) = suffix_begins is_distinct suffix f b rest false p (items_no_distinct found f (b ++ rest) is)

from_reads : (distinct : Bool) (found : Option (List Item)) → IsReader (FromEnd distinct found) on_select
    (λ ts. word_at (codes "from") ts >>= λ from. list_at table_ref_at 5 from.1 >>= λ tables. where_at tables.1 >>= λ clauses. group_at clauses.1 >>= λ group. order_at group.1 >>= λ order. Got (select_of distinct found tables.0 clauses.0 group.0 order.0) order.1)
from_reads distinct found = suffix_reads (word_reads (codes "from")) (λ word. then_reads (list_reads 5 table_ref_reads comma_ends_table)
    (λ tables. then_reads where_reads (λ clauses. then_reads group_reads (λ group. before_reads on_select on_select_order (made_reads (select_of distinct found tables clauses group) order_reads))
    (group_follows distinct found tables clauses)) (where_follows distinct found tables)) (tables_follow distinct found))

abbrev SelectChain : Phrase Select
SelectChain = Then (IsToken (tokens.Word (codes "select"))) (λ word. Then IsDistinct (λ distinct. Then IsItems (FromEnd distinct)))

select_to : (select : Select) (ts : List Token) → SelectChain select ts → IsSelect select ts
select_to select ts (word, f, b, is, (distinct, f1, b1, is_distinct, (found, f2, b2, is_items, (from, f3, b3, is_from, (tables, f4, b4, are_tables, (clauses, f5, b5, are_clauses, (group, f6, b6, is_group, (order, is_order, e), p6), p5), p4), p3), p2), p1), p) =
    subst (λ (x : Select). IsSelect x ts) e (f, b, is, (f1, b1, is_distinct, (f2, b2, is_items, (f3, b3, is_from, (f4, b4, are_tables, (f5, b5, are_clauses, (f6, b6, is_group, is_order, p6), p5), p4), p3), p2), p1), p)

select_from : (select : Select) (ts : List Token) → IsSelect select ts → SelectChain select ts
select_from select ts (f, b, is, (f1, b1, is_distinct, (f2, b2, is_items, (f3, b3, is_from, (f4, b4, are_tables, (f5, b5, are_clauses, (f6, b6, is_group, is_order, p6), p5), p4), p3), p2), p1), p) =
    (tt, f, b, is, (select.distinct, f1, b1, is_distinct, (select.items, f2, b2, is_items, (tt, f3, b3, is_from, (select.from, f4, b4, are_tables, (select.clauses, f5, b5, are_clauses, (select.group, f6, b6, is_group, (select.order, is_order, refl), p6), p5), p4), p3), p2), p1), p)

pub select_reads : IsReader IsSelect on_select select_at
unfolding select_at
select_reads = as_reads IsSelect
    (suffix_reads (word_reads (codes "select")) (λ word. then_reads distinct_reads (λ distinct. then_reads items_reads (from_reads distinct) (λ found select suffix rest q ends. items_follow distinct found select suffix rest q))
    (λ distinct select suffix rest q ends. distinct_follows distinct select suffix rest q)))
    select_to select_from
