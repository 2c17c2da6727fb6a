-- The printed tokens of comparisons, clauses and queries are phrases of them.
use Rattle.std.proofs.Common.{◌≡◌, ℕ, ◌<◌, ◌^◌, Bool, true, false, List, [], ◌∷◌, ◌++◌, Option, Some, None, codes, refl, sym, ap, subst, ◌∙◌, append_assoc, ◌⊎◌, inl, inr}
use Rattle.rs_ast.specs.declared.clause.Clause.{Clause}
use Rattle.rs_ast.specs.declared.clause.Cmp.{Cmp}
use Rattle.rs_ast.specs.declared.clause.Op.{Op}
use Rattle.rs_ast.specs.declared.clause.Op.TheVariants as ops
use Rattle.rs_ast.specs.declared.clause.Operand.{Operand}
use Rattle.rs_ast.specs.declared.clause.Operand.TheVariants as operands
use Rattle.rs_ast.specs.declared.column.ColRef.{ColRef}
use Rattle.rs_ast.specs.declared.select.Item.{Item}
use Rattle.rs_ast.specs.declared.select.Item.TheVariants as items
use Rattle.rs_ast.specs.declared.select.Key.{Key}
use Rattle.rs_ast.specs.declared.select.KeyBy.{KeyBy}
use Rattle.rs_ast.specs.declared.select.KeyBy.TheVariants as keys
use Rattle.rs_ast.specs.declared.select.Select.{Select}
use Rattle.rs_ast.specs.declared.select.TableRef.{TableRef}
use Rattle.rs_token.specs.declared.token.Symbol.TheVariants as symbols
use Rattle.rs_token.specs.declared.token.Token.{Token}
use Rattle.rs_token.specs.declared.token.Token.TheVariants as tokens
use Rattle.rs_unparse.specs.Unparsed.{comma, unparsed_list, unparsed_ref, symbol_of, unparsed_operand, unparsed_cmp, unparsed_cmps, unparsed_clause, unparsed_where, unparsed_function, unparsed_item, unparsed_items, unparsed_distinct, unparsed_alias, unparsed_table_ref, unparsed_group, unparsed_by, unparsed_direction, unparsed_key, unparsed_order, unparsed_select_list, unparsed_from, unparsed_select}
use Rattle.rs_parse.specs.Phrases.{Phrase, Sequence, Optional, IsList, AtMost}
use Rattle.rs_parse.specs.Grammar.{IsSymbol, IsIdent, IsOp, IsOperand, IsCmp, IsClause, IsWhere, IsOfColumn, IsCommaList, IsItem, IsItems, IsDistinct, IsTableRef, IsGroup, IsKeyBy, IsDirection, IsKey, IsOrder, IsSelect}
use Rattle.law_parse.proofs.TokenForms.{AreFormed}
use Rattle.law_parse.proofs.Respelling.{IsRespelled, formed_parts, nothing_respelled, token_respelled, word_respelled, symbol_respelled, ◌▹◌, bracketed_respelled, respelled_so, kept_respelled, list_respelled, at_most_respelled}
use Rattle.law_parse.proofs.RespelledTerms.{ident_respelled, name_respelled, col_ref_respelled, literal_respelled, param_respelled}

-- ---- comparisons

op_respelled : (op : Op) → IsRespelled (IsOp op) (tokens.Symbol (symbol_of op) ∷ [])
unfolding symbol_of
op_respelled ops.Eq = symbol_respelled symbols.Equal
op_respelled ops.Ne = symbol_respelled symbols.NotEqual
op_respelled ops.Lt = symbol_respelled symbols.Less
op_respelled ops.Le = symbol_respelled symbols.LessOrEqual
op_respelled ops.Gt = symbol_respelled symbols.Greater
op_respelled ops.Ge = symbol_respelled symbols.GreaterOrEqual

operand_respelled : (operand : Operand) → IsRespelled (IsOperand operand) (unparsed_operand operand)
unfolding unparsed_operand
operand_respelled (operands.Col c) = col_ref_respelled c
operand_respelled (operands.Lit value) = literal_respelled value
operand_respelled (operands.Param param) = param_respelled param

cmp_respelled : (cmp : Cmp) → IsRespelled (IsCmp cmp) (unparsed_cmp cmp)
unfolding unparsed_cmp
cmp_respelled cmp = col_ref_respelled cmp.left ▹ op_respelled cmp.op ▹ operand_respelled cmp.right

-- ---- clauses

abbrev InBrackets : Phrase (List Cmp)
InBrackets any = Sequence (IsSymbol symbols.Open ∷ IsList (tokens.Word (codes "or")) IsCmp any ∷ IsSymbol symbols.Close ∷ [])

-- a clause by its comparisons
abbrev IsAny : Phrase (List Cmp)
IsAny any ts = ((cmp : Cmp) × (any ≡ cmp ∷ []) × IsCmp cmp ts) ⊎ InBrackets any ts

abbrev AnyAgain : List Cmp → Type 0
AnyAgain any = IsAny any (unparsed_cmps any) × AreFormed (unparsed_cmps any)

end_again : (cmp : Cmp) (ts : List Token) → IsCmp cmp ts → AreFormed ts → AnyAgain (cmp ∷ [])
unfolding unparsed_cmps
end_again cmp ts is formed =
    let again = (cmp_respelled cmp).respelled ts is formed in
    (inl (cmp, refl, again.0), again.1)

-- a single comparison is printed without its parentheses
bracketed_again : (any : List Cmp) (ts : List Token) → InBrackets any ts → AreFormed ts → AnyAgain any
unfolding unparsed_cmps
bracketed_again [] ts (f, b, is, (f1, b1, list, is_close, p1), p) formed = absurd list
bracketed_again (cmp ∷ []) ts (f, b, is, (f1, b1, (f2, b2, is_cmp, nothing, p2), is_close, p1), p) formed =
    let suffix = formed_parts f b (subst AreFormed p formed) in
    let inside = formed_parts f1 b1 (subst AreFormed p1 suffix.1) in
    let first = formed_parts f2 b2 (subst AreFormed p2 inside.0) in
    end_again cmp f2 is_cmp first.0
bracketed_again (cmp ∷ next ∷ cmps) ts is formed =
    let again = (bracketed_respelled (list_respelled (tokens.Word (codes "or")) cmp_respelled (cmp ∷ next ∷ cmps))).respelled ts is formed in
    (inr again.0, again.1)

any_again : (any : List Cmp) (ts : List Token) → IsAny any ts → AreFormed ts → AnyAgain any
any_again any ts (inl (cmp, e, is)) formed = subst AnyAgain (sym e) (end_again cmp ts is formed)
any_again any ts (inr is) formed = bracketed_again any ts is formed

clause_respelled : (clause : Clause) → IsRespelled (IsClause clause) (unparsed_clause clause)
unfolding unparsed_clause
clause_respelled clause = record { respelled = λ ts is formed. any_again clause.any ts is formed }

pub where_respelled : (clauses : List Clause) → IsRespelled (IsWhere clauses) (unparsed_where clauses)
unfolding unparsed_where
where_respelled [] = nothing_respelled
where_respelled (clause ∷ clauses) = word_respelled (codes "where") ▹ list_respelled (tokens.Word (codes "and")) clause_respelled (clause ∷ clauses)

-- ---- items

of_column_respelled : (word : List ℕ) (c : ColRef) → IsRespelled (IsOfColumn word c) (unparsed_function word (unparsed_ref c))
unfolding unparsed_function
of_column_respelled word c = word_respelled word ▹ bracketed_respelled (col_ref_respelled c)

item_respelled : (item : Item) → IsRespelled (IsItem item) (unparsed_item item)
unfolding unparsed_item unparsed_function
item_respelled (items.Col c) = col_ref_respelled c
item_respelled items.Count = word_respelled (codes "count") ▹ bracketed_respelled (symbol_respelled symbols.Star)
item_respelled (items.Sum c) = of_column_respelled (codes "sum") c
item_respelled (items.Min c) = of_column_respelled (codes "min") c
item_respelled (items.Max c) = of_column_respelled (codes "max") c

items_respelled : (separated_list : Option (List Item)) → IsRespelled (IsItems separated_list) (unparsed_items separated_list)
unfolding unparsed_items
items_respelled None = symbol_respelled symbols.Star
items_respelled (Some separated_list) = at_most_respelled 16 (list_respelled comma item_respelled) separated_list

distinct_respelled : (distinct : Bool) → IsRespelled (IsDistinct distinct) (unparsed_distinct distinct)
unfolding unparsed_distinct
distinct_respelled false = nothing_respelled
distinct_respelled true = word_respelled (codes "distinct")

-- ---- tables, groups and keys

alias_respelled : (alias : Option (List ℕ)) → IsRespelled (Optional IsIdent alias) (unparsed_alias alias)
unfolding unparsed_alias
alias_respelled None = nothing_respelled
alias_respelled (Some alias) = ident_respelled alias

table_ref_respelled : (table : TableRef) → IsRespelled (IsTableRef table) (unparsed_table_ref table)
unfolding unparsed_table_ref
table_ref_respelled table = name_respelled table.name ▹ alias_respelled table.alias

group_respelled : (group : List ColRef) → IsRespelled (IsGroup group) (unparsed_group group)
unfolding unparsed_group
group_respelled [] = nothing_respelled
group_respelled (c ∷ cs) = word_respelled (codes "group") ▹ word_respelled (codes "by") ▹ at_most_respelled 16 (list_respelled comma col_ref_respelled) (c ∷ cs)

key_by_respelled : (by : KeyBy) → IsRespelled (IsKeyBy by) (unparsed_by by)
unfolding unparsed_by
key_by_respelled (keys.Col c) = col_ref_respelled c
key_by_respelled (keys.Place n) = kept_respelled (n < 2 ^ 32) (token_respelled (tokens.Number n))

-- ASC isn't printed
direction_respelled : (desc : Bool) → IsRespelled (IsDirection desc) (unparsed_direction desc)
unfolding unparsed_direction
direction_respelled false = record { respelled = λ ts is formed. (inl refl, tt) }
direction_respelled true = word_respelled (codes "desc")

key_respelled : (key : Key) → IsRespelled (IsKey key) (unparsed_key key)
unfolding unparsed_key
key_respelled key = key_by_respelled key.by ▹ direction_respelled key.desc

order_respelled : (order : List Key) → IsRespelled (IsOrder order) (unparsed_order order)
unfolding unparsed_order
order_respelled [] = nothing_respelled
order_respelled (key ∷ more) = word_respelled (codes "order") ▹ word_respelled (codes "by") ▹ at_most_respelled 16 (list_respelled comma key_respelled) (key ∷ more)

-- ---- queries

six_parts : (a b c d e f : List Token) → a ++ b ++ c ++ d ++ e ++ f ≡ a ++ (b ++ (c ++ (d ++ (e ++ f))))
six_parts a b c d e f =
    append_assoc (a ++ b ++ c ++ d) e f
    ∙ append_assoc (a ++ b ++ c) d (e ++ f)
    ∙ append_assoc (a ++ b) c (d ++ (e ++ f))
    ∙ append_assoc a b (c ++ (d ++ (e ++ f)))

tables_respelled : (tables : List TableRef) → IsRespelled (AtMost 6 (IsCommaList IsTableRef) tables) (unparsed_list comma unparsed_table_ref tables)
tables_respelled tables = at_most_respelled 6 (list_respelled comma table_ref_respelled) tables

pub select_respelled : (select : Select) → IsRespelled (IsSelect select) (unparsed_select select)
unfolding unparsed_select unparsed_select_list unparsed_from
select_respelled select =
    let distinct = unparsed_distinct select.distinct in
    let separated_list = unparsed_items select.items in
    let from = unparsed_from select.from in
    let clauses = unparsed_where select.clauses in
    let group = unparsed_group select.group in
    let order = unparsed_order select.order in
    respelled_so (ap (λ (ts : List Token). tokens.Word (codes "select") ∷ ts) (six_parts distinct separated_list from clauses group order))
    (word_respelled (codes "select") ▹ distinct_respelled select.distinct ▹ items_respelled select.items
    ▹ word_respelled (codes "from") ▹ tables_respelled select.from
    ▹ where_respelled select.clauses ▹ group_respelled select.group ▹ order_respelled select.order)
