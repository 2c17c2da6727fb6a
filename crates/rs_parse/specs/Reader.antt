-- The parser as functions, rule by rule: the phrase that begins the tokens, with the tokens after it, or the fault. Each
-- rule decides by the first token only.
use Rattle.std.specs.Prelude.{ℕ, ◌^◌, Bool, true, false, ◌||◌, ◌&&◌, List, [], ◌∷◌, Option, Some, None, is_some, pos, neg_ℤ, nat_lt, nat_le, bytes_eq, codes, if◌then◌else◌}
use Rattle.rs_base.specs.declared.value.Kind.{Kind}
use Rattle.rs_base.specs.declared.value.Kind.TheVariants as kinds
use Rattle.rs_base.specs.declared.value.Value.{Value}
use Rattle.rs_base.specs.declared.value.Value.TheVariants as values
use Rattle.rs_base.specs.declared.name.NameText.{NameText}
use Rattle.rs_ast.specs.declared.change.Arith.{Arith}
use Rattle.rs_ast.specs.declared.change.Arith.TheVariants as ariths
use Rattle.rs_ast.specs.declared.change.Expr.{Expr}
use Rattle.rs_ast.specs.declared.change.Set.{Set}
use Rattle.rs_ast.specs.declared.change.Term.{Term}
use Rattle.rs_ast.specs.declared.change.Term.TheVariants as terms
use Rattle.rs_ast.specs.declared.clause.Clause.{Clause}
use Rattle.rs_ast.specs.declared.clause.Cmp.{Cmp}
use Rattle.rs_ast.specs.declared.clause.Op.{Op}
use Rattle.rs_ast.specs.declared.clause.Op.TheVariants as ops
use Rattle.rs_ast.specs.declared.clause.Operand.{Operand}
use Rattle.rs_ast.specs.declared.clause.Operand.TheVariants as operands
use Rattle.rs_ast.specs.declared.column.ColDef.{ColDef}
use Rattle.rs_ast.specs.declared.column.ColRef.{ColRef}
use Rattle.rs_ast.specs.declared.select.Item.{Item}
use Rattle.rs_ast.specs.declared.select.Item.TheVariants as items
use Rattle.rs_ast.specs.declared.select.Key.{Key}
use Rattle.rs_ast.specs.declared.select.KeyBy.{KeyBy}
use Rattle.rs_ast.specs.declared.select.KeyBy.TheVariants as keys
use Rattle.rs_ast.specs.declared.select.Select.{Select}
use Rattle.rs_ast.specs.declared.select.TableRef.{TableRef}
use Rattle.rs_ast.specs.declared.stmt.Dml.{Dml}
use Rattle.rs_ast.specs.declared.stmt.Dml.TheVariants as dmls
use Rattle.rs_ast.specs.declared.stmt.Stmt.{Stmt}
use Rattle.rs_ast.specs.declared.stmt.Stmt.TheVariants as stmts
use Rattle.rs_token.specs.declared.token.Symbol.{Symbol}
use Rattle.rs_token.specs.declared.token.Symbol.TheVariants as symbols
use Rattle.rs_token.specs.declared.token.Token.{Token}
use Rattle.rs_token.specs.declared.token.Token.TheVariants as tokens
use Rattle.rs_token.specs.Reserved.{is_reserved}
use Rattle.rs_token.specs.Token.{is_symbol, is_word}
use Rattle.rs_parse.specs.Read.{Read, Got, Fault, ◌>>=◌, one_at, pass_at, either_at, optional_at, more_at, separated_at, all_at}

-- ---- single tokens

abbrev pub word_at : List ℕ → List Token → Read (Unit {0})
word_at word ts = pass_at (is_word word) ts

abbrev pub symbol_at : Symbol → List Token → Read (Unit {0})
symbol_at symbol ts = pass_at (is_symbol symbol) ts

abbrev pub ident_of : Token → Option (List ℕ)
ident_of (tokens.Word word) = if is_reserved word then None else Some word
ident_of (tokens.Number n) = None
ident_of (tokens.Text text) = None
ident_of (tokens.Symbol symbol) = None

abbrev pub is_ident_token : Token → Bool
is_ident_token t = is_some (ident_of t)

unfoldable pub ident_at : List Token → Read (List ℕ)
ident_at ts = one_at ident_of ts

abbrev pub site_of : Token → Option ℕ
site_of (tokens.Word word) = None
site_of (tokens.Number n) = if nat_le 1 n && nat_le n 16 then Some n else None
site_of (tokens.Text text) = None
site_of (tokens.Symbol symbol) = None

unfoldable pub site_at : List Token → Read ℕ
site_at ts = one_at site_of ts

abbrev pub kind_of_word : List ℕ → Option Kind
kind_of_word word = if bytes_eq word (codes "int") || bytes_eq word (codes "integer") then Some kinds.Int
    else (if bytes_eq word (codes "text") then Some kinds.Text else None)

abbrev pub kind_of : Token → Option Kind
kind_of (tokens.Word word) = kind_of_word word
kind_of (tokens.Number n) = None
kind_of (tokens.Text text) = None
kind_of (tokens.Symbol symbol) = None

unfoldable pub kind_at : List Token → Read Kind
kind_at ts = one_at kind_of ts

abbrev pub op_of_symbol : Symbol → Option Op
op_of_symbol symbols.Equal = Some ops.Eq
op_of_symbol symbols.NotEqual = Some ops.Ne
op_of_symbol symbols.Less = Some ops.Lt
op_of_symbol symbols.LessOrEqual = Some ops.Le
op_of_symbol symbols.Greater = Some ops.Gt
op_of_symbol symbols.GreaterOrEqual = Some ops.Ge
op_of_symbol symbol = None

abbrev pub op_of : Token → Option Op
op_of (tokens.Word word) = None
op_of (tokens.Number n) = None
op_of (tokens.Text text) = None
op_of (tokens.Symbol symbol) = op_of_symbol symbol

unfoldable pub op_at : List Token → Read Op
op_at ts = one_at op_of ts

abbrev pub arith_of_symbol : Symbol → Option Arith
arith_of_symbol symbols.Plus = Some ariths.Add
arith_of_symbol symbols.Minus = Some ariths.Sub
arith_of_symbol symbols.Star = Some ariths.Mul
arith_of_symbol symbol = None

abbrev pub arith_of : Token → Option Arith
arith_of (tokens.Word word) = None
arith_of (tokens.Number n) = None
arith_of (tokens.Text text) = None
arith_of (tokens.Symbol symbol) = arith_of_symbol symbol

abbrev pub is_arith_token : Token → Bool
is_arith_token t = is_some (arith_of t)

unfoldable pub arith_at : List Token → Read Arith
arith_at ts = one_at arith_of ts

-- the ordinal of a select item
abbrev pub ordinal_of : Token → Option ℕ
ordinal_of (tokens.Word word) = None
ordinal_of (tokens.Number n) = if nat_lt n (2 ^ 32) then Some n else None
ordinal_of (tokens.Text text) = None
ordinal_of (tokens.Symbol symbol) = None

unfoldable pub ordinal_at : List Token → Read ℕ
ordinal_at ts = one_at ordinal_of ts

-- ---- literals

-- a number without a sign, or a text literal
abbrev pub unsigned_of : Token → Option Value
unsigned_of (tokens.Word word) = None
unsigned_of (tokens.Number n) = if nat_lt n (2 ^ 63) then Some (values.Int (pos n)) else None
unsigned_of (tokens.Text text) = Some (values.Text text)
unsigned_of (tokens.Symbol symbol) = None

unfoldable pub unsigned_at : List Token → Read Value
unsigned_at ts = one_at unsigned_of ts

-- a number after `-`
abbrev pub negated_of : Token → Option Value
negated_of (tokens.Word word) = None
negated_of (tokens.Number n) = if nat_lt n (2 ^ 63) then Some (values.Int (neg_ℤ (pos n))) else None
negated_of (tokens.Text text) = None
negated_of (tokens.Symbol symbol) = None

unfoldable pub negated_at : List Token → Read Value
negated_at ts = one_at negated_of ts

unfoldable pub negative_at : List Token → Read Value
negative_at ts = symbol_at symbols.Minus ts >>= λ minus. negated_at minus.1

unfoldable pub literal_at : List Token → Read Value
literal_at ts = either_at (is_symbol symbols.Minus) negative_at unsigned_at ts

-- a literal may begin with this token
abbrev pub begins_literal : Token → Bool
begins_literal t = is_symbol symbols.Minus t || is_some (unsigned_of t)

-- ---- lists

abbrev pub list_at : {A : Type 0} → (List Token → Read A) → ℕ → List Token → Read (List A)
list_at item n ts = separated_at (is_symbol symbols.Comma) item n ts

-- the same if an item may begin with the first token, and otherwise none
abbrev pub list_or_none_at : {A : Type 0} → (Token → Bool) → (List Token → Read A) → ℕ → List Token → Read (List A)
list_or_none_at begins_item item n ts = either_at begins_item (list_at item n) (λ us. Got [] us) ts

-- ---- names and columns

unfoldable pub at_site_at : List Token → Read ℕ
at_site_at ts = symbol_at symbols.At ts >>= λ at. site_at at.1

unfoldable pub optional_site_at : List Token → Read (Option ℕ)
optional_site_at ts = optional_at (is_symbol symbols.At) at_site_at ts

-- the rest of a name, after its creator
unfoldable pub created_at : List ℕ → Option ℕ → List Token → Read NameText
created_at creator creator_site ts = do
  dot ← symbol_at symbols.Dot ts
  object ← ident_at dot.1
  birth ← optional_site_at object.1
  Got (record { creator = Some creator; creator_site = creator_site; object = object.0; birth = birth.0 }) birth.1

-- a name without a creator
abbrev pub unqualified_name : List ℕ → Option ℕ → NameText
unqualified_name object birth = record { creator = None; creator_site = None; object = object; birth = birth }

unfoldable pub name_at : List Token → Read NameText
name_at ts = do
  first ← ident_at ts
  site ← optional_site_at first.1
  either_at (is_symbol symbols.Dot) (created_at first.0 site.0) (λ us. Got (unqualified_name first.0 site.0) us) site.1

-- the rest of a reference to a column, after its table
unfoldable pub column_of_at : List ℕ → List Token → Read ColRef
column_of_at table ts = do
  dot ← symbol_at symbols.Dot ts
  column ← ident_at dot.1
  Got (record { table = Some table; column = column.0 }) column.1

abbrev pub unqualified_column : List ℕ → ColRef
unqualified_column column = record { table = None; column = column }

unfoldable pub col_ref_at : List Token → Read ColRef
col_ref_at ts = do
  first ← ident_at ts
  either_at (is_symbol symbols.Dot) (column_of_at first.0) (λ us. Got (unqualified_column first.0) us) first.1

unfoldable pub column_at : List Token → Read ColDef
column_at ts = do
  name ← ident_at ts
  kind ← kind_at name.1
  Got (record { name = name.0; kind = kind.0 }) kind.1

-- ---- terms

unfoldable pub param_at : List Token → Read (List ℕ)
param_at ts = symbol_at symbols.Colon ts >>= λ colon. ident_at colon.1

abbrev pub param_term_at : List Token → Read Term
param_term_at ts = param_at ts >>= λ param. Got (terms.Param param.0) param.1

abbrev pub literal_term_at : List Token → Read Term
literal_term_at ts = literal_at ts >>= λ value. Got (terms.Lit value.0) value.1

abbrev pub column_term_at : List Token → Read Term
column_term_at ts = ident_at ts >>= λ column. Got (terms.Col column.0) column.1

-- a value of INSERT
unfoldable pub val_at : List Token → Read Term
val_at ts = either_at (is_symbol symbols.Colon) param_term_at literal_term_at ts

unfoldable pub term_at : List Token → Read Term
term_at ts = either_at is_ident_token column_term_at val_at ts

unfoldable pub more_term_at : List Token → Read (Arith × Term)
more_term_at ts = do
  arith ← arith_at ts
  term ← term_at arith.1
  Got (arith.0, term.0) term.1

unfoldable pub expr_at : List Token → Read Expr
expr_at ts = do
  first ← term_at ts
  more ← optional_at is_arith_token more_term_at first.1
  Got (record { first = first.0; more = more.0 }) more.1

unfoldable pub set_at : List Token → Read Set
set_at ts = do
  column ← ident_at ts
  equal ← symbol_at symbols.Equal column.1
  expr ← expr_at equal.1
  Got (record { column = column.0; expr = expr.0 }) expr.1

unfoldable pub tuple_at : List Token → Read (List Term)
tuple_at ts = do
  open_at ← symbol_at symbols.Open ts
  row ← list_at val_at 15 open_at.1
  close_at ← symbol_at symbols.Close row.1
  Got row.0 close_at.1

-- ---- WHERE

abbrev pub param_operand_at : List Token → Read Operand
param_operand_at ts = param_at ts >>= λ param. Got (operands.Param param.0) param.1

abbrev pub literal_operand_at : List Token → Read Operand
literal_operand_at ts = literal_at ts >>= λ value. Got (operands.Lit value.0) value.1

abbrev pub column_operand_at : List Token → Read Operand
column_operand_at ts = col_ref_at ts >>= λ column. Got (operands.Col column.0) column.1

unfoldable pub operand_at : List Token → Read Operand
operand_at ts =
    either_at is_ident_token column_operand_at (either_at (is_symbol symbols.Colon) param_operand_at literal_operand_at) ts

unfoldable pub cmp_at : List Token → Read Cmp
cmp_at ts = do
  left ← col_ref_at ts
  op ← op_at left.1
  right ← operand_at op.1
  Got (record { left = left.0; op = op.0; right = right.0 }) right.1

unfoldable pub bracketed_clause_at : List Token → Read Clause
bracketed_clause_at ts = do
  open_at ← symbol_at symbols.Open ts
  any ← all_at (is_word (codes "or")) cmp_at open_at.1
  close_at ← symbol_at symbols.Close any.1
  Got (record { any = any.0 }) close_at.1

abbrev pub single_clause_at : List Token → Read Clause
single_clause_at ts = cmp_at ts >>= λ cmp. Got (record { any = cmp.0 ∷ [] }) cmp.1

unfoldable pub clause_at : List Token → Read Clause
clause_at ts = either_at (is_symbol symbols.Open) bracketed_clause_at single_clause_at ts

unfoldable pub clauses_at : List Token → Read (List Clause)
clauses_at ts = word_at (codes "where") ts >>= λ where_at. all_at (is_word (codes "and")) clause_at where_at.1

unfoldable pub where_at : List Token → Read (List Clause)
where_at ts = either_at (is_word (codes "where")) clauses_at (λ us. Got [] us) ts

-- ---- queries

unfoldable pub count_at : List Token → Read Item
count_at ts = do
  word ← word_at (codes "count") ts
  open_at ← symbol_at symbols.Open word.1
  star ← symbol_at symbols.Star open_at.1
  close_at ← symbol_at symbols.Close star.1
  Got items.Count close_at.1

-- an aggregate over a column: the column
unfoldable pub of_column_at : List ℕ → List Token → Read ColRef
of_column_at name ts = do
  word ← word_at name ts
  open_at ← symbol_at symbols.Open word.1
  column ← col_ref_at open_at.1
  close_at ← symbol_at symbols.Close column.1
  Got column.0 close_at.1

abbrev pub column_item_at : List Token → Read Item
column_item_at ts = col_ref_at ts >>= λ column. Got (items.Col column.0) column.1

abbrev pub sum_at : List Token → Read Item
sum_at ts = of_column_at (codes "sum") ts >>= λ column. Got (items.Sum column.0) column.1

abbrev pub min_at : List Token → Read Item
min_at ts = of_column_at (codes "min") ts >>= λ column. Got (items.Min column.0) column.1

abbrev pub max_at : List Token → Read Item
max_at ts = of_column_at (codes "max") ts >>= λ column. Got (items.Max column.0) column.1

unfoldable pub item_at : List Token → Read Item
item_at ts =
    either_at is_ident_token column_item_at
    (either_at (is_word (codes "count")) count_at
    (either_at (is_word (codes "sum")) sum_at
    (either_at (is_word (codes "min")) min_at max_at))) ts

abbrev pub star_at : List Token → Read (Option (List Item))
star_at ts = symbol_at symbols.Star ts >>= λ star. Got None star.1

abbrev pub list_items_at : List Token → Read (Option (List Item))
list_items_at ts = list_at item_at 15 ts >>= λ items. Got (Some items.0) items.1

unfoldable pub items_at : List Token → Read (Option (List Item))
items_at ts = either_at (is_symbol symbols.Star) star_at list_items_at ts

abbrev pub distinct_word_at : List Token → Read Bool
distinct_word_at ts = word_at (codes "distinct") ts >>= λ word. Got true word.1

unfoldable pub distinct_at : List Token → Read Bool
distinct_at ts = either_at (is_word (codes "distinct")) distinct_word_at (λ us. Got false us) ts

unfoldable pub table_ref_at : List Token → Read TableRef
table_ref_at ts = do
  name ← name_at ts
  alias ← optional_at is_ident_token ident_at name.1
  Got (record { name = name.0; alias = alias.0 }) alias.1

unfoldable pub group_by_at : List Token → Read (List ColRef)
group_by_at ts = do
  group ← word_at (codes "group") ts
  by ← word_at (codes "by") group.1
  list_at col_ref_at 15 by.1

unfoldable pub group_at : List Token → Read (List ColRef)
group_at ts = either_at (is_word (codes "group")) group_by_at (λ us. Got [] us) ts

abbrev pub key_column_at : List Token → Read KeyBy
key_column_at ts = col_ref_at ts >>= λ column. Got (keys.Col column.0) column.1

abbrev pub key_ordinal_at : List Token → Read KeyBy
key_ordinal_at ts = ordinal_at ts >>= λ ordinal. Got (keys.Place ordinal.0) ordinal.1

unfoldable pub key_by_at : List Token → Read KeyBy
key_by_at ts = either_at is_ident_token key_column_at key_ordinal_at ts

abbrev pub desc_at : List Token → Read Bool
desc_at ts = word_at (codes "desc") ts >>= λ word. Got true word.1

abbrev pub asc_at : List Token → Read Bool
asc_at ts = word_at (codes "asc") ts >>= λ word. Got false word.1

unfoldable pub direction_at : List Token → Read Bool
direction_at ts = either_at (is_word (codes "desc")) desc_at (either_at (is_word (codes "asc")) asc_at (λ us. Got false us)) ts

unfoldable pub key_at : List Token → Read Key
key_at ts = do
  by ← key_by_at ts
  desc ← direction_at by.1
  Got (record { by = by.0; desc = desc.0 }) desc.1

unfoldable pub order_by_at : List Token → Read (List Key)
order_by_at ts = do
  order ← word_at (codes "order") ts
  by ← word_at (codes "by") order.1
  list_at key_at 15 by.1

unfoldable pub order_at : List Token → Read (List Key)
order_at ts = either_at (is_word (codes "order")) order_by_at (λ us. Got [] us) ts

unfoldable pub select_at : List Token → Read Select
select_at ts = do
  select ← word_at (codes "select") ts
  distinct ← distinct_at select.1
  items ← items_at distinct.1
  from ← word_at (codes "from") items.1
  tables ← list_at table_ref_at 5 from.1
  clauses ← where_at tables.1
  group ← group_at clauses.1
  order ← order_at group.1
  Got (record { distinct = distinct.0; items = items.0; from = tables.0; clauses = clauses.0; group = group.0; order = order.0 }) order.1

-- ---- INSERT, UPDATE and DELETE

abbrev pub select_dml_at : List Token → Read Dml
select_dml_at ts = select_at ts >>= λ select. Got (dmls.Select select.0) select.1

unfoldable pub insert_at : List Token → Read Dml
insert_at ts = do
  insert ← word_at (codes "insert") ts
  into ← word_at (codes "into") insert.1
  name ← name_at into.1
  values_at ← word_at (codes "values") name.1
  rows ← all_at (is_symbol symbols.Comma) tuple_at values_at.1
  Got (dmls.Insert name.0 rows.0) rows.1

unfoldable pub update_at : List Token → Read Dml
update_at ts = do
  update ← word_at (codes "update") ts
  name ← name_at update.1
  set ← word_at (codes "set") name.1
  sets ← list_at set_at 15 set.1
  clauses ← where_at sets.1
  Got (dmls.Update name.0 sets.0 clauses.0) clauses.1

unfoldable pub delete_at : List Token → Read Dml
delete_at ts = do
  delete ← word_at (codes "delete") ts
  from ← word_at (codes "from") delete.1
  name ← name_at from.1
  clauses ← where_at name.1
  Got (dmls.Delete name.0 clauses.0) clauses.1

unfoldable pub dml_at : List Token → Read Dml
dml_at ts =
    either_at (is_word (codes "select")) select_dml_at
    (either_at (is_word (codes "insert")) insert_at
    (either_at (is_word (codes "update")) update_at delete_at)) ts

abbrev pub begins_dml : Token → Bool
begins_dml t = is_word (codes "select") t || is_word (codes "insert") t
    || is_word (codes "update") t || is_word (codes "delete") t

-- ---- tables, indexes and synonyms

unfoldable pub create_table_at : List Token → Read Stmt
create_table_at ts = do
  table ← word_at (codes "table") ts
  name ← name_at table.1
  open_at ← symbol_at symbols.Open name.1
  columns ← list_at column_at 15 open_at.1
  close_at ← symbol_at symbols.Close columns.1
  Got (stmts.CreateTable name.0 columns.0) close_at.1

unfoldable pub create_index_at : List Token → Read Stmt
create_index_at ts = do
  word ← word_at (codes "index") ts
  index ← ident_at word.1
  on ← word_at (codes "on") index.1
  name ← name_at on.1
  open_at ← symbol_at symbols.Open name.1
  column ← ident_at open_at.1
  close_at ← symbol_at symbols.Close column.1
  Got (stmts.CreateIndex index.0 name.0 column.0) close_at.1

unfoldable pub create_synonym_at : List Token → Read Stmt
create_synonym_at ts = do
  word ← word_at (codes "synonym") ts
  synonym ← ident_at word.1
  for ← word_at (codes "for") synonym.1
  name ← name_at for.1
  Got (stmts.CreateSynonym synonym.0 name.0) name.1

unfoldable pub create_at : List Token → Read Stmt
create_at ts = do
  create ← word_at (codes "create") ts
  either_at (is_word (codes "table")) create_table_at
      (either_at (is_word (codes "index")) create_index_at create_synonym_at) create.1

unfoldable pub drop_table_at : List Token → Read Stmt
drop_table_at ts = do
  table ← word_at (codes "table") ts
  name ← name_at table.1
  Got (stmts.DropTable name.0) name.1

unfoldable pub drop_index_at : List Token → Read Stmt
drop_index_at ts = do
  word ← word_at (codes "index") ts
  index ← ident_at word.1
  on ← word_at (codes "on") index.1
  name ← name_at on.1
  Got (stmts.DropIndex index.0 name.0) name.1

unfoldable pub drop_synonym_at : List Token → Read Stmt
drop_synonym_at ts = do
  word ← word_at (codes "synonym") ts
  synonym ← ident_at word.1
  Got (stmts.DropSynonym synonym.0) synonym.1

unfoldable pub drop_program_at : List Token → Read Stmt
drop_program_at ts = do
  word ← word_at (codes "program") ts
  program ← ident_at word.1
  Got (stmts.DropProgram program.0) program.1

unfoldable pub drop_at : List Token → Read Stmt
drop_at ts = do
  drop ← word_at (codes "drop") ts
  either_at (is_word (codes "table")) drop_table_at
      (either_at (is_word (codes "index")) drop_index_at
      (either_at (is_word (codes "synonym")) drop_synonym_at drop_program_at)) drop.1

unfoldable pub migrate_at : List Token → Read Stmt
migrate_at ts = do
  migrate ← word_at (codes "migrate") ts
  table ← word_at (codes "table") migrate.1
  name ← name_at table.1
  to ← word_at (codes "to") name.1
  site ← site_at to.1
  Got (stmts.Migrate name.0 site.0) site.1

-- ---- programs

unfoldable pub dml_ended_at : List Token → Read Dml
dml_ended_at ts = do
  dml ← dml_at ts
  semicolon ← symbol_at symbols.Semicolon dml.1
  Got dml.0 semicolon.1

unfoldable pub body_at : List Token → Read (List Dml)
body_at ts = more_at begins_dml dml_ended_at dml_ended_at 7 ts

unfoldable pub compile_at : List Token → Read Stmt
compile_at ts = do
  compile ← word_at (codes "compile") ts
  program ← ident_at compile.1
  open_at ← symbol_at symbols.Open program.1
  params ← list_or_none_at is_ident_token ident_at 15 open_at.1
  close_at ← symbol_at symbols.Close params.1
  as_at ← word_at (codes "as") close_at.1
  body ← body_at as_at.1
  end ← word_at (codes "end") body.1
  Got (stmts.Compile program.0 params.0 body.0) end.1

unfoldable pub execute_at : List Token → Read Stmt
execute_at ts = do
  execute ← word_at (codes "execute") ts
  program ← ident_at execute.1
  open_at ← symbol_at symbols.Open program.1
  given ← list_or_none_at begins_literal literal_at 15 open_at.1
  close_at ← symbol_at symbols.Close given.1
  Got (stmts.Execute program.0 given.0) close_at.1

unfoldable pub explain_at : List Token → Read Stmt
explain_at ts = do
  explain ← word_at (codes "explain") ts
  select ← select_at explain.1
  Got (stmts.Explain select.0) select.1

abbrev pub sections_at : List Token → Read Stmt
sections_at ts = word_at (codes "sections") ts >>= λ word. Got stmts.ShowSections word.1

abbrev pub cache_at : List Token → Read Stmt
cache_at ts = word_at (codes "cache") ts >>= λ word. Got stmts.ShowCache word.1

unfoldable pub show_at : List Token → Read Stmt
show_at ts = do
  show ← word_at (codes "show") ts
  either_at (is_word (codes "sections")) sections_at cache_at show.1

-- ---- requests

abbrev pub dml_stmt_at : List Token → Read Stmt
dml_stmt_at ts = dml_at ts >>= λ dml. Got (stmts.Dml dml.0) dml.1

unfoldable pub stmt_at : List Token → Read Stmt
stmt_at ts =
    either_at (is_word (codes "create")) create_at
    (either_at (is_word (codes "drop")) drop_at
    (either_at (is_word (codes "migrate")) migrate_at
    (either_at (is_word (codes "compile")) compile_at
    (either_at (is_word (codes "execute")) execute_at
    (either_at (is_word (codes "explain")) explain_at
    (either_at (is_word (codes "show")) show_at dml_stmt_at)))))) ts

-- an optional semicolon
unfoldable pub end_at : List Token → Read (Unit {0})
end_at ts = either_at (is_symbol symbols.Semicolon) (symbol_at symbols.Semicolon) (λ us. Got tt us) ts

unfoldable pub request_at : List Token → Read Stmt
request_at ts = do
  stmt ← stmt_at ts
  end ← end_at stmt.1
  Got stmt.0 end.1

-- the statement, if no token follows it
abbrev pub at_end : Stmt → List Token → Read Stmt
at_end stmt [] = Got stmt []
at_end stmt (t ∷ ts) = Fault (t ∷ ts)

unfoldable pub request_of : List Token → Read Stmt
request_of ts = request_at ts >>= λ stmt. at_end stmt.0 stmt.1
