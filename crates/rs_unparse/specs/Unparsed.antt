-- The tokens of the text that is printed for each statement. Words are in lower case. A creator's site without a creator
-- has no tokens and is left out.
use Rattle.std.specs.Prelude.{ℕ, suc, ℤ, pos, negsuc, Bool, true, false, List, [], ◌∷◌, ◌++◌, flat_map, Option, Some, None, codes}
use Rattle.rs_base.specs.declared.name.NameText.{NameText}
use Rattle.rs_base.specs.declared.value.Kind.{Kind}
use Rattle.rs_base.specs.declared.value.Kind.TheVariants as kinds
use Rattle.rs_base.specs.declared.value.Value.{Value}
use Rattle.rs_base.specs.declared.value.Value.TheVariants as values
use Rattle.rs_token.specs.declared.token.Symbol.{Symbol}
use Rattle.rs_token.specs.declared.token.Symbol.TheVariants as symbols
use Rattle.rs_token.specs.declared.token.Token.{Token}
use Rattle.rs_token.specs.declared.token.Token.TheVariants as tokens
use Rattle.rs_ast.specs.declared.column.ColDef.{ColDef}
use Rattle.rs_ast.specs.declared.column.ColRef.{ColRef}
use Rattle.rs_ast.specs.declared.clause.Op.{Op}
use Rattle.rs_ast.specs.declared.clause.Op.TheVariants as ops
use Rattle.rs_ast.specs.declared.clause.Operand.{Operand}
use Rattle.rs_ast.specs.declared.clause.Operand.TheVariants as operands
use Rattle.rs_ast.specs.declared.clause.Cmp.{Cmp}
use Rattle.rs_ast.specs.declared.clause.Clause.{Clause}
use Rattle.rs_ast.specs.declared.change.Arith.{Arith}
use Rattle.rs_ast.specs.declared.change.Arith.TheVariants as ariths
use Rattle.rs_ast.specs.declared.change.Term.{Term}
use Rattle.rs_ast.specs.declared.change.Term.TheVariants as terms
use Rattle.rs_ast.specs.declared.change.Expr.{Expr}
use Rattle.rs_ast.specs.declared.change.Set.{Set}
use Rattle.rs_ast.specs.declared.select.Item.{Item}
use Rattle.rs_ast.specs.declared.select.Item.TheVariants as items
use Rattle.rs_ast.specs.declared.select.KeyBy.{KeyBy}
use Rattle.rs_ast.specs.declared.select.KeyBy.TheVariants as keys
use Rattle.rs_ast.specs.declared.select.Key.{Key}
use Rattle.rs_ast.specs.declared.select.TableRef.{TableRef}
use Rattle.rs_ast.specs.declared.select.Select.{Select}
use Rattle.rs_ast.specs.declared.stmt.Dml.{Dml}
use Rattle.rs_ast.specs.declared.stmt.Dml.TheVariants as dmls
use Rattle.rs_ast.specs.declared.stmt.Stmt.{Stmt}
use Rattle.rs_ast.specs.declared.stmt.Stmt.TheVariants as stmts

-- ---- lists

-- a separator, then an item that isn't the first
abbrev pub unparsed_after : {A : Type 0} → Token → (A → List Token) → A → List Token
unparsed_after separator unparsed x = separator ∷ unparsed x

-- the items, with a separator between each two
unfoldable pub unparsed_list : {A : Type 0} → Token → (A → List Token) → List A → List Token
unparsed_list separator unparsed [] = []
unparsed_list separator unparsed (x ∷ xs) = unparsed x ++ flat_map (unparsed_after separator unparsed) xs

abbrev pub comma : Token
comma = tokens.Symbol symbols.Comma

abbrev pub between_brackets : List Token → List Token
between_brackets inside = tokens.Symbol symbols.Open ∷ inside ++ tokens.Symbol symbols.Close ∷ []

-- a list in parentheses, separated by commas
unfoldable pub unparsed_tuple : {A : Type 0} → (A → List Token) → List A → List Token
unparsed_tuple unparsed xs = between_brackets (unparsed_list comma unparsed xs)

-- ---- names and columns

abbrev pub unparsed_ident : List ℕ → List Token
unparsed_ident name = tokens.Word name ∷ []

-- the site after a name
unfoldable pub unparsed_site : Option ℕ → List Token
unparsed_site None = []
unparsed_site (Some site) = tokens.Symbol symbols.At ∷ tokens.Number site ∷ []

-- the creator, before the object
unfoldable pub unparsed_creator : Option (List ℕ) → Option ℕ → List Token
unparsed_creator None site = []
unparsed_creator (Some creator) site = tokens.Word creator ∷ unparsed_site site ++ tokens.Symbol symbols.Dot ∷ []

unfoldable pub unparsed_name : NameText → List Token
unparsed_name name = unparsed_creator name.creator name.creator_site ++ tokens.Word name.object ∷ unparsed_site name.birth

unfoldable pub unparsed_kind : Kind → List Token
unparsed_kind kinds.Int = tokens.Word (codes "int") ∷ []
unparsed_kind kinds.Text = tokens.Word (codes "text") ∷ []

-- a column definition
unfoldable pub unparsed_column : ColDef → List Token
unparsed_column column = tokens.Word column.name ∷ unparsed_kind column.kind

-- the table, before its column
unfoldable pub unparsed_table : Option (List ℕ) → List Token
unparsed_table None = []
unparsed_table (Some table) = tokens.Word table ∷ tokens.Symbol symbols.Dot ∷ []

-- a reference to a column
unfoldable pub unparsed_ref : ColRef → List Token
unparsed_ref ref = unparsed_table ref.table ++ tokens.Word ref.column ∷ []

-- ---- values

unfoldable pub unparsed_integer : ℤ → List Token
unparsed_integer (pos n) = tokens.Number n ∷ []
unparsed_integer (negsuc n) = tokens.Symbol symbols.Minus ∷ tokens.Number (suc n) ∷ []

unfoldable pub unparsed_value : Value → List Token
unparsed_value (values.Int n) = unparsed_integer n
unparsed_value (values.Text text) = tokens.Text text ∷ []

abbrev pub unparsed_param : List ℕ → List Token
unparsed_param param = tokens.Symbol symbols.Colon ∷ tokens.Word param ∷ []

-- ---- predicates

unfoldable pub symbol_of : Op → Symbol
symbol_of ops.Eq = symbols.Equal
symbol_of ops.Ne = symbols.NotEqual
symbol_of ops.Lt = symbols.Less
symbol_of ops.Le = symbols.LessOrEqual
symbol_of ops.Gt = symbols.Greater
symbol_of ops.Ge = symbols.GreaterOrEqual

unfoldable pub unparsed_operand : Operand → List Token
unparsed_operand (operands.Col ref) = unparsed_ref ref
unparsed_operand (operands.Lit value) = unparsed_value value
unparsed_operand (operands.Param param) = unparsed_param param

unfoldable pub unparsed_cmp : Cmp → List Token
unparsed_cmp cmp = unparsed_ref cmp.left ++ tokens.Symbol (symbol_of cmp.op) ∷ unparsed_operand cmp.right

abbrev pub unparsed_any : List Cmp → List Token
unparsed_any cmps = between_brackets (unparsed_list (tokens.Word (codes "or")) unparsed_cmp cmps)

-- a single comparison has no parentheses
unfoldable pub unparsed_cmps : List Cmp → List Token
unparsed_cmps [] = unparsed_any []
unparsed_cmps (cmp ∷ []) = unparsed_cmp cmp
unparsed_cmps (cmp ∷ next ∷ cmps) = unparsed_any (cmp ∷ next ∷ cmps)

unfoldable pub unparsed_clause : Clause → List Token
unparsed_clause clause = unparsed_cmps clause.any

-- without clauses there is no WHERE
unfoldable pub unparsed_where : List Clause → List Token
unparsed_where [] = []
unparsed_where (clause ∷ clauses) = tokens.Word (codes "where")
    ∷ unparsed_list (tokens.Word (codes "and")) unparsed_clause (clause ∷ clauses)

-- ---- queries

unfoldable pub unparsed_function : List ℕ → List Token → List Token
unparsed_function function argument = tokens.Word function ∷ between_brackets argument

unfoldable pub unparsed_item : Item → List Token
unparsed_item (items.Col ref) = unparsed_ref ref
unparsed_item items.Count = unparsed_function (codes "count") (tokens.Symbol symbols.Star ∷ [])
unparsed_item (items.Sum ref) = unparsed_function (codes "sum") (unparsed_ref ref)
unparsed_item (items.Min ref) = unparsed_function (codes "min") (unparsed_ref ref)
unparsed_item (items.Max ref) = unparsed_function (codes "max") (unparsed_ref ref)

unfoldable pub unparsed_items : Option (List Item) → List Token
unparsed_items None = tokens.Symbol symbols.Star ∷ []
unparsed_items (Some listed) = unparsed_list comma unparsed_item listed

unfoldable pub unparsed_distinct : Bool → List Token
unparsed_distinct false = []
unparsed_distinct true = tokens.Word (codes "distinct") ∷ []

unfoldable pub unparsed_alias : Option (List ℕ) → List Token
unparsed_alias None = []
unparsed_alias (Some alias) = tokens.Word alias ∷ []

unfoldable pub unparsed_table_ref : TableRef → List Token
unparsed_table_ref table = unparsed_name table.name ++ unparsed_alias table.alias

unfoldable pub unparsed_group : List ColRef → List Token
unparsed_group [] = []
unparsed_group (ref ∷ refs) = tokens.Word (codes "group") ∷ tokens.Word (codes "by")
    ∷ unparsed_list comma unparsed_ref (ref ∷ refs)

unfoldable pub unparsed_by : KeyBy → List Token
unparsed_by (keys.Col ref) = unparsed_ref ref
unparsed_by (keys.Place n) = tokens.Number n ∷ []

unfoldable pub unparsed_direction : Bool → List Token
unparsed_direction false = []
unparsed_direction true = tokens.Word (codes "desc") ∷ []

unfoldable pub unparsed_key : Key → List Token
unparsed_key key = unparsed_by key.by ++ unparsed_direction key.desc

unfoldable pub unparsed_order : List Key → List Token
unparsed_order [] = []
unparsed_order (key ∷ more) = tokens.Word (codes "order") ∷ tokens.Word (codes "by")
    ∷ unparsed_list comma unparsed_key (key ∷ more)

-- the select list
unfoldable pub unparsed_select_list : Bool → Option (List Item) → List Token
unparsed_select_list distinct listed = tokens.Word (codes "select") ∷ unparsed_distinct distinct ++ unparsed_items listed

-- the tables of FROM
unfoldable pub unparsed_from : List TableRef → List Token
unparsed_from tables = tokens.Word (codes "from") ∷ unparsed_list comma unparsed_table_ref tables

unfoldable pub unparsed_select : Select → List Token
unparsed_select select = unparsed_select_list select.distinct select.items ++ unparsed_from select.from
    ++ unparsed_where select.clauses ++ unparsed_group select.group ++ unparsed_order select.order

-- ---- INSERT, UPDATE and DELETE

unfoldable pub unparsed_term : Term → List Token
unparsed_term (terms.Col column) = tokens.Word column ∷ []
unparsed_term (terms.Lit value) = unparsed_value value
unparsed_term (terms.Param param) = unparsed_param param

-- a row of INSERT
unfoldable pub unparsed_term_row : List Term → List Token
unparsed_term_row row = unparsed_tuple unparsed_term row

unfoldable pub arith_symbol : Arith → Symbol
arith_symbol ariths.Add = symbols.Plus
arith_symbol ariths.Sub = symbols.Minus
arith_symbol ariths.Mul = symbols.Star

-- the operator and the second term
unfoldable pub unparsed_more : Option (Arith × Term) → List Token
unparsed_more None = []
unparsed_more (Some more) = tokens.Symbol (arith_symbol more.0) ∷ unparsed_term more.1

unfoldable pub unparsed_expr : Expr → List Token
unparsed_expr expr = unparsed_term expr.first ++ unparsed_more expr.more

unfoldable pub unparsed_set : Set → List Token
unparsed_set set = tokens.Word set.column ∷ tokens.Symbol symbols.Equal ∷ unparsed_expr set.expr

unfoldable pub unparsed_dml : Dml → List Token
unparsed_dml (dmls.Select select) = unparsed_select select
unparsed_dml (dmls.Insert name rows) = tokens.Word (codes "insert") ∷ tokens.Word (codes "into") ∷ unparsed_name name
    ++ tokens.Word (codes "values") ∷ unparsed_list comma unparsed_term_row rows
unparsed_dml (dmls.Update name sets clauses) = tokens.Word (codes "update") ∷ unparsed_name name
    ++ tokens.Word (codes "set") ∷ unparsed_list comma unparsed_set sets ++ unparsed_where clauses
unparsed_dml (dmls.Delete name clauses) = tokens.Word (codes "delete") ∷ tokens.Word (codes "from") ∷ unparsed_name name
    ++ unparsed_where clauses

-- ---- statements

-- a statement in a program's body
unfoldable pub unparsed_step : Dml → List Token
unparsed_step dml = unparsed_dml dml ++ tokens.Symbol symbols.Semicolon ∷ []

unfoldable pub unparsed_steps : List Dml → List Token
unparsed_steps body = flat_map unparsed_step body

unfoldable pub unparsed_stmt : Stmt → List Token
unparsed_stmt (stmts.CreateTable name columns) = tokens.Word (codes "create") ∷ tokens.Word (codes "table") ∷ unparsed_name name
    ++ unparsed_tuple unparsed_column columns
unparsed_stmt (stmts.DropTable name) = tokens.Word (codes "drop") ∷ tokens.Word (codes "table") ∷ unparsed_name name
unparsed_stmt (stmts.CreateIndex index name column) = tokens.Word (codes "create") ∷ tokens.Word (codes "index")
    ∷ tokens.Word index ∷ tokens.Word (codes "on") ∷ unparsed_name name ++ between_brackets (unparsed_ident column)
unparsed_stmt (stmts.DropIndex index name) = tokens.Word (codes "drop") ∷ tokens.Word (codes "index") ∷ tokens.Word index
    ∷ tokens.Word (codes "on") ∷ unparsed_name name
unparsed_stmt (stmts.CreateSynonym synonym name) = tokens.Word (codes "create") ∷ tokens.Word (codes "synonym")
    ∷ tokens.Word synonym ∷ tokens.Word (codes "for") ∷ unparsed_name name
unparsed_stmt (stmts.DropSynonym synonym) = tokens.Word (codes "drop")
    ∷ tokens.Word (codes "synonym") ∷ tokens.Word synonym ∷ []
unparsed_stmt (stmts.Migrate name to) = tokens.Word (codes "migrate") ∷ tokens.Word (codes "table") ∷ unparsed_name name
    ++ tokens.Word (codes "to") ∷ tokens.Number to ∷ []
unparsed_stmt (stmts.Compile program params body) = tokens.Word (codes "compile") ∷ tokens.Word program
    ∷ unparsed_tuple unparsed_ident params ++ tokens.Word (codes "as") ∷ unparsed_steps body ++ tokens.Word (codes "end") ∷ []
unparsed_stmt (stmts.DropProgram program) = tokens.Word (codes "drop")
    ∷ tokens.Word (codes "program") ∷ tokens.Word program ∷ []
unparsed_stmt (stmts.Execute program given) = tokens.Word (codes "execute") ∷ tokens.Word program
    ∷ unparsed_tuple unparsed_value given
unparsed_stmt (stmts.Explain select) = tokens.Word (codes "explain") ∷ unparsed_select select
unparsed_stmt stmts.ShowSections = tokens.Word (codes "show") ∷ tokens.Word (codes "sections") ∷ []
unparsed_stmt stmts.ShowCache = tokens.Word (codes "show") ∷ tokens.Word (codes "cache") ∷ []
unparsed_stmt (stmts.Dml dml) = unparsed_dml dml
