-- The grammar: the lists of tokens that are a request.
--
--     request   = statement [ ";" ]
--     statement = CREATE TABLE name "(" column { "," column } ")"
--               | DROP TABLE name
--               | CREATE INDEX id ON name "(" id ")"
--               | DROP INDEX id ON name
--               | CREATE SYNONYM id FOR name
--               | DROP SYNONYM id
--               | MIGRATE TABLE name TO site
--               | COMPILE id "(" [ id { "," id } ] ")" AS dml ";" { dml ";" } END
--               | DROP PROGRAM id
--               | EXECUTE id "(" [ literal { "," literal } ] ")"
--               | EXPLAIN select | SHOW SECTIONS | SHOW CACHE | dml
--     dml       = select
--               | INSERT INTO name VALUES tuple { "," tuple }
--               | UPDATE name SET id "=" expr { "," id "=" expr } [ WHERE pred ]
--               | DELETE FROM name [ WHERE pred ]
--     select    = SELECT [ DISTINCT ] ( "*" | item { "," item } ) FROM ref { "," ref } [ WHERE pred ]
--                 [ GROUP BY column_ref { "," column_ref } ] [ ORDER BY key { "," key } ]
--     name      = id [ "@" site ] [ "." id [ "@" site ] ]
--     column    = id ( INT | INTEGER | TEXT )
--     item      = column_ref | COUNT "(" "*" ")" | ( SUM | MIN | MAX ) "(" column_ref ")"
--     ref       = name [ id ]
--     column_ref = id [ "." id ]
--     pred      = clause { AND clause }
--     clause    = cmp | "(" cmp { OR cmp } ")"
--     cmp       = column_ref ( "=" | "<>" | "<" | "<=" | ">" | ">=" ) ( column_ref | literal | ":" id )
--     key       = ( column_ref | number ) [ ASC | DESC ]
--     tuple     = "(" val { "," val } ")"
--     val       = literal | ":" id
--     expr      = term [ ( "+" | "-" | "*" ) term ]
--     term      = id | literal | ":" id
--     literal   = [ "-" ] number | text
--
-- An id is a word that isn't reserved, and a site a number from 1 to 16. There are at most 16 columns, items, columns of
-- GROUP BY, keys, parameters, values of an EXECUTE or of a tuple, and assignments, at most 6 refs, and at most 8
-- statements of a program. A literal's number is at most 2 ^ 63 - 1, and a key's number at most 2 ^ 32 - 1.
use Rattle.std.specs.Prelude.{◌≡◌, ℕ, ◌^◌, ◌<◌, ◌≤◌, Bool, true, false, List, [], ◌∷◌, Option, Some, None, pos, neg_ℤ, ◌⊎◌, codes}
use Rattle.rs_base.specs.declared.value.Kind.{Kind}
use Rattle.rs_base.specs.declared.value.Kind.TheVariants as kinds
use Rattle.rs_base.specs.declared.value.Value.{Value}
use Rattle.rs_base.specs.declared.value.Value.TheVariants as values
use Rattle.rs_base.specs.declared.name.NameText.{NameText}
use Rattle.rs_ast.specs.declared.change.Arith.{Arith}
use Rattle.rs_ast.specs.declared.change.Arith.TheVariants as ariths
use Rattle.rs_ast.specs.declared.change.Expr.{Expr}
use Rattle.rs_ast.specs.declared.change.Set.{Set}
use Rattle.rs_ast.specs.declared.change.Term.{Term}
use Rattle.rs_ast.specs.declared.change.Term.TheVariants as terms
use Rattle.rs_ast.specs.declared.clause.Clause.{Clause}
use Rattle.rs_ast.specs.declared.clause.Cmp.{Cmp}
use Rattle.rs_ast.specs.declared.clause.Op.{Op}
use Rattle.rs_ast.specs.declared.clause.Op.TheVariants as ops
use Rattle.rs_ast.specs.declared.clause.Operand.{Operand}
use Rattle.rs_ast.specs.declared.clause.Operand.TheVariants as operands
use Rattle.rs_ast.specs.declared.column.ColDef.{ColDef}
use Rattle.rs_ast.specs.declared.column.ColRef.{ColRef}
use Rattle.rs_ast.specs.declared.select.Item.{Item}
use Rattle.rs_ast.specs.declared.select.Item.TheVariants as items
use Rattle.rs_ast.specs.declared.select.Key.{Key}
use Rattle.rs_ast.specs.declared.select.KeyBy.{KeyBy}
use Rattle.rs_ast.specs.declared.select.KeyBy.TheVariants as keys
use Rattle.rs_ast.specs.declared.select.Select.{Select}
use Rattle.rs_ast.specs.declared.select.TableRef.{TableRef}
use Rattle.rs_ast.specs.declared.stmt.Dml.{Dml}
use Rattle.rs_ast.specs.declared.stmt.Dml.TheVariants as dmls
use Rattle.rs_ast.specs.declared.stmt.Stmt.{Stmt}
use Rattle.rs_ast.specs.declared.stmt.Stmt.TheVariants as stmts
use Rattle.rs_token.specs.declared.token.Symbol.{Symbol}
use Rattle.rs_token.specs.declared.token.Symbol.TheVariants as symbols
use Rattle.rs_token.specs.declared.token.Token.{Token}
use Rattle.rs_token.specs.declared.token.Token.TheVariants as tokens
use Rattle.rs_token.specs.Reserved.{is_reserved}
use Rattle.rs_parse.specs.Phrases.{Phrase, Is, Sequence, Optional, IsSeries, IsList, AtMost}

-- ---- words, symbols and numbers

abbrev pub Keyword : List ℕ → List Token → Type 0
Keyword word = Is (tokens.Word word)

abbrev pub IsSymbol : Symbol → List Token → Type 0
IsSymbol symbol = Is (tokens.Symbol symbol)

-- an id: a word that isn't reserved
abbrev pub IsIdent : Phrase (List ℕ)
IsIdent name ts = (is_reserved name ≡ false) × Is (tokens.Word name) ts

abbrev pub IsSite : Phrase ℕ
IsSite site ts = (1 ≤ site) × (site ≤ 16) × Is (tokens.Number site) ts

-- items separated by commas
abbrev pub IsCommaList : {A : Type 0} → Phrase A → Phrase (List A)
IsCommaList P = IsList (tokens.Symbol symbols.Comma) P

-- items separated by commas, or none
abbrev pub IsCommaListOrNone : {A : Type 0} → Phrase A → Phrase (List A)
IsCommaListOrNone P [] ts = ts ≡ []
IsCommaListOrNone P (x ∷ xs) ts = IsCommaList P (x ∷ xs) ts

-- ---- names and columns

abbrev pub IsAtSite : Phrase ℕ
IsAtSite site = Sequence (IsSymbol symbols.At ∷ IsSite site ∷ [])

-- Without a dot the id is the object and the site its birth site; with one the first id and site are the creator.
abbrev pub IsNameOf : Option (List ℕ) → NameText → List Token → Type 0
IsNameOf None name ts = (name.creator_site ≡ None) × Sequence (IsIdent name.object ∷ Optional IsAtSite name.birth ∷ []) ts
IsNameOf (Some creator) name ts =
    Sequence (IsIdent creator ∷ Optional IsAtSite name.creator_site ∷ IsSymbol symbols.Dot ∷ IsIdent name.object
    ∷ Optional IsAtSite name.birth ∷ []) ts

abbrev pub IsName : Phrase NameText
IsName name = IsNameOf name.creator name

abbrev pub IsColRefOf : Option (List ℕ) → List ℕ → List Token → Type 0
IsColRefOf None column = IsIdent column
IsColRefOf (Some table) column = Sequence (IsIdent table ∷ IsSymbol symbols.Dot ∷ IsIdent column ∷ [])

abbrev pub IsColRef : Phrase ColRef
IsColRef c = IsColRefOf c.table c.column

abbrev pub IsKind : Phrase Kind
IsKind kinds.Int ts = Keyword (codes "int") ts ⊎ Keyword (codes "integer") ts
IsKind kinds.Text ts = Keyword (codes "text") ts

abbrev pub IsColumn : Phrase ColDef
IsColumn column = Sequence (IsIdent column.name ∷ IsKind column.kind ∷ [])

-- ---- values and terms

abbrev pub IsLiteral : Phrase Value
IsLiteral (values.Int z) ts = (n : ℕ) × (n < 2 ^ 63)
    × (((z ≡ pos n) × Is (tokens.Number n) ts)
    ⊎ ((z ≡ neg_ℤ (pos n)) × Sequence (IsSymbol symbols.Minus ∷ Is (tokens.Number n) ∷ []) ts))
IsLiteral (values.Text text) ts = Is (tokens.Text text) ts

abbrev pub IsParam : Phrase (List ℕ)
IsParam param = Sequence (IsSymbol symbols.Colon ∷ IsIdent param ∷ [])

abbrev pub IsTerm : Phrase Term
IsTerm (terms.Col column) = IsIdent column
IsTerm (terms.Lit value) = IsLiteral value
IsTerm (terms.Param param) = IsParam param

-- a value of INSERT
abbrev pub IsVal : Phrase Term
IsVal (terms.Col column) ts = ⊥
IsVal (terms.Lit value) ts = IsLiteral value ts
IsVal (terms.Param param) ts = IsParam param ts

abbrev pub IsTuple : Phrase (List Term)
IsTuple row = Sequence (IsSymbol symbols.Open ∷ AtMost 16 (IsCommaList IsVal) row ∷ IsSymbol symbols.Close ∷ [])

abbrev pub IsArith : Phrase Arith
IsArith ariths.Add = IsSymbol symbols.Plus
IsArith ariths.Sub = IsSymbol symbols.Minus
IsArith ariths.Mul = IsSymbol symbols.Star

abbrev pub IsMoreTerm : Phrase (Arith × Term)
IsMoreTerm more = Sequence (IsArith more.0 ∷ IsTerm more.1 ∷ [])

abbrev pub IsExpr : Phrase Expr
IsExpr expr = Sequence (IsTerm expr.first ∷ Optional IsMoreTerm expr.more ∷ [])

abbrev pub IsSet : Phrase Set
IsSet set = Sequence (IsIdent set.column ∷ IsSymbol symbols.Equal ∷ IsExpr set.expr ∷ [])

-- ---- WHERE

abbrev pub IsOp : Phrase Op
IsOp ops.Eq = IsSymbol symbols.Equal
IsOp ops.Ne = IsSymbol symbols.NotEqual
IsOp ops.Lt = IsSymbol symbols.Less
IsOp ops.Le = IsSymbol symbols.LessOrEqual
IsOp ops.Gt = IsSymbol symbols.Greater
IsOp ops.Ge = IsSymbol symbols.GreaterOrEqual

abbrev pub IsOperand : Phrase Operand
IsOperand (operands.Col c) = IsColRef c
IsOperand (operands.Lit value) = IsLiteral value
IsOperand (operands.Param param) = IsParam param

abbrev pub IsCmp : Phrase Cmp
IsCmp cmp = Sequence (IsColRef cmp.left ∷ IsOp cmp.op ∷ IsOperand cmp.right ∷ [])

-- one comparison, or a disjunction of comparisons in parentheses
abbrev pub IsClause : Phrase Clause
IsClause clause ts =
    ((cmp : Cmp) × (clause.any ≡ cmp ∷ []) × IsCmp cmp ts)
    ⊎ Sequence (IsSymbol symbols.Open ∷ IsList (tokens.Word (codes "or")) IsCmp clause.any ∷ IsSymbol symbols.Close ∷ []) ts

abbrev pub IsWhere : Phrase (List Clause)
IsWhere [] ts = ts ≡ []
IsWhere (clause ∷ clauses) ts = Sequence (Keyword (codes "where")
    ∷ IsList (tokens.Word (codes "and")) IsClause (clause ∷ clauses) ∷ []) ts

-- ---- queries

abbrev pub IsOfColumn : List ℕ → ColRef → List Token → Type 0
IsOfColumn word c = Sequence (Keyword word ∷ IsSymbol symbols.Open ∷ IsColRef c ∷ IsSymbol symbols.Close ∷ [])

abbrev pub IsItem : Phrase Item
IsItem (items.Col c) = IsColRef c
IsItem items.Count = Sequence (Keyword (codes "count") ∷ IsSymbol symbols.Open ∷ IsSymbol symbols.Star
    ∷ IsSymbol symbols.Close ∷ [])
IsItem (items.Sum c) = IsOfColumn (codes "sum") c
IsItem (items.Min c) = IsOfColumn (codes "min") c
IsItem (items.Max c) = IsOfColumn (codes "max") c

abbrev pub IsItems : Phrase (Option (List Item))
IsItems None = IsSymbol symbols.Star
IsItems (Some items) = AtMost 16 (IsCommaList IsItem) items

abbrev pub IsDistinct : Phrase Bool
IsDistinct false ts = ts ≡ []
IsDistinct true ts = Keyword (codes "distinct") ts

abbrev pub IsTableRef : Phrase TableRef
IsTableRef table = Sequence (IsName table.name ∷ Optional IsIdent table.alias ∷ [])

abbrev pub IsGroup : Phrase (List ColRef)
IsGroup [] ts = ts ≡ []
IsGroup (c ∷ cs) ts = Sequence (Keyword (codes "group") ∷ Keyword (codes "by")
    ∷ AtMost 16 (IsCommaList IsColRef) (c ∷ cs) ∷ []) ts

abbrev pub IsKeyBy : Phrase KeyBy
IsKeyBy (keys.Col c) ts = IsColRef c ts
IsKeyBy (keys.Place n) ts = (n < 2 ^ 32) × Is (tokens.Number n) ts

abbrev pub IsDirection : Phrase Bool
IsDirection false ts = (ts ≡ []) ⊎ Keyword (codes "asc") ts
IsDirection true ts = Keyword (codes "desc") ts

abbrev pub IsKey : Phrase Key
IsKey key = Sequence (IsKeyBy key.by ∷ IsDirection key.desc ∷ [])

abbrev pub IsOrder : Phrase (List Key)
IsOrder [] ts = ts ≡ []
IsOrder (key ∷ keys) ts = Sequence (Keyword (codes "order") ∷ Keyword (codes "by")
    ∷ AtMost 16 (IsCommaList IsKey) (key ∷ keys) ∷ []) ts

abbrev pub IsSelect : Phrase Select
IsSelect select = Sequence (
    Keyword (codes "select") ∷ IsDistinct select.distinct ∷ IsItems select.items
    ∷ Keyword (codes "from") ∷ AtMost 6 (IsCommaList IsTableRef) select.from
    ∷ IsWhere select.clauses ∷ IsGroup select.group ∷ IsOrder select.order ∷ [])

-- ---- statements

abbrev pub IsDml : Phrase Dml
IsDml (dmls.Select select) = IsSelect select
IsDml (dmls.Insert name rows) = Sequence (Keyword (codes "insert") ∷ Keyword (codes "into") ∷ IsName name
    ∷ Keyword (codes "values") ∷ IsCommaList IsTuple rows ∷ [])
IsDml (dmls.Update name sets clauses) = Sequence (Keyword (codes "update") ∷ IsName name ∷ Keyword (codes "set")
    ∷ AtMost 16 (IsCommaList IsSet) sets ∷ IsWhere clauses ∷ [])
IsDml (dmls.Delete name clauses) = Sequence (Keyword (codes "delete") ∷ Keyword (codes "from")
    ∷ IsName name ∷ IsWhere clauses ∷ [])

-- a statement of a program, with its semicolon
abbrev pub IsDmlEnded : Phrase Dml
IsDmlEnded dml = Sequence (IsDml dml ∷ IsSymbol symbols.Semicolon ∷ [])

-- one to eight statements of a program
abbrev pub IsBody : Phrase (List Dml)
IsBody [] ts = ⊥
IsBody (dml ∷ dmls) ts = AtMost 8 (IsSeries IsDmlEnded) (dml ∷ dmls) ts

abbrev pub IsStmt : Phrase Stmt
IsStmt (stmts.CreateTable name columns) =
    Sequence (Keyword (codes "create") ∷ Keyword (codes "table") ∷ IsName name ∷ IsSymbol symbols.Open
    ∷ AtMost 16 (IsCommaList IsColumn) columns ∷ IsSymbol symbols.Close ∷ [])
IsStmt (stmts.DropTable name) = Sequence (Keyword (codes "drop") ∷ Keyword (codes "table") ∷ IsName name ∷ [])
IsStmt (stmts.CreateIndex index name column) =
    Sequence (Keyword (codes "create") ∷ Keyword (codes "index") ∷ IsIdent index ∷ Keyword (codes "on") ∷ IsName name
    ∷ IsSymbol symbols.Open ∷ IsIdent column ∷ IsSymbol symbols.Close ∷ [])
IsStmt (stmts.DropIndex index name) = Sequence (Keyword (codes "drop") ∷ Keyword (codes "index") ∷ IsIdent index
    ∷ Keyword (codes "on") ∷ IsName name ∷ [])
IsStmt (stmts.CreateSynonym synonym name) =
    Sequence (Keyword (codes "create") ∷ Keyword (codes "synonym") ∷ IsIdent synonym ∷ Keyword (codes "for") ∷ IsName name ∷ [])
IsStmt (stmts.DropSynonym synonym) = Sequence (Keyword (codes "drop") ∷ Keyword (codes "synonym") ∷ IsIdent synonym ∷ [])
IsStmt (stmts.Migrate name to) = Sequence (Keyword (codes "migrate") ∷ Keyword (codes "table") ∷ IsName name
    ∷ Keyword (codes "to") ∷ IsSite to ∷ [])
IsStmt (stmts.Compile program params body) = Sequence (
    Keyword (codes "compile") ∷ IsIdent program ∷ IsSymbol symbols.Open
    ∷ AtMost 16 (IsCommaListOrNone IsIdent) params ∷ IsSymbol symbols.Close
    ∷ Keyword (codes "as") ∷ IsBody body ∷ Keyword (codes "end") ∷ [])
IsStmt (stmts.DropProgram program) = Sequence (Keyword (codes "drop") ∷ Keyword (codes "program") ∷ IsIdent program ∷ [])
IsStmt (stmts.Execute program given) =
    Sequence (Keyword (codes "execute") ∷ IsIdent program ∷ IsSymbol symbols.Open
    ∷ AtMost 16 (IsCommaListOrNone IsLiteral) given ∷ IsSymbol symbols.Close ∷ [])
IsStmt (stmts.Explain select) = Sequence (Keyword (codes "explain") ∷ IsSelect select ∷ [])
IsStmt stmts.ShowSections = Sequence (Keyword (codes "show") ∷ Keyword (codes "sections") ∷ [])
IsStmt stmts.ShowCache = Sequence (Keyword (codes "show") ∷ Keyword (codes "cache") ∷ [])
IsStmt (stmts.Dml dml) = IsDml dml

-- an optional semicolon
abbrev pub IsEnd : List Token → Type 0
IsEnd ts = (ts ≡ []) ⊎ IsSymbol symbols.Semicolon ts

abbrev pub IsRequest : Phrase Stmt
IsRequest stmt = Sequence (IsStmt stmt ∷ IsEnd ∷ [])
