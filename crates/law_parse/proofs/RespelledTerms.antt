-- The printed tokens of names, columns, literals, terms and expressions are phrases of them.
use Rattle.std.proofs.Common.{◌≡◌, ℕ, zero, suc, ◌<◌, ◌^◌, false, List, [], ◌∷◌, ◌++◌, Option, Some, None, ℤ, pos, neg_ℤ, codes, refl, sym, ap, subst, append_assoc, inl, inr}
use Rattle.rs_base.specs.declared.name.NameText.{NameText}
use Rattle.rs_base.specs.declared.value.Kind.{Kind}
use Rattle.rs_base.specs.declared.value.Kind.TheVariants as kinds
use Rattle.rs_base.specs.declared.value.Value.{Value}
use Rattle.rs_base.specs.declared.value.Value.TheVariants as values
use Rattle.rs_ast.specs.declared.change.Arith.{Arith}
use Rattle.rs_ast.specs.declared.change.Arith.TheVariants as ariths
use Rattle.rs_ast.specs.declared.change.Expr.{Expr}
use Rattle.rs_ast.specs.declared.change.Set.{Set}
use Rattle.rs_ast.specs.declared.change.Term.{Term}
use Rattle.rs_ast.specs.declared.change.Term.TheVariants as terms
use Rattle.rs_ast.specs.declared.column.ColDef.{ColDef}
use Rattle.rs_ast.specs.declared.column.ColRef.{ColRef}
use Rattle.rs_token.specs.declared.token.Symbol.TheVariants as symbols
use Rattle.rs_token.specs.declared.token.Token.{Token}
use Rattle.rs_token.specs.declared.token.Token.TheVariants as tokens
use Rattle.rs_token.specs.Reserved.{is_reserved}
use Rattle.rs_unparse.specs.Unparsed.{comma, unparsed_tuple, unparsed_ident, unparsed_site, unparsed_creator, unparsed_name, unparsed_kind, unparsed_column, unparsed_table, unparsed_ref, unparsed_integer, unparsed_value, unparsed_param, unparsed_term, unparsed_term_row, arith_symbol, unparsed_more, unparsed_expr, unparsed_set}
use Rattle.rs_parse.specs.Phrases.{Sequence, Optional}
use Rattle.rs_parse.specs.Grammar.{IsIdent, IsSite, IsAtSite, IsNameOf, IsName, IsColRefOf, IsColRef, IsKind, IsColumn, IsLiteral, IsParam, IsTerm, IsVal, IsTuple, IsArith, IsMoreTerm, IsExpr, IsSet}
use Rattle.law_parse.proofs.TokenForms.{AreFormed}
use Rattle.law_parse.proofs.Respelling.{IsRespelled, formed_parts, nothing_respelled, token_respelled, word_respelled, symbol_respelled, ◌▹◌, bracketed_respelled, respelled_so, kept_respelled, list_respelled, at_most_respelled}

-- ---- names

pub ident_respelled : (name : List ℕ) → IsRespelled (IsIdent name) (unparsed_ident name)
ident_respelled name = kept_respelled (is_reserved name ≡ false) (word_respelled name)

pub site_respelled : (site : ℕ) → IsRespelled (IsSite site) (tokens.Number site ∷ [])
site_respelled site = record { respelled = λ ts is formed. ((is.0, is.1, refl), subst AreFormed is.2 formed) }

optional_site_respelled : (site : Option ℕ) → IsRespelled (Optional IsAtSite site) (unparsed_site site)
unfolding unparsed_site
optional_site_respelled None = nothing_respelled
optional_site_respelled (Some site) = symbol_respelled symbols.At ▹ site_respelled site

object_respelled : (name : NameText) → IsRespelled (Sequence (IsIdent name.object ∷ Optional IsAtSite name.birth ∷ [])) (tokens.Word name.object ∷ unparsed_site name.birth)
object_respelled name = ident_respelled name.object ▹ optional_site_respelled name.birth

name_of_respelled : (creator : Option (List ℕ)) (name : NameText) → IsRespelled (IsNameOf creator name) (unparsed_creator creator name.creator_site ++ tokens.Word name.object ∷ unparsed_site name.birth)
unfolding unparsed_creator
name_of_respelled None name = kept_respelled (name.creator_site ≡ None) (object_respelled name)
name_of_respelled (Some creator) name =
    let object = tokens.Word name.object ∷ unparsed_site name.birth in
    respelled_so (ap (λ (ts : List Token). tokens.Word creator ∷ ts) (append_assoc (unparsed_site name.creator_site) (tokens.Symbol symbols.Dot ∷ []) object))
    (ident_respelled creator ▹ optional_site_respelled name.creator_site ▹ symbol_respelled symbols.Dot ▹ object_respelled name)

pub name_respelled : (name : NameText) → IsRespelled (IsName name) (unparsed_name name)
unfolding unparsed_name
name_respelled name = name_of_respelled name.creator name

-- ---- columns

col_ref_of_respelled : (table : Option (List ℕ)) (column : List ℕ) → IsRespelled (IsColRefOf table column) (unparsed_table table ++ tokens.Word column ∷ [])
unfolding unparsed_table
col_ref_of_respelled None column = ident_respelled column
col_ref_of_respelled (Some table) column = ident_respelled table ▹ symbol_respelled symbols.Dot ▹ ident_respelled column

pub col_ref_respelled : (c : ColRef) → IsRespelled (IsColRef c) (unparsed_ref c)
unfolding unparsed_ref
col_ref_respelled c = col_ref_of_respelled c.table c.column

-- INTEGER is printed as INT
kind_respelled : (kind : Kind) → IsRespelled (IsKind kind) (unparsed_kind kind)
unfolding unparsed_kind
kind_respelled kinds.Int = record { respelled = λ ts is formed. (inl refl, (refl, tt)) }
kind_respelled kinds.Text = word_respelled (codes "text")

pub column_respelled : (column : ColDef) → IsRespelled (IsColumn column) (unparsed_column column)
unfolding unparsed_column
column_respelled column = ident_respelled column.name ▹ kind_respelled column.kind

-- ---- literals and parameters

abbrev IntegerAgain : ℤ → Type 0
IntegerAgain z = IsLiteral (values.Int z) (unparsed_integer z) × AreFormed (unparsed_integer z)

-- `-0` is printed as `0`
negated_again : (n : ℕ) → n < 2 ^ 63 → AreFormed (tokens.Number n ∷ []) → IntegerAgain (neg_ℤ (pos n))
unfolding unparsed_integer
negated_again zero lt formed = ((zero, lt, inl (refl, refl)), formed)
negated_again (suc n) lt formed = ((suc n, lt, inr (refl, (tokens.Symbol symbols.Minus ∷ [], tokens.Number (suc n) ∷ [], refl, refl, refl))), (tt, formed))

integer_again : (z : ℤ) (ts : List Token) → IsLiteral (values.Int z) ts → AreFormed ts → IntegerAgain z
unfolding unparsed_integer
integer_again z ts (n, lt, inl (e, is)) formed =
    let again : IntegerAgain (pos n) = ((n, lt, inl (refl, refl)), subst AreFormed is formed) in
    subst IntegerAgain (sym e) again
integer_again z ts (n, lt, inr (e, (prefix, suffix, minus, number, separated))) formed =
    let parts = formed_parts prefix suffix (subst AreFormed separated formed) in
    subst IntegerAgain (sym e) (negated_again n lt (subst AreFormed number parts.1))

pub literal_respelled : (value : Value) → IsRespelled (IsLiteral value) (unparsed_value value)
unfolding unparsed_value
literal_respelled (values.Int z) = record { respelled = λ ts is formed. integer_again z ts is formed }
literal_respelled (values.Text text) = token_respelled (tokens.Text text)

pub param_respelled : (param : List ℕ) → IsRespelled (IsParam param) (unparsed_param param)
param_respelled param = symbol_respelled symbols.Colon ▹ ident_respelled param

-- ---- terms

term_respelled : (term : Term) → IsRespelled (IsTerm term) (unparsed_term term)
unfolding unparsed_term
term_respelled (terms.Col column) = ident_respelled column
term_respelled (terms.Lit value) = literal_respelled value
term_respelled (terms.Param param) = param_respelled param

val_respelled : (term : Term) → IsRespelled (IsVal term) (unparsed_term term)
unfolding unparsed_term
val_respelled (terms.Col column) = record { respelled = λ ts is formed. absurd is }
val_respelled (terms.Lit value) = literal_respelled value
val_respelled (terms.Param param) = param_respelled param

pub tuple_respelled : (row : List Term) → IsRespelled (IsTuple row) (unparsed_term_row row)
unfolding unparsed_term_row unparsed_tuple
tuple_respelled row = bracketed_respelled (at_most_respelled 16 (list_respelled comma val_respelled) row)

arith_respelled : (a : Arith) → IsRespelled (IsArith a) (tokens.Symbol (arith_symbol a) ∷ [])
unfolding arith_symbol
arith_respelled ariths.Add = symbol_respelled symbols.Plus
arith_respelled ariths.Sub = symbol_respelled symbols.Minus
arith_respelled ariths.Mul = symbol_respelled symbols.Star

more_respelled : (more : Option (Arith × Term)) → IsRespelled (Optional IsMoreTerm more) (unparsed_more more)
unfolding unparsed_more
more_respelled None = nothing_respelled
more_respelled (Some more) = arith_respelled more.0 ▹ term_respelled more.1

expr_respelled : (expr : Expr) → IsRespelled (IsExpr expr) (unparsed_expr expr)
unfolding unparsed_expr
expr_respelled expr = term_respelled expr.first ▹ more_respelled expr.more

pub set_respelled : (set : Set) → IsRespelled (IsSet set) (unparsed_set set)
unfolding unparsed_set
set_respelled set = ident_respelled set.column ▹ symbol_respelled symbols.Equal ▹ expr_respelled set.expr
