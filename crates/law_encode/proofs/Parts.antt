-- Names, columns, values, terms and assignments are paid for by their tokens.
use Rattle.std.proofs.Common.{◌≡◌, ℕ, zero, suc, ◌+◌, ◌*◌, ◌^◌, ◌<◌, ◌≤◌, leb, ltb, false, List, length, Option, Some, None, ℤ, pos, neg_ℤ, refl, sym, ap, subst, arith, inl, inr}
use Rattle.std.specs.Prelude.{IsTrue}
use Rattle.std.proofs.lemmas.Bool.{and_parts, and_from, le-leb, lt-ltb}
use Rattle.std.proofs.lemmas.List.{length-append}
use Rattle.rs_base.specs.Ident.{is_ident}
use Rattle.rs_base.specs.declared.name.NameText.{NameText}
use Rattle.rs_base.specs.declared.value.Value.{Value}
use Rattle.rs_base.specs.declared.value.Value.TheVariants as values
use Rattle.rs_codec.specs.Encoding.{count_of}
use Rattle.rs_codec.specs.Written.{count_bytes}
use Rattle.rs_ast.specs.declared.change.Arith.{Arith}
use Rattle.rs_ast.specs.declared.change.Arith.TheVariants as ariths
use Rattle.rs_ast.specs.declared.change.Expr.{Expr}
use Rattle.rs_ast.specs.declared.change.Set.{Set}
use Rattle.rs_ast.specs.declared.change.Term.{Term}
use Rattle.rs_ast.specs.declared.change.Term.TheVariants as terms
use Rattle.rs_ast.specs.declared.column.ColRef.{ColRef}
use Rattle.rs_token.specs.declared.token.Symbol.{Symbol}
use Rattle.rs_token.specs.declared.token.Symbol.TheVariants as symbols
use Rattle.rs_token.specs.declared.token.Token.{Token}
use Rattle.rs_token.specs.declared.token.Token.TheVariants as tokens
use Rattle.rs_token.specs.Reserved.{is_reserved}
use Rattle.rs_encode.specs.Form.{both, list, option}
use Rattle.rs_encode.specs.Values.{byte, ident, int, is_site, name_text, site, text, txt, value}
use Rattle.rs_encode_ast.specs.Clauses.{col_ref}
use Rattle.rs_encode_ast.specs.Statements.{arithmetic, assignment, expr, term}
use Rattle.rs_parse.specs.Phrases.{Optional}
use Rattle.rs_parse.specs.Grammar.{Keyword, IsSymbol, IsIdent, IsSite, IsAtSite, IsNameOf, IsName, IsColRefOf, IsColRef, IsLiteral, IsParam, IsTerm, IsVal, IsTuple, IsArith, IsMoreTerm, IsExpr, IsSet}
use Rattle.law_parse.proofs.Respelling.{formed_parts}
use Rattle.law_parse.proofs.TokenForms.{AreFormed}
use Rattle.law_encode.proofs.Costs.{cost, costs, costs_append, count_grows}
use Rattle.law_encode.proofs.Counts.{ident_size}
use Rattle.law_encode.proofs.Paid.{IsPaid, unpaid, token_paid, less, kept, ◌▹◌, of_four, none_size, some_size, list_paid}

-- ---- single tokens

pub word_paid : (word : List ℕ) → IsPaid (Keyword word) (cost (tokens.Word word)) 0
word_paid word = token_paid (tokens.Word word)

pub symbol_paid : (symbol : Symbol) → IsPaid (IsSymbol symbol) 2 0
symbol_paid symbol = token_paid (tokens.Symbol symbol)

abbrev pub comma : Token
comma = tokens.Symbol symbols.Comma

pub ident_paid : (name : List ℕ) → IsPaid (IsIdent name) (length (ident.bytes name)) 0
unfolding ident text
ident_paid name = kept (is_reserved name ≡ false) (token_paid (tokens.Word name))

pub optional_ident_paid : (name : Option (List ℕ)) → IsPaid (Optional IsIdent name) (length ((option ident).bytes name)) 1
optional_ident_paid None = less (unpaid 1) (omega (arith, none_size ident))
optional_ident_paid (Some name) = less (ident_paid name) (omega (arith, some_size ident name))

-- ---- names

site_size : (n : ℕ) → length (site.bytes n) ≡ 1
unfolding site byte
site_size n = refl

optional_site_size : (n : Option ℕ) → length ((option site).bytes n) ≤ 2
optional_site_size None = omega (arith, none_size site)
optional_site_size (Some n) = omega (arith, some_size site n, site_size n)

name_size : (x : NameText) → length (name_text.bytes x)
    ≡ length ((option ident).bytes x.creator) + (length ((option site).bytes x.creator_site) + (length (ident.bytes x.object) + length ((option site).bytes x.birth)))
unfolding name_text
name_size x = of_four ((option ident).bytes x.creator) ((option site).bytes x.creator_site) (ident.bytes x.object) ((option site).bytes x.birth)

-- ---- names within their limits

-- a name of a text keeps the limits of names
ident_fits : (name : List ℕ) (ts : List Token) → AreFormed ts → IsIdent name ts → IsTrue (ident.fits name)
unfolding ident text
ident_fits name ts formed is =
    let is_name = (subst AreFormed is.1 formed).0 in
    let few = (ident_size name is_name).1 in
    let below : length name < 2 ^ 64 = omega (arith, few) in
    and_from (is_ident name) (ltb (length name) (2 ^ 64)) is_name (lt-ltb (length name) (2 ^ 64) below)

site_fits : (n : ℕ) (ts : List Token) → IsSite n ts → IsTrue (site.fits n)
unfolding site byte
site_fits n ts is =
    let below : n < 256 = omega (arith, is.1) in
    and_from (is_site n) (ltb n 256) (and_from (leb 1 n) (leb n 16) (le-leb 1 n is.0) (le-leb n 16 is.1)) (lt-ltb n 256 below)

optional_site_fits : (n : Option ℕ) (ts : List Token) → Optional IsAtSite n ts → IsTrue ((option site).fits n)
unfolding option
optional_site_fits None ts is = refl
optional_site_fits (Some n) ts (at, number, symbol, is, separated) = site_fits n number is

creator_fits : (creator : List ℕ) → IsTrue (ident.fits creator) → IsTrue ((option ident).fits (Some creator))
unfolding option
creator_fits creator fits = fits

no_creator_fits : IsTrue ((option ident).fits None)
unfolding option
no_creator_fits = refl

no_site_fits : IsTrue ((option site).fits None)
unfolding option
no_site_fits = refl

all_fit : (x : NameText) → IsTrue ((option ident).fits x.creator) → IsTrue ((option site).fits x.creator_site) → IsTrue (ident.fits x.object)
    → IsTrue ((option site).fits x.birth) → IsTrue (name_text.fits x)
unfolding name_text
all_fit x creator creator_site object birth =
    and_from ((option ident).fits x.creator) _ creator
    (and_from ((option site).fits x.creator_site) _ creator_site
    (and_from (ident.fits x.object) ((option site).fits x.birth) object birth))

name_of_fits : (creator : Option (List ℕ)) (name : NameText) → name.creator ≡ creator → (ts : List Token) → AreFormed ts → IsNameOf creator name ts → IsTrue (name_text.fits name)
name_of_fits None name e ts formed (no_site, (object, birth, is_object, is_birth, separated)) =
    let parts = formed_parts object birth (subst AreFormed separated formed) in
    all_fit name (subst (λ (c : Option (List ℕ)). IsTrue ((option ident).fits c)) (sym e) no_creator_fits)
    (subst (λ (n : Option ℕ). IsTrue ((option site).fits n)) (sym no_site) no_site_fits)
    (ident_fits name.object object parts.0 is_object) (optional_site_fits name.birth birth is_birth)
name_of_fits (Some creator) name e ts formed (first, rest, is_creator, (second, more, at_site, (dot, last, is_dot, (object, birth, is_object, is_birth, s), t), u), v) =
    let one = formed_parts first rest (subst AreFormed v formed) in
    let two = formed_parts second more (subst AreFormed u one.1) in
    let three = formed_parts dot last (subst AreFormed t two.1) in
    let four = formed_parts object birth (subst AreFormed s three.1) in
    all_fit name (subst (λ (c : Option (List ℕ)). IsTrue ((option ident).fits c)) (sym e) (creator_fits creator (ident_fits creator first one.0 is_creator)))
    (optional_site_fits name.creator_site second at_site)
    (ident_fits name.object object four.0 is_object) (optional_site_fits name.birth birth is_birth)

name_fits : (name : NameText) (ts : List Token) → AreFormed ts → IsName name ts → IsTrue (name_text.fits name)
name_fits name = name_of_fits name.creator name refl

ident_within : (name : List ℕ) → IsTrue (ident.fits name) → length (ident.bytes name) ≤ 25
unfolding ident text
ident_within name fits =
    let size = ident_size name (and_parts (is_ident name) (ltb (length name) (2 ^ 64)) fits).0 in
    omega (arith, size.1, size.2)

creator_within : (name : Option (List ℕ)) → IsTrue ((option ident).fits name) → length ((option ident).bytes name) ≤ 26
unfolding option
creator_within None fits = omega arith
creator_within (Some name) fits = omega (arith, ident_within name fits)

parts_fit : (x : NameText) → IsTrue (name_text.fits x) → IsTrue ((option ident).fits x.creator) × IsTrue (ident.fits x.object)
unfolding name_text
parts_fit x fits =
    let one = and_parts ((option ident).fits x.creator) _ fits in
    let two = and_parts ((option site).fits x.creator_site) _ one.1 in
    let three = and_parts (ident.fits x.object) ((option site).fits x.birth) two.1 in
    (one.0, three.0)

name_within : (x : NameText) → IsTrue (name_text.fits x) → length (name_text.bytes x) ≤ 55
name_within x fits =
    let parts = parts_fit x fits in
    omega (arith, name_size x, creator_within x.creator parts.0, optional_site_size x.creator_site, ident_within x.object parts.1, optional_site_size x.birth)

-- another name that keeps the limits if this one does
pub other_name_paid : (name other : NameText) → (IsTrue (name_text.fits name) → IsTrue (name_text.fits other)) → IsPaid (IsName name) (length (name_text.bytes other)) 55
other_name_paid name other keeps = record { paid = λ ts formed is. omega (arith, name_within other (keeps (name_fits name ts formed is))) }

-- ---- columns

col_ref_size : (x : ColRef) → length (col_ref.bytes x) ≡ length ((option ident).bytes x.table) + length (ident.bytes x.column)
unfolding col_ref
col_ref_size x = length-append ((option ident).bytes x.table) (ident.bytes x.column)

col_ref_of_paid : (table : Option (List ℕ)) (column : List ℕ) → IsPaid (IsColRefOf table column) (length ((option ident).bytes table) + length (ident.bytes column)) 1
col_ref_of_paid None column = less (ident_paid column) (omega (arith, none_size ident))
col_ref_of_paid (Some table) column = less (ident_paid table ▹ symbol_paid symbols.Dot ▹ ident_paid column) (omega (arith, some_size ident table))

pub col_ref_paid : (c : ColRef) → IsPaid (IsColRef c) (length (col_ref.bytes c)) 1
col_ref_paid c = less (col_ref_of_paid c.table c.column) (omega (arith, col_ref_size c))

-- ---- literals and parameters

int_size : (z : ℤ) → length (value.bytes (values.Int z)) ≡ suc (length (count_bytes (count_of z)))
unfolding value int
int_size z = refl

txt_size : (string : List ℕ) → length (value.bytes (values.Text string)) ≡ cost (tokens.Text string)
unfolding value txt text
txt_size string = omega arith

negated_count : (n : ℕ) → count_of (neg_ℤ (pos n)) ≤ 2 * n
negated_count zero = omega arith
negated_count (suc n) = omega arith

integer_paid : (z : ℤ) (ts : List Token) → IsLiteral (values.Int z) ts → suc (length (count_bytes (count_of z))) ≤ costs ts
integer_paid z ts (n, lt, inl (e, is)) =
    let same : length (count_bytes (count_of z)) ≡ length (count_bytes (2 * n)) = ap (λ (y : ℤ). length (count_bytes (count_of y))) e in
    omega (arith, same, ap costs is)
integer_paid z ts (n, lt, inr (e, (minus, number, m, is, separated))) =
    let same : length (count_bytes (count_of z)) ≡ length (count_bytes (count_of (neg_ℤ (pos n)))) = ap (λ (y : ℤ). length (count_bytes (count_of y))) e in
    let grows = count_grows (count_of (neg_ℤ (pos n))) (2 * n) (negated_count n) in
    omega (arith, same, grows, ap costs separated, costs_append minus number, ap costs is)

pub literal_paid : (v : Value) → IsPaid (IsLiteral v) (length (value.bytes v)) 0
literal_paid (values.Int z) = record { paid = λ ts formed is. omega (arith, integer_paid z ts is, int_size z) }
literal_paid (values.Text string) = record { paid = λ ts formed is. omega (arith, ap costs is, txt_size string) }

pub param_paid : (param : List ℕ) → IsPaid (IsParam param) (length (ident.bytes param)) 0
param_paid param = less (symbol_paid symbols.Colon ▹ ident_paid param) (omega arith)

-- ---- terms

column_term_size : (column : List ℕ) → length (term.bytes (terms.Col column)) ≡ suc (length (ident.bytes column))
unfolding term
column_term_size column = refl

literal_term_size : (v : Value) → length (term.bytes (terms.Lit v)) ≡ suc (length (value.bytes v))
unfolding term
literal_term_size v = refl

param_term_size : (param : List ℕ) → length (term.bytes (terms.Param param)) ≡ suc (length (ident.bytes param))
unfolding term
param_term_size param = refl

term_paid : (x : Term) → IsPaid (IsTerm x) (length (term.bytes x)) 1
term_paid (terms.Col column) = less (ident_paid column) (omega (arith, column_term_size column))
term_paid (terms.Lit v) = less (literal_paid v) (omega (arith, literal_term_size v))
term_paid (terms.Param param) = less (param_paid param) (omega (arith, param_term_size param))

val_paid : (x : Term) → IsPaid (IsVal x) (length (term.bytes x)) 1
val_paid (terms.Col column) = record { paid = λ ts formed is. absurd is }
val_paid (terms.Lit v) = less (literal_paid v) (omega (arith, literal_term_size v))
val_paid (terms.Param param) = less (param_paid param) (omega (arith, param_term_size param))

pub tuple_paid : (row : List Term) → IsPaid (IsTuple row) (length ((list term).bytes row)) 0
tuple_paid row =
    less (symbol_paid symbols.Open ▹ kept (length row ≤ 16) (list_paid term comma val_paid (omega arith) row) ▹ symbol_paid symbols.Close) (omega arith)

arith_size : (a : Arith) → length (arithmetic.bytes a) ≡ 1
unfolding arithmetic
arith_size ariths.Add = refl
arith_size ariths.Sub = refl
arith_size ariths.Mul = refl

arith_paid : (a : Arith) → IsPaid (IsArith a) 2 0
arith_paid ariths.Add = symbol_paid symbols.Plus
arith_paid ariths.Sub = symbol_paid symbols.Minus
arith_paid ariths.Mul = symbol_paid symbols.Star

more_paid : (more : Option (Arith × Term)) → IsPaid (Optional IsMoreTerm more) (length ((option (both arithmetic term)).bytes more)) 1
more_paid None = less (unpaid 1) (omega (arith, none_size (both arithmetic term)))
more_paid (Some more) =
    less (arith_paid more.0 ▹ term_paid more.1)
    (omega (arith, some_size (both arithmetic term) more, length-append (arithmetic.bytes more.0) (term.bytes more.1), arith_size more.0))

expr_size : (x : Expr) → length (expr.bytes x) ≡ length (term.bytes x.first) + length ((option (both arithmetic term)).bytes x.more)
unfolding expr
expr_size x = length-append (term.bytes x.first) ((option (both arithmetic term)).bytes x.more)

expr_paid : (x : Expr) → IsPaid (IsExpr x) (length (expr.bytes x)) 2
expr_paid x = less (term_paid x.first ▹ more_paid x.more) (omega (arith, expr_size x))

assignment_size : (x : Set) → length (assignment.bytes x) ≡ length (ident.bytes x.column) + length (expr.bytes x.expr)
unfolding assignment
assignment_size x = length-append (ident.bytes x.column) (expr.bytes x.expr)

pub assignment_paid : (x : Set) → IsPaid (IsSet x) (length (assignment.bytes x)) 0
assignment_paid x = less (ident_paid x.column ▹ symbol_paid symbols.Equal ▹ expr_paid x.expr) (omega (arith, assignment_size x))
