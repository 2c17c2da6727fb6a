-- The readers of literals, terms and tuples read the phrases of the grammar.
use Rattle.std.proofs.Common.{◌≡◌, ℕ, suc, ◌<◌, ◌^◌, Bool, true, false, cond, ltb, ◌||◌, List, [], ◌∷◌, ◌++◌, Option, Some, None, pos, neg_ℤ, ℤ, refl, sym, ap, subst, ◌∙◌, inl, inr}
use Rattle.std.specs.Prelude.{is_some}
use Rattle.std.proofs.lemmas.Bool.{ltb-true, lt-ltb}
use Rattle.std.proofs.lemmas.Option.{cond_some, none-some, same_Some}
use Rattle.rs_base.specs.declared.value.Value.{Value}
use Rattle.rs_base.specs.declared.value.Value.TheVariants as values
use Rattle.rs_ast.specs.declared.change.Arith.{Arith}
use Rattle.rs_ast.specs.declared.change.Arith.TheVariants as ariths
use Rattle.rs_ast.specs.declared.change.Expr.{Expr}
use Rattle.rs_ast.specs.declared.change.Set.{Set}
use Rattle.rs_ast.specs.declared.change.Term.{Term}
use Rattle.rs_ast.specs.declared.change.Term.TheVariants as terms
use Rattle.rs_token.specs.declared.token.Symbol.{Symbol}
use Rattle.rs_token.specs.declared.token.Symbol.TheVariants as symbols
use Rattle.rs_token.specs.declared.token.Token.{Token}
use Rattle.rs_token.specs.declared.token.Token.TheVariants as tokens
use Rattle.rs_token.specs.Token.{is_symbol, same_symbol}
use Rattle.rs_token.proofs.TokenLaws.{is_symbol_self, is_symbol_is}
use Rattle.rs_parse.specs.Phrases.{Phrase, Optional, AtMost}
use Rattle.rs_parse.specs.Read.{Read, begins, optional_at}
use Rattle.rs_parse.specs.Grammar.{IsIdent, IsLiteral, IsParam, IsTerm, IsVal, IsTuple, IsArith, IsMoreTerm, IsExpr, IsSet, IsCommaList}
use Rattle.rs_parse.specs.Reader.{is_ident_token, unsigned_of, unsigned_at, negated_of, negated_at, negative_at, literal_at, param_at, val_at, term_at, arith_of, arith_of_symbol, is_arith_token, arith_at, more_term_at, expr_at, set_at, list_at, tuple_at}
use Rattle.rs_parse.proofs.Readers.{IsReader, One, Then, Made, Either, IsToken, never, reads_one, reads_optional, then_reads, suffix_reads, made_reads, either_reads, as_reads, token_begins, end_begins}
use Rattle.rs_parse.proofs.Lists.{reads_list}
use Rattle.rs_parse.proofs.NameRules.{symbol_reads, ident_reads, ident_of_free}

-- ---- literals

unsigned_is : (t : Token) (value : Value) → unsigned_of t ≡ Some value → IsLiteral value (t ∷ [])
unsigned_is (tokens.Word word) value e = absurd (none-some value e)
unsigned_is (tokens.Number n) value e =
    let g = cond_some (ltb n (2 ^ 63)) (values.Int (pos n)) value e in
    subst (λ (v : Value). IsLiteral v (tokens.Number n ∷ [])) g.1 (n, ltb-true n (2 ^ 63) g.0, inl (refl, refl))
unsigned_is (tokens.Text text) value e = subst (λ (v : Value). IsLiteral v (tokens.Text text ∷ [])) (same_Some (values.Text text) value e) refl
unsigned_is (tokens.Symbol symbol) value e = absurd (none-some value e)

unsigned_of_number : (n : ℕ) (z : ℤ) → n < 2 ^ 63 → z ≡ pos n → unsigned_of (tokens.Number n) ≡ Some (values.Int z)
unsigned_of_number n z lt e = ap (λ (test : Bool). cond test (Some (values.Int (pos n))) None) (lt-ltb n (2 ^ 63) lt) ∙ ap (λ (x : ℤ). Some (values.Int x)) (sym e)

unsigned_reads : IsReader (One unsigned_of) never unsigned_at
unfolding unsigned_at
unsigned_reads = reads_one unsigned_of (tokens.Number 0) (values.Int (pos 0)) refl

negated_is : (t : Token) (value : Value) → negated_of t ≡ Some value → IsLiteral value (tokens.Symbol symbols.Minus ∷ t ∷ [])
negated_is (tokens.Word word) value e = absurd (none-some value e)
negated_is (tokens.Number n) value e =
    let g = cond_some (ltb n (2 ^ 63)) (values.Int (neg_ℤ (pos n))) value e in
    subst (λ (v : Value). IsLiteral v (tokens.Symbol symbols.Minus ∷ tokens.Number n ∷ [])) g.1
    (n, ltb-true n (2 ^ 63) g.0, inr (refl, (tokens.Symbol symbols.Minus ∷ [], tokens.Number n ∷ [], refl, refl, refl)))
negated_is (tokens.Text text) value e = absurd (none-some value e)
negated_is (tokens.Symbol symbol) value e = absurd (none-some value e)

negated_of_number : (n : ℕ) (z : ℤ) → n < 2 ^ 63 → z ≡ neg_ℤ (pos n) → negated_of (tokens.Number n) ≡ Some (values.Int z)
negated_of_number n z lt e = ap (λ (test : Bool). cond test (Some (values.Int (neg_ℤ (pos n)))) None) (lt-ltb n (2 ^ 63) lt) ∙ ap (λ (x : ℤ). Some (values.Int x)) (sym e)

abbrev Negative : Phrase Value
Negative = Then (IsToken (tokens.Symbol symbols.Minus)) (λ minus. One negated_of)

negative_reads : IsReader Negative never negative_at
unfolding negative_at negated_at
negative_reads = suffix_reads (symbol_reads symbols.Minus) (λ minus. reads_one negated_of (tokens.Number 0) (values.Int (neg_ℤ (pos 0))) refl)

literal_to : (value : Value) (ts : List Token) → Either Negative (One unsigned_of) value ts → IsLiteral value ts
literal_to value ts (inl (minus, f, b, is, (t, m, e), p)) =
    let spelled : ts ≡ tokens.Symbol symbols.Minus ∷ t ∷ [] = p ∙ ap (λ (us : List Token). us ++ b) is ∙ ap (λ (us : List Token). tokens.Symbol symbols.Minus ∷ us) e in
    subst (IsLiteral value) (sym spelled) (negated_is t value m)
literal_to value ts (inr (t, m, e)) = subst (IsLiteral value) (sym e) (unsigned_is t value m)

literal_from : (value : Value) (ts : List Token) → IsLiteral value ts → Either Negative (One unsigned_of) value ts
literal_from (values.Int z) ts (n, lt, inl (e, is)) = inr (tokens.Number n, unsigned_of_number n z lt e, is)
literal_from (values.Int z) ts (n, lt, inr (e, (f, b, is, number, p))) = inl (tt, f, b, is, (tokens.Number n, negated_of_number n z lt e, number), p)
literal_from (values.Text text) ts is = inr (tokens.Text text, refl, is)

unsigned_no_minus : (t : Token) (value : Value) → unsigned_of t ≡ Some value → is_symbol symbols.Minus t ≡ false
unsigned_no_minus (tokens.Word word) value e = refl
unsigned_no_minus (tokens.Number n) value e = refl
unsigned_no_minus (tokens.Text text) value e = refl
unsigned_no_minus (tokens.Symbol symbol) value e = absurd (none-some value e)

pub literal_reads : IsReader IsLiteral never literal_at
unfolding literal_at
literal_reads = as_reads IsLiteral (either_reads (is_symbol symbols.Minus) negative_reads unsigned_reads
    (λ value prefix rest p. token_begins (is_symbol symbols.Minus) (tokens.Symbol symbols.Minus) true (is_symbol_self symbols.Minus) p.1 p.2 prefix rest p.3 p.5)
    (λ value prefix rest p ends. end_begins (is_symbol symbols.Minus) p.0 false (unsigned_no_minus p.0 value p.1) prefix rest p.2))
    literal_to literal_from

-- a test that is the same for each token by which a literal may begin
pub literal_begins : (is : Token → Bool) (c : Bool) → is (tokens.Symbol symbols.Minus) ≡ c → ((n : ℕ) → is (tokens.Number n) ≡ c) → ((text : List ℕ) → is (tokens.Text text) ≡ c)
    → (value : Value) (prefix rest : List Token) → IsLiteral value prefix → begins is (prefix ++ rest) ≡ c
literal_begins is c minus number text (values.Int z) prefix rest (n, lt, inl (e, at)) = end_begins is (tokens.Number n) c (number n) prefix rest at
literal_begins is c minus number text (values.Int z) prefix rest (n, lt, inr (e, (f, b, at, at_number, p))) = token_begins is (tokens.Symbol symbols.Minus) c minus f b prefix rest at p
literal_begins is c minus number text (values.Text t) prefix rest at = end_begins is (tokens.Text t) c (text t) prefix rest at

-- ---- parameters and terms

pub param_reads : IsReader IsParam never param_at
unfolding param_at
param_reads = as_reads IsParam (suffix_reads (symbol_reads symbols.Colon) (λ colon. ident_reads))
    (λ param ts (colon, f, b, is, ident, p). (f, b, is, ident, p))
    (λ param ts (f, b, is, ident, p). (tt, f, b, is, ident, p))

pub param_begins : (is : Token → Bool) (c : Bool) → is (tokens.Symbol symbols.Colon) ≡ c → (param : List ℕ) (prefix rest : List Token) → IsParam param prefix → begins is (prefix ++ rest) ≡ c
param_begins is c colon param prefix rest (f, b, at, ident, p) = token_begins is (tokens.Symbol symbols.Colon) c colon f b prefix rest at p

pub ident_begins : (name : List ℕ) (prefix rest : List Token) → IsIdent name prefix → begins is_ident_token (prefix ++ rest) ≡ true
ident_begins name prefix rest (free, at) = end_begins is_ident_token (tokens.Word name) true (ap is_some (ident_of_free name free)) prefix rest at

colon_no_minus : is_symbol symbols.Colon (tokens.Symbol symbols.Minus) ≡ false
unfolding same_symbol
colon_no_minus = refl

pub literal_no_colon : (value : Value) (prefix rest : List Token) → IsLiteral value prefix → begins (is_symbol symbols.Colon) (prefix ++ rest) ≡ false
literal_no_colon value prefix rest is = literal_begins (is_symbol symbols.Colon) false colon_no_minus (λ n. refl) (λ text. refl) value prefix rest is

val_to : (term : Term) (ts : List Token) → Either (Made terms.Param IsParam) (Made terms.Lit IsLiteral) term ts → IsVal term ts
val_to term ts (inl (param, is, e)) = subst (λ (t : Term). IsVal t ts) e is
val_to term ts (inr (value, is, e)) = subst (λ (t : Term). IsVal t ts) e is

val_from : (term : Term) (ts : List Token) → IsVal term ts → Either (Made terms.Param IsParam) (Made terms.Lit IsLiteral) term ts
val_from (terms.Col column) ts is = absurd is
val_from (terms.Lit value) ts is = inr (value, is, refl)
val_from (terms.Param param) ts is = inl (param, is, refl)

pub val_reads : IsReader IsVal never val_at
unfolding val_at
val_reads = as_reads IsVal (either_reads (is_symbol symbols.Colon) (made_reads terms.Param param_reads) (made_reads terms.Lit literal_reads)
    (λ term prefix rest p. param_begins (is_symbol symbols.Colon) true (is_symbol_self symbols.Colon) p.0 prefix rest p.1)
    (λ term prefix rest p ends. literal_no_colon p.0 prefix rest p.1))
    val_to val_from

val_no_ident : (term : Term) (prefix rest : List Token) → IsVal term prefix → begins is_ident_token (prefix ++ rest) ≡ false
val_no_ident (terms.Col column) prefix rest is = absurd is
val_no_ident (terms.Lit value) prefix rest is = literal_begins is_ident_token false refl (λ n. refl) (λ text. refl) value prefix rest is
val_no_ident (terms.Param param) prefix rest is = param_begins is_ident_token false refl param prefix rest is

term_to : (term : Term) (ts : List Token) → Either (Made terms.Col IsIdent) IsVal term ts → IsTerm term ts
term_to term ts (inl (column, is, e)) = subst (λ (t : Term). IsTerm t ts) e is
term_to (terms.Col column) ts (inr is) = absurd is
term_to (terms.Lit value) ts (inr is) = is
term_to (terms.Param param) ts (inr is) = is

term_from : (term : Term) (ts : List Token) → IsTerm term ts → Either (Made terms.Col IsIdent) IsVal term ts
term_from (terms.Col column) ts is = inl (column, is, refl)
term_from (terms.Lit value) ts is = inr is
term_from (terms.Param param) ts is = inr is

pub term_reads : IsReader IsTerm never term_at
unfolding term_at
term_reads = as_reads IsTerm (either_reads is_ident_token (made_reads terms.Col ident_reads) val_reads
    (λ term prefix rest p. ident_begins p.0 prefix rest p.1)
    (λ term prefix rest p ends. val_no_ident term prefix rest p))
    term_to term_from

-- ---- expressions

arith_is_symbol : (symbol : Symbol) (a : Arith) → arith_of_symbol symbol ≡ Some a → IsArith a (tokens.Symbol symbol ∷ [])
arith_is_symbol symbols.Plus a e = subst (λ (x : Arith). IsArith x (tokens.Symbol symbols.Plus ∷ [])) (same_Some ariths.Add a e) refl
arith_is_symbol symbols.Minus a e = subst (λ (x : Arith). IsArith x (tokens.Symbol symbols.Minus ∷ [])) (same_Some ariths.Sub a e) refl
arith_is_symbol symbols.Star a e = subst (λ (x : Arith). IsArith x (tokens.Symbol symbols.Star ∷ [])) (same_Some ariths.Mul a e) refl
arith_is_symbol symbol a e = absurd (none-some a e)

arith_is : (t : Token) (a : Arith) → arith_of t ≡ Some a → IsArith a (t ∷ [])
arith_is (tokens.Word word) a e = absurd (none-some a e)
arith_is (tokens.Number n) a e = absurd (none-some a e)
arith_is (tokens.Text text) a e = absurd (none-some a e)
arith_is (tokens.Symbol symbol) a e = arith_is_symbol symbol a e

arith_from : (a : Arith) (ts : List Token) → IsArith a ts → One arith_of a ts
arith_from ariths.Add ts e = (tokens.Symbol symbols.Plus, refl, e)
arith_from ariths.Sub ts e = (tokens.Symbol symbols.Minus, refl, e)
arith_from ariths.Mul ts e = (tokens.Symbol symbols.Star, refl, e)

arith_reads : IsReader IsArith never arith_at
unfolding arith_at
arith_reads = as_reads IsArith (reads_one arith_of (tokens.Symbol symbols.Plus) ariths.Add refl)
    (λ a ts is. subst (IsArith a) (sym is.2) (arith_is is.0 a is.1))
    arith_from

arith_begins : (a : Arith) (one two prefix rest : List Token) → IsArith a one → prefix ≡ one ++ two → begins is_arith_token (prefix ++ rest) ≡ true
arith_begins ariths.Add one two prefix rest at p = token_begins is_arith_token (tokens.Symbol symbols.Plus) true refl one two prefix rest at p
arith_begins ariths.Sub one two prefix rest at p = token_begins is_arith_token (tokens.Symbol symbols.Minus) true refl one two prefix rest at p
arith_begins ariths.Mul one two prefix rest at p = token_begins is_arith_token (tokens.Symbol symbols.Star) true refl one two prefix rest at p

abbrev arith_term : Arith → Term → Arith × Term
arith_term a t = (a, t)

more_term_reads : IsReader IsMoreTerm never more_term_at
unfolding more_term_at
more_term_reads = as_reads IsMoreTerm (suffix_reads arith_reads (λ a. made_reads (arith_term a) term_reads))
    (λ more ts (a, f, b, is, (t, is_term, e), p). subst (λ (m : Arith × Term). IsMoreTerm m ts) e (f, b, is, is_term, p))
    (λ more ts (f, b, is, is_term, p). (more.0, f, b, is, (more.1, is_term, refl), p))

-- a sign continues
abbrev pub on_expr : Token → Bool
on_expr t = is_arith_token t || never t

more_reads : IsReader (Optional IsMoreTerm) on_expr (optional_at is_arith_token more_term_at)
more_reads = reads_optional IsMoreTerm is_arith_token never more_term_at more_term_reads (λ more prefix rest p. arith_begins more.0 p.0 p.1 prefix rest p.2 p.4)

abbrev expr_of : Term → Option (Arith × Term) → Expr
expr_of first more = record { first = first; more = more }

pub expr_reads : IsReader IsExpr on_expr expr_at
unfolding expr_at
expr_reads = as_reads IsExpr (suffix_reads term_reads (λ first. made_reads (expr_of first) more_reads))
    (λ expr ts (first, f, b, is, (more, is_more, e), p). subst (λ (x : Expr). IsExpr x ts) e (f, b, is, is_more, p))
    (λ expr ts (f, b, is, is_more, p). (expr.first, f, b, is, (expr.more, is_more, refl), p))

abbrev set_of : List ℕ → Expr → Set
set_of column expr = record { column = column; expr = expr }

pub set_reads : IsReader IsSet on_expr set_at
unfolding set_at
set_reads = as_reads IsSet (suffix_reads ident_reads (λ column. suffix_reads (symbol_reads symbols.Equal) (λ equal. made_reads (set_of column) expr_reads)))
    (λ set ts (column, f, b, ident, (equal, f1, b1, is, (expr, is_expr, e), p1), p). subst (λ (x : Set). IsSet x ts) e (f, b, ident, (f1, b1, is, is_expr, p1), p))
    (λ set ts (f, b, ident, (f1, b1, is, is_expr, p1), p). (set.column, f, b, ident, (tt, f1, b1, is, (set.expr, is_expr, refl), p1), p))

-- ---- tuples

-- a comma continues, or what continues an item
abbrev pub on_list : (Token → Bool) → Token → Bool
on_list goes_on t = is_symbol symbols.Comma t || goes_on t

-- items separated by commas, at most `n + 1`
pub list_reads : {A : Type 0} {P : Phrase A} {goes_on : Token → Bool} {item : List Token → Read A} (n : ℕ) → IsReader P goes_on item → goes_on (tokens.Symbol symbols.Comma) ≡ false
    → IsReader (AtMost (suc n) (IsCommaList P)) (on_list goes_on) (list_at item n)
list_reads {P = P} {goes_on = goes_on} {item = item} n r ends = reads_list P (tokens.Symbol symbols.Comma) (is_symbol symbols.Comma) goes_on item (is_symbol_self symbols.Comma) (is_symbol_is symbols.Comma) r ends n

close_ends_vals : on_list never (tokens.Symbol symbols.Close) ≡ false
unfolding same_symbol
close_ends_vals = refl

abbrev row_of : List Term → Unit {0} → List Term
row_of row close = row

pub tuple_reads : IsReader IsTuple never tuple_at
unfolding tuple_at
tuple_reads = as_reads IsTuple
    (suffix_reads (symbol_reads symbols.Open) (λ opened. then_reads (list_reads 15 val_reads refl) (λ row. made_reads (row_of row) (symbol_reads symbols.Close))
    (λ row made suffix rest q ends. end_begins (on_list never) (tokens.Symbol symbols.Close) false close_ends_vals suffix rest q.1)))
    (λ row ts (opened, f, b, is, (found, f1, b1, separated_list, (closed, is_close, e), p1), p). subst (λ (r : List Term). IsTuple r ts) e (f, b, is, (f1, b1, separated_list, is_close, p1), p))
    (λ row ts (f, b, is, (f1, b1, separated_list, is_close, p1), p). (tt, f, b, is, (row, f1, b1, separated_list, (tt, is_close, refl), p1), p))
