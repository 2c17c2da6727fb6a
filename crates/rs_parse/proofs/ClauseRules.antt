-- The readers of comparisons and clauses read the phrases of the grammar.
use Rattle.std.proofs.Common.{◌≡◌, ℕ, Bool, true, false, ◌||◌, List, [], ◌∷◌, ◌++◌, Option, Some, None, codes, refl, sym, ap, subst, ◌∙◌, append_assoc, inl, inr}
use Rattle.std.specs.Prelude.{is_some}
use Rattle.std.proofs.lemmas.Bool.{false≢true}
use Rattle.std.proofs.lemmas.Option.{none-some, same_Some}
use Rattle.rs_ast.specs.declared.clause.Clause.{Clause}
use Rattle.rs_ast.specs.declared.clause.Cmp.{Cmp}
use Rattle.rs_ast.specs.declared.clause.Op.{Op}
use Rattle.rs_ast.specs.declared.clause.Op.TheVariants as ops
use Rattle.rs_ast.specs.declared.clause.Operand.{Operand}
use Rattle.rs_ast.specs.declared.clause.Operand.TheVariants as operands
use Rattle.rs_ast.specs.declared.column.ColRef.{ColRef}
use Rattle.rs_token.specs.declared.token.Symbol.{Symbol}
use Rattle.rs_token.specs.declared.token.Symbol.TheVariants as symbols
use Rattle.rs_token.specs.declared.token.Token.{Token}
use Rattle.rs_token.specs.declared.token.Token.TheVariants as tokens
use Rattle.rs_token.specs.Token.{is_symbol, is_word, same_symbol}
use Rattle.rs_token.proofs.TokenLaws.{is_symbol_self, is_word_self, is_word_is}
use Rattle.rs_parse.specs.Phrases.{Phrase, IsList}
use Rattle.rs_parse.specs.Read.{begins, all_at}
use Rattle.rs_parse.specs.Grammar.{IsColRef, IsColRefOf, IsLiteral, IsParam, IsOp, IsOperand, IsCmp, IsClause, IsWhere}
use Rattle.rs_parse.specs.Reader.{is_ident_token, op_of, op_of_symbol, op_at, operand_at, cmp_at, bracketed_clause_at, clause_at, clauses_at, where_at}
use Rattle.rs_parse.proofs.Readers.{IsReader, One, Then, Made, Either, Empty, IsToken, Begins, never, or_left, or_right, gives_before, reads_one, then_reads, suffix_reads, made_reads, either_reads, as_reads, before_reads, token_begins, end_begins, empty_begins, begins_made, begins_either}
use Rattle.rs_parse.proofs.Series.{begins_apart}
use Rattle.rs_parse.proofs.Lists.{reads_all}
use Rattle.rs_parse.proofs.NameRules.{symbol_reads, word_reads, ident_of_free, on_column, col_ref_reads}
use Rattle.rs_parse.proofs.TermRules.{literal_reads, param_reads, ident_begins, literal_begins, literal_no_colon, param_begins}

-- ---- identifiers, symbols and keywords

pub ident_no_symbol : (symbol : Symbol) (t : Token) → is_ident_token t ≡ true → is_symbol symbol t ≡ false
ident_no_symbol symbol (tokens.Word w) e = refl
ident_no_symbol symbol (tokens.Number n) e = refl
ident_no_symbol symbol (tokens.Text text) e = refl
ident_no_symbol symbol (tokens.Symbol m) e = absurd (false≢true e)

pub col_ref_begins_of : (table : Option (List ℕ)) (column : List ℕ) (prefix rest : List Token) → IsColRefOf table column prefix → begins is_ident_token (prefix ++ rest) ≡ true
col_ref_begins_of None column prefix rest is = ident_begins column prefix rest is
col_ref_begins_of (Some table) column prefix rest (f, b, ident, is, p) = token_begins is_ident_token (tokens.Word table) true (ap is_some (ident_of_free table ident.0)) f b prefix rest ident.1 p

pub col_ref_begins : Begins is_ident_token true IsColRef
col_ref_begins c prefix rest is = col_ref_begins_of c.table c.column prefix rest is

-- ---- comparisons

op_is_symbol : (symbol : Symbol) (op : Op) → op_of_symbol symbol ≡ Some op → IsOp op (tokens.Symbol symbol ∷ [])
op_is_symbol symbols.Equal op e = subst (λ (x : Op). IsOp x (tokens.Symbol symbols.Equal ∷ [])) (same_Some ops.Eq op e) refl
op_is_symbol symbols.NotEqual op e = subst (λ (x : Op). IsOp x (tokens.Symbol symbols.NotEqual ∷ [])) (same_Some ops.Ne op e) refl
op_is_symbol symbols.Less op e = subst (λ (x : Op). IsOp x (tokens.Symbol symbols.Less ∷ [])) (same_Some ops.Lt op e) refl
op_is_symbol symbols.LessOrEqual op e = subst (λ (x : Op). IsOp x (tokens.Symbol symbols.LessOrEqual ∷ [])) (same_Some ops.Le op e) refl
op_is_symbol symbols.Greater op e = subst (λ (x : Op). IsOp x (tokens.Symbol symbols.Greater ∷ [])) (same_Some ops.Gt op e) refl
op_is_symbol symbols.GreaterOrEqual op e = subst (λ (x : Op). IsOp x (tokens.Symbol symbols.GreaterOrEqual ∷ [])) (same_Some ops.Ge op e) refl
op_is_symbol symbol op e = absurd (none-some op e)

op_is : (t : Token) (op : Op) → op_of t ≡ Some op → IsOp op (t ∷ [])
op_is (tokens.Word word) op e = absurd (none-some op e)
op_is (tokens.Number n) op e = absurd (none-some op e)
op_is (tokens.Text text) op e = absurd (none-some op e)
op_is (tokens.Symbol symbol) op e = op_is_symbol symbol op e

op_from : (op : Op) (ts : List Token) → IsOp op ts → One op_of op ts
op_from ops.Eq ts e = (tokens.Symbol symbols.Equal, refl, e)
op_from ops.Ne ts e = (tokens.Symbol symbols.NotEqual, refl, e)
op_from ops.Lt ts e = (tokens.Symbol symbols.Less, refl, e)
op_from ops.Le ts e = (tokens.Symbol symbols.LessOrEqual, refl, e)
op_from ops.Gt ts e = (tokens.Symbol symbols.Greater, refl, e)
op_from ops.Ge ts e = (tokens.Symbol symbols.GreaterOrEqual, refl, e)

op_reads : IsReader IsOp never op_at
unfolding op_at
op_reads = as_reads IsOp (reads_one op_of (tokens.Symbol symbols.Equal) ops.Eq refl) (λ op ts is. subst (IsOp op) (sym is.2) (op_is is.0 op is.1)) op_from

op_no_dot : Begins on_column false IsOp
unfolding same_symbol
op_no_dot ops.Eq prefix rest at = end_begins on_column (tokens.Symbol symbols.Equal) false refl prefix rest at
op_no_dot ops.Ne prefix rest at = end_begins on_column (tokens.Symbol symbols.NotEqual) false refl prefix rest at
op_no_dot ops.Lt prefix rest at = end_begins on_column (tokens.Symbol symbols.Less) false refl prefix rest at
op_no_dot ops.Le prefix rest at = end_begins on_column (tokens.Symbol symbols.LessOrEqual) false refl prefix rest at
op_no_dot ops.Gt prefix rest at = end_begins on_column (tokens.Symbol symbols.Greater) false refl prefix rest at
op_no_dot ops.Ge prefix rest at = end_begins on_column (tokens.Symbol symbols.GreaterOrEqual) false refl prefix rest at

abbrev ParamOrLiteral : Phrase Operand
ParamOrLiteral = Either (Made operands.Param IsParam) (Made operands.Lit IsLiteral)

param_or_literal_no_ident : Begins is_ident_token false ParamOrLiteral
param_or_literal_no_ident = begins_either (Made operands.Param IsParam) (Made operands.Lit IsLiteral) is_ident_token false
    (begins_made IsParam operands.Param is_ident_token false (param_begins is_ident_token false refl))
    (begins_made IsLiteral operands.Lit is_ident_token false (literal_begins is_ident_token false refl (λ n. refl) (λ text. refl)))

operand_to : (operand : Operand) (ts : List Token) → Either (Made operands.Col IsColRef) ParamOrLiteral operand ts → IsOperand operand ts
operand_to operand ts (inl (c, is, e)) = subst (λ (x : Operand). IsOperand x ts) e is
operand_to operand ts (inr (inl (param, is, e))) = subst (λ (x : Operand). IsOperand x ts) e is
operand_to operand ts (inr (inr (value, is, e))) = subst (λ (x : Operand). IsOperand x ts) e is

operand_from : (operand : Operand) (ts : List Token) → IsOperand operand ts → Either (Made operands.Col IsColRef) ParamOrLiteral operand ts
operand_from (operands.Col c) ts is = inl (c, is, refl)
operand_from (operands.Lit value) ts is = inr (inr (value, is, refl))
operand_from (operands.Param param) ts is = inr (inl (param, is, refl))

operand_reads : IsReader IsOperand on_column operand_at
unfolding operand_at
operand_reads = as_reads IsOperand
    (either_reads is_ident_token (made_reads operands.Col col_ref_reads)
    (before_reads on_column (λ t e. refl) (either_reads (is_symbol symbols.Colon) (made_reads operands.Param param_reads) (made_reads operands.Lit literal_reads)
    (λ operand prefix rest p. param_begins (is_symbol symbols.Colon) true (is_symbol_self symbols.Colon) p.0 prefix rest p.1)
    (λ operand prefix rest p ends. literal_no_colon p.0 prefix rest p.1)))
    (λ operand prefix rest p. col_ref_begins p.0 prefix rest p.1)
    (λ operand prefix rest p ends. param_or_literal_no_ident operand prefix rest p))
    operand_to operand_from

abbrev cmp_of : ColRef → Op → Operand → Cmp
cmp_of left op right = record { left = left; op = op; right = right }

op_follows : (left : ColRef) (cmp : Cmp) (suffix rest : List Token) → Then IsOp (λ op. Made (cmp_of left op) IsOperand) cmp suffix → begins on_column (suffix ++ rest) ≡ false
op_follows left cmp suffix rest (op, f, b, is, q, p) = ap (λ (us : List Token). begins on_column (us ++ rest)) p ∙ ap (begins on_column) (append_assoc f b rest) ∙ op_no_dot op f (b ++ rest) is

pub cmp_reads : IsReader IsCmp on_column cmp_at
unfolding cmp_at
cmp_reads = as_reads IsCmp
    (then_reads col_ref_reads (λ left. suffix_reads op_reads (λ op. made_reads (cmp_of left op) operand_reads)) (λ left cmp suffix rest q ends. op_follows left cmp suffix rest q))
    (λ cmp ts (left, f, b, column, (op, f1, b1, is_op, (right, operand, e), p1), p). subst (λ (c : Cmp). IsCmp c ts) e (f, b, column, (f1, b1, is_op, operand, p1), p))
    (λ cmp ts (f, b, column, (f1, b1, is_op, operand, p1), p). (cmp.left, f, b, column, (cmp.op, f1, b1, is_op, (cmp.right, operand, refl), p1), p))

cmp_begins : Begins is_ident_token true IsCmp
cmp_begins cmp prefix rest (f, b, column, q, p) = ap (λ (us : List Token). begins is_ident_token (us ++ rest)) p ∙ ap (begins is_ident_token) (append_assoc f b rest) ∙ col_ref_begins cmp.left f (b ++ rest) column

-- ---- clauses

abbrev or_word : Token
or_word = tokens.Word (codes "or")

abbrev and_word : Token
and_word = tokens.Word (codes "and")

abbrev clause_of : List Cmp → Clause
clause_of any = record { any = any }

abbrev closed_clause : List Cmp → Unit {0} → Clause
closed_clause any close = clause_of any

abbrev single_clause : Cmp → Clause
single_clause cmp = clause_of (cmp ∷ [])

-- OR or a dot continues
abbrev on_any : Token → Bool
on_any t = is_word (codes "or") t || on_column t

any_reads : IsReader (IsList or_word IsCmp) on_any (λ ts. all_at (is_word (codes "or")) cmp_at ts)
any_reads = reads_all IsCmp or_word (is_word (codes "or")) on_column cmp_at (is_word_self (codes "or")) (is_word_is (codes "or")) cmp_reads refl

close_ends_any : on_any (tokens.Symbol symbols.Close) ≡ false
unfolding same_symbol
close_ends_any = refl

abbrev Bracketed : Phrase Clause
Bracketed = Then (IsToken (tokens.Symbol symbols.Open)) (λ opened. Then (IsList or_word IsCmp) (λ any. Made (closed_clause any) (IsToken (tokens.Symbol symbols.Close))))

bracketed_reads : IsReader Bracketed never bracketed_clause_at
unfolding bracketed_clause_at
bracketed_reads = suffix_reads (symbol_reads symbols.Open) (λ opened. then_reads any_reads (λ any. made_reads (closed_clause any) (symbol_reads symbols.Close))
    (λ any clause suffix rest q ends. end_begins on_any (tokens.Symbol symbols.Close) false close_ends_any suffix rest q.1))

clause_to : (clause : Clause) (ts : List Token) → Either Bracketed (Made single_clause IsCmp) clause ts → IsClause clause ts
clause_to clause ts (inl (opened, f, b, is, (any, f1, b1, list, (closed, is_close, e), p1), p)) = subst (λ (c : Clause). IsClause c ts) e (inr (f, b, is, (f1, b1, list, is_close, p1), p))
clause_to clause ts (inr (cmp, is, e)) = subst (λ (c : Clause). IsClause c ts) e (inl (cmp, refl, is))

clause_from : (clause : Clause) (ts : List Token) → IsClause clause ts → Either Bracketed (Made single_clause IsCmp) clause ts
clause_from clause ts (inl (cmp, e, is)) = inr (cmp, is, ap clause_of (sym e))
clause_from clause ts (inr (f, b, is, (f1, b1, list, is_close, p1), p)) = inl (tt, f, b, is, (clause.any, f1, b1, list, (tt, is_close, refl), p1), p)

clause_reads : IsReader IsClause on_column clause_at
unfolding clause_at
clause_reads = as_reads IsClause
    (either_reads (is_symbol symbols.Open) (before_reads on_column (λ t e. refl) bracketed_reads) (made_reads single_clause cmp_reads)
    (λ clause prefix rest p. token_begins (is_symbol symbols.Open) (tokens.Symbol symbols.Open) true (is_symbol_self symbols.Open) p.1 p.2 prefix rest p.3 p.5)
    (λ clause prefix rest p ends. begins_apart is_ident_token (is_symbol symbols.Open) (ident_no_symbol symbols.Open) (prefix ++ rest) (cmp_begins p.0 prefix rest p.1)))
    clause_to clause_from

-- ---- WHERE

-- AND or a dot continues
abbrev on_clauses : Token → Bool
on_clauses t = is_word (codes "and") t || on_column t

abbrev ClausesChain : Phrase (List Clause)
ClausesChain = Then (IsToken (tokens.Word (codes "where"))) (λ word. IsList and_word IsClause)

clauses_reads : IsReader ClausesChain on_clauses clauses_at
unfolding clauses_at
clauses_reads = suffix_reads (word_reads (codes "where"))
    (λ word. reads_all IsClause and_word (is_word (codes "and")) on_column clause_at (is_word_self (codes "and")) (is_word_is (codes "and")) clause_reads refl)

-- WHERE, AND or a dot continues
abbrev pub on_where : Token → Bool
on_where t = is_word (codes "where") t || on_clauses t

on_where_clauses : (t : Token) → on_where t ≡ false → on_clauses t ≡ false
on_where_clauses t e = or_right (is_word (codes "where") t) (on_clauses t) e

on_where_word : (t : Token) → on_where t ≡ false → is_word (codes "where") t ≡ false
on_where_word t e = or_left (is_word (codes "where") t) (on_clauses t) e

where_to : (clauses : List Clause) (ts : List Token) → Either ClausesChain (Empty []) clauses ts → IsWhere clauses ts
where_to [] ts (inl (word, f, b, is, list, p)) = absurd list
where_to (clause ∷ clauses) ts (inl (word, f, b, is, list, p)) = (f, b, is, list, p)
where_to clauses ts (inr (e, nothing)) = subst (λ (cs : List Clause). IsWhere cs ts) e nothing

where_from : (clauses : List Clause) (ts : List Token) → IsWhere clauses ts → Either ClausesChain (Empty []) clauses ts
where_from [] ts nothing = inr (refl, nothing)
where_from (clause ∷ clauses) ts (f, b, is, list, p) = inl (tt, f, b, is, list, p)

pub where_reads : IsReader IsWhere on_where where_at
unfolding where_at
where_reads = as_reads IsWhere
    (either_reads (is_word (codes "where")) (before_reads on_where on_where_clauses clauses_reads) (gives_before [] on_where)
    (λ clauses prefix rest p. token_begins (is_word (codes "where")) (tokens.Word (codes "where")) true (is_word_self (codes "where")) p.1 p.2 prefix rest p.3 p.5)
    (λ clauses prefix rest p ends. empty_begins (is_word (codes "where")) on_where on_where_word prefix rest p.1 ends))
    where_to where_from

-- a test that fails for WHERE and for the tokens after it fails for an optional WHERE before them
pub where_begins : (is : Token → Bool) → is (tokens.Word (codes "where")) ≡ false → (clauses : List Clause) (prefix rest : List Token) → IsWhere clauses prefix → begins is rest ≡ false → begins is (prefix ++ rest) ≡ false
where_begins is e [] prefix rest nothing ends = ap (λ (us : List Token). begins is (us ++ rest)) nothing ∙ ends
where_begins is e (clause ∷ clauses) prefix rest (f, b, at, list, p) ends = token_begins is (tokens.Word (codes "where")) false e f b prefix rest at p
