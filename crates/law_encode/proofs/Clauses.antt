-- Comparisons and predicates are paid for by their tokens.
use Rattle.std.proofs.Common.{◌≡◌, ℕ, suc, ◌+◌, ◌≤◌, List, [], ◌∷◌, length, codes, refl, ap, arith, inl, inr}
use Rattle.rs_base.specs.declared.value.Value.{Value}
use Rattle.rs_ast.specs.declared.clause.Clause.{Clause}
use Rattle.rs_ast.specs.declared.clause.Cmp.{Cmp}
use Rattle.rs_ast.specs.declared.clause.Op.{Op}
use Rattle.rs_ast.specs.declared.clause.Op.TheVariants as ops
use Rattle.rs_ast.specs.declared.clause.Operand.{Operand}
use Rattle.rs_ast.specs.declared.clause.Operand.TheVariants as operands
use Rattle.rs_ast.specs.declared.column.ColRef.{ColRef}
use Rattle.rs_token.specs.declared.token.Symbol.TheVariants as symbols
use Rattle.rs_token.specs.declared.token.Token.{Token}
use Rattle.rs_token.specs.declared.token.Token.TheVariants as tokens
use Rattle.rs_encode.specs.Form.{list}
use Rattle.rs_encode.specs.Values.{ident, value}
use Rattle.rs_encode_ast.specs.Clauses.{clause, cmp, col_ref, op, operand}
use Rattle.rs_parse.specs.Grammar.{IsOp, IsOperand, IsCmp, IsClause, IsWhere}
use Rattle.law_parse.proofs.TokenForms.{AreFormed}
use Rattle.law_encode.proofs.Costs.{cost, costs, word_cost}
use Rattle.law_encode.proofs.Paid.{IsPaid, unpaid, less, ◌▹◌, of_three, list_size, no_items, list_paid}
use Rattle.law_encode.proofs.Parts.{word_paid, symbol_paid, col_ref_paid, literal_paid, param_paid}

-- ---- comparisons

op_size : (o : Op) → length (op.bytes o) ≡ 1
unfolding op
op_size ops.Eq = refl
op_size ops.Ne = refl
op_size ops.Lt = refl
op_size ops.Le = refl
op_size ops.Gt = refl
op_size ops.Ge = refl

op_paid : (o : Op) → IsPaid (IsOp o) 2 0
op_paid ops.Eq = symbol_paid symbols.Equal
op_paid ops.Ne = symbol_paid symbols.NotEqual
op_paid ops.Lt = symbol_paid symbols.Less
op_paid ops.Le = symbol_paid symbols.LessOrEqual
op_paid ops.Gt = symbol_paid symbols.Greater
op_paid ops.Ge = symbol_paid symbols.GreaterOrEqual

column_size : (c : ColRef) → length (operand.bytes (operands.Col c)) ≡ suc (length (col_ref.bytes c))
unfolding operand
column_size c = refl

literal_size : (v : Value) → length (operand.bytes (operands.Lit v)) ≡ suc (length (value.bytes v))
unfolding operand
literal_size v = refl

param_size : (param : List ℕ) → length (operand.bytes (operands.Param param)) ≡ suc (length (ident.bytes param))
unfolding operand
param_size param = refl

operand_paid : (x : Operand) → IsPaid (IsOperand x) (length (operand.bytes x)) 2
operand_paid (operands.Col c) = less (col_ref_paid c) (omega (arith, column_size c))
operand_paid (operands.Lit v) = less (literal_paid v) (omega (arith, literal_size v))
operand_paid (operands.Param param) = less (param_paid param) (omega (arith, param_size param))

cmp_size : (x : Cmp) → length (cmp.bytes x) ≡ length (col_ref.bytes x.left) + (length (op.bytes x.op) + length (operand.bytes x.right))
unfolding cmp
cmp_size x = of_three (col_ref.bytes x.left) (op.bytes x.op) (operand.bytes x.right)

cmp_paid : (x : Cmp) → IsPaid (IsCmp x) (length (cmp.bytes x)) 2
cmp_paid x = less (col_ref_paid x.left ▹ op_paid x.op ▹ operand_paid x.right) (omega (arith, cmp_size x, op_size x.op))

-- ---- predicates

clause_size : (x : Clause) → length (clause.bytes x) ≡ length ((list cmp).bytes x.any)
unfolding clause
clause_size x = refl

abbrev or_word : Token
or_word = tokens.Word (codes "or")

or_pays : 2 + 1 ≤ cost or_word
or_pays = word_cost (codes "or")

clause_costs : (x : Clause) (ts : List Token) → AreFormed ts → IsClause x ts → length (clause.bytes x) ≤ costs ts + 3
clause_costs x ts formed (inl (c, one, is)) =
    let same = ap (λ (any : List Cmp). length ((list cmp).bytes any)) one in
    let size = list_size cmp (c ∷ []) (omega arith) in
    omega (arith, clause_size x, same, size, (cmp_paid c).paid ts formed is)
clause_costs x ts formed (inr is) =
    let pays = (symbol_paid symbols.Open ▹ list_paid cmp or_word cmp_paid or_pays x.any ▹ symbol_paid symbols.Close).paid ts formed is in
    omega (arith, clause_size x, pays)

clause_paid : (x : Clause) → IsPaid (IsClause x) (length (clause.bytes x)) 3
clause_paid x = record { paid = λ ts formed is. clause_costs x ts formed is }

abbrev and_word : Token
and_word = tokens.Word (codes "and")

and_pays : 3 + 1 ≤ cost and_word
and_pays = word_cost (codes "and")

pub where_paid : (clauses : List Clause) → IsPaid (IsWhere clauses) (length ((list clause).bytes clauses)) 1
where_paid [] = less (unpaid 1) (omega (arith, no_items clause))
where_paid (c ∷ clauses) =
    less (word_paid (codes "where") ▹ list_paid clause and_word clause_paid and_pays (c ∷ clauses)) (omega (arith, word_cost (codes "where")))
