-- A statement that the grammar derives keeps the limits of statements.
use Rattle.std.proofs.Common.{◌≡◌, ℕ, ◌≤◌, Bool, true, List, [], ◌∷◌, length, Some, None, refl, arith, ap, inl, inr}
use Rattle.std.specs.Prelude.{nat_le}
use Rattle.std.specs.List.{list_all}
use Rattle.std.proofs.lemmas.Bool.{and_from, le-leb}
use Rattle.rs_ast.specs.declared.change.Term.TheVariants as terms
use Rattle.rs_ast.specs.declared.clause.Clause.{Clause}
use Rattle.rs_ast.specs.declared.clause.Cmp.{Cmp}
use Rattle.rs_ast.specs.declared.stmt.Dml.{Dml}
use Rattle.rs_ast.specs.declared.stmt.Dml.TheVariants as dmls
use Rattle.rs_ast.specs.declared.stmt.Stmt.{Stmt}
use Rattle.rs_ast.specs.declared.stmt.Stmt.TheVariants as stmts
use Rattle.rs_ast.specs.Limits.{up_to, one_to, clauses_keep_limits, items_keep_limits, select_keeps_limits, is_given, row_keeps_limits, dml_keeps_limits, stmt_keeps_limits, KeepsLimits}
use Rattle.rs_token.specs.declared.token.Token.{Token}
use Rattle.rs_parse.specs.Phrases.{Phrase, IsSeries, After, IsList, AtMost}
use Rattle.rs_parse.specs.Grammar.{IsVal, IsTuple, IsClause, IsWhere, IsItems, IsGroup, IsOrder, IsSelect, IsDml, IsDmlEnded, IsBody, IsStmt, IsRequest}

-- ---- lists

-- each value of such a phrase passes the test
abbrev Passes : {A : Type 0} → (A → Bool) → Phrase A → Type 0
Passes {A} test P = (x : A) (ts : List Token) → P x ts → test x ≡ true

series_pass : {A : Type 0} {P : Phrase A} (test : A → Bool) → Passes test P → Passes (list_all test) (IsSeries P)
series_pass test passes [] ts is = refl
series_pass test passes (x ∷ xs) ts (prefix, suffix, first, rest, separated) =
    and_from (test x) (list_all test xs) (passes x prefix first) (series_pass test passes xs suffix rest)

after_passes : {A : Type 0} {P : Phrase A} (separator : Token) (test : A → Bool) → Passes test P → Passes test (After separator P)
after_passes separator test passes x ts (prefix, suffix, first, rest, separated) = passes x suffix rest

list_passes : {A : Type 0} {P : Phrase A} (separator : Token) (test : A → Bool) → Passes test P → Passes (list_all test) (IsList separator P)
list_passes separator test passes [] ts is = absurd is
list_passes separator test passes (x ∷ xs) ts (prefix, suffix, first, rest, separated) =
    and_from (test x) (list_all test xs) (passes x prefix first) (series_pass test (after_passes separator test passes) xs suffix rest)

list_is_filled : {A : Type 0} (P : Phrase A) (separator : Token) (xs : List A) (ts : List Token) → IsList separator P xs ts → 1 ≤ length xs
list_is_filled P separator [] ts is = absurd is
list_is_filled P separator (x ∷ xs) ts is = omega arith

filled_passes : {A : Type 0} (P : Phrase A) (separator : Token) → Passes (λ (xs : List A). nat_le 1 (length xs)) (IsList separator P)
filled_passes P separator xs ts is = le-leb 1 (length xs) (list_is_filled P separator xs ts is)

one_to_passes : {A : Type 0} (P : Phrase A) (separator : Token) (most : ℕ) → Passes (one_to most) (AtMost most (IsList separator P))
one_to_passes P separator most xs ts (few, is) = and_from (nat_le 1 (length xs)) (up_to most xs) (filled_passes P separator xs ts is) (le-leb (length xs) most few)

-- ---- queries

clause_keeps : Passes (λ (clause : Clause). nat_le 1 (length clause.any)) IsClause
clause_keeps clause ts (inl (cmp, one, is)) = ap (λ (any : List Cmp). nat_le 1 (length any)) one
clause_keeps clause ts (inr (opening, rest, begun, (any, closing, is, ended, separated), separated')) = filled_passes _ _ clause.any any is

where_keeps : Passes clauses_keep_limits IsWhere
where_keeps [] ts is = refl
where_keeps (clause ∷ clauses) ts (prefix, suffix, word, is, separated) = list_passes _ _ clause_keeps (clause ∷ clauses) suffix is

items_keep : Passes items_keep_limits IsItems
items_keep None ts is = refl
items_keep (Some shown) ts is = one_to_passes _ _ 16 shown ts is

group_keeps : Passes (up_to 16) IsGroup
group_keeps [] ts is = refl
group_keeps (c ∷ cs) ts (a, b, group, (c', d, by, (few, is), separated), separated') = le-leb (length (c ∷ cs)) 16 few

order_keeps : Passes (up_to 16) IsOrder
order_keeps [] ts is = refl
order_keeps (key ∷ keys) ts (a, b, order, (c, d, by, (few, is), separated), separated') = le-leb (length (key ∷ keys)) 16 few

select_keeps : Passes select_keeps_limits IsSelect
select_keeps select ts (a, b, word, (c, d, distinct, (e, f, shown, (g, h, from, (i, j, tables, (k, l, where_is, (m, n, group, order, s), t), u), v), w), x), y) =
    and_from _ (up_to 16 select.order)
    (and_from _ (up_to 16 select.group)
    (and_from _ (clauses_keep_limits select.clauses)
    (and_from (items_keep_limits select.items) (one_to 6 select.from) (items_keep select.items e shown) (one_to_passes _ _ 6 select.from i tables))
    (where_keeps select.clauses k where_is))
    (group_keeps select.group m group))
    (order_keeps select.order n order)

-- ---- changes

val_is_given : Passes is_given IsVal
val_is_given (terms.Col column) ts is = absurd is
val_is_given (terms.Lit value) ts is = refl
val_is_given (terms.Param param) ts is = refl

tuple_keeps : Passes row_keeps_limits IsTuple
tuple_keeps row ts (a, b, begun, (c, d, (few, is), ended, separated), separated') =
    and_from (one_to 16 row) (list_all is_given row) (one_to_passes _ _ 16 row c (few, is)) (list_passes _ is_given val_is_given row c is)

dml_keeps : Passes dml_keeps_limits IsDml
dml_keeps (dmls.Select select) ts is = select_keeps select ts is
dml_keeps (dmls.Insert name rows) ts (a, b, insert, (c, d, into, (e, f, named, (g, h, word, is, s), t), u), v) =
    and_from (nat_le 1 (length rows)) (list_all row_keeps_limits rows) (filled_passes _ _ rows h is) (list_passes _ row_keeps_limits tuple_keeps rows h is)
dml_keeps (dmls.Update name sets clauses) ts (a, b, update, (c, d, named, (e, f, word, (g, h, assigned, where_is, s), t), u), v) =
    and_from (one_to 16 sets) (clauses_keep_limits clauses) (one_to_passes _ _ 16 sets g assigned) (where_keeps clauses h where_is)
dml_keeps (dmls.Delete name clauses) ts (a, b, delete, (c, d, from, (e, f, named, where_is, s), t), u) = where_keeps clauses f where_is

-- ---- statements

dml_ended_keeps : Passes dml_keeps_limits IsDmlEnded
dml_ended_keeps dml ts (prefix, suffix, is, semicolon, separated) = dml_keeps dml prefix is

body_keeps : (body : List Dml) (ts : List Token) → IsBody body ts → (one_to 8 body ≡ true) × (list_all dml_keeps_limits body ≡ true)
body_keeps [] ts is = absurd is
body_keeps (dml ∷ dmls) ts (few, is) = (and_from (nat_le 1 (length (dml ∷ dmls))) (up_to 8 (dml ∷ dmls)) (le-leb 1 (length (dml ∷ dmls)) (omega arith)) (le-leb (length (dml ∷ dmls)) 8 few), series_pass dml_keeps_limits dml_ended_keeps (dml ∷ dmls) ts is)

stmt_keeps : (stmt : Stmt) (ts : List Token) → IsStmt stmt ts → stmt_keeps_limits stmt ≡ true
stmt_keeps (stmts.CreateTable name columns) ts (a, b, create, (c, d, table, (e, f, named, (g, h, begun, (i, j, is, ended, s), t), u), v), w) = one_to_passes _ _ 16 columns i is
stmt_keeps (stmts.DropTable name) ts is = refl
stmt_keeps (stmts.CreateIndex index name column) ts is = refl
stmt_keeps (stmts.DropIndex index name) ts is = refl
stmt_keeps (stmts.CreateSynonym synonym name) ts is = refl
stmt_keeps (stmts.DropSynonym synonym) ts is = refl
stmt_keeps (stmts.Migrate name to) ts is = refl
stmt_keeps (stmts.Compile program params body) ts
    (a, b, compile, (c, d, named, (e, f, begun, (g, h, (few, given), (i, j, ended, (k, l, as_is, (m, n, is, end_is, s), t), u), v), w), x), y) =
    let both = body_keeps body m is in
    and_from _ (list_all dml_keeps_limits body) (and_from (up_to 16 params) (one_to 8 body) (le-leb (length params) 16 few) both.0) both.1
stmt_keeps (stmts.DropProgram program) ts is = refl
stmt_keeps (stmts.Execute program given) ts (a, b, execute, (c, d, named, (e, f, begun, (g, h, (few, is), ended, s), t), u), v) = le-leb (length given) 16 few
stmt_keeps (stmts.Explain select) ts (prefix, suffix, explain, is, separated) = select_keeps select suffix is
stmt_keeps stmts.ShowSections ts is = refl
stmt_keeps stmts.ShowCache ts is = refl
stmt_keeps (stmts.Dml dml) ts is = dml_keeps dml ts is

pub request_keeps : (stmt : Stmt) (ts : List Token) → IsRequest stmt ts → KeepsLimits stmt
request_keeps stmt ts (prefix, suffix, is, end_is, separated) = stmt_keeps stmt prefix is
