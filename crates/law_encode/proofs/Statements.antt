-- Statements are paid for by their tokens, if their names of tables are.
use Rattle.std.proofs.Common.{◌≡◌, ℕ, suc, ◌+◌, ◌*◌, ◌≤◌, List, [], ◌∷◌, map, length, codes, refl, arith}
use Rattle.std.proofs.lemmas.List.{length-append}
use Rattle.rs_base.specs.declared.name.NameText.{NameText}
use Rattle.rs_ast.specs.declared.change.Set.{Set}
use Rattle.rs_ast.specs.declared.change.Term.{Term}
use Rattle.rs_ast.specs.declared.clause.Clause.{Clause}
use Rattle.rs_ast.specs.declared.select.Select.{Select}
use Rattle.rs_ast.specs.declared.stmt.Dml.{Dml}
use Rattle.rs_ast.specs.declared.stmt.Dml.TheVariants as dmls
use Rattle.rs_ast.specs.declared.stmt.Stmt.{Stmt}
use Rattle.rs_ast.specs.declared.stmt.Stmt.TheVariants as stmts
use Rattle.rs_token.specs.declared.token.Symbol.TheVariants as symbols
use Rattle.rs_encode.specs.Form.{list}
use Rattle.rs_encode.specs.Values.{name_text}
use Rattle.rs_encode_ast.specs.Clauses.{clause}
use Rattle.rs_encode_ast.specs.Queries.{query}
use Rattle.rs_encode_ast.specs.Statements.{assignment, dml, term}
use Rattle.rs_parse.specs.Phrases.{AtMost}
use Rattle.rs_parse.specs.Grammar.{IsCommaListOrNone, IsIdent, IsName, IsDml, IsDmlEnded, IsBody, IsStmt, IsEnd, IsRequest}
use Rattle.law_encode.specs.Renamed.{statements, renamed, renamed_query}
use Rattle.law_encode.specs.Laws.{size}
use Rattle.law_encode.proofs.Paid.{IsPaid, unpaid, less, kept, ◌▹◌, total, series_paid, of_three, items_size, list_paid}
use Rattle.law_encode.proofs.Parts.{word_paid, symbol_paid, comma, ident_paid, tuple_paid, assignment_paid}
use Rattle.law_encode.proofs.Clauses.{where_paid}
use Rattle.law_encode.proofs.Queries.{query_paid}

-- ---- statements on rows

select_size : (x : Select) → length (dml.bytes (dmls.Select x)) ≡ suc (length (query.bytes x))
unfolding dml
select_size x = refl

insert_size : (name : NameText) (rows : List (List Term)) → length (dml.bytes (dmls.Insert name rows)) ≡ suc (length (name_text.bytes name) + length ((list (list term)).bytes rows))
unfolding dml
insert_size name rows = omega (arith, length-append (name_text.bytes name) ((list (list term)).bytes rows))

update_size : (name : NameText) (sets : List Set) (clauses : List Clause) → length (dml.bytes (dmls.Update name sets clauses))
    ≡ suc (length (name_text.bytes name) + (length ((list assignment).bytes sets) + length ((list clause).bytes clauses)))
unfolding dml
update_size name sets clauses = omega (arith, of_three (name_text.bytes name) ((list assignment).bytes sets) ((list clause).bytes clauses))

delete_size : (name : NameText) (clauses : List Clause) → length (dml.bytes (dmls.Delete name clauses)) ≡ suc (length (name_text.bytes name) + length ((list clause).bytes clauses))
unfolding dml
delete_size name clauses = omega (arith, length-append (name_text.bytes name) ((list clause).bytes clauses))

params_paid : (params : List (List ℕ)) → IsPaid (AtMost 16 (IsCommaListOrNone IsIdent) params) 0 0
params_paid params = unpaid 0

module _ (rename : NameText → NameText) (named : (name : NameText) → IsPaid (IsName name) (length (name_text.bytes (rename name))) 55) where
  dml_paid : (x : Dml) → IsPaid (IsDml x) (length (dml.bytes (renamed rename x))) 490
  dml_paid (dmls.Select x) = less (query_paid rename named x) (omega (arith, select_size (renamed_query rename x)))
  dml_paid (dmls.Insert name rows) =
      less (word_paid (codes "insert") ▹ word_paid (codes "into") ▹ named name ▹ word_paid (codes "values") ▹ list_paid (list term) comma tuple_paid (omega arith) rows)
      (omega (arith, insert_size (rename name) rows))
  dml_paid (dmls.Update name sets clauses) =
      less (word_paid (codes "update") ▹ named name ▹ word_paid (codes "set") ▹ kept (length sets ≤ 16) (list_paid assignment comma assignment_paid (omega arith) sets) ▹ where_paid clauses)
      (omega (arith, update_size (rename name) sets clauses))
  dml_paid (dmls.Delete name clauses) =
      less (word_paid (codes "delete") ▹ word_paid (codes "from") ▹ named name ▹ where_paid clauses)
      (omega (arith, delete_size (rename name) clauses))

  -- ---- statements of texts

  dml_ended_paid : (x : Dml) → IsPaid (IsDmlEnded x) (length (dml.bytes (renamed rename x))) 512
  dml_ended_paid x = less (dml_paid x ▹ symbol_paid symbols.Semicolon) (omega arith)

  body_paid : (body : List Dml) → IsPaid (IsBody body) (total (λ x. length (dml.bytes (renamed rename x))) body) (512 * length body)
  body_paid [] = record { paid = λ ts formed is. absurd is }
  body_paid (x ∷ body) = kept (length (x ∷ body) ≤ 8) (series_paid dml_ended_paid (x ∷ body))

  stmt_paid : (stmt : Stmt) → IsPaid (IsStmt stmt) (size (map (renamed rename) (statements stmt))) (512 * length (statements stmt))
  stmt_paid (stmts.CreateTable name columns) = unpaid 0
  stmt_paid (stmts.DropTable name) = unpaid 0
  stmt_paid (stmts.CreateIndex index name column) = unpaid 0
  stmt_paid (stmts.DropIndex index name) = unpaid 0
  stmt_paid (stmts.CreateSynonym synonym name) = unpaid 0
  stmt_paid (stmts.DropSynonym synonym) = unpaid 0
  stmt_paid (stmts.Migrate name to) = unpaid 0
  stmt_paid (stmts.Compile program params body) =
      less (word_paid (codes "compile") ▹ ident_paid program ▹ symbol_paid symbols.Open ▹ params_paid params ▹ symbol_paid symbols.Close
      ▹ word_paid (codes "as") ▹ body_paid body ▹ word_paid (codes "end"))
      (omega (arith, items_size dml (renamed rename) body))
  stmt_paid (stmts.DropProgram program) = unpaid 0
  stmt_paid (stmts.Execute program given) = unpaid 0
  stmt_paid (stmts.Explain select) =
      less (word_paid (codes "explain") ▹ query_paid rename named select)
      (omega (arith, items_size dml (renamed rename) (dmls.Select select ∷ []), select_size (renamed_query rename select)))
  stmt_paid stmts.ShowSections = unpaid 0
  stmt_paid stmts.ShowCache = unpaid 0
  stmt_paid (stmts.Dml x) = less (dml_paid x) (omega (arith, items_size dml (renamed rename) (x ∷ [])))

  end_paid : IsPaid IsEnd 0 0
  end_paid = unpaid 0

  pub request_paid : (stmt : Stmt) → IsPaid (IsRequest stmt) (size (map (renamed rename) (statements stmt))) (512 * length (statements stmt))
  request_paid stmt = less (stmt_paid stmt ▹ end_paid) (omega arith)
