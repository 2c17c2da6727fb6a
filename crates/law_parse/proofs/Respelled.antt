-- The printed tokens of a statement are a phrase of it.
use Rattle.std.proofs.Common.{ℕ, List, [], ◌∷◌, ◌++◌, codes, ap, ◌∙◌, append_assoc}
use Rattle.rs_base.specs.declared.name.NameText.{NameText}
use Rattle.rs_ast.specs.declared.change.Set.{Set}
use Rattle.rs_ast.specs.declared.clause.Clause.{Clause}
use Rattle.rs_ast.specs.declared.stmt.Dml.{Dml}
use Rattle.rs_ast.specs.declared.stmt.Dml.TheVariants as dmls
use Rattle.rs_ast.specs.declared.stmt.Stmt.{Stmt}
use Rattle.rs_ast.specs.declared.stmt.Stmt.TheVariants as stmts
use Rattle.rs_token.specs.declared.token.Symbol.TheVariants as symbols
use Rattle.rs_token.specs.declared.token.Token.{Token}
use Rattle.rs_token.specs.declared.token.Token.TheVariants as tokens
use Rattle.rs_unparse.specs.Unparsed.{comma, unparsed_list, unparsed_tuple, unparsed_ident, unparsed_name, unparsed_where, unparsed_set, unparsed_dml, unparsed_step, unparsed_steps, unparsed_stmt}
use Rattle.rs_parse.specs.Grammar.{IsDml, IsDmlEnded, IsBody, IsStmt}
use Rattle.law_parse.proofs.TokenForms.{AreFormed}
use Rattle.law_parse.proofs.Respelling.{IsRespelled, word_respelled, symbol_respelled, ◌▹◌, bracketed_respelled, respelled_so, series_respelled, list_respelled, at_most_respelled, list_or_none_respelled}
use Rattle.law_parse.proofs.RespelledTerms.{ident_respelled, site_respelled, name_respelled, column_respelled, literal_respelled, tuple_respelled, set_respelled}
use Rattle.law_parse.proofs.RespelledSelect.{where_respelled, select_respelled}

-- ---- INSERT, UPDATE and DELETE

update_respelled : (name : NameText) (sets : List Set) (clauses : List Clause) → IsRespelled (IsDml (dmls.Update name sets clauses)) (unparsed_dml (dmls.Update name sets clauses))
unfolding unparsed_dml
update_respelled name sets clauses =
    let changed = tokens.Word (codes "set") ∷ unparsed_list comma unparsed_set sets in
    respelled_so (ap (λ (ts : List Token). tokens.Word (codes "update") ∷ ts) (append_assoc (unparsed_name name) changed (unparsed_where clauses)))
    (word_respelled (codes "update") ▹ name_respelled name
    ▹ word_respelled (codes "set") ▹ at_most_respelled 16 (list_respelled comma set_respelled) sets ▹ where_respelled clauses)

dml_respelled : (dml : Dml) → IsRespelled (IsDml dml) (unparsed_dml dml)
unfolding unparsed_dml
dml_respelled (dmls.Select select) = select_respelled select
dml_respelled (dmls.Insert name rows) =
    word_respelled (codes "insert") ▹ word_respelled (codes "into") ▹ name_respelled name ▹ word_respelled (codes "values") ▹ list_respelled comma tuple_respelled rows
dml_respelled (dmls.Update name sets clauses) = update_respelled name sets clauses
dml_respelled (dmls.Delete name clauses) = word_respelled (codes "delete") ▹ word_respelled (codes "from") ▹ name_respelled name ▹ where_respelled clauses

-- ---- programs

step_respelled : (dml : Dml) → IsRespelled (IsDmlEnded dml) (unparsed_step dml)
unfolding unparsed_step
step_respelled dml = dml_respelled dml ▹ symbol_respelled symbols.Semicolon

body_respelled : (body : List Dml) → IsRespelled (IsBody body) (unparsed_steps body)
unfolding unparsed_steps
body_respelled [] = record { respelled = λ ts is formed. absurd is }
body_respelled (dml ∷ dmls) = at_most_respelled 8 (series_respelled step_respelled) (dml ∷ dmls)

compile_respelled : (program : List ℕ) (params : List (List ℕ)) (body : List Dml) → IsRespelled (IsStmt (stmts.Compile program params body)) (unparsed_stmt (stmts.Compile program params body))
unfolding unparsed_stmt unparsed_tuple
compile_respelled program params body =
    let separated_list = unparsed_list comma unparsed_ident params in
    let closed = tokens.Symbol symbols.Close ∷ [] in
    let steps = tokens.Word (codes "as") ∷ unparsed_steps body in
    let ended = tokens.Word (codes "end") ∷ [] in
    respelled_so (ap (λ (ts : List Token). tokens.Word (codes "compile") ∷ tokens.Word program ∷ tokens.Symbol symbols.Open ∷ ts)
    (append_assoc (separated_list ++ closed) steps ended ∙ append_assoc separated_list closed (steps ++ ended)))
    (word_respelled (codes "compile") ▹ ident_respelled program
    ▹ symbol_respelled symbols.Open ▹ at_most_respelled 16 (list_or_none_respelled ident_respelled) params ▹ symbol_respelled symbols.Close
    ▹ word_respelled (codes "as") ▹ body_respelled body ▹ word_respelled (codes "end"))

-- ---- statements

each_respelled : (stmt : Stmt) → IsRespelled (IsStmt stmt) (unparsed_stmt stmt)
unfolding unparsed_stmt unparsed_tuple
each_respelled (stmts.CreateTable name columns) =
    word_respelled (codes "create") ▹ word_respelled (codes "table") ▹ name_respelled name ▹ bracketed_respelled (at_most_respelled 16 (list_respelled comma column_respelled) columns)
each_respelled (stmts.DropTable name) = word_respelled (codes "drop") ▹ word_respelled (codes "table") ▹ name_respelled name
each_respelled (stmts.CreateIndex index name column) =
    word_respelled (codes "create") ▹ word_respelled (codes "index") ▹ ident_respelled index ▹ word_respelled (codes "on") ▹ name_respelled name ▹ bracketed_respelled (ident_respelled column)
each_respelled (stmts.DropIndex index name) = word_respelled (codes "drop") ▹ word_respelled (codes "index") ▹ ident_respelled index ▹ word_respelled (codes "on") ▹ name_respelled name
each_respelled (stmts.CreateSynonym synonym name) =
    word_respelled (codes "create") ▹ word_respelled (codes "synonym") ▹ ident_respelled synonym ▹ word_respelled (codes "for") ▹ name_respelled name
each_respelled (stmts.DropSynonym synonym) = word_respelled (codes "drop") ▹ word_respelled (codes "synonym") ▹ ident_respelled synonym
each_respelled (stmts.Migrate name to) = word_respelled (codes "migrate") ▹ word_respelled (codes "table") ▹ name_respelled name ▹ word_respelled (codes "to") ▹ site_respelled to
each_respelled (stmts.Compile program params body) = compile_respelled program params body
each_respelled (stmts.DropProgram program) = word_respelled (codes "drop") ▹ word_respelled (codes "program") ▹ ident_respelled program
each_respelled (stmts.Execute program given) =
    word_respelled (codes "execute") ▹ ident_respelled program ▹ bracketed_respelled (at_most_respelled 16 (list_or_none_respelled literal_respelled) given)
each_respelled (stmts.Explain select) = word_respelled (codes "explain") ▹ select_respelled select
each_respelled stmts.ShowSections = word_respelled (codes "show") ▹ word_respelled (codes "sections")
each_respelled stmts.ShowCache = word_respelled (codes "show") ▹ word_respelled (codes "cache")
each_respelled (stmts.Dml dml) = dml_respelled dml

-- If tokens that a text may have are a phrase of a statement, so are its printed tokens, and a text may have them.
pub stmt_respelled : (stmt : Stmt) (ts : List Token) → IsStmt stmt ts → AreFormed ts → IsStmt stmt (unparsed_stmt stmt) × AreFormed (unparsed_stmt stmt)
stmt_respelled stmt ts is formed = (each_respelled stmt).respelled ts is formed
