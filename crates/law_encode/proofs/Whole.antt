-- The tokens of a text pay for the statements in it.
use Rattle.std.proofs.Common.{◌≡◌, ◌≤◌, List, [], ◌∷◌, map, length, refl, ap, ◌∙◌, arith}
use Rattle.std.proofs.lemmas.List.{map-id}
use Rattle.rs_base.specs.declared.name.NameText.{NameText}
use Rattle.rs_ast.specs.declared.select.TableRef.{TableRef}
use Rattle.rs_ast.specs.declared.stmt.Dml.{Dml}
use Rattle.rs_ast.specs.declared.stmt.Dml.TheVariants as dmls
use Rattle.rs_ast.specs.declared.stmt.Stmt.{Stmt}
use Rattle.rs_ast.specs.declared.stmt.Stmt.TheVariants as stmts
use Rattle.rs_encode.specs.Values.{name_text}
use Rattle.rs_token.specs.declared.token.Token.{Token}
use Rattle.rs_token.specs.Tokens.{split_of}
use Rattle.rs_parse.specs.Grammar.{IsName, IsBody, IsStmt}
use Rattle.law_parse.proofs.PrintedTokens.{tokens_formed}
use Rattle.law_encode.specs.Renamed.{statements, renamed}
use Rattle.law_encode.specs.Laws.{size, StatementsAreShort, KeepsNameLimits, RenamedAreShort, ProgramsAreShort}
use Rattle.law_encode.proofs.Counts.{counts}
use Rattle.law_encode.proofs.Paid.{IsPaid}
use Rattle.law_encode.proofs.Parts.{other_name_paid}
use Rattle.law_encode.proofs.Statements.{request_paid}

-- ---- statements with other names

names_paid : (rename : NameText → NameText) → KeepsNameLimits rename → (name : NameText) → IsPaid (IsName name) (length (name_text.bytes (rename name))) 55
names_paid rename keeps name = other_name_paid name (rename name) (keeps name)

pub renamed_are_short : RenamedAreShort
renamed_are_short text stmt rename spells keeps =
    omega (arith, (request_paid rename (names_paid rename keeps) stmt).paid (split_of text).tokens (tokens_formed text) spells.1, counts text)

few_in_body : (body : List Dml) (ts : List Token) → IsBody body ts → length body ≤ 8
few_in_body [] ts is = absurd is
few_in_body (x ∷ body) ts is = is.0

few_statements : (stmt : Stmt) (ts : List Token) → IsStmt stmt ts → length (statements stmt) ≤ 8
few_statements (stmts.CreateTable name columns) ts is = omega arith
few_statements (stmts.DropTable name) ts is = omega arith
few_statements (stmts.CreateIndex index name column) ts is = omega arith
few_statements (stmts.DropIndex index name) ts is = omega arith
few_statements (stmts.CreateSynonym synonym name) ts is = omega arith
few_statements (stmts.DropSynonym synonym) ts is = omega arith
few_statements (stmts.Migrate name to) ts is = omega arith
few_statements (stmts.Compile program params body) ts (a, b, compile, (c, d, named, (e, f, begun, (g, h, given, (i, j, ended, (k, l, as_is, (m, n, is, end_is, s), t), u), v), w), x), y) =
    few_in_body body m is
few_statements (stmts.DropProgram program) ts is = omega arith
few_statements (stmts.Execute program given) ts is = omega arith
few_statements (stmts.Explain select) ts is = omega arith
few_statements stmts.ShowSections ts is = omega arith
few_statements stmts.ShowCache ts is = omega arith
few_statements (stmts.Dml x) ts is = omega arith

pub programs_are_short : ProgramsAreShort
programs_are_short text stmt rename spells keeps =
    omega (arith, renamed_are_short text stmt rename spells keeps, few_statements stmt spells.1.0 spells.1.2)

-- ---- statements as they are written

abbrev same_name : NameText → NameText
same_name name = name

renamed_same : (x : Dml) → renamed same_name x ≡ x
renamed_same (dmls.Select select) = ap (λ (from : List TableRef). dmls.Select (record select { from = from })) (map-id select.from)
renamed_same (dmls.Insert name rows) = refl
renamed_same (dmls.Update name sets clauses) = refl
renamed_same (dmls.Delete name clauses) = refl

all_same : (xs : List Dml) → map (renamed same_name) xs ≡ xs
all_same [] = refl
all_same (x ∷ xs) = ap (λ (y : Dml). y ∷ map (renamed same_name) xs) (renamed_same x) ∙ ap (λ (ys : List Dml). x ∷ ys) (all_same xs)

pub statements_are_short : StatementsAreShort
statements_are_short text stmt spells =
    omega (arith, renamed_are_short text stmt same_name spells (λ name fits. fits), ap size (all_same (statements stmt)))
