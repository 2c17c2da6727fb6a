-- The printed text of a statement that has a text is one of its texts: printed tokens are split again, and the printed
-- tokens of a statement are a phrase of it.
use Rattle.std.proofs.Common.{◌≡◌, ℕ, true, List, [], ◌∷◌, ◌++◌, refl, sym, subst, inl}
use Rattle.std.proofs.lemmas.List.{append-nil}
use Rattle.rs_ast.specs.declared.stmt.Stmt.{Stmt}
use Rattle.rs_token.specs.declared.token.Token.{Token}
use Rattle.rs_unparse.specs.Unparsed.{unparsed_stmt}
use Rattle.rs_unparse.specs.Printed.{printed_tokens, printed_stmt}
use Rattle.rs_token.specs.Tokens.{split_of}
use Rattle.rs_parse.specs.Grammar.{IsStmt, IsRequest}
use Rattle.rs_parse.specs.Parsing.{Spells}
use Rattle.law_parse.proofs.TokenForms.{AreFormed}

-- a prefix of tokens that a text may have
prefix_formed : (prefix suffix : List Token) → AreFormed (prefix ++ suffix) → AreFormed prefix
prefix_formed [] suffix formed = tt
prefix_formed (t ∷ prefix) suffix formed = (formed.0, prefix_formed prefix suffix formed.1)

-- a statement is a request, without a semicolon
stmt_requests : (stmt : Stmt) (ts : List Token) → IsStmt stmt ts → IsRequest stmt ts
stmt_requests stmt ts is = (ts, [], is, inl refl, sym (append-nil ts))

-- the tokens of a statement that has a text
tokens_of : (stmt : Stmt) (ts : List Token) → IsRequest stmt ts → AreFormed ts → (prefix : List Token) × IsStmt stmt prefix × AreFormed prefix
tokens_of stmt ts (prefix, suffix, is, ends, separated) formed = (prefix, is, prefix_formed prefix suffix (subst AreFormed separated formed))

-- printed tokens are split again
abbrev pub PrintedIsSplit : Type 0
PrintedIsSplit = (ts : List Token) → AreFormed ts → ((split_of (printed_tokens ts)).tokens ≡ ts) × ((split_of (printed_tokens ts)).whole ≡ true)

-- the tokens of a text are formed
abbrev pub TokensAreFormed : Type 0
TokensAreFormed = (text : List ℕ) → AreFormed (split_of text).tokens

-- the printed tokens of a statement that has formed tokens are a phrase of it
abbrev pub StmtIsRespelled : Type 0
StmtIsRespelled = (stmt : Stmt) (ts : List Token) → IsStmt stmt ts → AreFormed ts → IsStmt stmt (unparsed_stmt stmt) × AreFormed (unparsed_stmt stmt)

-- The printed text of a statement that has a text is one of its texts.
pub printed_is_read : PrintedIsSplit → TokensAreFormed → StmtIsRespelled → (text : List ℕ) (stmt : Stmt) → Spells text stmt → Spells (printed_stmt stmt) stmt
printed_is_read split_of_printed tokens_formed stmt_respelled text stmt (whole, is) =
    let of_text = tokens_of stmt (split_of text).tokens is (tokens_formed text) in
    let again = stmt_respelled stmt of_text.0 of_text.1 of_text.2 in
    let split = split_of_printed (unparsed_stmt stmt) again.1 in
    (split.1, subst (IsRequest stmt) (sym split.0) (stmt_requests stmt (unparsed_stmt stmt) again.0))
