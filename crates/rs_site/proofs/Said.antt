-- The reply to a text without a supported statement.
use Rattle.std.proofs.Common.{◌≡◌, ℕ, ◌≤◌, true, false, cond, List, length, Option, Some, None, refl, inl, inr}
use Rattle.rs_ast.specs.declared.stmt.Stmt.{Stmt}
use Rattle.rs_mean.specs.Executed.{is_executed}
use Rattle.rs_parse.specs.Parsing.{Parsed, Statement, FaultAt, parsed_of}
use Rattle.rs_parse.proofs.ParseLaws.{parsed_spelled, fault_offset}
use Rattle.rs_site.specs.Statement.{if_executed, statement_said, statement_of, offset_said, offset_replied, SaysNothing}

-- a statement that isn't supported isn't executed
not_executed : (stmt : Stmt) → if_executed stmt ≡ None → is_executed stmt ≡ false
not_executed stmt = elim (is_executed stmt) as (λ b. cond {A = Option Stmt} b (Some stmt) None ≡ None → b ≡ false) [ true ↦ λ e. absurd cc | false ↦ λ e. refl ]

-- a supported statement is the one that was parsed
pub executed_is : (parsed stmt : Stmt) → if_executed parsed ≡ Some stmt → parsed ≡ stmt
executed_is parsed stmt = elim (is_executed parsed) as (λ b. cond {A = Option Stmt} b (Some parsed) None ≡ Some stmt → parsed ≡ stmt) [ true ↦ λ e. cc | false ↦ λ e. absurd cc ]

says_nothing : (text : List ℕ) (parsed : Parsed) → parsed_of text ≡ parsed → statement_said parsed ≡ None → SaysNothing text (offset_said parsed)
says_nothing text (Statement stmt) e none = inr (stmt, parsed_spelled text stmt e, not_executed stmt none, refl)
says_nothing text (FaultAt offset) e none = inl (fault_offset text offset e)

-- the replied offset is that of the text's fault
pub reported_nothing : (text : List ℕ) → length text ≤ 8192 → statement_of text ≡ None → SaysNothing text (offset_replied text)
unfolding statement_of offset_replied
reported_nothing text short none = says_nothing text (parsed_of text) refl none
