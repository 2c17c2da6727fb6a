use Rattle.std.proofs.Common.{◌≡◌, List, IfOk, sym, subst, rules, arith}
use Rattle.std.proofs.lemmas.Grind.{common_steps}
use Rattle.rs_ast.specs.declared.bound.BoundCmp.{BoundCmp}
use Rattle.rs_eval.proofs.Unfilled.{clauses_stay}
use Rattle.rs_join.specs.Selected.{selected}
use Rattle.rs_mean.specs.RowStatements.{answering}
use Rattle.rs_mean.proofs.bound_effect.rows_of_query.Goals as goal

pub returns : goal.returns
returns c =
    let Claim : List (List BoundCmp) → Type 0 = λ clauses. IfOk c.selected.result (λ rows. answering rows ≡ answering (selected clauses c.in-Select.shape c.args.tables.now)) in
    let unfilled : Claim c.in-Select.clauses = first_of (search rules, grind (arith, common_steps)) in
    rw c.in-Select.is (subst Claim (sym (clauses_stay c.in-Select.clauses)) unfilled)
