use Rattle.std.proofs.Common.{◌≡◌, List, [], ◌∷◌, IfOk, sym, subst, rules, arith}
use Rattle.std.proofs.lemmas.Grind.{common_steps}
use Rattle.rs_ast.specs.declared.bound.BoundCmp.{BoundCmp}
use Rattle.rs_eval.specs.RowChanges.{matching_count, updated}
use Rattle.rs_eval.proofs.Unfilled.{clauses_stay}
use Rattle.rs_join.specs.Selected.{selected}
use Rattle.rs_mean.specs.RowStatements.{answering, updating, deleting}
use Rattle.rs_mean.proofs.bound_effect.effect_over.Goals as goal

pub returns-in-Select : goal.returns-in-Select
returns-in-Select c =
    let Claim : List (List BoundCmp) → Type 0 = λ clauses. c.answering.result ≡ answering (selected clauses c.in-Select.shape (c.args.rows.now ∷ [])) in
    let unfilled : Claim c.in-Select.clauses = first_of (search rules, grind (arith, common_steps)) in
    rw c.in-Select.is (subst Claim (sym (clauses_stay c.in-Select.clauses)) unfilled)

pub returns-in-Update : goal.returns-in-Update
returns-in-Update c =
    let rows = c.args.rows.now in
    let Claim : List (List BoundCmp) → Type 0 = λ clauses. IfOk c.update.result
    (λ effect. effect ≡ updating c.in-Update.name (matching_count clauses rows) (updated [] c.in-Update.sets clauses rows)) in
    let unfilled : Claim c.in-Update.clauses = first_of (search rules, grind (arith, common_steps)) in
    rw c.in-Update.is (subst Claim (sym (clauses_stay c.in-Update.clauses)) unfilled)

pub returns : goal.returns
returns c =
    let Claim : List (List BoundCmp) → Type 0 = λ clauses. IfOk c.delete.result (λ effect. effect ≡ deleting c.in-Delete.name clauses c.args.rows.now) in
    let unfilled : Claim c.in-Delete.clauses = first_of (search rules, grind (arith, common_steps)) in
    rw c.in-Delete.is (subst Claim (sym (clauses_stay c.in-Delete.clauses)) unfilled)
