use Rattle.std.proofs.Common.{◌≡◌, ℕ, List, inl, inr, ap, ◌∙◌}
use Rattle.std.proofs.lemmas.Result.{IfOk-weaker}
use Rattle.rs_ast.specs.declared.bound.BoundSet.{BoundSet}
use Rattle.rs_ast.specs.declared.bound.BoundTerm.{BoundTerm}
use Rattle.rs_eval.specs.Filling.{filled}
use Rattle.rs_eval.specs.RowChanges.{inserted}
use Rattle.rs_plan.specs.declared.section.SectionKind.TheVariants as sections
use Rattle.rs_exec.specs.Running.{appended, others, plain, queried, ran, set_rows, updated}
use Rattle.std.specs.Prelude.{Some}
use Rattle.rs_exec.proofs.RunLaws.{ran_is, matching_is}
use Rattle.rs_exec.proofs.run.outcome_of.Goals as goal

pub returns-in-Insert : goal.returns-in-Insert
returns-in-Insert g c = λ fetch same.
    let rows = g.R.ReadRows.rows c.args.rows.now in
    let kind = sections.Insert c.in-Insert.bound in
    let whole = ran_is c.args.section.now kind c.args.values.now fetch rows c.args.from c.args.matching.now c.in-Insert.is same in
    IfOk-weaker c.run_insert.result _ _
    (λ result is. is ∙ ap (λ (bound : List (List BoundTerm)). appended c.args.section.now.name (inserted c.args.values.now bound (plain rows))) c.as_slice.ensures ∙ whole) c.run_insert.ensures

pub returns-in-Delete : goal.returns-in-Delete
returns-in-Delete g c = λ fetch same.
    let rows = g.R.ReadRows.rows c.args.rows.now in
    let kind = sections.Delete c.in-Delete.clauses in
    let whole = ran_is c.args.section.now kind c.args.values.now fetch rows c.args.from c.args.matching.now c.in-Delete.is same in
    IfOk-weaker c.run_delete.result _ _ (λ result is. is ∙ whole) c.run_delete.ensures

pub returns-in-Update : goal.returns-in-Update
returns-in-Update g c = λ fetch same.
    let rows = g.R.ReadRows.rows c.args.rows.now in
    let kind = sections.Update c.in-Update.sets c.in-Update.clauses in
    let clauses = filled c.args.values.now c.in-Update.clauses in
    let whole = ran_is c.args.section.now kind c.args.values.now fetch rows c.args.from c.args.matching.now c.in-Update.is same in
    let found = matching_is c.args.section.now kind c.args.values.now fetch rows c.args.matching.now c.in-Update.is same in
    IfOk-weaker c.run_update.result _ _
    (λ result is. is ∙ ap (λ (sets : List BoundSet). updated c.args.section.now.name (others (Some clauses) rows) (set_rows sets c.args.values.now c.args.matching.now)) c.as_slice-in-Update.ensures ∙ whole)
    (c.run_update.ensures clauses found)

pub returns-in-Scan : goal.returns-in-Scan
returns-in-Scan g c = λ fetch same.
    let rows = g.R.ReadRows.rows c.args.rows.now in
    let shown : queried c.as_slice-in-Scan.result.now c.args.from c.args.matching.now ≡ queried c.in-Scan.columns c.args.from c.args.matching.now
    = ap (λ (columns : List ℕ). queried columns c.args.from c.args.matching.now) c.as_slice-in-Scan.ensures in
    let whole : queried c.in-Scan.columns c.args.from c.args.matching.now ≡ ran c.args.section.now c.args.values.now fetch c.args.from rows
    = elim c.in-Scan.is [
      | inl scan ↦ ran_is c.args.section.now (sections.Scan scan.0 c.in-Scan.columns) c.args.values.now fetch rows c.args.from c.args.matching.now scan.1 same
      | inr by ↦ ran_is c.args.section.now (sections.Fetch by.0 c.in-Scan.columns by.1) c.args.values.now fetch rows c.args.from c.args.matching.now by.2 same
    ] in
    IfOk-weaker c.query.result _ _ (λ result is. is ∙ shown ∙ whole) c.query.ensures
