use Rattle.std.proofs.Common.{◌≡◌, ◌≢◌, ◌∷◌, [], ℕ, List, subst, rules}
use Rattle.std.specs.List.Sorted.{IsStableByKey}
use Rattle.std.proofs.lemmas.Bool.{false≢true}
use Rattle.rs_answer.specs.Groups.{group_cmp, group_values, grouped_by}
use Rattle.rs_answer.proofs.Regrouped.{shown_from, one_group, run_groups}
use Rattle.rs_answer.proofs.groups.shown_rows.Goals as goal

pub returns-then-is_empty : goal.returns-then-is_empty
returns-then-is_empty c =
    let shape = c.args.shape.now in
    let none : shape.group ≡ [] = search rules in
    shown_from _ shape c.args.joined c.as_slice-items.result.now (c.as_slice-then-is_empty.result.now ∷ []) c.all_together.result c.as_slice-items.ensures
    (one_group shape c.args.joined c.as_slice-then-is_empty.result.now c.if-not-shape.false none c.as_slice-then-is_empty.ensures) c.all_together.ensures

pub returns-in_ok-rows : goal.returns-in_ok-rows
returns-in_ok-rows c =
    let shape = c.args.shape.now in
    let joined = c.args.joined in
    let sorted = c.in_ok-rows.rows.items in
    let some : shape.group ≢ [] = λ none. false≢true (c.if-is_empty.ensures.1 none) in
    let stable : IsStableByKey (group_values shape.group) group_cmp joined sorted
    = subst (λ (column_indexes : List ℕ). IsStableByKey (group_values column_indexes) group_cmp joined sorted) c.as_slice-else-is_empty.ensures c.in_ok-rows.ensures.stable in
    let column_indexes = c.as_slice-else-is_empty-2.result.now in
    let rows = c.as_slice-else-is_empty-3.result.now in
    shown_from _ shape joined c.as_slice-items.result.now (grouped_by column_indexes rows) c.each_run.result c.as_slice-items.ensures
    (run_groups shape joined sorted rows column_indexes c.if-not-shape.false some c.in_ok-rows.ensures.same stable c.as_slice-else-is_empty-3.ensures.value c.as_slice-else-is_empty-2.ensures) c.each_run.ensures
