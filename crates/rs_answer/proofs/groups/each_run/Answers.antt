use Rattle.std.proofs.Common.{◌≡◌, ◌∙◌, ◌<◌, ◌∷◌, ◌||◌, List, ap, sym, subst, length, arith}
use Rattle.std.specs.List.{prefix_len}
use Rattle.std.proofs.lemmas.Cmp.{on_total}
use Rattle.std.proofs.lemmas.Grind.{common_steps}
use Rattle.std.proofs.lemmas.List.Sums.{prefix_len-le-length}
use Rattle.rs_base.specs.declared.value.Value.{Value}
use Rattle.rs_answer.specs.Given.{any_overflows, group_overflows}
use Rattle.rs_answer.specs.Groups.{group_values, grouped_by}
use Rattle.rs_answer.proofs.Arranged.{rising_from_sorted}
use Rattle.rs_answer.proofs.Orders.{group_total}
use Rattle.rs_answer.proofs.Progress.{Progress, progress_none, progress_more}
use Rattle.rs_answer.proofs.Runs.{alike_to, by_group, run_cut, run_some, rising_drop}
use Rattle.rs_answer.proofs.groups.each_run.Goals as goal

pub loop-rest-init : goal.loop-rest-init
loop-rest-init c =
    let column_indexes = c.args.column_indexes.now in
    let groups = grouped_by column_indexes c.args.rows.now in (
      subst (λ (given : List (List Value)). Progress c.args.items.now given groups groups) (sym c.new-given.ensures.items) (progress_none c.args.items.now groups),
      rising_from_sorted (on_total (group_values column_indexes) group_total) c.args.rows.now c.requires,
    )

pub split_at-requires : goal.split_at-requires
split_at-requires c =
    let column_indexes = c.args.column_indexes.now in
    let rest = c.loop-rest.rest.now in
    let prefix : c.run_length.result ≡ prefix_len (alike_to column_indexes c.first-item.result) rest
    = c.run_length.ensures ∙ ap (λ (row : List Value). prefix_len (alike_to column_indexes row) rest) c.as_slice.ensures in
    omega (arith, prefix_len-le-length (alike_to column_indexes c.first-item.result) rest)

pub returns-in_err-push_group : goal.returns-in_err-push_group
returns-in_err-push_group c =
    let column_indexes = c.args.column_indexes.now in
    let rest = c.loop-rest.rest.now in
    let prefix : c.run_length.result ≡ prefix_len (alike_to column_indexes c.first-item.result) rest
    = c.run_length.ensures ∙ ap (λ (row : List Value). prefix_len (alike_to column_indexes row) rest) c.as_slice.ensures in
    let some : 0 < length rest = omega arith in
    let cut = run_cut column_indexes c.first-item.result rest c.run_length.result some c.first-item.is prefix c.loop-rest.invariant.1 in
    let left : grouped_by column_indexes rest ≡ c.split_at.result.0.now ∷ grouped_by column_indexes c.split_at.result.1.now = rw (c.split_at.ensures.front, c.split_at.ensures.back) cut in
    let sums : (group_overflows c.args.items.now c.split_at.result.0.now || any_overflows c.args.items.now (grouped_by column_indexes c.split_at.result.1.now)) ≡ any_overflows c.args.items.now (grouped_by column_indexes c.args.rows.now)
    = sym (ap (any_overflows c.args.items.now) left) ∙ c.loop-rest.invariant.0.sums in
    grind (arith, common_steps)

pub loop-rest-preserved : goal.loop-rest-preserved
loop-rest-preserved c =
    let column_indexes = c.args.column_indexes.now in
    let items = c.args.items.now in
    let rest = c.loop-rest.rest.now in
    let prefix : c.run_length.result ≡ prefix_len (alike_to column_indexes c.first-item.result) rest
    = c.run_length.ensures ∙ ap (λ (row : List Value). prefix_len (alike_to column_indexes row) rest) c.as_slice.ensures in
    let some : 0 < length rest = omega arith in
    let cut = run_cut column_indexes c.first-item.result rest c.run_length.result some c.first-item.is prefix c.loop-rest.invariant.1 in
    let left : grouped_by column_indexes rest ≡ c.split_at.result.0.now ∷ grouped_by column_indexes c.split_at.result.1.now = rw (c.split_at.ensures.front, c.split_at.ensures.back) cut in
    let groups = grouped_by column_indexes c.args.rows.now in
    let so_far = subst (λ (left : List (List (List Value))). Progress items c.loop-rest.given.items left groups) left c.loop-rest.invariant.0 in (
      progress_more items c.loop-rest.given.items c.split_at.result.0.now (grouped_by column_indexes c.split_at.result.1.now) groups so_far c.push_group.new.rows.items c.in_ok-push_group.ensures.0 c.in_ok-push_group.ensures.1,
      rw c.split_at.ensures.back (rising_drop (by_group column_indexes) c.run_length.result rest c.loop-rest.invariant.1),
    )

pub loop-rest-smaller : goal.loop-rest-smaller
loop-rest-smaller c =
    let column_indexes = c.args.column_indexes.now in
    let rest = c.loop-rest.rest.now in
    let prefix : c.run_length.result ≡ prefix_len (alike_to column_indexes c.first-item.result) rest
    = c.run_length.ensures ∙ ap (λ (row : List Value). prefix_len (alike_to column_indexes row) rest) c.as_slice.ensures in
    let some : 0 < length rest = omega arith in
    let more = run_some column_indexes c.first-item.result rest c.run_length.result some c.first-item.is prefix in
    omega arith
