-- A stable sort by the group's values leaves the groups, and these give the same rows.
use Rattle.std.proofs.Common.{◌≡◌, ◌≢◌, ℕ, ◌+◌, List, [], ◌∷◌, Bool, true, not, ◌&&◌, map, Option, Some, None, Ordering, Less, Equal, Greater, Result, Ok, Err, refl, sym, ap, ◌∙◌, subst, arith, is_lt}
use Rattle.std.specs.List.{filter_map, cons_option, sum_by, AllByRecursion}
use Rattle.std.specs.List.Sorted.{IsPermutation, IsStableByKey, ties}
use Rattle.std.specs.Ordering.{is_eq, ordering_reverse}
use Rattle.std.proofs.lemmas.Bool.{cond-true}
use Rattle.std.proofs.lemmas.List.Elements.{filter_agree}
use Rattle.std.proofs.lemmas.List.Sorted.{IsPermutation-map, IsPermutation-refl, list_any-IsPermutation, sum_by-IsPermutation}
use Rattle.std.proofs.lemmas.List.Sums.{sum_by-cons}
use Rattle.rs_base.specs.declared.fault.OrNoMemory.{OrNoMemory}
use Rattle.rs_base.specs.declared.fault.OrNoMemory.TheVariants as faults
use Rattle.rs_base.specs.declared.value.Value.{Value}
use Rattle.rs_ast.specs.declared.shape.Shape.{Shape}
use Rattle.rs_ast.specs.declared.shape.ShapeItem.{ShapeItem}
use Rattle.rs_answer.specs.declared.fault.Overflow.{Overflow}
use Rattle.rs_answer.specs.Answer.{overflows, shown, same_row}
use Rattle.rs_answer.specs.Given.{Gives, any_overflows, group_overflows, rows_of}
use Rattle.rs_answer.specs.Groups.{once, group_values, group_cmp, same_group, members_of, grouped_by, groups_by, groups_of}
use Rattle.rs_answer.specs.Items.{row_of}
use Rattle.rs_answer.proofs.Counted.{Decides, ties_decide, times, all_once, once_permutes, permutation_from_counts}
use Rattle.rs_answer.proofs.Orders.{group_total, group_exact, row_total, row_exact}
use Rattle.rs_answer.proofs.Runs.{all_map, map_agree, group_decides}

-- ---- a stable sort keeps the groups

tie_test : (o : Ordering) → (not (is_lt o) && not (is_lt (ordering_reverse o))) ≡ is_eq o
tie_test Less = refl
tie_test Equal = refl
tie_test Greater = refl

pub all_from_every : {X : Type 0} (P : X → Type 0) → ((x : X) → P x) → (xs : List X) → AllByRecursion P xs
all_from_every P every [] = tt
all_from_every P every (x ∷ xs) = (every x, all_from_every P every xs)

module _ (column_indexes : List ℕ) (rows sorted : List (List Value)) (stable : IsStableByKey (group_values column_indexes) group_cmp rows sorted) where
  below : List Value → List Value → Bool
  below one other = is_lt (group_cmp (group_values column_indexes one) (group_values column_indexes other))

  tied : (row other : List Value) → ties below row other ≡ same_group (group_values column_indexes row) (group_values column_indexes other)
  unfolding below
  tied row other =
      let k = group_values column_indexes row in
      let l = group_values column_indexes other in
      ap (λ o. not (is_lt (group_cmp k l)) && not (is_lt o)) (group_total.antisymm l k) ∙ tie_test (group_cmp k l)

  members_stay : (row : List Value) → members_of column_indexes sorted (group_values column_indexes row) ≡ members_of column_indexes rows (group_values column_indexes row)
  unfolding below
  members_stay row =
      let alike : List Value → Bool = λ other. same_group (group_values column_indexes row) (group_values column_indexes other) in
      sym (filter_agree (ties below row) alike (tied row) sorted) ∙ stable row ∙ filter_agree (ties below row) alike (tied row) rows

  groups_stay : IsPermutation rows sorted → IsPermutation (grouped_by column_indexes rows) (grouped_by column_indexes sorted)
  groups_stay same =
      let now = once same_group (map (group_values column_indexes) sorted) in
      let agree : map (members_of column_indexes sorted) now ≡ map (members_of column_indexes rows) now
      = map_agree (members_of column_indexes sorted) (members_of column_indexes rows) now
      (all_once same_group _ (map (group_values column_indexes) sorted)
      (all_map (λ v. members_of column_indexes sorted v ≡ members_of column_indexes rows v) (group_values column_indexes) sorted
      (all_from_every (λ row. members_of column_indexes sorted (group_values column_indexes row) ≡ members_of column_indexes rows (group_values column_indexes row)) members_stay sorted))) in
      let values : IsPermutation (once same_group (map (group_values column_indexes) rows)) now
      = once_permutes group_total group_exact same_group group_decides (map (group_values column_indexes) rows) (map (group_values column_indexes) sorted) (IsPermutation-map (group_values column_indexes) rows sorted same) in
      subst (λ groups. IsPermutation (grouped_by column_indexes rows) groups) (sym agree)
      (IsPermutation-map (members_of column_indexes rows) (once same_group (map (group_values column_indexes) rows)) now values)

-- ---- the groups in another order give the same rows

pub row_decides : Decides same_row
row_decides = ties_decide row_total row_exact

times_given : List Value → Option (List Value) → ℕ
times_given z found = times same_row z (cons_option found [])

times_option : (z : List Value) (found : Option (List Value)) (rows : List (List Value)) → times same_row z (cons_option found rows) ≡ times_given z found + times same_row z rows
unfolding times_given
times_option z None rows = omega arith
times_option z (Some row) rows = omega arith

times_rows : {X : Type 0} (f : X → Option (List Value)) (z : List Value) (xs : List X) → times same_row z (filter_map f xs) ≡ sum_by (λ x. times_given z (f x)) xs
times_rows f z [] = refl
times_rows f z (x ∷ xs) =
    times_option z (f x) (filter_map f xs) ∙ ap (λ n. times_given z (f x) + n) (times_rows f z xs) ∙ sym (sum_by-cons (λ x. times_given z (f x)) x xs)

rows_permute : (items : List ShapeItem) (groups others : List (List (List Value))) → IsPermutation groups others → IsPermutation (rows_of items groups) (rows_of items others)
rows_permute items groups others same =
    permutation_from_counts row_total row_exact same_row row_decides (rows_of items groups) (rows_of items others)
    (λ z. times_rows (row_of items) z groups ∙ sym (sum_by-IsPermutation (λ members. times_given z (row_of items members)) groups others same) ∙ sym (times_rows (row_of items) z others))

-- ---- what groups give, as what the query shows

shown_by : {T : Type 0} (rows : T → List (List Value)) (shape : Shape) (joined : List (List Value)) (groups : List (List (List Value))) (result : Result T (OrNoMemory Overflow))
    → IsPermutation (groups_of shape joined) groups → Gives (any_overflows shape.items groups) (λ given. rows given ≡ rows_of shape.items groups) result
    → Gives (overflows shape joined) (λ given. IsPermutation (shown shape joined) (rows given)) result
shown_by rows shape joined groups (Ok given) same gave = (
  list_any-IsPermutation (group_overflows shape.items) (groups_of shape joined) groups same ∙ gave.0,
  subst (λ now. IsPermutation (shown shape joined) now) (sym gave.1) (rows_permute shape.items (groups_of shape joined) groups same),
)
shown_by rows shape joined groups (Err (faults.Fault overflow)) same over = list_any-IsPermutation (group_overflows shape.items) (groups_of shape joined) groups same ∙ over
shown_by rows shape joined groups (Err faults.NoMemory) same gave = tt

pub shown_from : {T : Type 0} (rows : T → List (List Value)) (shape : Shape) (joined : List (List Value)) (items : List ShapeItem) (groups : List (List (List Value))) (result : Result T (OrNoMemory Overflow))
    → items ≡ shape.items → IsPermutation (groups_of shape joined) groups → Gives (any_overflows items groups) (λ given. rows given ≡ rows_of items groups) result
    → Gives (overflows shape joined) (λ given. IsPermutation (shown shape joined) (rows given)) result
shown_from rows shape joined items groups result e same gave =
    shown_by rows shape joined groups result same
    (subst (λ items. Gives (any_overflows items groups) (λ given. rows given ≡ rows_of items groups) result) e gave)

permutes_to_itself : {X : Type 0} (xs ys : List X) → xs ≡ ys → IsPermutation xs ys
permutes_to_itself xs ys e = subst (λ zs. IsPermutation xs zs) e (IsPermutation-refl xs)

pub one_group : (shape : Shape) (joined rows : List (List Value)) → shape.grouped ≡ true → shape.group ≡ [] → rows ≡ joined → IsPermutation (groups_of shape joined) (rows ∷ [])
one_group shape joined rows e none same =
    permutes_to_itself _ _
    (cond-true shape.grouped (groups_by shape.group joined) (map (λ row. row ∷ []) joined) e ∙ ap (λ column_indexes. groups_by column_indexes joined) none ∙ ap (λ rows. rows ∷ []) (sym same))

pub by_column_indexes : (column_indexes : List ℕ) (rows : List (List Value)) → column_indexes ≢ [] → groups_by column_indexes rows ≡ grouped_by column_indexes rows
by_column_indexes [] rows some = absurd (some refl)
by_column_indexes (column_index ∷ column_indexes) rows some = refl

pub run_groups : (shape : Shape) (joined sorted rows : List (List Value)) (column_indexes : List ℕ) → shape.grouped ≡ true → shape.group ≢ [] → IsPermutation joined sorted
    → IsStableByKey (group_values shape.group) group_cmp joined sorted → rows ≡ sorted → column_indexes ≡ shape.group → IsPermutation (groups_of shape joined) (grouped_by column_indexes rows)
run_groups shape joined sorted rows column_indexes e some same stable e_rows e_indexes =
    let at : groups_of shape joined ≡ grouped_by shape.group joined
    = cond-true shape.grouped (groups_by shape.group joined) (map (λ row. row ∷ []) joined) e ∙ by_column_indexes shape.group joined some in
    let now : grouped_by shape.group sorted ≡ grouped_by column_indexes rows = ap (grouped_by shape.group) (sym e_rows) ∙ ap (λ column_indexes. grouped_by column_indexes rows) (sym e_indexes) in
    subst (λ groups. IsPermutation (groups_of shape joined) groups) now
    (subst (λ groups. IsPermutation groups (grouped_by shape.group sorted)) (sym at) (groups_stay shape.group joined sorted stable same))
