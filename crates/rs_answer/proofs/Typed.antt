-- The kinds of answered values, from those of the joined rows.
use Rattle.std.proofs.Common.{◌≡◌, ℕ, List, [], ◌∷◌, Bool, true, false, cond, Option, Some, None, length, pos, map, fold, slice_get, refl, sym, ap, ap₂, ◌∙◌, subst, ⊎_elim}
use Rattle.std.specs.List.{AllByRecursion, cons_option}
use Rattle.std.specs.Option.{option_map, option_and_then}
use Rattle.std.specs.Prelude.{All, filter_map, ◌⊎◌}
use Rattle.std.proofs.lemmas.List.Elements.{All-from_recursion, recursion_from_All}
use Rattle.std.proofs.lemmas.Option.{slice_get-map}
use Rattle.rs_base.specs.declared.value.Kind.{Kind}
use Rattle.rs_base.specs.declared.value.Value.{Value}
use Rattle.rs_base.specs.declared.value.Value.TheVariants as values
use Rattle.rs_base.specs.Value.{kind_of}
use Rattle.rs_ast.specs.declared.shape.ShapeItem.{ShapeItem}
use Rattle.rs_ast.specs.declared.shape.ShapeItem.TheVariants as items
use Rattle.rs_answer.specs.Answer.{query_rows, shown, same_row}
use Rattle.rs_answer.specs.Groups.{once, group_values, same_group, members_of, groups_by, groups_of}
use Rattle.rs_answer.specs.Items.{values_at, sum_of, lesser, greater, least_of, greatest_of, first_at, item_value, row_of}
use Rattle.rs_answer.specs.Kinds.{HasKinds, item_kind, AreKindsOf}
use Rattle.rs_answer.specs.Laws.{AnswersHaveKinds}
use Rattle.rs_answer.specs.Sorting.{answer_cmp, sorted_by}
use Rattle.rs_answer.proofs.Arranged.{all_sorted}
use Rattle.rs_answer.proofs.Counted.{all_filter, all_once}
use Rattle.rs_answer.proofs.ItemLawful.{lesser_chosen, greater_chosen}
use Rattle.rs_answer.proofs.Lawful.{rows_from_answer}

put_found : {X : Type 0} (P : X → Type 0) (found : Option X) (more : List X) → ((x : X) → found ≡ Some x → P x) → AllByRecursion P more → AllByRecursion P (cons_option found more)
put_found P None more first all = all
put_found P (Some x) more first all = (first x refl, all)

-- a value for each, where there is one for the first and for each other
both_found : (found : Option Value) (more : Option (List Value)) (row : List Value) → option_and_then (λ value. option_map (λ more. value ∷ more) more) found ≡ Some row
    → (value : Value) × (others : List Value) × (found ≡ Some value) × (more ≡ Some others) × (value ∷ others ≡ row)
both_found None more row e = absurd cc
both_found (Some value) None row e = absurd cc
both_found (Some value) (Some others) row e = (value, others, refl, refl, cc)

module _ (columns : List Kind) where
  -- the value has the kind of the column at this index
  abbrev IsOfColumn : ℕ → Value → Type 0
  IsOfColumn column_index value = slice_get columns column_index ≡ Some (kind_of value)

  abbrev AreTyped : List (List Value) → Type 0
  AreTyped rows = AllByRecursion (HasKinds columns) rows

  ---- the values of a column

  at_column_index : (row : List Value) (column_index : ℕ) (value : Value) → HasKinds columns row → slice_get row column_index ≡ Some value → IsOfColumn column_index value
  at_column_index row column_index value typed found =
      ap (λ (known : List Kind). slice_get known column_index) (sym typed) ∙ slice_get-map kind_of row column_index ∙ ap (option_map kind_of) found

  first_typed : (column_index : ℕ) (members : List (List Value)) (value : Value) → AreTyped members → first_at column_index members ≡ Some value → IsOfColumn column_index value
  first_typed column_index [] value typed e = absurd cc
  first_typed column_index (row ∷ members) value typed e = at_column_index row column_index value typed.0 e

  values_typed : (column_index : ℕ) (members : List (List Value)) → AreTyped members → AllByRecursion (IsOfColumn column_index) (values_at column_index members)
  values_typed column_index [] typed = tt
  values_typed column_index (row ∷ members) typed =
      put_found (IsOfColumn column_index) (slice_get row column_index) (values_at column_index members) (λ value found. at_column_index row column_index value typed.0 found) (values_typed column_index members typed.1)

  module _ (column_index : ℕ) where
    -- one chosen of values is of their kind
    best_typed : (better : Value → Value → Value) → ((one other : Value) → (better one other ≡ one) ⊎ (better one other ≡ other)) → (first : Value) (given : List Value)
        → IsOfColumn column_index first → AllByRecursion (IsOfColumn column_index) given → IsOfColumn column_index (fold better first given)
    best_typed better chosen first [] here all = here
    best_typed better chosen first (other ∷ given) here all =
        let next : IsOfColumn column_index (better first other)
        = ⊎_elim (λ e. subst (IsOfColumn column_index) (sym e) here) (λ e. subst (IsOfColumn column_index) (sym e) all.0) (chosen first other) in
        best_typed better chosen (better first other) given next all.1

    least_typed : (given : List Value) (least : Value) → AllByRecursion (IsOfColumn column_index) given → least_of given ≡ Some least → IsOfColumn column_index least
    least_typed [] least all e = absurd cc
    least_typed (value ∷ given) least all e =
        let is : fold lesser value given ≡ least = cc in subst (IsOfColumn column_index) is (best_typed lesser lesser_chosen value given all.0 all.1)

    greatest_typed : (given : List Value) (greatest : Value) → AllByRecursion (IsOfColumn column_index) given → greatest_of given ≡ Some greatest → IsOfColumn column_index greatest
    greatest_typed [] greatest all e = absurd cc
    greatest_typed (value ∷ given) greatest all e =
        let is : fold greater value given ≡ greatest = cc in subst (IsOfColumn column_index) is (best_typed greater greater_chosen value given all.0 all.1)

  -- ---- items

  item_typed : (members : List (List Value)) (item : ShapeItem) (value : Value) → AreTyped members → item_value members item ≡ Some value → item_kind columns item ≡ Some (kind_of value)
  item_typed members (items.Col column_index) value typed e = first_typed column_index members value typed e
  item_typed members items.Count value typed e =
      let is : values.Int (pos (length members)) ≡ value = cc in ap (λ (v : Value). Some (kind_of v)) is
  item_typed members (items.Sum column_index) value typed e =
      let is : values.Int (sum_of (values_at column_index members)) ≡ value = cc in ap (λ (v : Value). Some (kind_of v)) is
  item_typed members (items.Min column_index) value typed e = least_typed column_index (values_at column_index members) value (values_typed column_index members typed) e
  item_typed members (items.Max column_index) value typed e = greatest_typed column_index (values_at column_index members) value (values_typed column_index members typed) e

  row_typed : (listed : List ShapeItem) (members : List (List Value)) (known : List Kind) (row : List Value) → AreTyped members
      → AreKindsOf (map (item_kind columns) listed) known → row_of listed members ≡ Some row → HasKinds known row
  row_typed [] members [] row typed are e = let is : [] ≡ row = cc in subst (HasKinds []) is refl
  row_typed [] members (kind ∷ known) row typed are e = absurd cc
  row_typed (item ∷ listed) members [] row typed are e = absurd cc
  row_typed (item ∷ listed) members (kind ∷ known) row typed are e =
      let parts = both_found (item_value members item) (row_of listed members) row e in
      let value : Value = parts.0 in
      let first : item_kind columns item ≡ Some kind = cc in
      let rest : map (item_kind columns) listed ≡ map (λ (k : Kind). Some k) known = cc in
      let is : item_kind columns item ≡ Some (kind_of value) = item_typed members item value typed parts.2 in
      let here : kind_of value ≡ kind = cc in
      subst (HasKinds (kind ∷ known)) parts.4 (ap₂ (λ (one : Kind) (others : List Kind). one ∷ others) here (row_typed listed members known parts.1 typed rest parts.3))

  rows_typed : (listed : List ShapeItem) (known : List Kind) → AreKindsOf (map (item_kind columns) listed) known → (groups : List (List (List Value)))
      → AllByRecursion AreTyped groups → AllByRecursion (HasKinds known) (filter_map (row_of listed) groups)
  rows_typed listed known are [] typed = tt
  rows_typed listed known are (members ∷ groups) typed =
      put_found (HasKinds known) (row_of listed members) (filter_map (row_of listed) groups) (λ row e. row_typed listed members known row typed.0 are e)
      (rows_typed listed known are groups typed.1)

  -- ---- groups

  alone_typed : (rows : List (List Value)) → AreTyped rows → AllByRecursion AreTyped (map (λ (row : List Value). row ∷ []) rows)
  alone_typed [] typed = tt
  alone_typed (row ∷ rows) typed = ((typed.0, tt), alone_typed rows typed.1)

  members_typed : (column_indexes : List ℕ) (rows : List (List Value)) (given : List (List (Option Value))) → AreTyped rows → AllByRecursion AreTyped (map (members_of column_indexes rows) given)
  members_typed column_indexes rows [] typed = tt
  members_typed column_indexes rows (values ∷ given) typed =
      (all_filter (HasKinds columns) (λ (row : List Value). same_group values (group_values column_indexes row)) rows typed, members_typed column_indexes rows given typed)

  by_typed : (column_indexes : List ℕ) (rows : List (List Value)) → AreTyped rows → AllByRecursion AreTyped (groups_by column_indexes rows)
  by_typed [] rows typed = (typed, tt)
  by_typed (column_index ∷ column_indexes) rows typed = members_typed (column_index ∷ column_indexes) rows (once same_group (map (group_values (column_index ∷ column_indexes)) rows)) typed

  groups_typed : (grouped : Bool) (column_indexes : List ℕ) (rows : List (List Value)) → AreTyped rows
      → AllByRecursion AreTyped (cond grouped (groups_by column_indexes rows) (map (λ (row : List Value). row ∷ []) rows))
  groups_typed true column_indexes rows typed = by_typed column_indexes rows typed
  groups_typed false column_indexes rows typed = alone_typed rows typed

-- ---- the answer

distinct_typed : (known : List Kind) (distinct : Bool) (rows : List (List Value)) → AllByRecursion (HasKinds known) rows → AllByRecursion (HasKinds known) (cond distinct (once same_row rows) rows)
distinct_typed known true rows typed = all_once same_row (HasKinds known) rows typed
distinct_typed known false rows typed = typed

pub answers_have_kinds : AnswersHaveKinds
answers_have_kinds shape columns known joined rows are typed e =
    let groups = groups_typed columns shape.grouped shape.group joined (recursion_from_All (HasKinds columns) joined typed) in
    let given = rows_typed columns shape.items known are (groups_of shape joined) groups in
    let sorted = all_sorted (answer_cmp shape.keys) (HasKinds known) (query_rows shape joined) (distinct_typed known shape.distinct (shown shape joined) given) in
    subst (All (HasKinds known)) (sym (rows_from_answer shape joined rows e)) (All-from_recursion (HasKinds known) (sorted_by (answer_cmp shape.keys) (query_rows shape joined)) sorted)
