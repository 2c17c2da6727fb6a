-- The values of a column over rows, one row more: their sum, the least and the greatest.
use Rattle.std.proofs.Common.{◌≡◌, ℕ, ◌+◌, ◌<◌, List, [], ◌∷◌, ◌++◌, length, append-nil, take, get_or, Option, Some, None, refl, sym, ap, ◌∙◌, fold, slice_get, arith, ◌+ℤ◌}
use Rattle.std.specs.List.{cons_option}
use Rattle.std.proofs.lemmas.List.{take_more}
use Rattle.std.proofs.lemmas.List.Elements.{filter_map-append}
use Rattle.std.proofs.lemmas.List.Sums.{fold_push}
use Rattle.std.proofs.lemmas.Int.{ints}
use Rattle.rs_base.specs.declared.value.Value.{Value}
use Rattle.rs_answer.specs.Best.{better_of}
use Rattle.rs_answer.specs.Items.{values_at, sum_of, least_of, greatest_of, lesser, greater}

pub values_more : (column_index : ℕ) (rows : List (List Value)) (i : ℕ) (row : List Value) → i < length rows → row ≡ get_or rows i row
    → values_at column_index (take (i + 1) rows) ≡ values_at column_index (take i rows) ++ values_at column_index (row ∷ [])
values_more column_index rows i row within is =
    ap (values_at column_index) (take_more rows i row within ∙ ap (λ r. take i rows ++ r ∷ []) (sym is))
    ∙ filter_map-append (λ r. slice_get r column_index) (take i rows) (row ∷ [])

-- ---- the sum

pub sum_append : (vs ws : List Value) → sum_of (vs ++ ws) ≡ sum_of vs +ℤ sum_of ws
sum_append [] ws = omega (arith, ints)
sum_append (v ∷ vs) ws = let rest = sum_append vs ws in omega (arith, ints, rest)

-- ---- the best

abbrev best_of : (Value → Value → Value) → List Value → Option Value
best_of better [] = None
best_of better (v ∷ vs) = Some (fold better v vs)

best_push : (better : Value → Value → Value) (vs : List Value) (found : Option Value) → best_of better (vs ++ cons_option found []) ≡ better_of better (best_of better vs) found
best_push better [] None = refl
best_push better [] (Some v) = refl
best_push better (v ∷ vs) None = ap (λ ws. Some (fold better v ws)) (append-nil vs)
best_push better (v ∷ vs) (Some w) = ap Some (fold_push better v vs w)

least_is : (vs : List Value) → least_of vs ≡ best_of lesser vs
least_is [] = refl
least_is (v ∷ vs) = refl

greatest_is : (vs : List Value) → greatest_of vs ≡ best_of greater vs
greatest_is [] = refl
greatest_is (v ∷ vs) = refl

pub least_more : (column_index : ℕ) (rows : List (List Value)) (i : ℕ) (row : List Value) → i < length rows → row ≡ get_or rows i row
    → least_of (values_at column_index (take (i + 1) rows)) ≡ better_of lesser (least_of (values_at column_index (take i rows))) (slice_get row column_index)
least_more column_index rows i row within is =
    let before = values_at column_index (take i rows) in
    ap least_of (values_more column_index rows i row within is)
    ∙ least_is (before ++ values_at column_index (row ∷ []))
    ∙ best_push lesser before (slice_get row column_index)
    ∙ ap (λ best. better_of lesser best (slice_get row column_index)) (sym (least_is before))

pub greatest_more : (column_index : ℕ) (rows : List (List Value)) (i : ℕ) (row : List Value) → i < length rows → row ≡ get_or rows i row
    → greatest_of (values_at column_index (take (i + 1) rows)) ≡ better_of greater (greatest_of (values_at column_index (take i rows))) (slice_get row column_index)
greatest_more column_index rows i row within is =
    let before = values_at column_index (take i rows) in
    ap greatest_of (values_more column_index rows i row within is)
    ∙ greatest_is (before ++ values_at column_index (row ∷ []))
    ∙ best_push greater before (slice_get row column_index)
    ∙ ap (λ best. better_of greater best (slice_get row column_index)) (sym (greatest_is before))
