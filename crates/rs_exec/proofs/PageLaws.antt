-- The rows of a page.
use Rattle.std.proofs.Common.{◌≡◌, ℕ, ◌+◌, ◌-◌, ◌≤◌, ◌<◌, ◌^◌, min, Bool, true, false, cond, List, [], ◌∷◌, ◌++◌, ◌⊎◌, inl, inr, pos, suc, filter, take, drop, get_or, length, refl, sym, ap, ap₂, ◌∙◌, arith}
use Rattle.std.proofs.lemmas.Bool.{le-leb, lt-leb, lt-ltb, le-ltb, cases_lt}
use Rattle.std.proofs.lemmas.List.{drop_more, drop_all, take_more, take-map, drop-map, length-map}
use Rattle.std.proofs.lemmas.List.Elements.{filter_map-append}
use Rattle.std.proofs.lemmas.List.Sums.{sum_by-append}
use Rattle.std.proofs.lemmas.Option.{slice_get-get_or, slice_get_past}
use Rattle.std.specs.Prelude.{nat_le, nat_lt, slice_get}
use Rattle.rs_base.specs.declared.value.Value.{Value}
use Rattle.rs_base.specs.declared.value.Value.TheVariants as values
use Rattle.rs_base.specs.Sizes.{row_size, value_size}
use Rattle.rs_base.specs.Value.{RowList}
use Rattle.rs_rows.specs.TableRows.{RowsByNumber}
use Rattle.rs_exec.specs.Pages.{encoded_size, rows_within, first_page, page}
use Rattle.rs_exec.specs.Running.{projected, shipped}

-- the rows that have room are the first ones
pub within_take : (room : ℕ) (rows : RowList) → take (length (rows_within room rows)) rows ≡ rows_within room rows
within_take room [] = refl
within_take room (row ∷ rows) =
    let rest = rows_within (room - encoded_size row) rows in
    elim (nat_le (encoded_size row) room) as (λ b. take (length (cond b (row ∷ rest) [])) (row ∷ rows) ≡ cond b (row ∷ rest) [])
    [ true ↦ ap (λ (more : RowList). row ∷ more) (within_take (room - encoded_size row) rows) | false ↦ refl ]

-- so are those of the first page
pub page_take : (rows : RowList) → take (length (first_page rows)) rows ≡ first_page rows
page_take [] = refl
page_take (row ∷ rows) = ap (λ (more : RowList). row ∷ more) (within_take (30000 - encoded_size row) rows)

-- no more rows have room than there are
pub within_length : (room : ℕ) (rows : RowList) → length (rows_within room rows) ≤ length rows
within_length room [] = omega arith
within_length room (row ∷ rows) =
    let rest = rows_within (room - encoded_size row) rows in
    let fewer : length rest ≤ length rows = within_length (room - encoded_size row) rows in
    elim (nat_le (encoded_size row) room) as (λ b. length (cond b (row ∷ rest) []) ≤ length (row ∷ rows))
    [ true ↦ omega arith | false ↦ omega arith ]

pub page_length : (rows : RowList) → length (first_page rows) ≤ length rows
page_length [] = omega arith
page_length (row ∷ rows) = omega (arith, within_length (30000 - encoded_size row) rows)

-- a row that has room, and one that has none
pub within_more : (room : ℕ) (row : List Value) (rows : RowList) → encoded_size row ≤ room → length (rows_within room (row ∷ rows)) ≡ length (rows_within (room - encoded_size row) rows) + 1
within_more room row rows fits = rw (le-leb (encoded_size row) room fits) (omega arith)

pub within_none : (room : ℕ) (row : List Value) (rows : RowList) → room < encoded_size row → length (rows_within room (row ∷ rows)) ≡ 0
within_none room row rows large = rw (lt-leb (encoded_size row) room large) refl

-- ---- a count of the rows that have room

-- a size as it is compared
exact_size : (size whole room : ℕ) → size ≡ min whole (2 ^ 64 - 1) → room ≤ 30000 → size ≤ room → size ≡ whole
exact_size size whole room is low fits = omega arith

module _ (columns : List ℕ) (rows : RowsByNumber) (i room all size : ℕ) (entry : ℕ × List Value) where
  -- this row has room
  pub count_more : i < length rows → entry ≡ get_or rows i entry → size ≡ min (encoded_size (projected columns entry.1)) (2 ^ 64 - 1) → room ≤ 30000 → size ≤ room
      → i + length (rows_within room (shipped columns (drop i rows))) ≡ all → i + 1 + length (rows_within (room - size) (shipped columns (drop (i + 1) rows))) ≡ all
  count_more within is sized low fits so_far =
      let exact : size ≡ encoded_size (projected columns entry.1) = exact_size size (encoded_size (projected columns entry.1)) room sized low fits in
      let left : drop i rows ≡ entry ∷ drop (i + 1) rows = drop_more rows i entry within ∙ ap (λ (first : ℕ × List Value). first ∷ drop (i + 1) rows) (sym is) in
      let one = within_more room (projected columns entry.1) (shipped columns (drop (i + 1) rows)) (omega (arith, exact, fits)) in
      let here : i + length (rows_within room (shipped columns (entry ∷ drop (i + 1) rows))) ≡ all = rw left at so_far in
      rw exact (omega (arith, one, here))

  -- this row has none
  pub count_stops : i < length rows → entry ≡ get_or rows i entry → size ≡ min (encoded_size (projected columns entry.1)) (2 ^ 64 - 1) → room < size
      → i + length (rows_within room (shipped columns (drop i rows))) ≡ all → i ≡ all
  count_stops within is sized large so_far =
      let left : drop i rows ≡ entry ∷ drop (i + 1) rows = drop_more rows i entry within ∙ ap (λ (first : ℕ × List Value). first ∷ drop (i + 1) rows) (sym is) in
      let none = within_none room (projected columns entry.1) (shipped columns (drop (i + 1) rows)) (omega (arith, sized, large)) in
      let here : i + length (rows_within room (shipped columns (entry ∷ drop (i + 1) rows))) ≡ all = rw left at so_far in
      omega (arith, none, here)

-- no row is left
pub count_ends : (columns : List ℕ) (rows : RowsByNumber) (i room all : ℕ) → length rows ≤ i → i + length (rows_within room (shipped columns (drop i rows))) ≡ all → i ≡ all
count_ends columns rows i room all past so_far =
    let none : drop i rows ≡ [] = drop_all i rows past in
    let left : i + length (rows_within room (shipped columns [])) ≡ all = rw none at so_far in
    omega (arith, left)

-- ---- the columns that are shipped

-- one more column
pub projected_more : (columns : List ℕ) (row : List Value) (i : ℕ) → i < length columns → projected (take (i + 1) columns) row ≡ projected (take i columns) row ++ projected (get_or columns i 0 ∷ []) row
projected_more columns row i within =
    ap (λ (some : List ℕ). projected some row) (take_more columns i 0 within) ∙ filter_map-append (slice_get row) (take i columns) (get_or columns i 0 ∷ [])

-- the number of columns that the row has
pub width_is : (columns : List ℕ) (row : List Value) → length (projected columns row) ≡ length (filter (λ column. nat_lt column (length row)) columns)
width_is [] row = refl
width_is (column ∷ columns) row = by (cases_lt column (length row)) (width_is columns row)
  where
    by : (column < length row) ⊎ (length row ≤ column) → length (projected columns row) ≡ length (filter (λ other. nat_lt other (length row)) columns)
        → length (projected (column ∷ columns) row) ≡ length (filter (λ other. nat_lt other (length row)) (column ∷ columns))
    by (inl within) rest = rw (slice_get-get_or row column (values.Int (pos 0)) within, lt-ltb column (length row) within) (ap (λ (n : ℕ). suc n) rest)
    by (inr past) rest = rw (slice_get_past row column past, le-ltb column (length row) past) rest

-- the size with that of one more column
pub size_more : (columns : List ℕ) (row : List Value) (i size one new : ℕ) → i < length columns → size ≡ min (row_size (projected (take i columns) row)) (2 ^ 64 - 1) → one ≡ min (row_size (projected (get_or columns i 0 ∷ []) row)) (2 ^ 64 - 1)
    → new ≡ min (size + one) (2 ^ 64 - 1) → new ≡ min (row_size (projected (take (i + 1) columns) row)) (2 ^ 64 - 1)
size_more columns row i size one new within so_far more is =
    let whole : row_size (projected (take (i + 1) columns) row) ≡ row_size (projected (take i columns) row) + row_size (projected (get_or columns i 0 ∷ []) row)
    = ap row_size (projected_more columns row i within) ∙ sum_by-append value_size (projected (take i columns) row) (projected (get_or columns i 0 ∷ []) row) in
    omega (arith, whole, so_far, more, is)

-- ---- the page

pub page_is : (columns : List ℕ) (from count : ℕ) (rows left some : RowsByNumber) → left ≡ drop from rows → count ≡ length (first_page (shipped columns left)) → some ≡ take count left
    → (shipped columns some, nat_lt count (length left)) ≡ page from (shipped columns rows)
unfolding page
page_is columns from count rows left some after counted first =
    let rest : shipped columns left ≡ drop from (shipped columns rows) = ap (shipped columns) after ∙ sym (drop-map (λ (entry : ℕ × List Value). projected columns entry.1) from rows) in
    let number : count ≡ length (first_page (drop from (shipped columns rows))) = counted ∙ ap (λ (r : RowList). length (first_page r)) rest in
    let copied : shipped columns some ≡ first_page (drop from (shipped columns rows))
    = ap (shipped columns) first ∙ sym (take-map (λ (entry : ℕ × List Value). projected columns entry.1) count left)
    ∙ ap (take count) rest ∙ ap (λ (n : ℕ). take n (drop from (shipped columns rows))) number ∙ page_take (drop from (shipped columns rows)) in
    let long : length left ≡ length (drop from (shipped columns rows)) = sym (length-map left (λ (entry : ℕ × List Value). projected columns entry.1)) ∙ ap (λ (r : RowList). length r) rest in
    ap₂ (λ (r : RowList) (b : Bool). (r, b)) copied (ap₂ nat_lt number long)
