-- Rows cut out of a list of values, and values appended to them.
use Rattle.std.proofs.Common.{◌≡◌, ℕ, suc, ◌+◌, ◌≤◌, List, [], ◌∷◌, ◌++◌, length, take, drop, sum, refl, sym, ap, ◌∙◌, arith, length-append, length-drop}
use Rattle.std.proofs.lemmas.List.{nil_from_length, take-append-le, drop-append-le}
use Rattle.std.proofs.lemmas.List.Sums.{sum_by-cons, sum_by-append}
use Rattle.std.proofs.Math.Seq.{take-length, take-append_seam}
use Rattle.rs_base.specs.Sizes.{row_size}
use Rattle.rs_base.specs.Value.{RowList}
use Rattle.rs_rows.specs.Cut.{cut}
use Rattle.rs_rows.specs.Sizes.{rows_size}

-- there is a row for each width
pub length_of_cut : {A : Type 0} (widths : List ℕ) (values : List A) → length (cut widths values) ≡ length widths
length_of_cut [] values = refl
length_of_cut (width ∷ widths) values = ap suc (length_of_cut widths (drop width values))

-- what was appended first is what is taken
pub taken_back : {A : Type 0} (values more : List A) → take (length values) (values ++ more) ≡ values
taken_back values more = take-append_seam values more

-- more values, and their widths, appended to those that are all cut
pub cut_of_more : {A : Type 0} (widths more : List ℕ) (values others : List A) → sum widths ≡ length values → cut (widths ++ more) (values ++ others) ≡ cut widths values ++ cut more others
cut_of_more [] more values others whole = rw (nil_from_length values (sym whole)) refl
cut_of_more {A} (width ∷ widths) more values others whole =
    let all : width + sum widths ≡ length values = sym (sum_by-cons (λ (n : ℕ). n) width widths) ∙ whole in
    let within : width ≤ length values = omega (arith, all) in
    let left : sum widths ≡ length (drop width values) = omega (arith, all, length-drop width values) in
    rw (take-append-le width values others within, drop-append-le width values others within)
    (ap (λ (rows : List (List A)). take width values ∷ rows) (cut_of_more widths more (drop width values) others left))

-- the values of one more row, appended to those that are all cut
pub cut_of_one_more : {A : Type 0} (widths : List ℕ) (values row : List A) → sum widths ≡ length values → cut (widths ++ length row ∷ []) (values ++ row) ≡ cut widths values ++ row ∷ []
cut_of_one_more {A} widths values row whole =
    cut_of_more widths (length row ∷ []) values row whole ∙ ap (λ (last : List A). cut widths values ++ last ∷ []) (take-length row)

-- all widths are all values, after more of both
pub whole_of_more : {A : Type 0} (widths more : List ℕ) (values others : List A) → sum widths ≡ length values → sum more ≡ length others → sum (widths ++ more) ≡ length (values ++ others)
whole_of_more widths more values others whole also = omega (arith, whole, also, sum_by-append (λ (n : ℕ). n) widths more, length-append values others)

-- the bytes of the rows and of more
pub size_of_more : (rows more : RowList) → rows_size (rows ++ more) ≡ rows_size rows + rows_size more
size_of_more rows more = sum_by-append row_size rows more
