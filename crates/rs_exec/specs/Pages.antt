-- Rows in pages, as replies have them.
use Rattle.std.specs.Prelude.{ℕ, ◌+◌, ◌-◌, Bool, nat_le, nat_lt, List, [], ◌∷◌, length, drop, if◌then◌else◌}
use Rattle.rs_base.specs.declared.value.Value.{Value}
use Rattle.rs_base.specs.Sizes.{count_size, row_size}
use Rattle.rs_base.specs.Value.{RowList}

-- the largest size of a page of more than one row, in bytes
abbrev pub max_page_bytes : ℕ
max_page_bytes = 30000

-- the bytes of a row's encoding: the number of its values, and these
abbrev pub encoded_size : List Value → ℕ
encoded_size row = count_size (length row) + row_size row

-- the rows, from the first on, that have room in this number of bytes
abbrev pub rows_within : ℕ → RowList → RowList
rows_within room [] = []
rows_within room (row ∷ rows) = if nat_le (encoded_size row) room then row ∷ rows_within (room - encoded_size row) rows else []

-- the rows that fit in a page, at least one if there is one
abbrev pub first_page : RowList → RowList
first_page [] = []
first_page (row ∷ rows) = row ∷ rows_within (max_page_bytes - encoded_size row) rows

-- the page of the rows after the first `from`, and whether any are left after it
unfoldable pub page : ℕ → RowList → RowList × Bool
page from rows =
    let left = drop from rows in
    (first_page left, nat_lt (length (first_page left)) (length left))
