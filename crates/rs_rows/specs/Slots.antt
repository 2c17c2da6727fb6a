-- Slots: row numbers, each with its row until that is removed.
use Rattle.std.specs.Prelude.{◌≡◌, ◌≢◌, ℕ, ◌<◌, Bool, is_some, option_map, List, length, map, All, HoldsAt}
use Rattle.std.specs.List.{filter_map}
use Rattle.std.specs.List.Sorted.{IsStrictlySortedBy}
use Rattle.std.specs.Ordering.{nat_cmp}
use Rattle.rs_rows.specs.TableRows.{RowsByNumber}
use Rattle.rs_rows.specs.declared.slot.Slot.{Slot}

-- the numbers of the slots
abbrev pub slot_numbers : List Slot → List ℕ
slot_numbers slots = map (λ slot. slot.number) slots

-- the rows that were not removed, each with its number
abbrev pub rows_in : List Slot → RowsByNumber
rows_in slots = filter_map (λ slot. option_map (λ row. (slot.number, row)) slot.row) slots

-- the slot has a row
abbrev pub is_live : Slot → Bool
is_live slot = is_some slot.row

-- no slot has this number
pub record Lacks (number : ℕ) (slots : List Slot) : Type 0 where
  pub none : All (λ slot. slot.number ≢ number) slots

-- the slot at this position has this number
pub record HasAt (number : ℕ) (slots : List Slot) (at : ℕ) : Type 0 where
  pub within : at < length slots
  pub same : HoldsAt (λ slot. slot.number ≡ number) slots at

-- the numbers rise and are below the next, and the rows are counted
pub record AreCounted (slots : List Slot) (live next : ℕ) : Type 0 where
  pub rising : IsStrictlySortedBy nat_cmp (slot_numbers slots)
  pub below : All (λ number. number < next) (slot_numbers slots)
  pub exact : live ≡ length (rows_in slots)
