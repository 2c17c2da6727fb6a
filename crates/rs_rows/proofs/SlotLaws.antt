-- Slots: what a search finds, and what a change of one slot, and the loss of the empty ones, do to the rows.
use Rattle.std.proofs.Common.{◌≡◌, ◌≢◌, ℕ, zero, suc, ◌+◌, ◌-◌, ◌<◌, ◌≤◌, ◌==◌, false, cond, if◌then◌else◌, is_some, List, [], ◌∷◌, ◌++◌, filter, length, get_or, set, Option, Some, None, option_map, Result, Ok, Err, MatchOption, All, refl, sym, ap, subst, ◌∙◌, inl, inr, arith, nat_cmp, Less, Equal, Greater, eq-eqb}
use Rattle.std.specs.Result.{result_ok}
use Rattle.std.specs.List.{AllByRecursion, cons_option}
use Rattle.std.specs.List.Sorted.{IsStrictlySortedBy, IsBinarySearchResult, IsSearchInRange}
use Rattle.std.specs.Cmp.{nat_cmp_total}
use Rattle.std.specs.Ordering.{is_lt}
use Rattle.std.proofs.lemmas.Bool.{cases_lt, ne_eqb}
use Rattle.std.proofs.lemmas.Bool.Decides.{nat_tests}
use Rattle.std.proofs.lemmas.Cmp.{ranked}
use Rattle.std.proofs.lemmas.List.{get_or-map, length-map, length_push, map-set, map_push, set-get_or}
use Rattle.std.proofs.lemmas.List.Elements.{All-push, All-weaker, All-from_recursion, All-tail, All-head, recursion_from_All, filter_map-append}
use Rattle.std.proofs.lemmas.List.Sorted.{searchable_from_sorted}
use Rattle.std.proofs.lemmas.Map.Keys.{below_from_sorted, sorted_head, sorted_tail}
use Rattle.rs_base.specs.declared.value.Value.{Value}
use Rattle.rs_rows.proofs.TableLaws.{without_none, with_row_none, on_none_found, count_removed}
use Rattle.rs_rows.specs.Slots.{slot_numbers, rows_in, is_live, Lacks, HasAt, AreCounted}
use Rattle.rs_rows.specs.TableRows.{RowsByNumber, numbers, row_of, without, with_row}
use Rattle.rs_rows.specs.declared.slot.Slot.{Slot}

-- ---- a search

not_less : (a b : ℕ) → a < b → is_lt (nat_cmp b a) ≡ false
not_less a b less = grind (arith, nat_tests)

-- numbers rise from each slot to the next
rises : (slots : List Slot) (i j : ℕ) (d : Slot) → IsStrictlySortedBy nat_cmp (slot_numbers slots) → i < j → j < length slots → (get_or slots i d).number < (get_or slots j d).number
rises slots i j d rising less within =
    let number : Slot → ℕ = λ slot. slot.number in
    let below : get_or (slot_numbers slots) i 0 < get_or (slot_numbers slots) j 0 = below_from_sorted (slot_numbers slots) i j 0 rising less (omega (arith, length-map slots number)) in
    rw (get_or-map number slots i d 0 (omega arith), get_or-map number slots j d 0 within) at below

-- what a binary search finds
pub found_by_search : (number : ℕ) (slots : List Slot) (r : Result ℕ ℕ) → IsStrictlySortedBy nat_cmp (slot_numbers slots) → IsSearchInRange r (length slots) → IsBinarySearchResult (λ slot. nat_cmp slot.number number) slots r → MatchOption (result_ok r) (Lacks number slots) (HasAt number slots)
found_by_search number slots (Ok at) rising within found = record { within = within; same = λ d. ranked (get_or slots at d).number number Equal (sym (found d)) }
found_by_search number slots (Err at) rising within found =
    let divided = found (searchable_from_sorted nat_cmp_total (λ (slot : Slot). slot.number) slots number (λ k d low high. not_less _ _ (rises slots k (k + 1) d rising (omega arith) high))) in
    record {
      none = λ k d inside same.
          elim (cases_lt k at) [
            | inl before ↦ (let less : (get_or slots k d).number < number = ranked (get_or slots k d).number number Less (sym (divided.0 k d (omega arith) before)) in omega arith)
            | inr after ↦ (let less : number < (get_or slots k d).number = ranked (get_or slots k d).number number Greater (sym (divided.1 k d after inside)) in omega arith)
          ];
    }

-- ---- one slot before others

-- a number with its row, if it has one, before other rows
abbrev put_first : ℕ → Option (List Value) → RowsByNumber → RowsByNumber
put_first number row rows = cons_option (option_map (λ (r : List Value). (number, r)) row) rows

found_first : (number : ℕ) (row : Option (List Value)) (rows : RowsByNumber) → row_of number rows ≡ None → row_of number (put_first number row rows) ≡ row
found_first number None rows none = none
found_first number (Some r) rows none = rw (eq-eqb number number refl) refl

found_after : (number other : ℕ) (row : Option (List Value)) (rows : RowsByNumber) → (number == other) ≡ false → row_of number (put_first other row rows) ≡ row_of number rows
found_after number other None rows differ = refl
found_after number other (Some r) rows differ = rw differ refl

gone_first : (number : ℕ) (row : Option (List Value)) (rows : RowsByNumber) → without number (put_first number row rows) ≡ without number rows
gone_first number None rows = refl
gone_first number (Some r) rows = rw (eq-eqb number number refl) refl

kept_first : (number other : ℕ) (row : Option (List Value)) (rows : RowsByNumber) → (number == other) ≡ false → without number (put_first other row rows) ≡ put_first other row (without number rows)
kept_first number other None rows differ = refl
kept_first number other (Some r) rows differ = rw differ refl

set_first : (number : ℕ) (stored : Option (List Value)) (row : List Value) (rows : RowsByNumber) → with_row number row (put_first number stored rows) ≡ put_first number (option_map (λ _. row) stored) (with_row number row rows)
set_first number None row rows = refl
set_first number (Some r) row rows = rw (eq-eqb number number refl) refl

same_first : (number other : ℕ) (stored : Option (List Value)) (row : List Value) (rows : RowsByNumber) → (number == other) ≡ false → with_row number row (put_first other stored rows) ≡ put_first other stored (with_row number row rows)
same_first number other None row rows differ = refl
same_first number other (Some r) row rows differ = rw differ refl

-- ---- the slot with a number

-- no slot has the number, and so no row
pub absent : (number : ℕ) (slots : List Slot) → Lacks number slots → row_of number (rows_in slots) ≡ None
absent number [] lacks = refl
absent number (slot ∷ slots) lacks =
    let Other : Slot → Type 0 = λ other. other.number ≢ number in
    let differ : slot.number ≢ number = All-head Other slot slots lacks.none in
    found_after number slot.number slot.row (rows_in slots) (ne_eqb number slot.number (λ same. differ (sym same)))
    ∙ absent number slots (record { none = All-tail Other slot slots lacks.none })

-- the slots after one have other numbers
after : (slot : Slot) (slots : List Slot) → IsStrictlySortedBy nat_cmp (slot_numbers (slot ∷ slots)) → Lacks slot.number slots
after slot slots rising = record {
  none = λ k d inside same.
      let less : slot.number < (get_or slots k d).number = rises (slot ∷ slots) zero (suc k) d rising (omega arith) (omega arith) in
      omega arith;
}

-- so does the slot before one
apart : (number : ℕ) (slot : Slot) (slots : List Slot) (at : ℕ) (d : Slot) → IsStrictlySortedBy nat_cmp (slot_numbers (slot ∷ slots)) → at < length slots → (get_or slots at d).number ≡ number → (number == slot.number) ≡ false
apart number slot slots at d rising within same =
    let less : slot.number < (get_or slots at d).number = rises (slot ∷ slots) zero (suc at) d rising (omega arith) (omega arith) in
    ne_eqb number slot.number (λ equal. omega arith)

found_at : (number : ℕ) (slots : List Slot) (at : ℕ) (d : Slot) → IsStrictlySortedBy nat_cmp (slot_numbers slots) → at < length slots → (get_or slots at d).number ≡ number → row_of number (rows_in slots) ≡ (get_or slots at d).row
found_at number [] at d rising within same = absurd (omega arith)
found_at number (slot ∷ slots) zero d rising within same =
    let Claim : ℕ → Type 0 = λ n. row_of n (rows_in (slot ∷ slots)) ≡ slot.row in
    subst Claim same (found_first slot.number slot.row (rows_in slots) (absent slot.number slots (after slot slots rising)))
found_at number (slot ∷ slots) (suc at) d rising within same =
    let inside : at < length slots = omega arith in
    found_after number slot.number slot.row (rows_in slots) (apart number slot slots at d rising inside same)
    ∙ found_at number slots at d (sorted_tail nat_cmp slot.number (slot_numbers slots) rising) inside same

-- the slot with the number is made empty
taken_at : (number : ℕ) (slots : List Slot) (at : ℕ) (d emptied : Slot) → IsStrictlySortedBy nat_cmp (slot_numbers slots) → at < length slots → (get_or slots at d).number ≡ number → emptied.row ≡ None → rows_in (set slots at emptied) ≡ without number (rows_in slots)
taken_at number [] at d emptied rising within same none = absurd (omega arith)
taken_at number (slot ∷ slots) zero d emptied rising within same none =
    let Claim : ℕ → Type 0 = λ n. without n (rows_in (slot ∷ slots)) ≡ rows_in slots in
    let gone : Claim number = subst Claim same (gone_first slot.number slot.row (rows_in slots) ∙ without_none slot.number (rows_in slots) (absent slot.number slots (after slot slots rising))) in
    rw none (sym gone)
taken_at number (slot ∷ slots) (suc at) d emptied rising within same none =
    let inside : at < length slots = omega arith in
    ap (λ (rows : RowsByNumber). put_first slot.number slot.row rows) (taken_at number slots at d emptied (sorted_tail nat_cmp slot.number (slot_numbers slots) rising) inside same none)
    ∙ sym (kept_first number slot.number slot.row (rows_in slots) (apart number slot slots at d rising inside same))

-- the row of the slot with the number, if it has one, is another one
swapped_at : (number : ℕ) (slots : List Slot) (at : ℕ) (d filled : Slot) (row : List Value) → IsStrictlySortedBy nat_cmp (slot_numbers slots) → at < length slots → (get_or slots at d).number ≡ number
    → filled.number ≡ number → filled.row ≡ option_map (λ _. row) (get_or slots at d).row → rows_in (set slots at filled) ≡ with_row number row (rows_in slots)
swapped_at number [] at d filled row rising within same named stored = absurd (omega arith)
swapped_at number (slot ∷ slots) zero d filled row rising within same named stored =
    let Claim : ℕ → Type 0 = λ n. with_row n row (rows_in (slot ∷ slots)) ≡ put_first n (option_map (λ _. row) slot.row) (rows_in slots) in
    let others : with_row slot.number row (rows_in slots) ≡ rows_in slots = with_row_none slot.number row (rows_in slots) (absent slot.number slots (after slot slots rising)) in
    let written : Claim number = subst Claim same (set_first slot.number slot.row row (rows_in slots) ∙ ap (λ (rows : RowsByNumber). put_first slot.number (option_map (λ _. row) slot.row) rows) others) in
    rw (named, stored) (sym written)
swapped_at number (slot ∷ slots) (suc at) d filled row rising within same named stored =
    let inside : at < length slots = omega arith in
    ap (λ (rows : RowsByNumber). put_first slot.number slot.row rows) (swapped_at number slots at d filled row (sorted_tail nat_cmp slot.number (slot_numbers slots) rising) inside same named stored)
    ∙ sym (same_first number slot.number slot.row row (rows_in slots) (apart number slot slots at d rising inside same))

stay_at : (slots : List Slot) (at : ℕ) (d written : Slot) → at < length slots → written.number ≡ (get_or slots at d).number → slot_numbers (set slots at written) ≡ slot_numbers slots
stay_at slots at d written within same =
    let number : Slot → ℕ = λ slot. slot.number in
    map-set number slots at written
    ∙ ap (λ (n : ℕ). set (slot_numbers slots) at n) (same ∙ sym (get_or-map number slots at d d.number within))
    ∙ set-get_or (slot_numbers slots) at d.number

pub row_found : (number : ℕ) (slots : List Slot) (at : ℕ) (d : Slot) → IsStrictlySortedBy nat_cmp (slot_numbers slots) → HasAt number slots at → (get_or slots at d).row ≡ row_of number (rows_in slots)
row_found number slots at d rising has = sym (found_at number slots at d rising has.within (has.same d))

pub row_taken : (number : ℕ) (slots : List Slot) (at : ℕ) (emptied : Slot) → IsStrictlySortedBy nat_cmp (slot_numbers slots) → HasAt number slots at → emptied.row ≡ None → rows_in (set slots at emptied) ≡ without number (rows_in slots)
row_taken number slots at emptied rising has none = taken_at number slots at emptied emptied rising has.within (has.same emptied) none

pub row_swapped : (number : ℕ) (slots : List Slot) (at : ℕ) (slot filled : Slot) (row : List Value) → IsStrictlySortedBy nat_cmp (slot_numbers slots) → HasAt number slots at → slot ≡ get_or slots at slot
    → filled.number ≡ slot.number → filled.row ≡ option_map (λ _. row) slot.row → rows_in (set slots at filled) ≡ with_row number row (rows_in slots)
row_swapped number slots at slot filled row rising has read named stored =
    swapped_at number slots at slot filled row rising has.within (has.same slot) (named ∙ ap (λ (s : Slot). s.number) read ∙ has.same slot) (stored ∙ ap (λ (s : Slot). option_map (λ _. row) s.row) read)

-- a slot is written that keeps its number
pub numbers_stay : (number : ℕ) (slots : List Slot) (at : ℕ) (slot written : Slot) → HasAt number slots at → slot ≡ get_or slots at slot → written.number ≡ slot.number → slot_numbers (set slots at written) ≡ slot_numbers slots
numbers_stay number slots at slot written has read same = stay_at slots at slot written has.within (same ∙ ap (λ (s : Slot). s.number) read)

-- ---- the slots that have a row

pub live_rows : (slots : List Slot) → rows_in (filter is_live slots) ≡ rows_in slots
live_rows [] = refl
live_rows (slot ∷ slots) =
    elim slot.row as (λ (row : Option (List Value)). rows_in (cond (is_some row) (record { number = slot.number; row = row } ∷ filter is_live slots) (filter is_live slots)) ≡ put_first slot.number row (rows_in slots)) [
      | None ↦ live_rows slots
      | Some r ↦ ap (λ (rows : RowsByNumber). (slot.number, r) ∷ rows) (live_rows slots)
    ]

pub live_numbers : (slots : List Slot) → slot_numbers (filter is_live slots) ≡ numbers (rows_in slots)
live_numbers [] = refl
live_numbers (slot ∷ slots) =
    elim slot.row as (λ (row : Option (List Value)). slot_numbers (cond (is_some row) (record { number = slot.number; row = row } ∷ filter is_live slots) (filter is_live slots)) ≡ numbers (put_first slot.number row (rows_in slots))) [
      | None ↦ live_numbers slots
      | Some r ↦ ap (λ (others : List ℕ). slot.number ∷ others) (live_numbers slots)
    ]

-- what holds of the slots' numbers holds of the rows'
first_too : (P : ℕ → Type 0) (number : ℕ) (row : Option (List Value)) (rows : RowsByNumber) → P number → AllByRecursion P (numbers rows) → AllByRecursion P (numbers (put_first number row rows))
first_too P number None rows first all = all
first_too P number (Some r) rows first all = (first, all)

rows_too : (P : ℕ → Type 0) (slots : List Slot) → AllByRecursion P (slot_numbers slots) → AllByRecursion P (numbers (rows_in slots))
rows_too P [] all = tt
rows_too P (slot ∷ slots) all = first_too P slot.number slot.row (rows_in slots) all.0 (rows_too P slots all.1)

pub rows_below : (limit : ℕ) (slots : List Slot) → All (λ number. number < limit) (slot_numbers slots) → All (λ number. number < limit) (numbers (rows_in slots))
rows_below limit slots below =
    let Below : ℕ → Type 0 = λ number. number < limit in
    All-from_recursion Below (numbers (rows_in slots)) (rows_too Below slots (recursion_from_All Below (slot_numbers slots) below))

rise_first : (number : ℕ) (row : Option (List Value)) (rows : RowsByNumber) → AllByRecursion (λ n. nat_cmp number n ≡ Less) (numbers rows) → IsStrictlySortedBy nat_cmp (numbers rows) → IsStrictlySortedBy nat_cmp (numbers (put_first number row rows))
unfolding IsStrictlySortedBy
rise_first number None rows above rising = rising
rise_first number (Some r) rows above rising = (above, rising)

pub rows_rise : (slots : List Slot) → IsStrictlySortedBy nat_cmp (slot_numbers slots) → IsStrictlySortedBy nat_cmp (numbers (rows_in slots))
rows_rise [] rising = rising
rows_rise (slot ∷ slots) rising =
    rise_first slot.number slot.row (rows_in slots)
    (rows_too (λ n. nat_cmp slot.number n ≡ Less) slots (sorted_head nat_cmp slot.number (slot_numbers slots) rising))
    (rows_rise slots (sorted_tail nat_cmp slot.number (slot_numbers slots) rising))

-- ---- one more slot

last_too : (P : ℕ → Type 0) (numbers : List ℕ) (last : ℕ) → AllByRecursion P numbers → P last → AllByRecursion P (numbers ++ last ∷ [])
last_too P [] last all here = (here, tt)
last_too P (number ∷ numbers) last all here = (all.0, last_too P numbers last all.1 here)

less_cmp : (a b : ℕ) → a < b → nat_cmp a b ≡ Less
less_cmp a b less = grind (arith, nat_tests)

rise_last : (numbers : List ℕ) (last : ℕ) → IsStrictlySortedBy nat_cmp numbers → AllByRecursion (λ number. number < last) numbers → IsStrictlySortedBy nat_cmp (numbers ++ last ∷ [])
unfolding IsStrictlySortedBy
rise_last [] last rising below = (tt, tt)
rise_last (number ∷ numbers) last rising below =
    (last_too (λ n. nat_cmp number n ≡ Less) numbers last rising.0 (less_cmp number last below.0), rise_last numbers last rising.1 below.1)

pub numbers_pushed : (slots : List Slot) (slot : Slot) → slot_numbers (slots ++ slot ∷ []) ≡ slot_numbers slots ++ slot.number ∷ []
numbers_pushed slots slot = map_push (λ (s : Slot). s.number) slots slot

pub rows_pushed : (slots : List Slot) (number : ℕ) (row : List Value) → rows_in (slots ++ record { number = number; row = Some row } ∷ []) ≡ rows_in slots ++ (number, row) ∷ []
rows_pushed slots number row = filter_map-append (λ (slot : Slot). option_map (λ (r : List Value). (slot.number, r)) slot.row) slots (record { number = number; row = Some row } ∷ [])

-- the rows are no more than the slots
pub rows_within : (slots : List Slot) → length (rows_in slots) ≤ length slots
rows_within [] = omega arith
rows_within (slot ∷ slots) = one_more slot.number slot.row (rows_in slots) (length slots) (rows_within slots)
  where
    one_more : (number : ℕ) (row : Option (List Value)) (rows : RowsByNumber) (n : ℕ) → length rows ≤ n → length (put_first number row rows) ≤ suc n
    one_more number None rows n within = omega arith
    one_more number (Some r) rows n within = omega arith

-- ---- the fields of slots

pub none_counted : AreCounted [] 0 0
unfolding IsStrictlySortedBy
none_counted = record { rising = tt; below = All-from_recursion (λ (number : ℕ). number < 0) [] tt; exact = refl }

pub pushed_counted : (row : List Value) (slots : List Slot) (live next : ℕ) → AreCounted slots live next → AreCounted (slots ++ record { number = next; row = Some row } ∷ []) (live + 1) (next + 1)
pushed_counted row slots live next h =
    let slot : Slot = record { number = next; row = Some row } in
    let Below : ℕ → Type 0 = λ number. number < next in
    let Within : ℕ → Type 0 = λ number. number < next + 1 in
    let all = numbers_pushed slots slot in
    record {
      rising = rw all (rise_last (slot_numbers slots) next h.rising (recursion_from_All Below (slot_numbers slots) h.below));
      below = rw all (All-push Within (slot_numbers slots) next (All-weaker Below Within (λ number less. omega arith) (slot_numbers slots) h.below) (omega arith));
      exact = omega (arith, h.exact, ap (λ (rows : RowsByNumber). length rows) (rows_pushed slots next row), length_push (rows_in slots) (next, row));
    }

pub live_counted : (slots : List Slot) (live next : ℕ) → AreCounted slots live next → AreCounted (filter is_live slots) live next
live_counted slots live next h = record {
  rising = rw (live_numbers slots) (rows_rise slots h.rising);
  below = rw (live_numbers slots) (rows_below next slots h.below);
  exact = h.exact ∙ ap (λ (rows : RowsByNumber). length rows) (sym (live_rows slots));
}

-- the numbers stay, and so do the rows' number
stay_counted : (slots written : List Slot) (live fewer next : ℕ) → AreCounted slots live next → slot_numbers written ≡ slot_numbers slots → fewer ≡ length (rows_in written) → AreCounted written fewer next
stay_counted slots written live fewer next h same counted = record {
  rising = rw same h.rising;
  below = rw same h.below;
  exact = counted;
}

pub taken_counted : (number : ℕ) (row : List Value) (slots written : List Slot) (live next : ℕ) → AreCounted slots live next → slot_numbers written ≡ slot_numbers slots → rows_in written ≡ without number (rows_in slots) → row_of number (rows_in slots) ≡ Some row
    → (1 ≤ live) × AreCounted written (live - 1) next
taken_counted number row slots written live next h same rows found =
    let one = count_removed number row (rows_in slots) (rows_rise slots h.rising) found in
    let left = ap (λ (others : RowsByNumber). length others) rows in
    let counted = h.exact in
    (omega arith, stay_counted slots written live (live - 1) next h same (omega arith))

pub none_taken_counted : (number : ℕ) (slots written : List Slot) (live next : ℕ) → AreCounted slots live next → slot_numbers written ≡ slot_numbers slots → rows_in written ≡ without number (rows_in slots) → row_of number (rows_in slots) ≡ None
    → AreCounted written live next
none_taken_counted number slots written live next h same rows absent =
    stay_counted slots written live live next h same (h.exact ∙ ap (λ (others : RowsByNumber). length others) (sym (rows ∙ without_none number (rows_in slots) absent)))

pub swapped_counted : (number : ℕ) (row : List Value) (slots written : List Slot) (live next : ℕ) → AreCounted slots live next → slot_numbers written ≡ slot_numbers slots → rows_in written ≡ with_row number row (rows_in slots)
    → AreCounted written live next
swapped_counted number row slots written live next h same rows =
    let set = length-map (rows_in slots) (λ (entry : ℕ × List Value). if number == entry.0 then (entry.0, row) else entry) in
    let all = ap (λ (others : RowsByNumber). length others) rows in
    stay_counted slots written live live next h same (h.exact ∙ sym (all ∙ set))

-- ---- for the search

-- what a function over slots needs
pub ruleset slot_laws = (absent, row_found, row_taken, row_swapped, without_none, with_row_none)

-- what a function over the fields of slots needs
pub ruleset count_laws = (none_counted, pushed_counted, taken_counted, none_taken_counted, live_counted, swapped_counted, rows_pushed, live_rows, rows_rise, rows_within, without_none, with_row_none, on_none_found)
