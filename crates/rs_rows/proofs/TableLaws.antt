-- What a map's calls do to its entries, in the words of a table's rows.
use Rattle.std.proofs.Common.{◌≡◌, ℕ, ◌+◌, ◌-◌, ◌*◌, ◌^◌, min, ◌<◌, ◌≤◌, ◌==◌, Bool, true, false, not, if◌then◌else◌, List, [], ◌∷◌, ◌++◌, map, filter, length, sum_by, Option, Some, None, Result, Ok, ok_or, OnErr, IfSome, All, subst, refl, sym, ap, ◌∙◌, inl, inr, arith, length-append, nat_cmp, Less}
use Rattle.std.proofs.lemmas.Bool.{cases_Bool, le-ltb, ne_eqb}
use Rattle.std.proofs.lemmas.Cmp.{ranked}
use Rattle.std.proofs.lemmas.List.{length-map, map-append}
use Rattle.std.proofs.lemmas.List.Elements.{All-push, All-weaker, All-filter, All-map, All-from_recursion, filter_agree, recursion_from_All}
use Rattle.std.proofs.lemmas.List.Sums.{sum_by_push, sum_by-cons, sum_by-le, length-filter, count_by-le-length}
use Rattle.std.proofs.lemmas.Map.{NonePasses, none_passes_from_lookup}
use Rattle.std.proofs.lemmas.Map.Entries.{none_past_head, sum_by-remove_entry, sum_by-set_value, All-lookup}
use Rattle.std.proofs.lemmas.Map.Keys.{IsDistinct-from_sorted, IsDistinct-tail, sorted_head, sorted_tail}
use Rattle.std.specs.BTreeMap.{insert_entry, is_at}
use Rattle.std.specs.Cmp.{IsEquivalence, eq_by_cmp_equiv, nat_cmp_total, unsigned_tied}
use Rattle.std.specs.List.{AllByRecursion, IsDistinct}
use Rattle.std.specs.List.Sorted.{IsStrictlySortedBy}
use Rattle.std.specs.Map.{keys_of, lookup, remove_entry, set_value, values_of}
use Rattle.rs_base.specs.Sizes.{row_size}
use Rattle.rs_base.specs.declared.value.Value.{Value}
use Rattle.rs_rows.specs.TableRows.{TableRows, RowsByNumber, numbers, row_of, bytes_of, without, with_row, inserted, removed, replaced, IsSmall, HasRoom, IsTable}

-- ---- entries

-- a map's test of a number is equality
pub same_test : (number other : ℕ) → is_at (nat_cmp number) other ≡ (number == other)
same_test number other = unsigned_tied number other

-- two tests that agree find the same
found_alike : {X : Type 0} (p q : ℕ → Bool) → ((k : ℕ) → p k ≡ q k) → (es : List (ℕ × X)) → lookup p es ≡ lookup q es
found_alike p q same [] = refl
found_alike p q same (e ∷ es) = rw (same e.0, found_alike p q same es) refl

pub found_by_number : {X : Type 0} (number : ℕ) (es : List (ℕ × X)) → lookup (is_at (nat_cmp number)) es ≡ lookup (λ other. number == other) es
found_by_number number es = found_alike (is_at (nat_cmp number)) (λ other. number == other) (same_test number) es

-- entries none of which passes all stay
others_stay : {X : Type 0} (test : ℕ → Bool) (es : List (ℕ × X)) → NonePasses test es → filter (λ e. not (test e.0)) es ≡ es
others_stay test [] none = refl
others_stay test (e ∷ es) none = rw (none.0, others_stay test es none.1) refl

others_same : {X : Type 0} (test : ℕ → Bool) (x : X) (es : List (ℕ × X)) → NonePasses test es → map (λ e. if test e.0 then (e.0, x) else e) es ≡ es
others_same test x [] none = refl
others_same test x (e ∷ es) none = rw (none.0, others_same test x es none.1) refl

removed_one : {X : Type 0} {eq : ℕ → ℕ → Bool} → IsEquivalence eq → (number : ℕ) (es : List (ℕ × X)) → IsDistinct eq (keys_of es) → remove_entry (eq number) es ≡ filter (λ e. not (eq number e.0)) es
removed_one laws number [] distinct = refl
removed_one {X} {eq} laws number (e ∷ es) distinct =
    elim (cases_Bool (eq number e.0)) [
      | inl same ↦ rw same (sym (others_stay (eq number) es (none_past_head laws number e es distinct same)))
      | inr other ↦ rw other (ap (λ (rest : List (ℕ × X)). e ∷ rest) (removed_one laws number es (IsDistinct-tail eq e.0 (keys_of es) distinct)))
    ]

replaced_one : {X : Type 0} {eq : ℕ → ℕ → Bool} → IsEquivalence eq → (number : ℕ) (x : X) (es : List (ℕ × X)) → IsDistinct eq (keys_of es) → set_value (eq number) es x ≡ map (λ e. if eq number e.0 then (e.0, x) else e) es
replaced_one laws number x [] distinct = refl
replaced_one {X} {eq} laws number x (e ∷ es) distinct =
    elim (cases_Bool (eq number e.0)) [
      | inl same ↦ rw same (ap (λ (rest : List (ℕ × X)). (e.0, x) ∷ rest) (sym (others_same (eq number) x es (none_past_head laws number e es distinct same))))
      | inr other ↦ rw other (ap (λ (rest : List (ℕ × X)). e ∷ rest) (replaced_one laws number x es (IsDistinct-tail eq e.0 (keys_of es) distinct)))
    ]

replaced_alike : {X : Type 0} (p q : ℕ → Bool) → ((k : ℕ) → p k ≡ q k) → (x : X) (es : List (ℕ × X)) → map (λ e. if p e.0 then (e.0, x) else e) es ≡ map (λ e. if q e.0 then (e.0, x) else e) es
replaced_alike p q same x [] = refl
replaced_alike p q same x (e ∷ es) = rw (same e.0, replaced_alike p q same x es) refl

-- removing the first entry with a number leaves those with another one
pub removed_entry : {X : Type 0} (number : ℕ) (es : List (ℕ × X)) → IsStrictlySortedBy nat_cmp (keys_of es) → remove_entry (is_at (nat_cmp number)) es ≡ filter (λ e. not (number == e.0)) es
removed_entry {X} number es rising =
    removed_one (eq_by_cmp_equiv nat_cmp_total) number es (IsDistinct-from_sorted nat_cmp (keys_of es) rising)
    ∙ filter_agree (λ (e : ℕ × X). not (is_at (nat_cmp number) e.0)) (λ (e : ℕ × X). not (number == e.0)) (λ e. ap not (same_test number e.0)) es

-- writing the value of the first entry with a number writes that of each
pub replaced_entry : {X : Type 0} (number : ℕ) (x : X) (es : List (ℕ × X)) → IsStrictlySortedBy nat_cmp (keys_of es) → set_value (is_at (nat_cmp number)) es x ≡ map (λ e. if number == e.0 then (e.0, x) else e) es
replaced_entry number x es rising =
    replaced_one (eq_by_cmp_equiv nat_cmp_total) number x es (IsDistinct-from_sorted nat_cmp (keys_of es) rising)
    ∙ replaced_alike (is_at (nat_cmp number)) (λ other. number == other) (same_test number) x es

-- a number above all goes to the end
appended_entry : {X : Type 0} (es : List (ℕ × X)) (number : ℕ) (x : X) → AllByRecursion (λ e. e.0 < number) es → insert_entry nat_cmp es number x ≡ es ++ (number, x) ∷ []
appended_entry [] number x below = refl
appended_entry {X} (e ∷ es) number x below =
    let above : e.0 < number = below.0 in
    rw (le-ltb number e.0 (omega arith), ne_eqb number e.0 (λ same. omega arith))
    (ap (λ (rest : List (ℕ × X)). e ∷ rest) (appended_entry es number x below.1))

pub appended : {X : Type 0} (es : List (ℕ × X)) (number : ℕ) (x : X) → All (λ e. e.0 < number) es → insert_entry nat_cmp es number x ≡ es ++ (number, x) ∷ []
appended {X} es number x below = appended_entry es number x (recursion_from_All (λ (e : ℕ × X). e.0 < number) es below)

-- in a list whose numbers rise, those before an entry are below it
less_at : {X : Type 0} (number : ℕ) (es : List (ℕ × X)) (e : ℕ × X) (rest : List (ℕ × X)) → AllByRecursion (λ other. nat_cmp number other ≡ Less) (keys_of (es ++ e ∷ rest)) → number < e.0
less_at number [] e rest all = ranked number e.0 Less (sym all.0)
less_at number (first ∷ es) e rest all = less_at number es e rest all.1

each_below : {X : Type 0} (es : List (ℕ × X)) (e : ℕ × X) (rest : List (ℕ × X)) → IsStrictlySortedBy nat_cmp (keys_of (es ++ e ∷ rest)) → AllByRecursion (λ other. other.0 < e.0) es
each_below [] e rest rising = tt
each_below (first ∷ es) e rest rising =
    (less_at first.0 es e rest (sorted_head nat_cmp first.0 (keys_of (es ++ e ∷ rest)) rising), each_below es e rest (sorted_tail nat_cmp first.0 (keys_of (es ++ e ∷ rest)) rising))

pub below_next : {X : Type 0} (es : List (ℕ × X)) (e : ℕ × X) (rest : List (ℕ × X)) → IsStrictlySortedBy nat_cmp (keys_of (es ++ e ∷ rest)) → All (λ other. other.0 < e.0) es
below_next {X} es e rest rising = All-from_recursion (λ (other : ℕ × X). other.0 < e.0) es (each_below es e rest rising)

-- without such a number nothing is removed, nothing replaced
pub without_none : (number : ℕ) (rows : List (ℕ × List Value)) → row_of number rows ≡ None → without number rows ≡ rows
without_none number rows absent = others_stay (λ other. number == other) rows (none_passes_from_lookup (λ other. number == other) rows absent)

pub with_row_none : (number : ℕ) (row : List Value) (rows : List (ℕ × List Value)) → row_of number rows ≡ None → with_row number row rows ≡ rows
with_row_none number row rows absent = others_same (λ other. number == other) row rows (none_passes_from_lookup (λ other. number == other) rows absent)

-- ---- tables

-- the bytes of all rows
pub bytes_within : (table : TableRows) → IsTable table → bytes_of table.rows ≤ 67108864
bytes_within table t =
    let each = All-map (λ (row : List Value). row_size row ≤ 1024) (λ (entry : ℕ × List Value). entry.1) table.rows t.small in
    let all : bytes_of table.rows ≤ length (map (λ (entry : ℕ × List Value). entry.1) table.rows) * 1024 = sum_by-le row_size 1024 (map (λ (entry : ℕ × List Value). entry.1) table.rows) each in
    let few = t.few in
    omega (arith, length-map table.rows (λ (entry : ℕ × List Value). entry.1))

pub bytes_inserted : (row : List Value) (table : TableRows) → bytes_of (inserted row table).rows ≡ bytes_of table.rows + row_size row
bytes_inserted row table =
    ap (sum_by row_size) (map-append (λ (entry : ℕ × List Value). entry.1) table.rows ((table.next, row) ∷ []))
    ∙ sum_by_push row_size (map (λ (entry : ℕ × List Value). entry.1) table.rows) row

pub bytes_removed : (number : ℕ) (row : List Value) (table : TableRows) → IsTable table → row_of number table.rows ≡ Some row → bytes_of (removed number table).rows + row_size row ≡ bytes_of table.rows
bytes_removed number row table t found =
    let there : lookup (is_at (nat_cmp number)) table.rows ≡ Some row = found_by_number number table.rows ∙ found in
    rw (removed_entry number table.rows t.rising, there) at (sum_by-remove_entry row_size (is_at (nat_cmp number)) table.rows)

pub bytes_replaced : (number : ℕ) (old row : List Value) (table : TableRows) → IsTable table → row_of number table.rows ≡ Some old → bytes_of (replaced number row table).rows + row_size old ≡ bytes_of table.rows + row_size row
bytes_replaced number old row table t found =
    let there : lookup (is_at (nat_cmp number)) table.rows ≡ Some old = found_by_number number table.rows ∙ found in
    rw (replaced_entry number row table.rows t.rising) at (sum_by-set_value row_size (is_at (nat_cmp number)) table.rows old row there)

-- one row fewer
pub count_removed : (number : ℕ) (row : List Value) (rows : RowsByNumber) → IsStrictlySortedBy nat_cmp (numbers rows) → row_of number rows ≡ Some row → length (without number rows) + 1 ≡ length rows
count_removed number row rows rising found =
    let there : lookup (is_at (nat_cmp number)) rows ≡ Some row = found_by_number number rows ∙ found in
    let one : List Value → ℕ = λ _. 1 in
    let fewer = rw (removed_entry number rows rising, there) at (sum_by-remove_entry one (is_at (nat_cmp number)) rows) in
    let all : (entries : RowsByNumber) → sum_by one (values_of entries) ≡ length entries = counted in
    omega (arith, fewer, all (without number rows), all rows)
  where
    counted : (entries : RowsByNumber) → sum_by (λ (_ : List Value). 1) (values_of entries) ≡ length entries
    counted [] = refl
    counted (entry ∷ entries) = omega (arith, sum_by-cons (λ (_ : List Value). 1) entry.1 (values_of entries), counted entries)

pub table_inserted : (row : List Value) (table : TableRows) → IsTable table → HasRoom table → IsSmall row → IsStrictlySortedBy nat_cmp (numbers (inserted row table).rows) → IsTable (inserted row table)
table_inserted row table t room small rising = record {
  rising = rising;
  below = All-push (λ (entry : ℕ × List Value). entry.0 < table.next + 1) table.rows (table.next, row)
      (All-weaker (λ (entry : ℕ × List Value). entry.0 < table.next) (λ (entry : ℕ × List Value). entry.0 < table.next + 1) (λ entry h. omega arith) table.rows t.below) (omega arith);
  few = omega (arith, length-append table.rows ((table.next, row) ∷ []));
  small = All-push (λ (entry : ℕ × List Value). IsSmall entry.1) table.rows (table.next, row) t.small small;
}

pub table_removed : (number : ℕ) (table : TableRows) → IsTable table → IsStrictlySortedBy nat_cmp (numbers (removed number table).rows) → IsTable (removed number table)
table_removed number table t rising = record {
  rising = rising;
  below = All-filter (λ (entry : ℕ × List Value). not (number == entry.0)) (λ (entry : ℕ × List Value). entry.0 < table.next) table.rows t.below;
  few = let few = t.few in omega (arith, length-filter (λ (entry : ℕ × List Value). not (number == entry.0)) table.rows, count_by-le-length (λ (entry : ℕ × List Value). not (number == entry.0)) table.rows);
  small = All-filter (λ (entry : ℕ × List Value). not (number == entry.0)) (λ (entry : ℕ × List Value). IsSmall entry.1) table.rows t.small;
}

pub table_replaced : (number : ℕ) (row : List Value) (table : TableRows) → IsTable table → IsSmall row → IsStrictlySortedBy nat_cmp (numbers (replaced number row table).rows) → IsTable (replaced number row table)
table_replaced number row table t small rising =
    let put : ℕ × List Value → ℕ × List Value = λ entry. if number == entry.0 then (entry.0, row) else entry in
    record {
      rising = rising;
      below = All-map (λ (entry : ℕ × List Value). entry.0 < table.next) put table.rows
          (All-weaker (λ (entry : ℕ × List Value). entry.0 < table.next) (λ (entry : ℕ × List Value). (put entry).0 < table.next)
          (λ entry h. elim (number == entry.0) as (λ (b : Bool). (if b then (entry.0, row) else entry).0 < table.next) [ true ↦ h | false ↦ h ]) table.rows t.below);
      few = let few = t.few in omega (arith, length-map table.rows put);
      small = All-map (λ (entry : ℕ × List Value). IsSmall entry.1) put table.rows
          (All-weaker (λ (entry : ℕ × List Value). IsSmall entry.1) (λ (entry : ℕ × List Value). IsSmall (put entry).1)
          (λ entry h. elim (number == entry.0) as (λ (b : Bool). IsSmall (if b then (entry.0, row) else entry).1) [ true ↦ small | false ↦ h ]) table.rows t.small);
    }

-- ---- the fields of a table after a call

small_found : (number : ℕ) (row : List Value) (table : TableRows) → IsTable table → row_of number table.rows ≡ Some row → IsSmall row
small_found number row table t found =
    let h : IfSome (row_of number table.rows) IsSmall = All-lookup IsSmall (λ other. number == other) table.rows t.small in
    rw found at h

pub found_from_ok : {X : Type 0} (found : Option X) (given x : X) → ok_or found given ≡ Ok x → found ≡ Some x
found_from_ok None given x same = cc
found_from_ok (Some y) given x same = cc

-- an error comes only if there is no such row
pub on_none_found : {X : Type 0} (P : Type 0) (found : Option X) (given : X) (answer : Result X X) → answer ≡ ok_or found given → (found ≡ None → P) → OnErr answer P
on_none_found P None given answer same holds = rw same (holds refl)
on_none_found P (Some x) given answer same holds = rw same tt

-- what holds of the fields after a row was removed
pub record Removed (new : TableRows) (bytes size : ℕ) : Type 0 where
  pub within : size ≤ bytes
  pub left : IsTable new
  pub exact : bytes - size ≡ bytes_of new.rows

pub kept_removed : (number : ℕ) (row : List Value) (table new : TableRows) (bytes size : ℕ) → IsTable table → bytes ≡ bytes_of table.rows
    → new ≡ removed number table → IsStrictlySortedBy nat_cmp (numbers new.rows) → row_of number table.rows ≡ Some row → size ≡ min (row_size row) (2 ^ 64 - 1) → Removed new bytes size
kept_removed number row table new bytes size t exact same rising found sized =
    let small : row_size row ≤ 1024 = small_found number row table t found in
    let all : bytes_of (without number table.rows) + row_size row ≡ bytes_of table.rows = bytes_removed number row table t found in
    let left : IsTable (removed number table) = table_removed number table t (subst (λ (it : TableRows). IsStrictlySortedBy nat_cmp (numbers it.rows)) same rising) in
    let rest : bytes - size ≡ bytes_of (without number table.rows) = omega arith in
    record {
      within = omega arith;
      left = subst IsTable (sym same) left;
      exact = rest ∙ ap (λ (it : TableRows). bytes_of it.rows) (sym same);
    }

-- what holds of the fields after a row was replaced
pub record Replaced (new : TableRows) (bytes size more : ℕ) : Type 0 where
  pub within : size ≤ bytes
  pub fits : bytes - size + more < 2 ^ 64
  pub left : IsTable new
  pub exact : bytes - size + more ≡ bytes_of new.rows

pub kept_replaced : (number : ℕ) (old row : List Value) (table new : TableRows) (bytes size more : ℕ) → IsTable table → bytes ≡ bytes_of table.rows → IsSmall row
    → new ≡ replaced number row table → IsStrictlySortedBy nat_cmp (numbers new.rows) → row_of number table.rows ≡ Some old → size ≡ min (row_size old) (2 ^ 64 - 1) → more ≡ min (row_size row) (2 ^ 64 - 1)
    → Replaced new bytes size more
kept_replaced number old row table new bytes size more t exact fresh same rising found sized grown =
    let small : row_size old ≤ 1024 = small_found number old table t found in
    let few : row_size row ≤ 1024 = fresh in
    let all : bytes_of (with_row number row table.rows) + row_size old ≡ bytes_of table.rows + row_size row = bytes_replaced number old row table t found in
    let left : IsTable (replaced number row table) = table_replaced number row table t fresh (subst (λ (it : TableRows). IsStrictlySortedBy nat_cmp (numbers it.rows)) same rising) in
    let most : bytes_of table.rows ≤ 67108864 = bytes_within table t in
    let without_old : bytes_of (without number table.rows) + row_size old ≡ bytes_of table.rows = bytes_removed number old table t found in
    let rest : bytes - size + more ≡ bytes_of (with_row number row table.rows) = omega arith in
    record {
      within = omega arith;
      fits = omega arith;
      left = subst IsTable (sym same) left;
      exact = rest ∙ ap (λ (it : TableRows). bytes_of it.rows) (sym same);
    }
