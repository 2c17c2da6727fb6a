-- A path gives the rows that satisfy its clause, and these are all that a predicate needs.
use Rattle.std.proofs.Common.{◌≡◌, inl, inr, ℕ, ◌==◌, ◌&&◌, ◌||◌, Bool, true, false, List, [], ◌∷◌, ◌++◌, ◌+◌, ◌<◌, filter, length, take, get_or, find, Option, Some, None, All, IsTrue, refl, sym, ap, ◌∙◌, subst, arith, nat_cmp}
use Rattle.std.specs.Prelude.{slice_get, Contains, option_map, filter_map}
use Rattle.std.specs.List.{AllByRecursion, list_all}
use Rattle.std.specs.List.Sorted.{IsStrictlySortedBy}
use Rattle.std.proofs.lemmas.List.Elements.{All-contains_itself, All-filter, All-weaker, recursion_from_All, filter-append, filter_map-append}
use Rattle.std.proofs.lemmas.List.{take_more}
use Rattle.std.proofs.lemmas.Map.Views.{exact_unsigned_eq}
use Rattle.std.proofs.lemmas.Bool.{or_left, or_right, or_cases, and_parts}
use Rattle.rs_base.specs.declared.value.Value.{Value}
use Rattle.rs_base.specs.Value.{value_cmp}
use Rattle.rs_ast.specs.Allows.{allows}
use Rattle.rs_ast.specs.declared.bound.BoundCmp.{BoundCmp}
use Rattle.rs_ast.specs.declared.bound.BoundSide.TheVariants as sides
use Rattle.rs_ast.specs.declared.clause.Op.{Op}
use Rattle.rs_eval.specs.Clauses.{comparison_holds, cmp_holds, clause_holds, holds}
use Rattle.rs_index.specs.Index.{Index}
use Rattle.rs_index.specs.Pairs.{pairs_of, range_of}
use Rattle.rs_index.proofs.LawLemmas.{In, in_from_contains, contains_from_in, row_of_in, HasSatisfying, row_of_range, range_of_row}
use Rattle.rs_plan.specs.Section.{compares, is_equality, is_given, is_range}
use Rattle.rs_rows.specs.TableRows.{RowsByNumber, numbers, row_of}
use Rattle.rs_exec.specs.Paths.{rows_at, IsIndexOf, IsRisingOf, is_path_clause}
use Rattle.rs_exec.specs.Reads.{path_clause, on_path, satisfying}
use Rattle.rs_exec.proofs.Rising.{same_rising, rising_filter, HasEntry, entry_of_number, number_of_entry}

-- ---- rows by their numbers

-- one more number
pub rows_at_more : (clauses : List (List BoundCmp)) (numbers : List ℕ) (rows : RowsByNumber) (i : ℕ) → i < length numbers
    → filter (λ entry. holds clauses entry.1) (rows_at (take (i + 1) numbers) rows)
    ≡ filter (λ entry. holds clauses entry.1) (rows_at (take i numbers) rows) ++ filter (λ entry. holds clauses entry.1) (rows_at (get_or numbers i 0 ∷ []) rows)
rows_at_more clauses numbers rows i within =
    let read : ℕ → Option (ℕ × List Value) = λ number. option_map (λ row. (number, row)) (row_of number rows) in
    let passes : ℕ × List Value → Bool = λ entry. holds clauses entry.1 in
    let more : rows_at (take (i + 1) numbers) rows ≡ rows_at (take i numbers) rows ++ rows_at (get_or numbers i 0 ∷ []) rows
    = ap (filter_map read) (take_more numbers i 0 within) ∙ filter_map-append read (take i numbers) (get_or numbers i 0 ∷ []) in
    ap (filter passes) more ∙ filter-append passes (rows_at (take i numbers) rows) (rows_at (get_or numbers i 0 ∷ []) rows)

module _ (rows : RowsByNumber) where
  each_at : (es : RowsByNumber) → AllByRecursion (λ (e : ℕ × List Value). row_of e.0 rows ≡ Some e.1) es → rows_at (numbers es) rows ≡ es
  each_at [] all = refl
  each_at (e ∷ es) all = rw all.0 (ap (λ (rest : RowsByNumber). e ∷ rest) (each_at es all.1))

  found_rows : IsStrictlySortedBy nat_cmp (numbers rows) → All (λ (e : ℕ × List Value). row_of e.0 rows ≡ Some e.1) rows
  found_rows rising =
      let P : ℕ × List Value → Type 0 = λ e. row_of e.0 rows ≡ Some e.1 in
      All-weaker (λ e. Contains rows e) P (λ e has. row_of_in rows e.0 e.1 rising (in_from_contains rows e has)) rows (All-contains_itself rows)

  -- the numbers of some of the rows give these rows
  pub rows_at_filter : IsStrictlySortedBy nat_cmp (numbers rows) → (test : ℕ × List Value → Bool) → rows_at (numbers (filter test rows)) rows ≡ filter test rows
  rows_at_filter rising test =
      let P : ℕ × List Value → Type 0 = λ e. row_of e.0 rows ≡ Some e.1 in
      each_at (filter test rows) (recursion_from_All P (filter test rows) (All-filter test P rows (found_rows rising)))

  -- and the numbers of all give all
  pub rows_at_all : IsStrictlySortedBy nat_cmp (numbers rows) → rows_at (numbers rows) rows ≡ rows
  rows_at_all rising =
      let P : ℕ × List Value → Type 0 = λ e. row_of e.0 rows ≡ Some e.1 in
      each_at rows (recursion_from_All P rows (found_rows rising))

-- ---- a clause of a predicate

module _ {X : Type 0} (test p : X → Bool) where
  -- what was found passes the test
  pub found_passes : (xs : List X) (x : X) → find test xs ≡ Some x → test x ≡ true
  found_passes [] x found = absurd (cc)
  found_passes (y ∷ ys) x found = by (test y) refl (found_passes ys x)
    where
      by : (b : Bool) → test y ≡ b → (find test ys ≡ Some x → test x ≡ true) → test x ≡ true
      by true is later = let same : Some y ≡ Some x = rw is at found in let own : y ≡ x = cc in sym (ap test own) ∙ is
      by false is later = later (rw is at found)

  -- what holds of all holds of what was found
  pub found_holds : (xs : List X) (x : X) → find test xs ≡ Some x → list_all p xs ≡ true → p x ≡ true
  found_holds [] x found all = absurd (cc)
  found_holds (y ∷ ys) x found all = by (test y) refl (and_parts (p y) (list_all p ys) all).0 (and_parts (p y) (list_all p ys) all).1 (found_holds ys x)
    where
      by : (b : Bool) → test y ≡ b → p y ≡ true → list_all p ys ≡ true → (find test ys ≡ Some x → list_all p ys ≡ true → p x ≡ true) → p x ≡ true
      by true is own rest later = let same : Some y ≡ Some x = rw is at found in let it : y ≡ x = cc in sym (ap p it) ∙ own
      by false is own rest later = later (rw is at found) rest

-- a row that satisfies a predicate satisfies each clause that is found in it
found_clause : (test : List BoundCmp → Bool) (clauses : List (List BoundCmp)) (clause : List BoundCmp) (row : List Value) → find test clauses ≡ Some clause → holds clauses row ≡ true → clause_holds row clause ≡ true
unfolding holds
found_clause test clauses clause row found all = found_holds test (clause_holds row) clauses clause found all

-- of two tests, of which the one that is made first lets through all that pass the other, the other alone decides
pub filter_twice : {X : Type 0} (p q : X → Bool) → ((x : X) → p x ≡ true → q x ≡ true) → (xs : List X) → filter p (filter q xs) ≡ filter p xs
filter_twice p q weaker [] = refl
filter_twice {X} p q weaker (x ∷ xs) = by (q x) refl (p x) refl (filter_twice p q weaker xs)
  where
    by : (b : Bool) → q x ≡ b → (c : Bool) → p x ≡ c → filter p (filter q xs) ≡ filter p xs → filter p (filter q (x ∷ xs)) ≡ filter p (x ∷ xs)
    by true passes true holds rest = rw (passes, holds) (ap (λ (others : List X). x ∷ others) rest)
    by true passes false fails rest = rw (passes, fails) rest
    by false not_passed true holds rest = absurd (let yes : q x ≡ true = weaker x holds in cc)
    by false not_passed false fails rest = rw (not_passed, fails) rest

-- ---- the clause of a path

module _ (column : ℕ) (clauses : List (List BoundCmp)) where
  -- it is such a clause
  pub path_clause_is : (clause : List BoundCmp) → path_clause column clauses ≡ Some clause → IsTrue (is_path_clause column clause)
  path_clause_is clause found = by (find (compares is_equality column) clauses) refl
    where
      by : (first : Option (List BoundCmp)) → find (compares is_equality column) clauses ≡ first → IsTrue (is_path_clause column clause)
      by (Some other) is =
          let same : Some other ≡ Some clause = rw is at found in
          let own : other ≡ clause = cc in
          let passes : compares is_equality column clause ≡ true = found_passes (compares is_equality column) (compares is_equality column) clauses clause (is ∙ same) in
          or_left (compares is_equality column clause) (compares is_range column clause) passes
      by None is =
          let ranged : find (compares is_range column) clauses ≡ Some clause = rw is at found in
          let passes : compares is_range column clause ≡ true = found_passes (compares is_range column) (compares is_range column) clauses clause ranged in
          or_right (compares is_equality column clause) (compares is_range column clause) passes

  -- and each row that satisfies the predicate satisfies it
  pub path_clause_holds : (clause : List BoundCmp) (row : List Value) → path_clause column clauses ≡ Some clause → holds clauses row ≡ true → clause_holds row clause ≡ true
  path_clause_holds clause row found all = by (find (compares is_equality column) clauses) refl
    where
      by : (first : Option (List BoundCmp)) → find (compares is_equality column) clauses ≡ first → clause_holds row clause ≡ true
      by (Some other) is = let same : Some other ≡ Some clause = rw is at found in found_clause (compares is_equality column) clauses clause row (is ∙ same) all
      by None is = let ranged : find (compares is_range column) clauses ≡ Some clause = rw is at found in found_clause (compares is_range column) clauses clause row ranged all

-- the rows on the path are all that the predicate needs
pub matching_on_path : (path : Option ℕ) (clauses : List (List BoundCmp)) (rows : RowsByNumber) → filter (λ entry. holds clauses entry.1) (on_path path clauses rows) ≡ filter (λ entry. holds clauses entry.1) rows
matching_on_path None clauses rows = refl
matching_on_path (Some column) clauses rows = by (path_clause column clauses) refl
  where
    by : (found : Option (List BoundCmp)) → path_clause column clauses ≡ found → filter (λ entry. holds clauses entry.1) (satisfying (path_clause column clauses) rows) ≡ filter (λ entry. holds clauses entry.1) rows
    by None is = rw is refl
    by (Some clause) is =
        rw is (filter_twice (λ (entry : ℕ × List Value). holds clauses entry.1) (λ (entry : ℕ × List Value). clause_holds entry.1 clause) (λ entry all. path_clause_holds column clauses clause entry.1 is all) rows)

-- the numbers of the rows on a path give these rows
pub rows_at_path : (path : Option ℕ) (clauses : List (List BoundCmp)) (rows : RowsByNumber) → IsStrictlySortedBy nat_cmp (numbers rows) → rows_at (numbers (on_path path clauses rows)) rows ≡ on_path path clauses rows
rows_at_path None clauses rows rising = rows_at_all rows rising
rows_at_path (Some column) clauses rows rising = by (path_clause column clauses)
  where
    by : (found : Option (List BoundCmp)) → rows_at (numbers (satisfying found rows)) rows ≡ satisfying found rows
    by None = rows_at_all rows rising
    by (Some clause) = rows_at_filter rows rising (λ entry. clause_holds entry.1 clause)

-- ---- the numbers of an index

-- a row with a value in the column satisfies a comparison of the column with a value if its own value does
passes_one : (column : ℕ) (cmp : BoundCmp) (value own : Value) (row : List Value) → cmp.left ≡ column → cmp.right ≡ sides.Lit value → slice_get row column ≡ Some own
    → cmp_holds row cmp ≡ allows cmp.op (value_cmp own value)
passes_one column cmp value own row left right has =
    let there : slice_get row cmp.left ≡ Some own = ap (slice_get row) left ∙ has in
    rw (there, right) refl

-- a row without a value in the column doesn't
fails_none : (cmp : BoundCmp) (row : List Value) → slice_get row cmp.left ≡ None → clause_holds row (cmp ∷ []) ≡ false
fails_none cmp row none = rw none refl

only : (b : Bool) → (b || false) ≡ true → b ≡ true
only true is = refl
only false never = never

-- the row satisfies the clause of this comparison
abbrev passes : BoundCmp → ℕ × List Value → Bool
passes cmp entry = clause_holds entry.1 (cmp ∷ [])

module _ (column : ℕ) (cmp : BoundCmp) (rows : RowsByNumber) where
  -- what is read of the index is the numbers of the rows that satisfy the comparison
  pub indexed : (value : Value) (found : List ℕ) → cmp.left ≡ column → cmp.right ≡ sides.Lit value → IsStrictlySortedBy nat_cmp (numbers rows)
      → IsRisingOf (range_of cmp.op value (pairs_of column rows)) found → found ≡ numbers (filter (λ entry. clause_holds entry.1 (cmp ∷ [])) rows)
  indexed value found left right rising is =
      same_rising found (numbers (filter (passes cmp) rows)) is.rising (rising_filter (passes cmp) rows rising) from to
    where
      from : (n : ℕ) → In n found → In n (numbers (filter (passes cmp) rows))
      from n there =
          let in_range = in_from_contains (range_of cmp.op value (pairs_of column rows)) n (is.from n (contains_from_in found n there)) in
          let it : HasSatisfying column cmp.op value n rows = row_of_range column cmp.op value n rows in_range in
          let one : cmp_holds it.row cmp ≡ true = passes_one column cmp value it.own it.row left right it.has ∙ it.holds in
          number_of_entry (passes cmp) n it.row rows it.there (rw one refl)

      to : (n : ℕ) → In n (numbers (filter (passes cmp) rows)) → In n found
      to n there =
          let it : HasEntry (passes cmp) n rows = entry_of_number (passes cmp) n rows there in
          let in_range = by it (slice_get it.row column) refl in
          in_from_contains found n (is.to n (contains_from_in (range_of cmp.op value (pairs_of column rows)) n in_range))
        where
          by : (it : HasEntry (passes cmp) n rows) (own : Option Value) → slice_get it.row column ≡ own → In n (range_of cmp.op value (pairs_of column rows))
          by it None none =
              let there : slice_get it.row cmp.left ≡ None = ap (slice_get it.row) left ∙ none in
              absurd (let never : false ≡ true = sym (fails_none cmp it.row there) ∙ it.passes in cc)
          by it (Some own) has =
              let one : cmp_holds it.row cmp ≡ allows cmp.op (value_cmp own value) = passes_one column cmp value own it.row left right has in
              range_of_row column cmp.op value n rows (record { row = it.row; there = it.there; own = own; has = has; holds = only (allows cmp.op (value_cmp own value)) (sym (ap (λ b. b || false) one) ∙ it.passes) })

  -- no row satisfies a comparison with a parameter that has no value
  pub unindexed : (param : ℕ) → cmp.right ≡ sides.Param param → [] ≡ numbers (filter (λ entry. clause_holds entry.1 (cmp ∷ [])) rows)
  unindexed param right = none rows
    where
      fails : (row : List Value) (left : Option Value) → comparison_holds cmp.op left None ≡ false
      fails row (Some value) = refl
      fails row None = refl

      one : (row : List Value) → clause_holds row (cmp ∷ []) ≡ false
      one row = rw right (ap (λ b. b || false) (fails row (slice_get row cmp.left)))

      none : (es : RowsByNumber) → [] ≡ numbers (filter (λ entry. clause_holds entry.1 (cmp ∷ [])) es)
      none [] = refl
      none (e ∷ es) = rw (one e.1) (none es)

-- ---- the clause and the index that are found

one_item : {X : Type 0} (xs : List X) (x : X) → length xs ≡ 1 → x ≡ get_or xs 0 x → xs ≡ x ∷ []
one_item [] x one is = absurd (omega (arith, one))
one_item (y ∷ []) x one is = ap (λ first. first ∷ []) (sym is)
one_item (y ∷ z ∷ xs) x one is = absurd (omega (arith, one))

-- the column that such a clause compares
path_column : (column : ℕ) (cmp : BoundCmp) → IsTrue (is_path_clause column (cmp ∷ [])) → cmp.left ≡ column
path_column column cmp is =
    let by : (test : Op → Bool) → compares test column (cmp ∷ []) ≡ true → cmp.left ≡ column
    = λ (test : Op → Bool) (all : compares test column (cmp ∷ []) ≡ true). exact_unsigned_eq cmp.left column (and_parts (cmp.left == column) (is_given cmp.right) (and_parts (cmp.left == column && is_given cmp.right) (test cmp.op) all).0).0 in
    elim (or_cases (compares is_equality column (cmp ∷ [])) (compares is_range column (cmp ∷ [])) is) [ inl equal ↦ by is_equality equal | inr ranged ↦ by is_range ranged ]

module _ (index : Index) (clause : List BoundCmp) (cmp : BoundCmp) (rows : RowsByNumber) where
  -- by a value
  pub clause_indexed : (value : Value) (found : List ℕ) → length clause ≡ 1 → cmp ≡ get_or clause 0 cmp → IsTrue (is_path_clause index.column clause) → cmp.right ≡ sides.Lit value → IsStrictlySortedBy nat_cmp (numbers rows) → IsIndexOf rows index
      → IsRisingOf (range_of cmp.op value index.pairs) found → found ≡ numbers (satisfying (Some clause) rows)
  clause_indexed value found one is path right rising pairs range =
      let whole : clause ≡ cmp ∷ [] = one_item clause cmp one is in
      let left : cmp.left ≡ index.column = path_column index.column cmp (subst (λ (c : List BoundCmp). IsTrue (is_path_clause index.column c)) whole path) in
      indexed index.column cmp rows value found left right rising (subst (λ (ps : List (Value × ℕ)). IsRisingOf (range_of cmp.op value ps) found) pairs range)
      ∙ ap (λ (c : List BoundCmp). numbers (satisfying (Some c) rows)) (sym whole)

  -- by a parameter that has no value
  pub clause_unindexed : (param : ℕ) → length clause ≡ 1 → cmp ≡ get_or clause 0 cmp → cmp.right ≡ sides.Param param → [] ≡ numbers (satisfying (Some clause) rows)
  clause_unindexed param one is right =
      let whole : clause ≡ cmp ∷ [] = one_item clause cmp one is in
      unindexed 0 cmp rows param right ∙ ap (λ (c : List BoundCmp). numbers (satisfying (Some c) rows)) (sym whole)

  -- a clause of a path compares with no column
  pub no_place : (place : ℕ) → length clause ≡ 1 → cmp ≡ get_or clause 0 cmp → IsTrue (is_path_clause index.column clause) → cmp.right ≡ sides.Place place → ⊥
  no_place place one is path right =
      let whole : clause ≡ cmp ∷ [] = one_item clause cmp one is in
      let by : (test : Op → Bool) → compares test index.column (cmp ∷ []) ≡ true → ⊥
      = λ (test : Op → Bool) (all : compares test index.column (cmp ∷ []) ≡ true).
      let side : is_given cmp.right ≡ true = (and_parts (cmp.left == index.column) (is_given cmp.right) (and_parts (cmp.left == index.column && is_given cmp.right) (test cmp.op) all).0).1 in
      let never : false ≡ true = rw right at side in cc in
      elim (or_cases (compares is_equality index.column (cmp ∷ [])) (compares is_range index.column (cmp ∷ [])) (subst (λ (c : List BoundCmp). IsTrue (is_path_clause index.column c)) whole path)) [ inl equal ↦ by is_equality equal | inr ranged ↦ by is_range ranged ]

-- what holds of each holds of what is found
pub all_found : {X : Type 0} (P : X → Type 0) (test : X → Bool) (xs : List X) (x : X) → AllByRecursion P xs → find test xs ≡ Some x → P x
all_found P test [] x all found = absurd (cc)
all_found {X} P test (y ∷ ys) x all found = by (test y) refl (all_found P test ys x all.1)
  where
    by : (b : Bool) → test y ≡ b → (find test ys ≡ Some x → P x) → P x
    by true is later = let same : Some y ≡ Some x = rw is at found in let own : y ≡ x = cc in subst P own all.0
    by false is later = later (rw is at found)

module _ (column : ℕ) (indexes : List Index) (index : Index) where
  -- the index that is found is over the column
  pub index_column : Some index ≡ find (λ (other : Index). other.column == column) indexes → index.column ≡ column
  index_column found = exact_unsigned_eq index.column column (found_passes (λ (other : Index). other.column == column) (λ (other : Index). other.column == column) indexes index (sym found))

  -- and over the rows
  pub index_rows : (rows : RowsByNumber) → All (IsIndexOf rows) indexes → Some index ≡ find (λ (other : Index). other.column == column) indexes → IsIndexOf rows index
  index_rows rows all found = all_found (IsIndexOf rows) (λ (other : Index). other.column == column) indexes index (recursion_from_All (IsIndexOf rows) indexes all) (sym found)

-- what is read of the numbers of a path are the matching rows
pub matching_read : (path : Option ℕ) (clauses : List (List BoundCmp)) (rows : RowsByNumber) (found : List ℕ) → IsStrictlySortedBy nat_cmp (numbers rows) → found ≡ numbers (on_path path clauses rows)
    → filter (λ entry. holds clauses entry.1) (rows_at found rows) ≡ filter (λ entry. holds clauses entry.1) rows
matching_read path clauses rows found rising is =
    ap (λ (es : RowsByNumber). filter (λ (entry : ℕ × List Value). holds clauses entry.1) es) (ap (λ (ns : List ℕ). rows_at ns rows) is ∙ rows_at_path path clauses rows rising)
    ∙ matching_on_path path clauses rows
