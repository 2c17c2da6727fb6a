-- The room for new rows beside the others of a table, and rows after assignments, one after the other.
use Rattle.std.proofs.Common.{◌≡◌, ℕ, ◌+◌, ◌-◌, ◌^◌, ◌<◌, ◌≤◌, Bool, true, false, cond, not, ◌&&◌, List, [], ◌∷◌, ◌++◌, map, fold, min, nat_le, leb-true, drop, get_or, length, Some, Result, Ok, Err, refl, sym, ap, ap₂, ◌∙◌, arith, append_assoc, append-nil, length-append}
use Rattle.std.specs.List.{list_all}
use Rattle.std.proofs.lemmas.Bool.{leb-false, lt-leb}
use Rattle.std.proofs.lemmas.List.{at_drop_more, at_drop_all, length-map, map-id}
use Rattle.std.proofs.lemmas.List.Filters.{length-filter_both, sum_by-filter_both}
use Rattle.std.proofs.lemmas.List.Folds.{fold-map, list_all-map}
use Rattle.std.proofs.lemmas.List.Sums.{sum_by-append}
use Rattle.rs_base.specs.Sizes.{row_size}
use Rattle.rs_base.specs.Value.{RowList}
use Rattle.rs_base.specs.declared.name.Swn.{Swn}
use Rattle.rs_base.specs.declared.reply.Denial.{Denial}
use Rattle.rs_base.specs.declared.reply.Denial.TheVariants as denials
use Rattle.rs_base.specs.declared.value.Value.{Value}
use Rattle.rs_ast.specs.declared.bound.BoundCmp.{BoundCmp}
use Rattle.rs_ast.specs.declared.bound.BoundSet.{BoundSet}
use Rattle.rs_ast.specs.declared.bound.BoundTerm.{BoundTerm}
use Rattle.rs_plan.specs.declared.change.Change.TheVariants as changes
use Rattle.rs_rows.specs.Limits.{fits_row}
use Rattle.rs_rows.specs.Sizes.{rows_size}
use Rattle.rs_rows.specs.TableRows.{RowsByNumber, bytes_of}
use Rattle.rs_eval.specs.Clauses.{holds}
use Rattle.rs_eval.specs.RowChanges.{given_rows, has_room, inserted, and_others, with_first}
use Rattle.rs_eval.specs.Setting.{row_set}
use Rattle.rs_exec.specs.declared.ran.Ran.TheVariants as results
use Rattle.rs_exec.specs.Room.{fits_table, has_room_beside}
use Rattle.rs_exec.specs.Running.{matching, others, plain, change_of, set_entry, set_rows, updated}

-- ---- room

-- a number that stays at 2 ^ 64 - 1 is at most a smaller one exactly if it is so without that bound
capped : (count whole top : ℕ) → count ≡ min whole (2 ^ 64 - 1) → top < 2 ^ 64 - 1 → nat_le count top ≡ nat_le whole top
capped count whole top is large = by (nat_le whole top) refl
  where
    by : (b : Bool) → nat_le whole top ≡ b → nat_le count top ≡ nat_le whole top
    by true within = let at_most = leb-true whole top within in ap (λ (n : ℕ). nat_le n top) (let same : count ≡ whole = omega arith in same)
    by false past = let above = leb-false whole top past in lt-leb count top (omega arith) ∙ sym past

-- the test of the room for new rows, by its parts
pub room_by_parts : {T : Type 0} (values : T → List Value) (new : List T) (count bytes size all_count all_bytes : ℕ) → size ≡ min (rows_size (map values new)) (2 ^ 64 - 1) → all_count ≡ min (count + length new) (2 ^ 64 - 1) → all_bytes ≡ min (bytes + size) (2 ^ 64 - 1)
    → (list_all (λ (row : T). fits_row (values row)) new && fits_table all_count all_bytes) ≡ has_room_beside count bytes (map values new)
room_by_parts {T} values new count bytes size all_count all_bytes is_size is_count is_bytes =
    let rows = map values new in
    let counted : nat_le all_count 65536 ≡ nat_le (count + length rows) 65536 = capped all_count (count + length rows) 65536 (omega (arith, is_count, length-map new values)) (omega arith) in
    let sized : nat_le all_bytes 8388608 ≡ nat_le (bytes + rows_size rows) 8388608 = capped all_bytes (bytes + rows_size rows) 8388608 (omega (arith, is_size, is_bytes)) (omega arith) in
    ap₂ (λ (each table : Bool). each && table) (sym (list_all-map fits_row values new)) (ap₂ (λ (few small : Bool). few && small) counted sized)

-- rows that are counted, and their bytes
pub room_beside : (rows new : RowList) → has_room rows new ≡ has_room_beside (length rows) (rows_size rows) new
room_beside rows new =
    ap₂ (λ (count bytes : ℕ). list_all fits_row new && fits_table count bytes) (length-append rows new) (sum_by-append row_size rows new)

-- the bytes of numbered rows, row by row
size_of_entries : (rows : RowsByNumber) → bytes_of rows ≡ fold (λ (size : ℕ) (entry : ℕ × List Value). size + row_size entry.1) 0 rows
size_of_entries rows = fold-map (λ (size : ℕ) (row : List Value). size + row_size row) (λ (entry : ℕ × List Value). entry.1) 0 rows

module _ (clauses : List (List BoundCmp)) (rows : RowsByNumber) where
  others_count : length (plain (others (Some clauses) rows)) ≡ length rows - length (matching (Some clauses) rows)
  others_count =
      let both = length-filter_both (λ (entry : ℕ × List Value). holds clauses entry.1) (λ entry. not (holds clauses entry.1)) (λ _. refl) rows in
      let same = length-map (others (Some clauses) rows) (λ (entry : ℕ × List Value). entry.1) in
      omega (arith, both, same)

  others_bytes : rows_size (plain (others (Some clauses) rows)) ≡ bytes_of rows - bytes_of (matching (Some clauses) rows)
  others_bytes =
      let both = sum_by-filter_both (λ (entry : ℕ × List Value). holds clauses entry.1) (λ entry. not (holds clauses entry.1)) (λ _. refl) (λ entry. row_size entry.1) rows in
      omega (arith, both, size_of_entries rows, size_of_entries (matching (Some clauses) rows), size_of_entries (others (Some clauses) rows))

  -- beside the other rows: as many as there are fewer matching rows
  pub room_beside_others : (new : RowList) → has_room (plain (others (Some clauses) rows)) new ≡ has_room_beside (length rows - length (matching (Some clauses) rows)) (bytes_of rows - bytes_of (matching (Some clauses) rows)) new
  room_beside_others new = room_beside (plain (others (Some clauses) rows)) new ∙ ap₂ (λ (count bytes : ℕ). has_room_beside count bytes new) others_count others_bytes

-- ---- an INSERT

module _ (values : List Value) (given : List (List BoundTerm)) (rows : RowsByNumber) where
  new_room : has_room (plain rows) (given_rows values given) ≡ has_room_beside (length rows) (bytes_of rows) (map (λ (row : List Value). row) (given_rows values given))
  new_room =
      room_beside (plain rows) (given_rows values given)
      ∙ ap₂ (λ (count : ℕ) (new : RowList). has_room_beside count (bytes_of rows) new) (length-map rows (λ (entry : ℕ × List Value). entry.1)) (sym (map-id (given_rows values given)))

  by_new_room : (new : RowList) → new ≡ given_rows values given → inserted values given (plain rows) ≡ cond (has_room_beside (length rows) (bytes_of rows) (map (λ (row : List Value). row) new)) (Ok new) (Err denials.TableFull)
  by_new_room new is =
      ap (λ (b : Bool). cond b (Ok (given_rows values given)) (Err denials.TableFull)) new_room
      ∙ ap (λ (made : RowList). cond (has_room_beside (length rows) (bytes_of rows) (map (λ (row : List Value). row) made)) (Ok made) (Err denials.TableFull)) (sym is)

  -- there is room for the new rows
  pub insert_fits : (new : RowList) → new ≡ given_rows values given → has_room_beside (length rows) (bytes_of rows) (map (λ (row : List Value). row) new) ≡ true → Ok new ≡ inserted values given (plain rows)
  insert_fits new is fits = sym (by_new_room new is ∙ ap (λ (b : Bool). cond b (Ok new) (Err denials.TableFull)) fits)

-- ---- rows after assignments

-- the rows that were made, and those that are made of the rest
abbrev pub suffix : {A : Type 0} → List A → Result (List A) Denial → Result (List A) Denial
suffix made (Ok rest) = Ok (made ++ rest)
suffix made (Err cause) = Err cause

-- a row that was made goes before those that are made of the rest
suffix_first : {A : Type 0} → (made : List A) (item : A) (rest : Result (List A) Denial) → suffix made (with_first item rest) ≡ suffix (made ++ item ∷ []) rest
suffix_first made item (Ok rest) = ap Ok (sym (append_assoc made (item ∷ []) rest))
suffix_first made item (Err cause) = refl

module _ (sets : List BoundSet) (values : List Value) (rows new : RowsByNumber) (i : ℕ) where
  -- the rows from this one on
  from_here : (entry : ℕ × List Value) → i < length rows → entry ≡ get_or rows i entry → suffix new (set_rows sets values (drop i rows)) ≡ suffix new (and_others (set_entry entry.0 (row_set sets values entry.1)) (set_rows sets values (drop (i + 1) rows)))
  from_here entry within is =
      at_drop_more (λ (left : RowsByNumber). suffix new (set_rows sets values left)) rows i entry within
      ∙ ap (λ (first : ℕ × List Value). suffix new (set_rows sets values (first ∷ drop (i + 1) rows))) (sym is)

  -- one more row
  pub set_more : (entry : ℕ × List Value) (row : List Value) → i < length rows → entry ≡ get_or rows i entry → Ok row ≡ row_set sets values entry.1
      → suffix new (set_rows sets values (drop i rows)) ≡ suffix (new ++ (entry.0, row) ∷ []) (set_rows sets values (drop (i + 1) rows))
  set_more entry row within is set =
      from_here entry within is
      ∙ ap (λ (made : Result (List Value) Denial). suffix new (and_others (set_entry entry.0 made) (set_rows sets values (drop (i + 1) rows)))) (sym set)
      ∙ suffix_first new (entry.0, row) (set_rows sets values (drop (i + 1) rows))

  -- a row that isn't made denies the whole
  pub set_none : (entry : ℕ × List Value) (cause : Denial) → i < length rows → entry ≡ get_or rows i entry → Err cause ≡ row_set sets values entry.1
      → suffix new (set_rows sets values (drop i rows)) ≡ Err cause
  set_none entry cause within is set =
      from_here entry within is
      ∙ ap (λ (made : Result (List Value) Denial). suffix new (and_others (set_entry entry.0 made) (set_rows sets values (drop (i + 1) rows)))) (sym set)

  -- no row is left
  pub set_all : length rows ≤ i → suffix new (set_rows sets values (drop i rows)) ≡ Ok new
  set_all past = at_drop_all (λ (left : RowsByNumber). suffix new (set_rows sets values left)) rows i past ∙ ap Ok (append-nil new)

-- ---- an UPDATE

module _ (name : Swn) (clauses : List (List BoundCmp)) (rows match : RowsByNumber) (matches : match ≡ matching (Some clauses) rows) (new : RowsByNumber) (set : Result RowsByNumber Denial) (made : Ok new ≡ set) where
  by_room : updated name (others (Some clauses) rows) set ≡ cond (has_room_beside (length rows - length match) (bytes_of rows - bytes_of match) (plain new)) (results.Changes (change_of (length new) (changes.Replace name new)) (length new)) (results.Denied denials.TableFull)
  by_room =
      ap (λ (made : Result RowsByNumber Denial). updated name (others (Some clauses) rows) made) (sym made)
      ∙ ap (λ (b : Bool). cond b (results.Changes (change_of (length new) (changes.Replace name new)) (length new)) (results.Denied denials.TableFull))
      (room_beside_others clauses rows (plain new) ∙ ap (λ (old : RowsByNumber). has_room_beside (length rows - length old) (bytes_of rows - bytes_of old) (plain new)) (sym matches))

  pub update_fits : has_room_beside (length rows - length match) (bytes_of rows - bytes_of match) (plain new) ≡ true
      → results.Changes (change_of (length new) (changes.Replace name new)) (length new) ≡ updated name (others (Some clauses) rows) set
  update_fits fits = sym (by_room ∙ ap (λ (b : Bool). cond b (results.Changes (change_of (length new) (changes.Replace name new)) (length new)) (results.Denied denials.TableFull)) fits)

  pub update_full : has_room_beside (length rows - length match) (bytes_of rows - bytes_of match) (plain new) ≡ false
      → results.Denied denials.TableFull ≡ updated name (others (Some clauses) rows) set
  update_full full = sym (by_room ∙ ap (λ (b : Bool). cond b (results.Changes (change_of (length new) (changes.Replace name new)) (length new)) (results.Denied denials.TableFull)) full)
