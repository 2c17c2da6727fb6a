-- The index of a named column, and the indexes without those of a name.
use Rattle.std.proofs.Common.{◌≡◌, ◌≢◌, ◌+◌, ◌≤◌, ℕ, Bool, true, false, not, cond, ◌||◌, List, [], ◌∷◌, length, Some, suc, min, refl, ap, ◌∙◌, All, arith}
use Rattle.std.specs.Prelude.{bytes_eq, slice_get}
use Rattle.std.specs.List.{position_or_len}
use Rattle.std.specs.Option.{option_map}
use Rattle.std.proofs.lemmas.List.Elements.{All-nil, All-cons}
use Rattle.std.proofs.lemmas.List.Sums.{prefix_len-le-length}
use Rattle.std.proofs.lemmas.Slice.Eq.{bytes_eq-Decides}
use Rattle.rs_ast.specs.declared.column.ColDef.{ColDef}
use Rattle.rs_ast.specs.declared.entry.IndexOf.{IndexOf}
use Rattle.rs_mean.specs.Columns.{has_name}
use Rattle.law_mean.specs.Laws.{IsNameAt}
use Rattle.rs_mean.specs.TableStatements.{column_index, without_index}
use Rattle.law_mean.proofs.LawKept.{apart_from}

-- ---- columns

module _ (name : List ℕ) where
  abbrev first_named : List ColDef → ℕ
  first_named columns = position_or_len (λ column. bytes_eq column.name name) columns

  -- the first column of a name is where it is looked for
  first_at : (columns : List ColDef) → has_name columns name ≡ true → IsNameAt name columns (first_named columns)
  first_at [] e = absurd cc
  first_at (column ∷ columns) e =
      let Claim : Bool → Type 0 = λ b. bytes_eq column.name name ≡ b → (b || has_name columns name) ≡ true → IsNameAt name (column ∷ columns) (cond (not b) (1 + first_named columns) 0) in
      let next : 1 + first_named columns ≡ suc (first_named columns) = omega arith in
      let at : (b : Bool) → Claim b = λ b. elim b as Claim [
        | true ↦ λ here has. ap (λ n. Some n) ((bytes_eq-Decides column.name name).0 here)
        | false ↦ λ here has. ap (λ at_index. option_map (λ (c : ColDef). c.name) (slice_get (column ∷ columns) at_index)) next ∙ first_at columns has
      ] in
      at (bytes_eq column.name name) refl e

  -- the index of a name among few columns
  pub name_at : (columns : List ColDef) → length columns ≤ 16 → has_name columns name ≡ true → IsNameAt name columns (column_index columns name)
  name_at columns few has =
      let low : min (first_named columns) 255 ≡ first_named columns = omega (arith, prefix_len-le-length (λ (column : ColDef). not (bytes_eq column.name name)) columns) in
      ap (λ at_index. option_map (λ (c : ColDef). c.name) (slice_get columns at_index)) low ∙ first_at columns has

-- ---- indexes

-- none of the remaining indexes has the name
pub none_of_name : (name : List ℕ) (indexes : List IndexOf) → All (λ (index : IndexOf). index.name ≢ name) (without_index name indexes)
none_of_name name [] = All-nil (λ (index : IndexOf). index.name ≢ name)
none_of_name name (index ∷ indexes) =
    let Claim : Bool → Type 0 = λ b. bytes_eq index.name name ≡ b → All (λ (one : IndexOf). one.name ≢ name) (cond (not b) (index ∷ without_index name indexes) (without_index name indexes)) in
    let at : (b : Bool) → Claim b = λ b. elim b as Claim [
      | true ↦ λ e. none_of_name name indexes
      | false ↦ λ e. All-cons (λ (one : IndexOf). one.name ≢ name) index (without_index name indexes) (apart_from name index.name e) (none_of_name name indexes)
    ] in
    at (bytes_eq index.name name) refl
