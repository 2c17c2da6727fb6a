use Rattle.std.proofs.Common.{◌≡◌, List, map, None, sym, ap, ap₂, subst, ◌∙◌}
use Rattle.std.specs.Option.{option_copied}
use Rattle.rs_base.specs.declared.value.Value.{Value}
use Rattle.rs_rows.specs.TableRows.{TableRows, RowsByNumber, IsTable, row_of, replaced, with_row}
use Rattle.rs_rows.proofs.TableLaws.{with_row_none}
use Rattle.rs_index.specs.Index.{Index}
use Rattle.rs_table.specs.IndexedRows.{IndexedRows, columns_of, with_entry, without_entry}
use Rattle.rs_table.proofs.RowLaws.{AreOver, Follow, replaced_follows, made}
use Rattle.rs_table.proofs.indexed_rows.IndexedRows.replace.Goals as goal

pub returns-in_default : goal.returns-in_default
returns-in_default c =
    let none : row_of c.args.number c.self.inside.rows.rows ≡ None = sym c.get.ensures ∙ ap option_copied c.in_default.is in
    let same : c.self.inside.rows ≡ replaced c.args.number c.args.row c.self.inside.rows =
    ap (λ (rows : RowsByNumber). record { rows = rows; next = c.self.inside.rows.next }) (sym (with_row_none c.args.number c.args.row c.self.inside.rows.rows none)) in
    ap₂ made (same ∙ ap (λ (s : IndexedRows). replaced c.args.number c.args.row s.table) c.self.view_is) (ap (λ (s : IndexedRows). s.columns) c.self.view_is)

module _ (c : goal.Joined-replace) where
  follows : Follow (with_row c.args.number c.args.row c.self.inside.rows.rows) c.self.inside.indexes.items
      (map (with_entry (c.args.number, c.args.row)) (map (without_entry (c.args.number, c.in-Some.old.now)) c.self.inside.indexes.items))
  follows =
      replaced_follows c.args.number c.in-Some.old.now c.args.row c.self.inside.rows.rows c.self.inside.indexes.items
      (subst IsTable c.rows.view_is c.rows.invariant.table).rising (sym c.get.ensures ∙ ap option_copied c.in-Some.is) c.self.invariant

  items : c.add_values.new.indexes.items ≡ map (with_entry (c.args.number, c.args.row)) (map (without_entry (c.args.number, c.in-Some.old.now)) c.self.inside.indexes.items)
  items =
      c.in_ok-add_values.ensures
      ∙ ap₂ (λ (r : List Value) (is : List Index). map (with_entry (c.args.number, r)) is) c.as_slice-2.ensures
      (c.drop_values.ensures ∙ ap (λ (r : List Value). map (without_entry (c.args.number, r)) c.self.inside.indexes.items) c.as_slice.ensures)

pub invariant_of-result-2 : goal.invariant_of-result-2
invariant_of-result-2 c =
    subst (λ (t : TableRows). AreOver t.rows c.add_values.new.indexes.items) (sym c.replace.ensures.rows)
    (subst (AreOver (with_row c.args.number c.args.row c.self.inside.rows.rows)) (sym (items c)) (follows c).over)

pub returns : goal.returns
returns c =
    ap₂ made (c.replace.ensures.rows ∙ ap (λ (s : IndexedRows). replaced c.args.number c.args.row s.table) c.self.view_is)
    (ap columns_of (items c) ∙ (follows c).columns ∙ ap (λ (s : IndexedRows). s.columns) c.self.view_is)
