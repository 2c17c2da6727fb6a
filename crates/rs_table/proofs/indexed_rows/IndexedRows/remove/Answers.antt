use Rattle.std.proofs.Common.{◌≡◌, List, map, None, sym, ap, ap₂, subst, ◌∙◌}
use Rattle.std.specs.Option.{option_copied}
use Rattle.rs_base.specs.declared.value.Value.{Value}
use Rattle.rs_rows.specs.TableRows.{TableRows, RowsByNumber, row_of, removed, without}
use Rattle.rs_rows.proofs.TableLaws.{without_none}
use Rattle.rs_table.specs.IndexedRows.{IndexedRows, columns_of, without_entry}
use Rattle.rs_table.proofs.RowLaws.{AreOver, Follow, removed_follows, made}
use Rattle.rs_table.proofs.indexed_rows.IndexedRows.remove.Goals as goal

pub returns-in_default : goal.returns-in_default
returns-in_default c =
    let none : row_of c.args.number c.self.inside.rows.rows ≡ None = sym c.only_row.ensures.row ∙ ap option_copied c.in_default.is in
    let same : c.self.inside.rows ≡ removed c.args.number c.self.inside.rows =
    ap (λ (rows : RowsByNumber). record { rows = rows; next = c.self.inside.rows.next }) (sym (without_none c.args.number c.self.inside.rows.rows none)) in
    ap₂ made (same ∙ ap (λ (s : IndexedRows). removed c.args.number s.table) c.self.view_is) (ap (λ (s : IndexedRows). s.columns) c.self.view_is)

module _ (c : goal.Joined-remove) where
  follows : Follow (without c.args.number c.self.inside.rows.rows) c.self.inside.indexes.items (map (without_entry (c.args.number, c.in-Some.old.now)) c.self.inside.indexes.items)
  follows =
      removed_follows c.args.number c.in-Some.old.now c.self.inside.rows.rows c.self.inside.indexes.items
      c.only_row.ensures.table.rising (sym c.only_row.ensures.row ∙ ap option_copied c.in-Some.is) c.self.invariant

  items : c.drop_values.new.indexes.items ≡ map (without_entry (c.args.number, c.in-Some.old.now)) c.self.inside.indexes.items
  items = c.drop_values.ensures ∙ ap (λ (r : List Value). map (without_entry (c.args.number, r)) c.self.inside.indexes.items) c.as_slice.ensures

pub invariant_of-result-2 : goal.invariant_of-result-2
invariant_of-result-2 c =
    subst (λ (t : TableRows). AreOver t.rows c.drop_values.new.indexes.items) (sym c.remove.ensures.rows)
    (subst (AreOver (without c.args.number c.self.inside.rows.rows)) (sym (items c)) (follows c).over)

pub returns : goal.returns
returns c =
    ap₂ made (c.remove.ensures.rows ∙ ap (λ (s : IndexedRows). removed c.args.number s.table) c.self.view_is)
    (ap columns_of (items c) ∙ (follows c).columns ∙ ap (λ (s : IndexedRows). s.columns) c.self.view_is)
