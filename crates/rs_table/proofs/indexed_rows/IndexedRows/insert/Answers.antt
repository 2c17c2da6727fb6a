use Rattle.std.proofs.Common.{◌≡◌, ℕ, List, map, sym, ap, ap₂, subst, ◌∙◌}
use Rattle.rs_base.specs.declared.value.Value.{Value}
use Rattle.rs_rows.specs.TableRows.{TableRows, inserted}
use Rattle.rs_table.specs.IndexedRows.{IndexedRows, columns_of, with_entry}
use Rattle.rs_table.proofs.RowLaws.{AreOver, Follow, inserted_follows, made}
use Rattle.rs_table.proofs.indexed_rows.IndexedRows.insert.Goals as goal

module _ (c : goal.In_ok-insert) where
  follows : Follow (inserted c.args.row c.self.inside.rows).rows c.self.inside.indexes.items (map (with_entry (c.self.inside.rows.next, c.args.row)) c.self.inside.indexes.items)
  follows = inserted_follows (c.self.inside.rows.next, c.args.row) c.self.inside.rows.rows c.self.inside.indexes.items c.self.invariant

  items : c.add_values.new.indexes.items ≡ map (with_entry (c.self.inside.rows.next, c.args.row)) c.self.inside.indexes.items
  items = c.in_ok-add_values.ensures ∙ ap₂ (λ (n : ℕ) (r : List Value). map (with_entry (n, r)) c.self.inside.indexes.items) c.next.ensures c.as_slice.ensures

pub invariant_of-result : goal.invariant_of-result
invariant_of-result c =
    subst (λ (t : TableRows). AreOver t.rows c.add_values.new.indexes.items) (sym c.in_ok-insert.ensures.ok)
    (subst (AreOver (inserted c.args.row c.self.inside.rows).rows) (sym (items c)) (follows c).over)

pub returns : goal.returns
returns c =
    ap₂ made (c.in_ok-insert.ensures.ok ∙ ap (λ (s : IndexedRows). inserted c.args.row s.table) c.self.view_is)
    (ap columns_of (items c) ∙ (follows c).columns ∙ ap (λ (s : IndexedRows). s.columns) c.self.view_is)
