use Rattle.std.proofs.Common.{sym, ap, ap₂, subst, ◌∙◌}
use Rattle.std.specs.Prelude.{remove}
use Rattle.rs_table.specs.IndexedRows.{IndexedRows, columns_of}
use Rattle.rs_table.proofs.RowLaws.{AreOver, dropped_follows, made}
use Rattle.rs_table.proofs.indexed_rows.IndexedRows.drop_index.Goals as goal

pub invariant_of-self : goal.invariant_of-self
invariant_of-self c =
    subst (AreOver c.self.inside.rows.rows) (sym c.remove.ensures.items) (dropped_follows c.self.inside.rows.rows c.self.inside.indexes.items c.args.position c.self.invariant).0

pub returns : goal.returns
returns c =
    ap₂ made (ap (λ (s : IndexedRows). s.table) c.self.view_is)
    (ap columns_of c.remove.ensures.items ∙ (dropped_follows c.self.inside.rows.rows c.self.inside.indexes.items c.args.position c.self.invariant).1
    ∙ ap (λ (s : IndexedRows). remove s.columns c.args.position) c.self.view_is)
