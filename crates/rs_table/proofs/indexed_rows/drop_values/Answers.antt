use Rattle.std.proofs.Common.{ℕ, List, sym, ap, ◌∙◌, arith, set}
use Rattle.std.proofs.lemmas.List.Edits.{map_over_more}
use Rattle.rs_base.specs.declared.value.Value.{Value}
use Rattle.rs_table.specs.IndexedRows.{without_entry}
use Rattle.rs_table.proofs.indexed_rows.drop_values.Goals as goal

pub loop-index-preserved : goal.loop-index-preserved
loop-index-preserved c =
    let entry : ℕ × List Value = (c.args.number, c.args.row.now) in
    ap (set c.loop-index.index-items c.loop-index.index-index) (c.drop_value.ensures ∙ ap (without_entry entry) (sym c.index-item.is))
    ∙ map_over_more (without_entry entry) c.args.indexes.now.items c.loop-index.index-items c.loop-index.index-index c.index-item.result (omega arith) c.loop-index.invariant c.index-item.is
