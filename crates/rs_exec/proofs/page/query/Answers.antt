use Rattle.std.proofs.Common.{Bool, ltb, length, ap, ◌∙◌}
use Rattle.rs_base.specs.Value.{RowList}
use Rattle.rs_exec.specs.declared.ran.Ran.TheVariants as results
use Rattle.rs_exec.proofs.PageLaws.{page_is}
use Rattle.rs_exec.proofs.page.query.Goals as goal

pub returns : goal.returns
returns c =
    ap (λ (rows : RowList). results.Rows rows (ltb c.count_on_page-count.result (length c.rows_after-left.result.now))) c.in_ok-rows.ensures
    ∙ ap (λ (shown : RowList × Bool). results.Rows shown.0 shown.1)
    (page_is c.args.columns.now c.args.from c.count_on_page-count.result c.args.matching.now c.rows_after-left.result.now c.split_at.result.0.now
    c.rows_after-left.ensures c.count_on_page-count.ensures.count c.split_at.ensures.front)
