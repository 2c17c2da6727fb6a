use Rattle.std.proofs.Common.{sym, ◌∙◌}
use Rattle.rs_mean.proofs.Selects.{select_is_select}
use Rattle.rs_plain.proofs.plain.select.Goals as goal

pub answer_query-requires : goal.answer_query-requires
answer_query-requires c = select_is_select _ _ _ c.in-Ok.bound (sym c.in-Ok.is ∙ c.in_ok-bound.ensures)
