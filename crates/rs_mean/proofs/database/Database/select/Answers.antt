use Rattle.std.proofs.Common.{sym, ◌∙◌}
use Rattle.rs_mean.proofs.Selects.{select_is_select}
use Rattle.rs_mean.proofs.database.Database.select.Goals as goal

pub rows_of_query-requires : goal.rows_of_query-requires
rows_of_query-requires c = select_is_select _ _ _ c.in-Ok.bound (sym c.in-Ok.is ∙ c.in_ok-bound.ensures)
