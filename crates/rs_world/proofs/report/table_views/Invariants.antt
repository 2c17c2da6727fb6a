use Rattle.std.proofs.Common.{◌≡◌, map, filter}
use Rattle.rs_site.specs.Tables.{is_at_site, table_view}
use Rattle.rs_world.proofs.report.table_views.Given as goal

abbrev pub invariant-loop-name : goal.invariant-loop-name
invariant-loop-name l = l.views ≡ map table_view (filter (is_at_site l.number) l.yielded)
