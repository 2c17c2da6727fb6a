use Rattle.std.proofs.Common.{ap, ◌∙◌}
use Rattle.std.specs.List.{position_or_len}
use Rattle.rs_bind_query.specs.Binding.{shows_column}
use Rattle.rs_scope.specs.Scope.{as_u16}
use Rattle.rs_bind_query.proofs.shape.key_item.Goals as goal

pub returns-in-Col : goal.returns-in-Col
returns-in-Col c =
    let at = c.item_of.ensures ∙ ap (λ column_index. position_or_len (shows_column column_index) c.args.shown.now) c.column_index_of.ensures in
    rw c.in-Col.is (c.as_u16.ensures ∙ ap as_u16 at)
