use Rattle.rs_parse.specs.Read.{suffix_at}
use Rattle.rs_parse.specs.Separator.{is_separator}
use Rattle.rs_parse.proofs.Loops.{series_more}
use Rattle.rs_parse.proofs.list.separated_list.Goals as goal

pub loop-preserved : goal.loop-preserved
loop-preserved g c =
    series_more (is_separator c.args.separator) (suffix_at (is_separator c.args.separator) g.T.ListItem.item_at) _ _ c.args.most c.loop.counter _ _ _ _ _
    c.loop-test.true c.begins_with_separator.ensures c.if-not-begins_with_separator.false c.in_ok-next_item.ensures c.in_ok-push-2.ensures.ok c.loop.invariant
