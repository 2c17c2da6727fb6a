use Rattle.std.proofs.Common.{◌≡◌, ◌-◌}
use Rattle.rs_parse.specs.Read.{series_at, suffix_at, separated_at}
use Rattle.rs_parse.specs.Separator.{is_separator}
use Rattle.rs_parse.proofs.Loops.{with_prefix}
use Rattle.rs_parse.proofs.list.separated_list.Given as goal

abbrev pub invariant-loop : goal.invariant-loop
invariant-loop g l = with_prefix l.found (series_at (is_separator l.separator) (suffix_at (is_separator l.separator) g.T.ListItem.item_at) (l.most - l.counter) l.tokens) ≡ separated_at (is_separator l.separator) g.T.ListItem.item_at l.most l.fn.tokens
