use Rattle.std.proofs.Common.{◌≡◌}
use Rattle.std.specs.Prelude.{filter_map, fold}
use Rattle.rs_index.specs.Pairs.{added, pair_of, pairs_of}
use Rattle.rs_index.proofs.index.Index.build.Given as goal

abbrev pub invariant-loop-number : goal.invariant-loop-number
invariant-loop-number l =
    (l.index.column ≡ l.column)
    × (fold (λ pairs pair. added pair pairs) l.index.pairs (filter_map (pair_of l.column) l.number-iterator) ≡ pairs_of l.column l.rows.rows)
