use Rattle.std.proofs.Common.{◌∙◌}
use Rattle.std.specs.Prelude.{eqb}
use Rattle.std.proofs.lemmas.List.Filters.{dedup_is}
use Rattle.rs_exec.proofs.Rising.{rising_of}
use Rattle.rs_exec.proofs.path.rising.Goals as goal

pub returns : goal.returns
returns c =
    rising_of c.args.numbers.items c.sort_unstable.new.self.items c.from_vec.result c.sort_unstable.ensures.permutation c.sort_unstable.ensures.sorted
    (c.from_vec.ensures ∙ dedup_is eqb c.sort_unstable.new.self.items c.dedup.new.self.items c.dedup.ensures.filtered)
