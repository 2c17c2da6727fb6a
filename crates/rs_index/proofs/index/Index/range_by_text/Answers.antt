use Rattle.std.proofs.Common.{sym}
use Rattle.std.specs.declared.cmp.Ordering.TheVariants.{Less}
use Rattle.rs_ast.specs.Allows.{allows}
use Rattle.rs_index.proofs.Ranges.{range_by_text, if_mapped}
use Rattle.rs_index.proofs.index.Index.range_by_text.Goals as goal

pub returns : goal.returns
returns c =
    rw (← c.self.view_is, c.new.ensures, c.ints_below-ints.ensures, c.range.ensures, if_mapped (allows c.args.op Less) c.self.inside.ints.keys)
    (sym (range_by_text c.args.op c.args.text.now c.self.inside.ints.keys c.self.inside.texts))
