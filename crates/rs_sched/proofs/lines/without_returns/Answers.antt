use Rattle.std.proofs.Common.{sym, ◌∙◌}
use Rattle.rs_sched.proofs.LineLaws.{returns-one, returns-none}
use Rattle.rs_sched.proofs.lines.without_returns.Goals as goal

pub returns-then-last-ne13 : goal.returns-then-last-ne13
returns-then-last-ne13 c = sym (returns-none c.loop-left.left.now c.in-len1-up.len_at_least c.if-last-ne13.true) ∙ c.loop-left.invariant

pub loop-left-preserved : goal.loop-left-preserved
loop-left-preserved c = returns-one c.loop-left.left.now c.in-len1-up.len_at_least c.if-last-ne13.false ∙ c.loop-left.invariant
