use Rattle.std.proofs.Common.{List, length, ap, arith, rules}
use Rattle.std.proofs.lemmas.List.FromFn.{length-map-range_with_len}
use Rattle.rs_site.specs.State.{SiteState, opened}
use Rattle.rs_world.proofs.Opened.{opened_more}
use Rattle.rs_world.proofs.sites.Sites.open.Goals as goal

pub loop-before-preserved : goal.loop-before-preserved
loop-before-preserved c = opened_more _ _ c.in-Some.me _ _ c.in_ok-open.field-0 c.loop-before.invariant c.in_ok-open.ensures (search rules) (search rules)

pub invariant_of-result : goal.invariant_of-result
invariant_of-result c =
    omega (
      arith,
      ap (λ (sites : List SiteState). length sites) c.loop-before.invariant,
      length-map-range_with_len (λ me. opened me c.args.last) 1 c.loop-before.before,
      c.loop-before.auto.before-end,
      c.number-before-end.ensures.range.1,
    )
