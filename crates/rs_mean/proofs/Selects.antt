-- What binding a query gives is a query.
use Rattle.std.proofs.Common.{◌≡◌, List, Option, Some, None, Ok, subst}
use Rattle.rs_base.specs.declared.reply.Denial.{Denial}
use Rattle.rs_ast.specs.declared.select.Select.{Select}
use Rattle.rs_plan.specs.declared.bound.Bound.{Bound}
use Rattle.rs_bind_query.specs.Binding.{select_bound, bound_select}
use Rattle.rs_plan.specs.Outcome.{unless_denied}
use Rattle.rs_bind_query.specs.Denials.{select_tests}
use Rattle.rs_scope.specs.Denials.{first_denial}
use Rattle.rs_scope.specs.declared.heading.Heading.{Heading}
use Rattle.rs_scope.specs.declared.scope.Param.{Param}
use Rattle.rs_mean.specs.Queries.{IsSelect}

unless_denied-select : (answered : Option Denial) (given bound : Bound) → IsSelect given → Ok bound ≡ unless_denied answered given → IsSelect bound
unless_denied-select None given bound is e = let same : given ≡ bound = cc in subst IsSelect same is
unless_denied-select (Some cause) given bound is e = absurd cc

pub select_is_select : (query : Select) (headings : List Heading) (params : List Param) (bound : Bound) → Ok bound ≡ select_bound query headings params → IsSelect bound
unfolding select_bound
select_is_select query headings params bound e = unless_denied-select (first_denial (select_tests query headings params)) (bound_select query headings params) bound tt e
