use Rattle.std.proofs.Common.{◌∙◌}
use Rattle.std.proofs.lemmas.Iterator.{YieldsList-from_slice, YieldsList-from_zip}
use Rattle.std.proofs.lemmas.Iterator.Consumers.{YieldsList-end}
use Rattle.rs_ast.specs.declared.select.TableRef.{TableRef}
use Rattle.rs_scope.specs.declared.heading.Heading.{Heading}
use Rattle.rs_scope.specs.Scope.{alias_of}
use Rattle.rs_scope.proofs.Zipped.{mapped_in_step}
use Rattle.rs_scope.proofs.scopes.aliases_of.Goals as goal

pub returns : goal.returns
returns c =
    let road = YieldsList-from_zip (YieldsList-from_slice c.args.tables.now cc) (YieldsList-from_slice c.args.headings.now cc) in
    let all = YieldsList-end road c.loop-table.yielded _ c.loop-table.yielded_by c.next.result c.next.new.self c.in-None.is c.next.ensures.steps in
    c.loop-table.invariant ∙ mapped_in_step (λ (both : TableRef × Heading). alias_of both.0 both.1) c.loop-table.yielded _ all.0
