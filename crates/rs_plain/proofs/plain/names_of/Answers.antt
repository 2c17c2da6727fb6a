use Rattle.std.proofs.Common.{◌≤◌, length, ap, ◌∙◌, map, arith}
use Rattle.std.proofs.lemmas.List.{take_all}
use Rattle.rs_base.specs.declared.name.Swn.{Swn}
use Rattle.rs_base.specs.Name.{resolve}
use Rattle.rs_ast.specs.declared.select.TableRef.{TableRef}
use Rattle.rs_plain.proofs.plain.names_of.Goals as goal

pub returns : goal.returns
returns c =
    let name : TableRef → Swn = λ table. resolve table.name c.args.user c.args.site in
    let all : length c.args.tables.now ≤ c.loop-table.table-index = omega (arith, c.loop-table-test.false) in
    c.loop-table.invariant ∙ ap (λ tables. map name tables) (take_all c.loop-table.table-index c.args.tables.now all)
