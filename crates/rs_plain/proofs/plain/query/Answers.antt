use Rattle.std.proofs.Common.{List, IfOk, map, ◌≡◌, subst}
use Rattle.rs_base.specs.declared.name.Swn.{Swn}
use Rattle.rs_base.specs.Name.{resolve}
use Rattle.rs_ast.specs.declared.select.TableRef.{TableRef}
use Rattle.rs_plain.specs.Plain.{plain_tables}
use Rattle.rs_mean.specs.RowStatements.{no_arguments, select}
use Rattle.rs_plain.proofs.plain.query.Goals as goal

pub returns : goal.returns
returns c =
    let Claim : List Swn → Type 0 = λ names. IfOk c.select.result (λ answered. answered ≡ (select no_arguments (plain_tables c.args.tables.now) names c.args.query.now).answer) in
    let name : TableRef → Swn = λ table. resolve table.name c.args.user c.args.site in
    let at_names : Claim c.in_ok-names.names = subst Claim c.as_slice-2.ensures c.select.ensures in
    let at_map : Claim (map name c.as_slice.result.now) = subst Claim c.in_ok-names.ensures at_names in
    subst (λ from. Claim (map name from)) c.as_slice.ensures at_map
