use Rattle.std.proofs.Common.{List, IfOk, map, ◌≡◌, subst}
use Rattle.rs_base.specs.declared.name.Swn.{Swn}
use Rattle.rs_ast.specs.declared.select.TableRef.{TableRef}
use Rattle.rs_mean.specs.Names.{name_of}
use Rattle.rs_mean.specs.RowStatements.{no_arguments, select, tables_in}
use Rattle.rs_mean.proofs.database.Database.query.Goals as goal

pub returns : goal.returns
returns c =
    let Claim : List Swn → Type 0 = λ names. IfOk c.select.result (λ effect. effect ≡ select no_arguments (tables_in c.args.self.now) names c.args.query.now) in
    let name : TableRef → Swn = λ table. name_of c.args.self.now c.args.execution.now table.name in
    let at_names : Claim c.in_ok-names.names = subst Claim c.as_slice-2.ensures c.select.ensures in
    let at_map : Claim (map name c.as_slice.result.now) = subst Claim c.in_ok-names.ensures at_names in
    subst (λ from. Claim (map name from)) c.as_slice.ensures at_map
