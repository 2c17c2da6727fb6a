use Rattle.std.proofs.Common.{◌≡◌, ℕ, List, Option, Some, IsTrue, subst, sym, ap, ◌∙◌}
use Rattle.std.proofs.lemmas.Result.{IfOk-weaker}
use Rattle.rs_ast.specs.declared.bound.BoundCmp.{BoundCmp}
use Rattle.rs_rows.specs.TableRows.{numbers}
use Rattle.rs_exec.specs.Paths.{is_path_clause}
use Rattle.rs_exec.specs.Reads.{path_clause, satisfying}
use Rattle.rs_exec.proofs.PathLaws.{path_clause_is, index_column, index_rows}
use Rattle.rs_exec.proofs.path.path_numbers.Goals as goal

pub indexed_numbers-requires : goal.indexed_numbers-requires
indexed_numbers-requires g c =
    let column : c.in-Some-index_on.index.now.column ≡ c.in-Some.column = index_column c.in-Some.column c.args.indexes.now c.in-Some-index_on.index.now c.in-Some-index_on.ensures in
    let is : IsTrue (is_path_clause c.in-Some.column c.in-Some-path_clause.clause.now) = path_clause_is c.in-Some.column c.args.clauses.now c.in-Some-path_clause.clause.now (sym c.in-Some-path_clause.ensures) in
    subst (λ (clause : List BoundCmp). IsTrue (is_path_clause c.in-Some-index_on.index.now.column clause)) (sym c.as_slice.ensures) (subst (λ (n : ℕ). IsTrue (is_path_clause n c.in-Some-path_clause.clause.now)) (sym column) is)

pub returns : goal.returns
returns g c =
    let rows = g.R.ReadRows.rows c.args.rows.now in
    let found = c.indexed_numbers.ensures rows c.requires.rising (index_rows c.in-Some.column c.args.indexes.now c.in-Some-index_on.index.now rows c.requires.indexes c.in-Some-index_on.ensures) in
    let clause : Some c.as_slice.result.now ≡ path_clause c.in-Some.column c.args.clauses.now = ap Some c.as_slice.ensures ∙ c.in-Some-path_clause.ensures in
    let same : numbers (satisfying (Some c.as_slice.result.now) rows) ≡ numbers (satisfying (path_clause c.in-Some.column c.args.clauses.now) rows) = ap (λ (o : Option (List BoundCmp)). numbers (satisfying o rows)) clause in
    IfOk-weaker c.indexed_numbers.result _ _ (λ ns is. rw c.in-Some.is (is ∙ same)) found
