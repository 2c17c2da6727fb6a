use Rattle.std.proofs.Common.{ℕ, List, ◌++◌, ◌∷◌, [], filter, get_or, take, sym, ap, ◌∙◌, arith}
use Rattle.rs_base.specs.declared.value.Value.{Value}
use Rattle.rs_rows.specs.TableRows.{RowsByNumber}
use Rattle.rs_eval.specs.Clauses.{holds}
use Rattle.rs_exec.specs.Paths.{rows_at}
use Rattle.rs_exec.proofs.PathLaws.{rows_at_more}
use Rattle.rs_exec.proofs.matching.read_matching.Goals as goal

pub loop-number-preserved : goal.loop-number-preserved
loop-number-preserved g c =
    let rows = g.R.ReadRows.rows c.args.rows.now in
    let one : RowsByNumber → RowsByNumber = λ (all : RowsByNumber). filter (λ (entry : ℕ × List Value). holds c.args.clauses.now entry.1) (rows_at (get_or c.args.numbers.now c.loop-number.number-index 0 ∷ []) all) in
    let before : RowsByNumber = filter (λ (entry : ℕ × List Value). holds c.args.clauses.now entry.1) (rows_at (take c.loop-number.number-index c.args.numbers.now) rows) in
    record {
      found =
          c.in_ok-read_one.ensures.found
          ∙ ap (λ (found : RowsByNumber). found ++ one (g.R.ReadRows.rows c.loop-number.rows)) c.loop-number.invariant.found
          ∙ ap (λ (all : RowsByNumber). before ++ one all) c.loop-number.invariant.rows
          ∙ sym (rows_at_more c.args.clauses.now c.args.numbers.now rows c.loop-number.number-index c.loop-number-test.true);
      rows = c.in_ok-read_one.ensures.rows ∙ c.loop-number.invariant.rows;
      reads = omega (arith, c.in_ok-read_one.ensures.reads, c.loop-number.invariant.reads);
    }
