-- A source has few events: no more than lines, and no more lines than bytes.
use Rattle.std.proofs.Common.{◌≤◌, ℕ, Bool, true, false, cond, inl, inr, List, [], ◌∷◌, length, arith}
use Rattle.std.specs.Prelude.{◌==◌}
use Rattle.rs_sched.specs.declared.event.Event.{Event}
use Rattle.rs_sched.specs.Lines.{onto_first, lines_of}
use Rattle.rs_sched.specs.Schedule.{AreLines}
use Rattle.law_world.specs.Answered.{HaveTransactions}
use Rattle.rs_run.specs.Refusal.{IsSource}

few_lines : (bytes : List ℕ) → length (lines_of bytes) ≤ length bytes
few_lines [] = omega arith
few_lines (b ∷ bytes) = by_feed (b == 10) (few_lines bytes)
  where
    onto : (lines : List (List ℕ)) → length lines ≤ length bytes → length (onto_first b lines) ≤ length (b ∷ bytes)
    onto [] le = omega arith
    onto (line ∷ lines) le = omega (arith, le)

    by_feed : (feed : Bool) → length (lines_of bytes) ≤ length bytes → length (cond feed ([] ∷ lines_of bytes) (onto_first b (lines_of bytes))) ≤ length (b ∷ bytes)
    by_feed true le = omega (arith, le)
    by_feed false le = onto (lines_of bytes) le

few_given : (lines : List (List ℕ)) (given : List Event) → AreLines lines given → length given ≤ length lines
few_given [] [] are = omega arith
few_given [] (event ∷ others) are = absurd are
few_given (line ∷ lines) [] are = omega arith
few_given (line ∷ lines) (event ∷ others) (inl comment) = omega (arith, few_given lines (event ∷ others) comment.1)
few_given (line ∷ lines) (event ∷ others) (inr is) = omega (arith, few_given lines others is.1)

-- so each ask may have a transaction
pub few_events : (bytes : List ℕ) (given : List Event) → IsSource bytes given → HaveTransactions given
few_events bytes given source = omega (arith, source.schedule.short, few_lines bytes, few_given (lines_of bytes) given source.schedule.lines)
