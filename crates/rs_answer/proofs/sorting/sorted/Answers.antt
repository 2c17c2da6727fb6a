use Rattle.std.proofs.Common.{rules}
use Rattle.std.proofs.lemmas.Fn.{always_returns_same}
use Rattle.std.proofs.lemmas.List.Sorted.{ranks_by}
use Rattle.rs_answer.proofs.Orders.{answer_total, answer_exact}
use Rattle.rs_answer.proofs.Arranged.{is_sorted_by}
use Rattle.rs_answer.proofs.sorting.sorted.Goals as goal

pub returns : goal.returns
returns c =
    let sorted = c.in_ok-sort_by.ensures.sorted _ (ranks_by (answer_total c.args.keys.now) (λ x. x)) (always_returns_same _ _ _ (λ a r f' k. (search rules, search rules))) in
    is_sorted_by (answer_total c.args.keys.now) (answer_exact c.args.keys.now) c.args.rows.items c.sort_by.new.self.items c.in_ok-sort_by.ensures.permutation sorted
