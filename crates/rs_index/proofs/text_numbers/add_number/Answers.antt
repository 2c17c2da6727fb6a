use Rattle.std.proofs.Common.{◌≡◌, ℕ, List, Some, sym, ap, ◌∙◌}
use Rattle.std.specs.BTreeSet.{BTreeSet}
use Rattle.std.proofs.lemmas.Map.Steps.{set_value_same}
use Rattle.rs_index.specs.TextPairs.{text_pairs}
use Rattle.rs_index.proofs.Results.{on_err}
use Rattle.rs_index.proofs.TextLaws.{added_number}
use Rattle.rs_index.proofs.text_numbers.add_number.Goals as goal

pub returns-in_err-insert-in-Some-clause-err : goal.returns-in_err-insert-in-Some-clause-err
returns-in_err-insert-in-Some-clause-err c =
    let w = c.insert.new.self in
    let made : List ℕ → BTreeSet ℕ = λ keys. record { keys = keys } in
    let same : w ≡ c.in-Some.set.now = ap made c.in_err-insert-in-Some.ensures.err in
    on_err c.from_residual.result _
    (ap text_pairs ((c.get_mut.follows.holds w).0 ∙ set_value_same _ c.args.sets.now.entries w (sym c.in-Some.ensures.value ∙ ap (λ s. Some s) (sym same))))

pub returns-in_ok-insert-in-Some-clause-ok : goal.returns-in_ok-insert-in-Some-clause-ok
returns-in_ok-insert-in-Some-clause-ok c =
    let w = c.insert.new.self in
    ap text_pairs (c.get_mut.follows.holds w).0
    ∙ added_number c.args.text.now c.args.number c.in-Some.set.now w c.args.sets.now.entries c.get_mut.ensures.ordered (sym c.in-Some.ensures.value) c.in_ok-insert-in-Some.ensures.keys
