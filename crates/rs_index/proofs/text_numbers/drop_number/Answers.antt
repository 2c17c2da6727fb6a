use Rattle.std.proofs.Common.{◌≡◌, ℕ, Bool, List, [], sym, ap, ◌∙◌}
use Rattle.std.specs.BTreeMap.{is_at}
use Rattle.std.specs.BTreeSet.{BTreeSet}
use Rattle.std.specs.Map.{remove_entry, set_value}
use Rattle.std.proofs.lemmas.List.{nil_from_length}
use Rattle.rs_index.specs.TextPairs.{text_cmp, text_pairs}
use Rattle.rs_index.proofs.TextLaws.{dropped_number, no_pair, found_set, without_empty}
use Rattle.rs_index.proofs.text_numbers.drop_number.Goals as goal

pub returns-in-None-clause-test : goal.returns-in-None-clause-test
returns-in-None-clause-test c = sym (no_pair c.args.text.now c.args.number c.args.sets.now.entries (sym c.in-None.ensures.value)).0

pub returns-in-None-clause-pairs : goal.returns-in-None-clause-pairs
returns-in-None-clause-pairs c =
    ap (λ m. text_pairs m.entries) c.get_mut.follows.holds-at-none
    ∙ sym (no_pair c.args.text.now c.args.number c.args.sets.now.entries (sym c.in-None.ensures.value)).1

pub returns-else-is_empty-clause-test : goal.returns-else-is_empty-clause-test
returns-else-is_empty-clause-test c =
    c.remove-was_there.ensures.test
    ∙ (dropped_number c.args.text.now c.args.number c.in-Some.set.now c.remove-was_there.new.self c.args.sets.now.entries c.get_mut.ensures.ordered (sym c.in-Some.ensures.value) c.remove-was_there.ensures.keys).test

pub returns-else-is_empty-clause-pairs : goal.returns-else-is_empty-clause-pairs
returns-else-is_empty-clause-pairs c =
    ap text_pairs (c.get_mut.follows.holds c.remove-was_there.new.self).0
    ∙ (dropped_number c.args.text.now c.args.number c.in-Some.set.now c.remove-was_there.new.self c.args.sets.now.entries c.get_mut.ensures.ordered (sym c.in-Some.ensures.value) c.remove-was_there.ensures.keys).pairs

pub returns-then-is_empty-clause-test : goal.returns-then-is_empty-clause-test
returns-then-is_empty-clause-test c =
    c.remove-was_there.ensures.test
    ∙ (dropped_number c.args.text.now c.args.number c.in-Some.set.now c.remove-was_there.new.self c.args.sets.now.entries c.get_mut.ensures.ordered (sym c.in-Some.ensures.value) c.remove-was_there.ensures.keys).test

pub returns-then-is_empty-clause-pairs : goal.returns-then-is_empty-clause-pairs
returns-then-is_empty-clause-pairs c =
    let w = c.remove-was_there.new.self in
    let test : List ℕ → Bool = is_at (text_cmp c.args.text.now) in
    let written = (c.get_mut.follows.holds w).0 in
    let empty : w.keys ≡ [] = nil_from_length _ (c.is_empty.ensures.0 c.if-is_empty.true) in
    let found = sym c.in-Some.ensures.value in
    ap text_pairs (c.remove.ensures.entries ∙ ap (λ (es : List (List ℕ × BTreeSet ℕ)). remove_entry test es) written)
    ∙ without_empty test w (set_value test c.args.sets.now.entries w) (found_set test c.in-Some.set.now w c.args.sets.now.entries found) empty
    ∙ (dropped_number c.args.text.now c.args.number c.in-Some.set.now w c.args.sets.now.entries c.get_mut.ensures.ordered found c.remove-was_there.ensures.keys).pairs
