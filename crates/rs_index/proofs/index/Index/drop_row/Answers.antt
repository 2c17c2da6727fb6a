use Rattle.std.proofs.Common.{rules, SFits, w64, ℕ, ◌<◌, ◌^◌, List, sym, ap, ◌∙◌}
use Rattle.std.proofs.lemmas.Int.{to_z-of_z}
use Rattle.std.proofs.lemmas.Map.Views.{All-remove_key}
use Rattle.rs_base.specs.declared.value.Value.{Value}
use Rattle.rs_index.specs.Index.{Index}
use Rattle.rs_index.proofs.Parts.{int_has, int_dropped, text_has, text_dropped}
use Rattle.rs_index.proofs.index.Index.drop_row.Goals as goal

pub invariant_of-self : goal.invariant_of-self
invariant_of-self c = rw c.drop_int.ensures.pairs (All-remove_key _ (λ p. p.1 < 2 ^ 64) c.self.inside.ints.keys c.self.invariant)

pub returns-in-Int-clause-test : goal.returns-in-Int-clause-test
returns-in-Int-clause-test c =
    let fits : SFits w64 c.in-Int.n = search rules in
    rw (c.in-Int.is, ← c.self.view_is) ((simp to_z-of_z at c.drop_int.ensures.test) ∙ sym (int_has c.in-Int.n c.args.number c.self.inside.ints.keys c.self.inside.texts))

pub returns-in-Int-clause-pairs : goal.returns-in-Int-clause-pairs
returns-in-Int-clause-pairs c =
    let fits : SFits w64 c.in-Int.n = search rules in
    let dropped_int = simp to_z-of_z at c.drop_int.ensures.pairs in
    let made : List (Value × ℕ) → Index = λ pairs. record { column = c.self.inside.column; pairs = pairs } in
    rw (c.in-Int.is, ← c.self.view_is, dropped_int) (ap made (sym (int_dropped c.in-Int.n c.args.number c.self.inside.ints.keys c.self.inside.texts)))

pub returns-in-Text-clause-test : goal.returns-in-Text-clause-test
returns-in-Text-clause-test c =
    rw (c.in-Text.is, ← c.self.view_is) (c.drop_row.ensures.test ∙ sym (text_has c.in-Text.text c.args.number c.self.inside.ints.keys c.self.inside.texts))

pub returns-in-Text-clause-pairs : goal.returns-in-Text-clause-pairs
returns-in-Text-clause-pairs c =
    let made : List (Value × ℕ) → Index = λ pairs. record { column = c.self.inside.column; pairs = pairs } in
    rw (c.in-Text.is, ← c.self.view_is, c.drop_row.ensures.pairs) (ap made (sym (text_dropped c.in-Text.text c.args.number c.self.inside.ints.keys c.self.inside.texts)))
