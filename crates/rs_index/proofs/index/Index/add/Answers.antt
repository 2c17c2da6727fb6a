use Rattle.std.proofs.Common.{rules, SFits, w64, ℕ, ◌<◌, ◌^◌, List, sym, ap, arith}
use Rattle.std.proofs.lemmas.Int.{to_z-of_z}
use Rattle.std.proofs.lemmas.Map.Views.{All-insert_key}
use Rattle.rs_base.specs.declared.value.Value.{Value}
use Rattle.rs_index.specs.Index.{Index}
use Rattle.rs_index.proofs.Parts.{int_added, text_added}
use Rattle.rs_index.proofs.Results.{on_ok, on_either}
use Rattle.rs_index.proofs.index.Index.add.Goals as goal

pub invariant_of-self : goal.invariant_of-self
invariant_of-self c =
    let fits : c.args.number < 2 ^ 64 = omega arith in
    on_either c.add_int.result _ _ _ c.add_int.ensures.ok c.add_int.ensures.err
    (λ e. rw e (All-insert_key _ _ (λ p. p.1 < 2 ^ 64) c.self.inside.ints.keys c.self.invariant fits))
    (λ e. rw e c.self.invariant)

pub returns-in-Int-clause-ok : goal.returns-in-Int-clause-ok
returns-in-Int-clause-ok c =
    let made : List (Value × ℕ) → Index = λ pairs. record { column = c.self.inside.column; pairs = pairs } in
    let fits : SFits w64 c.in-Int.n = search rules in
    on_ok c.add_int.result _ _ (simp to_z-of_z at c.add_int.ensures.ok)
    (λ e. rw (c.in-Int.is, ← c.self.view_is, e) (ap made (sym (int_added c.in-Int.n c.args.number c.self.inside.ints.keys c.self.inside.texts))))

pub returns-in-Text-clause-ok : goal.returns-in-Text-clause-ok
returns-in-Text-clause-ok c =
    let made : List (Value × ℕ) → Index = λ pairs. record { column = c.self.inside.column; pairs = pairs } in
    on_ok c.add.result _ _ c.add.ensures.ok
    (λ e. rw (c.in-Text.is, ← c.self.view_is, e) (ap made (sym (text_added c.in-Text.text c.args.number c.self.inside.ints.keys c.self.inside.texts))))
