use Rattle.std.proofs.Common.{ℕ, ◌<◌, List, length, sym, ap, ◌∙◌, arith}
use Rattle.std.specs.Prelude.{slice_get}
use Rattle.std.proofs.lemmas.Option.{slice_get_within}
use Rattle.rs_access.proofs.NumberLaws.{drop_at, drop_past}
use Rattle.rs_access.proofs.number_list.NumberList.next.Goals as goal

pub overflow_add-self : goal.overflow_add-self
overflow_add-self c =
    let within : c.self.inside.given < length c.as_slice.result.now = slice_get_within c.as_slice.result.now c.self.inside.given c.in-Some.number.now (sym c.in-Some.ensures) in
    grind (arith, c.as_slice.type_inv)

pub returns-in-Some : goal.returns-in-Some
returns-in-Some c =
    sym c.self.view_is
    ∙ drop_at c.self.inside.numbers c.self.inside.given c.in-Some.number.now (sym (c.in-Some.ensures ∙ ap (λ (s : List ℕ). slice_get s c.self.inside.given) c.as_slice.ensures))

pub returns-in-None : goal.returns-in-None
returns-in-None c =
    let none = sym c.self.view_is
    ∙ drop_past c.self.inside.numbers c.self.inside.given (sym (c.in-None.ensures ∙ ap (λ (s : List ℕ). slice_get s c.self.inside.given) c.as_slice.ensures)) in
    (none, none)
