-- A session stored in a book, and restored.
use Rattle.std.proofs.Common.{◌≡◌, ℕ, Bool, true, false, cond, List, [], ◌∷◌, Some, None, Ordering, Less, Equal, Greater, refl, sym, ap, ◌∙◌, is_eq}
use Rattle.std.specs.BTreeMap.{insert_entry, is_at}
use Rattle.std.specs.Cmp.{IsTotalOrder}
use Rattle.std.specs.Cmp.Lexicographic.{slice_cmp, nat_list_cmp_total}
use Rattle.std.specs.Map.{lookup, set_value, remove_entry}
use Rattle.std.specs.Ordering.{match_ordering, nat_cmp}
use Rattle.std.proofs.lemmas.Cmp.{tied_itself}
use Rattle.std.proofs.lemmas.Map.Steps.{set_value_same}
use Rattle.law_map.proofs.Entries.{set_value_is_insert_entry}
use Rattle.rs_session.specs.declared.session.Session.{Session}
use Rattle.rs_session.specs.Sessions.{Book, IsInOrder, kept_of, with_session}

-- the last of two values written under one key stays
written_twice : {K X : Type 0} (test : K → Bool) (v w : X) (es : List (K × X)) → set_value test (set_value test es v) w ≡ set_value test es w
written_twice test v w [] = refl
written_twice {K} {X} test v w (e ∷ es) =
    elim (test e.0) as (λ b. test e.0 ≡ b → set_value test (cond b ((e.0, v) ∷ es) (e ∷ set_value test es v)) w ≡ cond b ((e.0, w) ∷ es) (e ∷ set_value test es w)) [
      | true ↦ λ h. ap (λ b. cond b ((e.0, w) ∷ es) ((e.0, v) ∷ set_value test es w)) h
      | false ↦ λ h. ap (λ b. cond b ((e.0, w) ∷ set_value test es v) (e ∷ set_value test (set_value test es v) w)) h ∙ ap (λ fs. e ∷ fs) (written_twice test v w es)
    ] refl

module _ {K X : Type 0} {R : K → K → Ordering} (o : IsTotalOrder R) (k : K) (v : X) where
  -- what was inserted under a new key is removed
  removed : (es : List (K × X)) → lookup (is_at (R k)) es ≡ None → remove_entry (is_at (R k)) (insert_entry R es k v) ≡ es
  removed [] none = ap (λ r. cond (is_eq r) [] ((k, v) ∷ [])) (tied_itself o k)
  removed (e ∷ es) none =
      elim (R k e.0) as (λ r. R k e.0 ≡ r → cond (is_eq r) (Some e.1) (lookup (is_at (R k)) es) ≡ None
      → remove_entry (is_at (R k)) (match_ordering r ((k, v) ∷ e ∷ es) ((e.0, v) ∷ es) (e ∷ insert_entry R es k v)) ≡ e ∷ es) [
        | Less ↦ λ h absent. ap (λ r. cond (is_eq r) (e ∷ es) ((k, v) ∷ remove_entry (is_at (R k)) (e ∷ es))) (tied_itself o k)
        | Equal ↦ λ h absent. absurd cc
        | Greater ↦ λ h absent. ap (λ r. cond (is_eq r) (insert_entry R es k v) (e ∷ remove_entry (is_at (R k)) (insert_entry R es k v))) h ∙ ap (λ fs. e ∷ fs) (removed es absent)
      ] refl none

pub taken_out : (user : List ℕ) (book now new : Book) (session : Session) → now ≡ with_session user session book → None ≡ kept_of user book
    → new ≡ remove_entry (is_at (slice_cmp nat_cmp user)) now → new ≡ book
taken_out user book now new session put none is =
    is ∙ ap (λ b. remove_entry (is_at (slice_cmp nat_cmp user)) b) put ∙ removed nat_list_cmp_total user session book (sym none)

pub written_back : (user : List ℕ) (book now new : Book) (session before : Session) → IsInOrder book → now ≡ with_session user session book → Some before ≡ kept_of user book
    → new ≡ set_value (is_at (slice_cmp nat_cmp user)) now before → new ≡ book
written_back user book now new session before up put found is =
    let test : List ℕ → Bool = is_at (slice_cmp nat_cmp user) in
    let written : now ≡ set_value test book session = put ∙ sym (set_value_is_insert_entry nat_list_cmp_total user book before session up (sym found)) in
    is ∙ ap (λ b. set_value test b before) written ∙ written_twice test session before book ∙ set_value_same test book before (sym found)
