-- The forms of options and lists are forms.
use Rattle.std.proofs.Common.{◌≡◌, ℕ, zero, suc, ◌^◌, cond, ◌&&◌, ltb, eqb, List, [], ◌∷◌, ◌++◌, length, Option, Some, None, refl, sym, ap, subst, ◌∙◌, append_assoc, inl, inr}
use Rattle.std.specs.Prelude.{IsTrue}
use Rattle.std.specs.List.{list_all}
use Rattle.std.proofs.lemmas.Bool.{and_parts, and_from, eqb-true}
use Rattle.std.proofs.lemmas.Option.{same_Some}
use Rattle.rs_base.specs.Reading.{◌>>=◌}
use Rattle.rs_base.proofs.Steps.{bind_some, chosen, held}
use Rattle.rs_codec.specs.Reader.{byte_at, count_at}
use Rattle.rs_codec.specs.Written.{count_bytes}
use Rattle.rs_codec.proofs.Readers.{bind_at}
use Rattle.rs_encode.specs.Form.{Form, IsForm, option, list, option_fits, option_bytes, some_at, option_at, items_bytes, items_at}
use Rattle.rs_encode.proofs.Numbers.{byte_only, count_only, count_again}

module _ {T : Type 0} {form : Form T} (is : IsForm form) where
  -- ---- options

  abbrev Optional : List ℕ → Option T × List ℕ → Type 0
  Optional bytes x = IsTrue (option_fits form x.0) × (bytes ≡ option_bytes form x.0 ++ x.1)

  none_only : (n : ℕ) (tail rest : List ℕ) (x : Option T) → n ≡ 0 → ◌≡◌ {A = Option (Option T × List ℕ)} (Some (None, tail)) (Some (x, rest)) → Optional (n ∷ tail) (x, rest)
  none_only n tail rest x zero_is e =
      subst (λ (p : Option T × List ℕ). Optional (n ∷ tail) p) (same_Some {A = Option T × List ℕ} (None, tail) (x, rest) e) (refl, ap (λ k. k ∷ tail) zero_is)

  some_only : (n : ℕ) (tail rest : List ℕ) (x : Option T) → n ≡ 1 → some_at form tail ≡ Some (x, rest) → Optional (n ∷ tail) (x, rest)
  some_only n tail rest x one_is e =
      let s = bind_some (form.at tail) (λ y. Some (Some y.0, y.1)) (x, rest) e in
      let o = is.only tail s.0.1 s.0.0 s.1 in
      subst (λ (p : Option T × List ℕ). Optional (n ∷ tail) p) (same_Some {A = Option T × List ℕ} (Some s.0.0, s.0.1) (x, rest) s.2)
      (o.0, ap (λ k. k ∷ tail) one_is ∙ ap (λ (bs : List ℕ). 1 ∷ bs) o.1)

  kind_only : (n : ℕ) (tail rest : List ℕ) (x : Option T) → option_at form (n, tail) ≡ Some (x, rest) → Optional (n ∷ tail) (x, rest)
  kind_only n tail rest x e = elim (chosen (eqb n 0) (Some (None, tail)) (cond (eqb n 1) (some_at form tail) None) (x, rest) e) [
    | inl a ↦ none_only n tail rest x (eqb-true n 0 a.0) a.1
    | inr b ↦ let h = held (eqb n 1) (some_at form tail) (x, rest) b.1 in some_only n tail rest x (eqb-true n 1 h.0) h.1
  ]

  option_only : (bytes rest : List ℕ) (x : Option T) → (byte_at bytes >>= option_at form) ≡ Some (x, rest) → Optional bytes (x, rest)
  option_only bytes rest x e =
      let s = bind_some (byte_at bytes) (option_at form) (x, rest) e in
      let b = byte_only bytes s.0.1 s.0.0 s.1 in
      subst (λ (bs : List ℕ). Optional bs (x, rest)) (sym b.1) (kind_only s.0.0 s.0.1 rest x s.2)

  option_again : (x : Option T) (rest : List ℕ) → IsTrue (option_fits form x) → (byte_at (option_bytes form x ++ rest) >>= option_at form) ≡ Some (x, rest)
  option_again None rest fits = refl
  option_again (Some x) rest fits = bind_at (form.at (form.bytes x ++ rest)) (λ y. Some (Some y.0, y.1)) (x, rest) (is.again x rest fits)

  pub option_is : IsForm (option form)
  unfolding option
  option_is = record { again = option_again; only = option_only }

  -- ---- lists

  record AreItems (n : ℕ) (bytes rest : List ℕ) (xs : List T) : Type 0 where
    long : length xs ≡ n
    fit : IsTrue (list_all form.fits xs)
    parts : bytes ≡ items_bytes form xs ++ rest

  more_items : (n : ℕ) (bytes middle rest : List ℕ) (x : T) (xs : List T) → IsTrue (form.fits x) → bytes ≡ form.bytes x ++ middle → AreItems n middle rest xs → AreItems (suc n) bytes rest (x ∷ xs)
  more_items n bytes middle rest x xs fits parts items = record {
    long = ap suc items.long;
    fit = and_from (form.fits x) (list_all form.fits xs) fits items.fit;
    parts = parts ∙ ap (λ (bs : List ℕ). form.bytes x ++ bs) items.parts ∙ sym (append_assoc (form.bytes x) (items_bytes form xs) rest);
  }

  items_only : (n : ℕ) (bytes rest : List ℕ) (xs : List T) → items_at form n bytes ≡ Some (xs, rest) → AreItems n bytes rest xs
  items_only zero bytes rest xs e =
      subst (λ (p : List T × List ℕ). AreItems zero bytes p.1 p.0) (same_Some {A = List T × List ℕ} ([], bytes) (xs, rest) e) (record { long = refl; fit = refl; parts = refl })
  items_only (suc n) bytes rest xs e =
      let s = bind_some (form.at bytes) (λ x. items_at form n x.1 >>= λ ys. Some (x.0 ∷ ys.0, ys.1)) (xs, rest) e in
      let t = bind_some (items_at form n s.0.1) (λ ys. Some (s.0.0 ∷ ys.0, ys.1)) (xs, rest) s.2 in
      let o = is.only bytes s.0.1 s.0.0 s.1 in
      subst (λ (p : List T × List ℕ). AreItems (suc n) bytes p.1 p.0) (same_Some {A = List T × List ℕ} (s.0.0 ∷ t.0.0, t.0.1) (xs, rest) t.2)
      (more_items n bytes s.0.1 t.0.1 s.0.0 t.0.0 o.0 o.1 (items_only n s.0.1 t.0.1 t.0.0 t.1))

  items_again : (xs : List T) (rest : List ℕ) → IsTrue (list_all form.fits xs) → items_at form (length xs) (items_bytes form xs ++ rest) ≡ Some (xs, rest)
  items_again [] rest fits = refl
  items_again (x ∷ xs) rest fits =
      let p = and_parts (form.fits x) (list_all form.fits xs) fits in
      let tail = items_bytes form xs ++ rest in
      ap (λ (bs : List ℕ). items_at form (suc (length xs)) bs) (append_assoc (form.bytes x) (items_bytes form xs) rest)
      ∙ bind_at (form.at (form.bytes x ++ tail)) (λ y. items_at form (length xs) y.1 >>= λ ys. Some (y.0 ∷ ys.0, ys.1)) (x, tail) (is.again x tail p.0)
      ∙ bind_at (items_at form (length xs) tail) (λ ys. Some (x ∷ ys.0, ys.1)) (xs, rest) (items_again xs rest p.1)

  list_only : (bytes rest : List ℕ) (xs : List T) → (count_at bytes >>= λ n. items_at form n.0 n.1) ≡ Some (xs, rest)
      → IsTrue (ltb (length xs) (2 ^ 64) && list_all form.fits xs) × (bytes ≡ (count_bytes (length xs) ++ items_bytes form xs) ++ rest)
  list_only bytes rest xs e =
      let s = bind_some (count_at bytes) (λ n. items_at form n.0 n.1) (xs, rest) e in
      let c = count_only bytes s.0.1 s.0.0 s.1 in
      let items = items_only s.0.0 s.0.1 rest xs s.2 in
      let long = sym items.long in (
        and_from (ltb (length xs) (2 ^ 64)) (list_all form.fits xs) (subst (λ n. IsTrue (ltb n (2 ^ 64))) long c.0) items.fit,
        c.1 ∙ ap (λ n. count_bytes n ++ s.0.1) long ∙ ap (λ (bs : List ℕ). count_bytes (length xs) ++ bs) items.parts
            ∙ sym (append_assoc (count_bytes (length xs)) (items_bytes form xs) rest),
      )

  list_again : (xs : List T) (rest : List ℕ) → IsTrue (ltb (length xs) (2 ^ 64) && list_all form.fits xs)
      → (count_at ((count_bytes (length xs) ++ items_bytes form xs) ++ rest) >>= λ n. items_at form n.0 n.1) ≡ Some (xs, rest)
  list_again xs rest fits =
      let p = and_parts (ltb (length xs) (2 ^ 64)) (list_all form.fits xs) fits in
      let tail = items_bytes form xs ++ rest in
      ap (λ (bs : List ℕ). count_at bs >>= λ n. items_at form n.0 n.1) (append_assoc (count_bytes (length xs)) (items_bytes form xs) rest)
      ∙ bind_at (count_at (count_bytes (length xs) ++ tail)) (λ n. items_at form n.0 n.1) (length xs, tail) (count_again (length xs) tail p.0)
      ∙ items_again xs rest p.1

  pub list_is : IsForm (list form)
  unfolding list
  list_is = record { again = list_again; only = list_only }
