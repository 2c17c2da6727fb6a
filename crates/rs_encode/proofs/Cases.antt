-- The form of a value of several variants is a form.
use Rattle.std.proofs.Common.{◌≡◌, ◌<◌, ◌≤◌, ℕ, suc, false, eqb, List, ◌∷◌, ◌++◌, Option, Some, refl, sym, ap, subst, ◌∙◌, ◌⊎◌, inl, inr, arith}
use Rattle.std.specs.Prelude.{IsTrue}
use Rattle.std.proofs.lemmas.Bool.{eqb-true, eq-eqb, ne_eqb, lt-ltb}
use Rattle.std.proofs.lemmas.Option.{same_Some}
use Rattle.rs_base.specs.Reading.{◌>>=◌}
use Rattle.rs_base.proofs.Steps.{bind_some, chosen, held}
use Rattle.rs_codec.specs.Reader.{byte_at}
use Rattle.rs_codec.proofs.Readers.{bind_at}
use Rattle.rs_encode.specs.Form.{Form, IsForm}
use Rattle.rs_encode.specs.Variants.{Variants, AreVariants, left, right, fits_either, kind_either, bytes_either, variant, last, enum}
use Rattle.rs_encode.proofs.Numbers.{byte_only, byte_again}

module _ {A : Type 0} {form : Form A} (kind : ℕ) (is : IsForm form) (below : kind < 256) where
  last_only : (n : ℕ) (bytes rest : List ℕ) (x : A) → (last kind form).at n bytes ≡ Some (x, rest) → IsTrue (form.fits x) × (n ≡ kind) × (bytes ≡ form.bytes x ++ rest)
  last_only n bytes rest x e =
      let h = held (eqb n kind) (form.at bytes) (x, rest) e in
      let o = is.only bytes rest x h.1 in
      (o.0, eqb-true n kind h.0, o.1)

  last_again : (x : A) (rest : List ℕ) → IsTrue (form.fits x) → (last kind form).at kind (form.bytes x ++ rest) ≡ Some (x, rest)
  last_again x rest fits = rw (eq-eqb kind kind refl) (is.again x rest fits)

  pub last_is : AreVariants kind (last kind form)
  last_is = record { again = last_again; only = last_only; above = λ x. omega arith; below = λ x. below }

module _ {A B : Type 0} (kind : ℕ) (form : Form A) (others : Variants B) (is : IsForm form) (are : AreVariants (suc kind) others) (below : kind < 256) where
  abbrev Found : ℕ → List ℕ → (A ⊎ B) × List ℕ → Type 0
  Found n bytes x = IsTrue (fits_either form.fits others.fits x.0) × (n ≡ kind_either kind others.kind x.0) × (bytes ≡ bytes_either form.bytes others.bytes x.0 ++ x.1)

  left_only : (n : ℕ) (bytes rest : List ℕ) (x : A ⊎ B) → n ≡ kind → (form.at bytes >>= left) ≡ Some (x, rest) → Found n bytes (x, rest)
  left_only n bytes rest x same e =
      let s = bind_some (form.at bytes) left (x, rest) e in
      let o = is.only bytes s.0.1 s.0.0 s.1 in
      subst (λ (p : (A ⊎ B) × List ℕ). Found n bytes p) (same_Some {A = (A ⊎ B) × List ℕ} (inl s.0.0, s.0.1) (x, rest) s.2) (o.0, same, o.1)

  right_only : (n : ℕ) (bytes rest : List ℕ) (x : A ⊎ B) → (others.at n bytes >>= right) ≡ Some (x, rest) → Found n bytes (x, rest)
  right_only n bytes rest x e =
      let s = bind_some (others.at n bytes) right (x, rest) e in
      subst (λ (p : (A ⊎ B) × List ℕ). Found n bytes p) (same_Some {A = (A ⊎ B) × List ℕ} (inr s.0.0, s.0.1) (x, rest) s.2) (are.only n bytes s.0.1 s.0.0 s.1)

  variant_only : (n : ℕ) (bytes rest : List ℕ) (x : A ⊎ B) → (variant kind form others).at n bytes ≡ Some (x, rest) → Found n bytes (x, rest)
  variant_only n bytes rest x e = elim (chosen (eqb n kind) (form.at bytes >>= left) (others.at n bytes >>= right) (x, rest) e) [
    | inl a ↦ left_only n bytes rest x (eqb-true n kind a.0) a.1
    | inr b ↦ right_only n bytes rest x b.1
  ]

  other_kind : (b : B) → eqb (others.kind b) kind ≡ false
  other_kind b = ne_eqb (others.kind b) kind (λ e. let above = are.above b in omega arith)

  variant_again : (x : A ⊎ B) (rest : List ℕ) → IsTrue (fits_either form.fits others.fits x)
      → (variant kind form others).at (kind_either kind others.kind x) (bytes_either form.bytes others.bytes x ++ rest) ≡ Some (x, rest)
  variant_again (inl a) rest fits = rw (eq-eqb kind kind refl) (bind_at (form.at (form.bytes a ++ rest)) left (a, rest) (is.again a rest fits))
  variant_again (inr b) rest fits = rw (other_kind b) (bind_at (others.at (others.kind b) (others.bytes b ++ rest)) right (b, rest) (are.again b rest fits))

  variant_above : (x : A ⊎ B) → kind ≤ kind_either kind others.kind x
  variant_above (inl a) = omega arith
  variant_above (inr b) = let above = are.above b in omega arith

  variant_below : (x : A ⊎ B) → kind_either kind others.kind x < 256
  variant_below (inl a) = below
  variant_below (inr b) = are.below b

  variant_is : AreVariants kind (variant kind form others)
  variant_is = record { again = variant_again; only = variant_only; above = variant_above; below = variant_below }

module _ {A T : Type 0} (of : A → T) (parts : T → A) (lowest : ℕ) (variants : Variants A) (are : AreVariants lowest variants)
    (made : (t : T) → of (parts t) ≡ t) (kept : (a : A) → parts (of a) ≡ a) where
  abbrev fields_at : ℕ × List ℕ → Option (T × List ℕ)
  fields_at kind = variants.at kind.0 kind.1 >>= λ x. Some (of x.0, x.1)

  abbrev Encoded : List ℕ → T × List ℕ → Type 0
  Encoded bytes x = IsTrue (variants.fits (parts x.0)) × (bytes ≡ variants.kind (parts x.0) ∷ variants.bytes (parts x.0) ++ x.1)

  fields_only : (n : ℕ) (tail rest : List ℕ) (x : T) → fields_at (n, tail) ≡ Some (x, rest) → Encoded (n ∷ tail) (x, rest)
  fields_only n tail rest x e =
      let s = bind_some (variants.at n tail) (λ a. Some (of a.0, a.1)) (x, rest) e in
      let o = are.only n tail s.0.1 s.0.0 s.1 in
      let found : Encoded (n ∷ tail) (of s.0.0, s.0.1) = subst (λ (a : A). IsTrue (variants.fits a) × (n ∷ tail ≡ variants.kind a ∷ variants.bytes a ++ s.0.1)) (sym (kept s.0.0))
      (o.0, ap (λ k. k ∷ tail) o.1 ∙ ap (λ (bs : List ℕ). variants.kind s.0.0 ∷ bs) o.2) in
      subst (λ (p : T × List ℕ). Encoded (n ∷ tail) p) (same_Some {A = T × List ℕ} (of s.0.0, s.0.1) (x, rest) s.2) found

  enum_only : (bytes rest : List ℕ) (x : T) → (byte_at bytes >>= fields_at) ≡ Some (x, rest) → Encoded bytes (x, rest)
  enum_only bytes rest x e =
      let s = bind_some (byte_at bytes) fields_at (x, rest) e in
      let b = byte_only bytes s.0.1 s.0.0 s.1 in
      subst (λ (bs : List ℕ). Encoded bs (x, rest)) (sym b.1) (fields_only s.0.0 s.0.1 rest x s.2)

  enum_again : (x : T) (rest : List ℕ) → IsTrue (variants.fits (parts x))
      → (byte_at (variants.kind (parts x) ∷ variants.bytes (parts x) ++ rest) >>= fields_at) ≡ Some (x, rest)
  enum_again x rest fits =
      let kind = variants.kind (parts x) in
      let tail = variants.bytes (parts x) ++ rest in
      bind_at (byte_at (kind ∷ tail)) fields_at (kind, tail) (byte_again kind tail (lt-ltb kind 256 (are.below (parts x))))
      ∙ bind_at (variants.at kind tail) (λ a. Some (of a.0, a.1)) (parts x, rest) (are.again (parts x) rest fits)
      ∙ ap (λ (t : T). Some (t, rest)) (made x)

  enum_by : IsForm (enum of parts variants)
  enum_by = record { again = enum_again; only = enum_only }

pub first_is : {A B : Type 0} {form : Form A} {others : Variants B} (kind : ℕ) → IsForm form → kind < 256 → AreVariants (suc kind) others → AreVariants kind (variant kind form others)
first_is {form = form} {others = others} kind is below are = variant_is kind form others is are below

pub enum_is : {A T : Type 0} {lowest : ℕ} {variants : Variants A} (of : A → T) (parts : T → A)
    → ((t : T) → of (parts t) ≡ t) → ((a : A) → parts (of a) ≡ a) → AreVariants lowest variants → IsForm (enum of parts variants)
enum_is {lowest = lowest} {variants = variants} of parts made kept are = enum_by of parts lowest variants are made kept
