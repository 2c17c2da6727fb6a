-- The form of a value of one of several variants: a byte for the variant, and then its fields. Variants are sums: the
-- fields of the first one, or else those of one of the others.
use Rattle.std.specs.Prelude.{◌≡◌, ◌⊎◌, ◌<◌, ◌≤◌, ℕ, ◌==◌, Bool, List, ◌∷◌, ◌++◌, Option, Some, None, IsTrue, if◌then◌else◌}
use mathlib.Core.Logic.{inl, inr}
use Rattle.rs_base.specs.Reading.{◌>>=◌}
use Rattle.rs_codec.specs.Reader.{byte_at}
use Rattle.rs_encode.specs.Form.{Form}

-- kind x           the byte for the variant of the value
-- bytes x          the encoding of its fields
-- at kind bytes    the value of this kind whose fields' encoding begins the bytes, with the bytes after it
pub record Variants (T : Type 0) : Type 0 where
  pub fits : T → Bool
  pub kind : T → ℕ
  pub bytes : T → List ℕ
  pub at : ℕ → List ℕ → Option (T × List ℕ)

-- As for a form; and each kind is a byte, from `lowest` on.
pub record AreVariants {T : Type 0} (lowest : ℕ) (variants : Variants T) : Type 0 where
  pub again : (x : T) (rest : List ℕ) → IsTrue (variants.fits x) → variants.at (variants.kind x) (variants.bytes x ++ rest) ≡ Some (x, rest)
  pub only : (kind : ℕ) (bytes rest : List ℕ) (x : T) → variants.at kind bytes ≡ Some (x, rest)
      → IsTrue (variants.fits x) × (kind ≡ variants.kind x) × (bytes ≡ variants.bytes x ++ rest)
  pub above : (x : T) → lowest ≤ variants.kind x
  pub below : (x : T) → variants.kind x < 256

module _ {A B : Type 0} where
  abbrev pub left : A × List ℕ → Option ((A ⊎ B) × List ℕ)
  left a = Some (inl a.0, a.1)

  abbrev pub right : B × List ℕ → Option ((A ⊎ B) × List ℕ)
  right b = Some (inr b.0, b.1)

  abbrev pub fits_either : (A → Bool) → (B → Bool) → A ⊎ B → Bool
  fits_either f g (inl a) = f a
  fits_either f g (inr b) = g b

  abbrev pub kind_either : ℕ → (B → ℕ) → A ⊎ B → ℕ
  kind_either kind g (inl a) = kind
  kind_either kind g (inr b) = g b

  abbrev pub bytes_either : (A → List ℕ) → (B → List ℕ) → A ⊎ B → List ℕ
  bytes_either f g (inl a) = f a
  bytes_either f g (inr b) = g b

  -- the variant of this kind, or one of the others
  abbrev pub variant : ℕ → Form A → Variants B → Variants (A ⊎ B)
  variant kind form others = record {
    fits = fits_either form.fits others.fits;
    kind = kind_either kind others.kind;
    bytes = bytes_either form.bytes others.bytes;
    at = λ n bytes. if n == kind then form.at bytes >>= left else others.at n bytes >>= right;
  }

-- the variant of this kind, and no other
abbrev pub last : {A : Type 0} → ℕ → Form A → Variants A
last kind form = record {
  fits = form.fits;
  kind = λ x. kind;
  bytes = form.bytes;
  at = λ n bytes. if n == kind then form.at bytes else None;
}

-- the byte for the variant, and the fields
abbrev pub enum : {A T : Type 0} → (A → T) → (T → A) → Variants A → Form T
enum of parts variants = record {
  fits = λ x. variants.fits (parts x);
  bytes = λ x. variants.kind (parts x) ∷ variants.bytes (parts x);
  at = λ bytes. byte_at bytes >>= λ kind. variants.at kind.0 kind.1 >>= λ x. Some (of x.0, x.1);
}
