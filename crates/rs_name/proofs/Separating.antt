-- Bytes split at a separator: reading and writing are inverse.
use Rattle.std.proofs.Common.{◌≡◌, ℕ, ◌⊎◌, Bool, true, false, ◌&&◌, not, eqb, leb, List, [], ◌∷◌, ◌++◌, length, take, drop, Some, IsTrue, refl, sym, ap, ◌∙◌, suc, ◌+◌, inl, inr, arith}
use Rattle.std.specs.List.{list_all, prefix_len}
use Rattle.std.proofs.lemmas.Bool.{and_parts, and_from, eq-eqb}
use Rattle.std.proofs.lemmas.Bool.Decides.{eqb_tells}
use Rattle.std.proofs.lemmas.List.{take_at, drop_at, take-append-drop}
use Rattle.std.proofs.lemmas.List.Folds.{list_all-append}
use Rattle.std.proofs.lemmas.Option.{same_Some}
use Rattle.rs_base.specs.Ident.{is_ident, is_name_byte, begins_with_letter, are_name_bytes}
use Rattle.rs_name.specs.Reader.{is_before, suffix, separated}

-- ---- what is written is read

until : (separator : ℕ) (prefix rest : List ℕ) → list_all (is_before separator) prefix ≡ true → prefix_len (is_before separator) (prefix ++ (separator ∷ rest)) ≡ length prefix
until separator [] rest all = rw (eq-eqb separator separator refl) refl
until separator (b ∷ prefix) rest all =
    let both = and_parts (is_before separator b) (list_all (is_before separator) prefix) all in
    let others : prefix_len (is_before separator) (prefix ++ (separator ∷ rest)) ≡ length prefix = until separator prefix rest both.1 in
    rw both.0 (omega (arith, others))

pub separated_again : (separator : ℕ) (prefix rest : List ℕ) → list_all (is_before separator) prefix ≡ true → separated separator (prefix ++ (separator ∷ rest)) ≡ Some (prefix, rest)
unfolding separated
separated_again separator prefix rest all = rw (until separator prefix rest all, take_at prefix (separator ∷ rest) (length prefix) refl, drop_at prefix (separator ∷ rest) (length prefix) refl) refl

-- ---- what is read is written so

suffix_is : (prefix left : List ℕ) (x : List ℕ × List ℕ) → suffix prefix left ≡ Some x → (b : ℕ) × (left ≡ b ∷ x.1) × (prefix ≡ x.0)
suffix_is prefix [] x e = absurd cc
suffix_is prefix (b ∷ left) x e = let same = same_Some (prefix, left) x e in (b, ap (λ (p : List ℕ × List ℕ). b ∷ p.1) same, ap (λ (p : List ℕ × List ℕ). p.0) same)

suc_of : (n : ℕ) → 1 + n ≡ suc n
suc_of n = omega arith

-- the bytes after the prefix begin with the separator
first_suffix : (separator : ℕ) (bytes : List ℕ) (b : ℕ) (rest : List ℕ) → drop (prefix_len (is_before separator) bytes) bytes ≡ b ∷ rest → b ≡ separator
first_suffix separator [] b rest e = absurd cc
first_suffix separator (c ∷ bytes) b rest e = by_first (eqb_tells c separator) e (first_suffix separator bytes b rest)
  where
    by_first : ((eqb c separator ≡ true) × (c ≡ separator)) ⊎ ((eqb c separator ≡ false) × (c ≡ separator → ⊥)) → drop (prefix_len (is_before separator) (c ∷ bytes)) (c ∷ bytes) ≡ b ∷ rest → (drop (prefix_len (is_before separator) bytes) bytes ≡ b ∷ rest → b ≡ separator) → b ≡ separator
    by_first (inl same) e others = let at : c ∷ bytes ≡ b ∷ rest = rw same.0 at e in cc
    by_first (inr other) e others = others (rw (other.0, suc_of (prefix_len (is_before separator) bytes)) at e)

pub separated_is : (separator : ℕ) (bytes : List ℕ) (x : List ℕ × List ℕ) → separated separator bytes ≡ Some x → bytes ≡ x.0 ++ (separator ∷ x.1)
unfolding separated
separated_is separator bytes x e =
    let len = prefix_len (is_before separator) bytes in
    let parts = suffix_is (take len bytes) (drop len bytes) x e in
    let first = first_suffix separator bytes parts.0 x.1 parts.1 in
    sym (take-append-drop len bytes) ∙ ap (λ (rest : List ℕ). take len bytes ++ rest) parts.1 ∙ ap (λ (prefix : List ℕ). prefix ++ (parts.0 ∷ x.1)) parts.2 ∙ ap (λ (b : ℕ). x.0 ++ (b ∷ x.1)) first

-- ---- bytes without the separator

all_before : (p : ℕ → Bool) (separator : ℕ) → p separator ≡ false → (bytes : List ℕ) → list_all p bytes ≡ true → list_all (is_before separator) bytes ≡ true
all_before p separator h [] all = refl
all_before p separator h (b ∷ bytes) all =
    let both = and_parts (p b) (list_all p bytes) all in
    and_from (is_before separator b) (list_all (is_before separator) bytes) (differs (eqb_tells b separator) both.0) (all_before p separator h bytes both.1)
  where
    differs : ((eqb b separator ≡ true) × (b ≡ separator)) ⊎ ((eqb b separator ≡ false) × (b ≡ separator → ⊥)) → p b ≡ true → is_before separator b ≡ true
    differs (inl same) q = let w : p b ≡ p separator = ap p same.1 in absurd cc
    differs (inr other) q = ap not other.0

pub ident_free : (separator : ℕ) → is_name_byte separator ≡ false → (ident : List ℕ) → IsTrue (is_ident ident) → list_all (is_before separator) ident ≡ true
ident_free separator h ident is = all_before is_name_byte separator h ident (and_parts (leb (length ident) 24 && begins_with_letter ident) (are_name_bytes ident) is).1

pub both_free : (separator : ℕ) (prefix rest : List ℕ) → list_all (is_before separator) prefix ≡ true → list_all (is_before separator) rest ≡ true → list_all (is_before separator) (prefix ++ rest) ≡ true
both_free separator prefix rest all others = list_all-append (is_before separator) prefix rest ∙ and_from (list_all (is_before separator) prefix) (list_all (is_before separator) rest) all others
