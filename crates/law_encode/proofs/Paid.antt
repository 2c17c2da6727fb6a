-- Phrases whose tokens pay for the encoding of their value.
use Rattle.std.proofs.Common.{◌≡◌, ℕ, suc, ◌+◌, ◌*◌, ◌≤◌, List, [], ◌∷◌, ◌++◌, map, length, Some, None, refl, ap, subst, arith, mul-le-mul_left, mul-suc}
use Rattle.std.proofs.lemmas.List.{length-append, length-map, map-id}
use Rattle.rs_codec.specs.Written.{count_bytes}
use Rattle.rs_encode.specs.Form.{Form, list, items_bytes, option}
use Rattle.rs_token.specs.declared.token.Token.{Token}
use Rattle.rs_parse.specs.Phrases.{Phrase, Is, Both, IsSeries, After, IsList, AtMost}
use Rattle.law_parse.proofs.Respelling.{formed_parts}
use Rattle.law_parse.proofs.TokenForms.{AreFormed}
use Rattle.law_encode.proofs.Costs.{cost, costs, costs_append, count_of_items}

-- The tokens of each such phrase, if a text may have them, cost at least this size, but for an extra.
pub record IsPaid (P : List Token → Type 0) (size extra : ℕ) : Type 0 where
  pub paid : (ts : List Token) → AreFormed ts → P ts → size ≤ costs ts + extra

-- ---- single phrases

-- what any tokens pay for
pub unpaid : {P : List Token → Type 0} (size : ℕ) → IsPaid P size size
unpaid size = record { paid = λ ts formed is. omega arith }

pub token_paid : (t : Token) → IsPaid (Is t) (cost t) 0
token_paid t = record { paid = λ ts formed is. omega (arith, ap costs is) }

-- a smaller size, or one that differs by as much as the extra
pub less : {P : List Token → Type 0} {m n e f : ℕ} → IsPaid P m e → n + e ≤ m + f → IsPaid P n f
less {P} {m} {n} {e} {f} pays within = record { paid = λ ts formed is. omega (arith, pays.paid ts formed is, within) }

-- with a condition that isn't on the tokens
pub kept : (C : Type 0) {P : List Token → Type 0} {m e : ℕ} → IsPaid P m e → IsPaid (λ ts. C × P ts) m e
kept C pays = record { paid = λ ts formed is. pays.paid ts formed is.1 }

both_paid : {P Q : List Token → Type 0} {m n e f : ℕ} → IsPaid P m e → IsPaid Q n f → IsPaid (Both P Q) (m + n) (e + f)
both_paid {P} {Q} {m} {n} {e} {f} first second = record {
  paid = λ ts formed is.
      let parts = formed_parts is.0 is.1 (subst AreFormed is.4 formed) in
      omega (arith, first.paid is.0 parts.0 is.2, second.paid is.1 parts.1 is.3, ap costs is.4, costs_append is.0 is.1);
}

infixr 10 ◌▹◌
pub ◌▹◌ : {P Q : List Token → Type 0} {m n e f : ℕ} → IsPaid P m e → IsPaid Q n f → IsPaid (Both P Q) (m + n) (e + f)
first ▹ second = both_paid first second

-- ---- lists

abbrev pub total : {A : Type 0} → (A → ℕ) → List A → ℕ
total size [] = 0
total size (x ∷ xs) = size x + total size xs

-- phrases one after the other
pub series_paid : {A : Type 0} {P : Phrase A} {size : A → ℕ} {e : ℕ} → ((x : A) → IsPaid (P x) (size x) e) → (xs : List A) → IsPaid (IsSeries P xs) (total size xs) (e * length xs)
series_paid {e = e} each [] = less (unpaid 0) (omega arith)
series_paid {e = e} each (x ∷ xs) = less (each x ▹ series_paid each xs) (omega (arith, mul-suc e (length xs)))

after_paid : {A : Type 0} {P : Phrase A} {size : A → ℕ} {e : ℕ} (separator : Token) → ((x : A) → IsPaid (P x) (size x) e)
    → (x : A) → IsPaid (After separator P x) (cost separator + size x) e
after_paid separator each x = less (token_paid separator ▹ each x) (omega arith)

-- each separator pays for the extra of an item, and for one more
after_all_paid : {A : Type 0} {P : Phrase A} {size : A → ℕ} {e : ℕ} (separator : Token) → e + 1 ≤ cost separator → ((x : A) → IsPaid (P x) (size x) e)
    → (xs : List A) → IsPaid (IsSeries (After separator P) xs) (length xs + total size xs) 0
after_all_paid separator pays each [] = unpaid 0
after_all_paid separator pays each (x ∷ xs) = less (after_paid separator each x ▹ after_all_paid separator pays each xs) (omega (arith, pays))

separated_paid : {A : Type 0} {P : Phrase A} {size : A → ℕ} {e : ℕ} (separator : Token) → e + 1 ≤ cost separator → ((x : A) → IsPaid (P x) (size x) e)
    → (xs : List A) → IsPaid (IsList separator P xs) (length xs + total size xs) (e + 1)
separated_paid separator pays each [] = record { paid = λ ts formed is. absurd is }
separated_paid separator pays each (x ∷ xs) = less (each x ▹ after_all_paid separator pays each xs) (omega (arith, pays))

-- no separator pays
few_after_paid : {A : Type 0} {P : Phrase A} {size : A → ℕ} {e : ℕ} (separator : Token) → ((x : A) → IsPaid (P x) (size x) e)
    → (xs : List A) → IsPaid (IsSeries (After separator P) xs) (length xs + total size xs) ((e + 1) * length xs)
few_after_paid {e = e} separator each [] = less (unpaid 0) (omega arith)
few_after_paid {e = e} separator each (x ∷ xs) = less (after_paid separator each x ▹ few_after_paid separator each xs) (omega (arith, mul-suc (e + 1) (length xs)))

few_separated_paid : {A : Type 0} {P : Phrase A} {size : A → ℕ} {e : ℕ} (separator : Token) → ((x : A) → IsPaid (P x) (size x) e)
    → (xs : List A) → IsPaid (IsList separator P xs) (length xs + total size xs) ((e + 1) * length xs)
few_separated_paid separator each [] = record { paid = λ ts formed is. absurd is }
few_separated_paid {e = e} separator each (x ∷ xs) = less (each x ▹ few_after_paid separator each xs) (omega (arith, mul-suc (e + 1) (length xs)))

at_most_paid : {A : Type 0} {P : Phrase A} {size : A → ℕ} {e : ℕ} (n : ℕ) (separator : Token) → ((x : A) → IsPaid (P x) (size x) e)
    → (xs : List A) → IsPaid (AtMost n (IsList separator P) xs) (length xs + total size xs) ((e + 1) * n)
at_most_paid {P = P} {size = size} {e = e} n separator each xs = record {
  paid = λ ts formed is.
      let few : (e + 1) * length xs ≤ (e + 1) * n = mul-le-mul_left (e + 1) is.0 in
      let pays = (few_separated_paid separator each xs).paid ts formed is.1 in
      omega (arith, few, pays);
}

-- ---- the sizes of encodings

pub of_three : (a b c : List ℕ) → length (a ++ (b ++ c)) ≡ length a + (length b + length c)
of_three a b c = omega (arith, length-append a (b ++ c), length-append b c)

pub of_four : (a b c d : List ℕ) → length (a ++ (b ++ (c ++ d))) ≡ length a + (length b + (length c + length d))
of_four a b c d = omega (arith, length-append a (b ++ (c ++ d)), of_three b c d)

pub of_six : (a b c d e f : List ℕ) → length (a ++ (b ++ (c ++ (d ++ (e ++ f))))) ≡ length a + (length b + (length c + (length d + (length e + length f))))
of_six a b c d e f = omega (arith, length-append a (b ++ (c ++ (d ++ (e ++ f)))), length-append b (c ++ (d ++ (e ++ f))), of_four c d e f)

pub none_size : {A : Type 0} (form : Form A) → length ((option form).bytes None) ≡ 1
unfolding option
none_size form = refl

pub some_size : {A : Type 0} (form : Form A) (x : A) → length ((option form).bytes (Some x)) ≡ suc (length (form.bytes x))
unfolding option
some_size form x = refl

-- ---- the sizes of lists

module _ {A B : Type 0} (form : Form B) (of : A → B) where
  pub items_size : (xs : List A) → length (items_bytes form (map of xs)) ≡ total (λ x. length (form.bytes (of x))) xs
  items_size [] = refl
  items_size (x ∷ xs) = omega (arith, length-append (form.bytes (of x)) (items_bytes form (map of xs)), items_size xs)

  pub mapped_size : (xs : List A) → 1 ≤ length xs → length ((list form).bytes (map of xs)) ≤ length xs + total (λ x. length (form.bytes (of x))) xs
  unfolding list
  mapped_size [] some = absurd (omega (arith, some))
  mapped_size (x ∷ xs) some =
      let ys = map of (x ∷ xs) in
      let same : length (map of xs) ≡ length xs = length-map xs of in
      let counted : length (count_bytes (length ys)) ≤ suc (length (map of xs)) = count_of_items (length (map of xs)) in
      omega (arith, same, counted, length-append (count_bytes (length ys)) (items_bytes form ys), items_size (x ∷ xs))

pub list_size : {A : Type 0} (form : Form A) (xs : List A) → 1 ≤ length xs → length ((list form).bytes xs) ≤ length xs + total (λ x. length (form.bytes x)) xs
list_size {A} form xs some =
    subst (λ (ys : List A). length ((list form).bytes ys) ≤ length xs + total (λ x. length (form.bytes x)) xs) (map-id xs) (mapped_size form (λ (x : A). x) xs some)

-- the list of no item takes a byte
pub no_items : {A : Type 0} (form : Form A) → length ((list form).bytes []) ≡ 1
unfolding list count_bytes
no_items form = refl

some_items : {A : Type 0} (P : Phrase A) (separator : Token) (xs : List A) (ts : List Token) → IsList separator P xs ts → 1 ≤ length xs
some_items P separator [] ts is = absurd is
some_items P separator (x ∷ xs) ts is = omega arith

-- ---- encoded lists

-- a list whose separators pay for the extra of its items
pub list_paid : {A : Type 0} {P : Phrase A} {e : ℕ} (form : Form A) (separator : Token) → ((x : A) → IsPaid (P x) (length (form.bytes x)) e) → e + 1 ≤ cost separator
    → (xs : List A) → IsPaid (IsList separator P xs) (length ((list form).bytes xs)) (e + 1)
list_paid {P = P} {e = e} form separator each pays xs = record {
  paid = λ ts formed is.
      let size = list_size form xs (some_items P separator xs ts is) in
      let paid = (separated_paid separator pays each xs).paid ts formed is in
      omega (arith, size, paid);
}

-- a list of few items, that are encoded as others
pub few_mapped_paid : {A B : Type 0} {P : Phrase A} {e : ℕ} (form : Form B) (of : A → B) (n : ℕ) (separator : Token) → ((x : A) → IsPaid (P x) (length (form.bytes (of x))) e)
    → (xs : List A) → IsPaid (AtMost n (IsList separator P) xs) (length ((list form).bytes (map of xs))) ((e + 1) * n)
few_mapped_paid {P = P} {e = e} form of n separator each xs = record {
  paid = λ ts formed is.
      let size = mapped_size form of xs (some_items P separator xs ts is.1) in
      let paid = (at_most_paid n separator each xs).paid ts formed is in
      omega (arith, size, paid);
}

-- a list of few items
pub few_paid : {A : Type 0} {P : Phrase A} {e : ℕ} (form : Form A) (n : ℕ) (separator : Token) → ((x : A) → IsPaid (P x) (length (form.bytes x)) e)
    → (xs : List A) → IsPaid (AtMost n (IsList separator P) xs) (length ((list form).bytes xs)) ((e + 1) * n)
few_paid {P = P} {e = e} form n separator each xs = record {
  paid = λ ts formed is.
      let size = list_size form xs (some_items P separator xs ts is.1) in
      let paid = (at_most_paid n separator each xs).paid ts formed is in
      omega (arith, size, paid);
}
