-- A printed word is read again, if no byte of a word follows: it is printed in one of two cases, and read in lower case.
use Rattle.std.proofs.Common.{◌≡◌, ℕ, suc, ◌+◌, ◌<◌, Bool, true, false, cond, not, ◌&&◌, ◌||◌, eqb, leb, List, [], ◌∷◌, ◌++◌, map, length, take, drop, Option, Some, None, refl, sym, ap, ◌∙◌, arith, inl, inr, map-id, take_at, drop_at}
use Rattle.std.specs.List.{list_all, prefix_len}
use Rattle.std.specs.Char.{to_ascii_lowercase, to_ascii_uppercase}
use Rattle.std.proofs.lemmas.Bool.{false≢true, true≢false, and_parts, and_from, and_right, or_from, lt-leb, ne_eqb, eqb-true, leb-true, cases_lt, agree_below, agree_below_at, cond-true}
use Rattle.rs_base.specs.Ident.{is_name_byte, are_name_bytes, is_ident, is_letter as is_small_letter}
use Rattle.rs_token.specs.declared.token.Token.{Token}
use Rattle.rs_token.specs.declared.token.Token.TheVariants as tokens
use Rattle.rs_token.specs.Reserved.{is_reserved}
use Rattle.rs_unparse.specs.Printed.{printed_word}
use Rattle.rs_unparse.proofs.Touching.{begins}
use Rattle.rs_token.specs.Tokens.{is_letter, is_word_byte, word_at, token_at}
use Rattle.rs_token.specs.Scanning.{token_here}

-- the number of bytes that pass, if all of the prefix do and the first byte after it doesn't
pub prefix_all : (p : ℕ → Bool) (prefix rest : List ℕ) → list_all p prefix ≡ true → begins p rest ≡ false → prefix_len p (prefix ++ rest) ≡ length prefix
prefix_all p [] [] all apart = refl
prefix_all p [] (b ∷ rest) all apart = ap (λ (test : Bool). cond test (1 + prefix_len p rest) 0) apart
prefix_all p (b ∷ prefix) rest all apart =
    let both = and_parts (p b) (list_all p prefix) all in
    let further : prefix_len p (prefix ++ rest) ≡ length prefix = prefix_all p prefix rest both.1 apart in
    let one : 1 + prefix_len p (prefix ++ rest) ≡ suc (length prefix) = omega arith in
    ap (λ (test : Bool). cond test (1 + prefix_len p (prefix ++ rest)) 0) both.0 ∙ one

-- ---- the bytes of a word

implied : (x y : Bool) → (not x || y) ≡ true → x ≡ true → y ≡ true
implied true y h e = h
implied false y h e = absurd (false≢true e)

name_byte_below : (b : ℕ) → is_name_byte b ≡ true → b < 123
name_byte_below b h =
    elim (cases_lt b 123) [
      | inl below ↦ below
      | inr above ↦
          let letter : (leb 97 b && leb b 122) ≡ false = and_right (leb 97 b) (leb b 122) (lt-leb b 122 (omega arith)) in
          let digit : (leb 48 b && leb b 57) ≡ false = and_right (leb 48 b) (leb b 57) (lt-leb b 57 (omega arith)) in
          let other : eqb b 95 ≡ false = ne_eqb b 95 (λ same. omega arith) in
          let neither = or_from (leb 97 b && leb b 122 || leb 48 b && leb b 57) (eqb b 95) (or_from (leb 97 b && leb b 122) (leb 48 b && leb b 57) letter digit) other in
          absurd (true≢false (sym h ∙ neither))
    ]

letter_below : (b : ℕ) → is_small_letter b ≡ true → b < 123
letter_below b h = let last = leb-true b 122 (and_parts (leb 97 b) (leb b 122) h).1 in omega (arith, last)

-- a way to write the bytes of a word
record IsCase (f : ℕ → ℕ) : Type 0 where
  word : (b : ℕ) → is_name_byte b ≡ true → is_word_byte (f b) ≡ true
  lower : (b : ℕ) → is_name_byte b ≡ true → to_ascii_lowercase (f b) ≡ b
  letter : (b : ℕ) → is_small_letter b ≡ true → is_letter (f b) ≡ true

abbrev is_word_as : (ℕ → ℕ) → ℕ → Bool
is_word_as f b = not (is_name_byte b) || is_word_byte (f b)

abbrev is_lower_as : (ℕ → ℕ) → ℕ → Bool
is_lower_as f b = not (is_name_byte b) || eqb (to_ascii_lowercase (f b)) b

abbrev is_letter_as : (ℕ → ℕ) → ℕ → Bool
is_letter_as f b = not (is_small_letter b) || is_letter (f b)

abbrev IsPassed : (ℕ → Bool) → Type 0
IsPassed test = agree_below test (λ b. true) 123 ≡ true

case_by_bytes : (f : ℕ → ℕ) → IsPassed (is_word_as f) → IsPassed (is_lower_as f) → IsPassed (is_letter_as f) → IsCase f
case_by_bytes f words lowers letters = record {
  word = λ b h. implied (is_name_byte b) (is_word_byte (f b)) (agree_below_at (is_word_as f) (λ n. true) 123 b words (name_byte_below b h)) h;
  lower = λ b h. eqb-true (to_ascii_lowercase (f b)) b (implied (is_name_byte b) (eqb (to_ascii_lowercase (f b)) b) (agree_below_at (is_lower_as f) (λ n. true) 123 b lowers (name_byte_below b h)) h);
  letter = λ b h. implied (is_small_letter b) (is_letter (f b)) (agree_below_at (is_letter_as f) (λ n. true) 123 b letters (letter_below b h)) h;
}

upper_case : IsCase to_ascii_uppercase
upper_case = case_by_bytes to_ascii_uppercase refl refl refl

same_case : IsCase (λ b. b)
same_case = case_by_bytes (λ b. b) refl refl refl

all_word_bytes : (f : ℕ → ℕ) → IsCase f → (word : List ℕ) → are_name_bytes word ≡ true → list_all is_word_byte (map f word) ≡ true
all_word_bytes f way [] all = refl
all_word_bytes f way (b ∷ word) all =
    let both = and_parts (is_name_byte b) (are_name_bytes word) all in
    and_from (is_word_byte (f b)) (list_all is_word_byte (map f word)) (way.word b both.0) (all_word_bytes f way word both.1)

in_lower_case : (f : ℕ → ℕ) → IsCase f → (word : List ℕ) → are_name_bytes word ≡ true → map to_ascii_lowercase (map f word) ≡ word
in_lower_case f way [] all = refl
in_lower_case f way (b ∷ word) all =
    let both = and_parts (is_name_byte b) (are_name_bytes word) all in
    ap (λ (c : ℕ). c ∷ map to_ascii_lowercase (map f word)) (way.lower b both.0) ∙ ap (λ (rest : List ℕ). b ∷ rest) (in_lower_case f way word both.1)

-- ---- words

letter_here : (b : ℕ) (bytes : List ℕ) → is_letter b ≡ true → token_here (b ∷ bytes) ≡ word_at (b ∷ bytes)
unfolding token_here token_at
letter_here b bytes h = rw h refl

abbrev as_word : List ℕ → List ℕ → Option (Token × List ℕ)
as_word word rest = cond (is_ident word) (Some (tokens.Word word, rest)) None

word_prefix : (prefix word rest : List ℕ) → list_all is_word_byte prefix ≡ true → map to_ascii_lowercase prefix ≡ word → is_ident word ≡ true → begins is_word_byte rest ≡ false
    → word_at (prefix ++ rest) ≡ Some (tokens.Word word, rest)
unfolding word_at
word_prefix prefix word rest all lower ident apart =
    let n = prefix_len is_word_byte (prefix ++ rest) in
    let len : length prefix ≡ n = sym (prefix_all is_word_byte prefix rest all apart) in
    let taken : map to_ascii_lowercase (take n (prefix ++ rest)) ≡ word = ap (map to_ascii_lowercase) (take_at prefix rest n len) ∙ lower in
    let left : drop n (prefix ++ rest) ≡ rest = drop_at prefix rest n len in
    ap (λ (w : List ℕ). as_word w (drop n (prefix ++ rest))) taken ∙ ap (as_word word) left ∙ cond-true {A = Option (Token × List ℕ)} (is_ident word) (Some (tokens.Word word, rest)) None ident

written_word : (f : ℕ → ℕ) → IsCase f → (word rest : List ℕ) → is_ident word ≡ true → begins is_word_byte rest ≡ false → token_here (map f word ++ rest) ≡ Some (tokens.Word word, rest)
written_word f way [] rest ident apart = absurd (false≢true ident)
written_word f way (b ∷ word) rest ident apart =
    let parts = and_parts (leb (length (b ∷ word)) 24 && is_small_letter b) (are_name_bytes (b ∷ word)) ident in
    let first = and_parts (leb (length (b ∷ word)) 24) (is_small_letter b) parts.0 in
    letter_here (f b) (map f word ++ rest) (way.letter b first.1)
    ∙ word_prefix (map f (b ∷ word)) (b ∷ word) rest (all_word_bytes f way (b ∷ word) parts.1) (in_lower_case f way (b ∷ word) parts.1) ident apart

in_either_case : (reserved : Bool) (word rest : List ℕ) → is_ident word ≡ true → begins is_word_byte rest ≡ false
    → token_here (cond reserved (map to_ascii_uppercase word) word ++ rest) ≡ Some (tokens.Word word, rest)
in_either_case true word rest ident apart = written_word to_ascii_uppercase upper_case word rest ident apart
in_either_case false word rest ident apart = ap (λ (text : List ℕ). token_here (text ++ rest)) (sym (map-id word)) ∙ written_word (λ b. b) same_case word rest ident apart

pub word_again : (word rest : List ℕ) → is_ident word ≡ true → begins is_word_byte rest ≡ false → token_here (printed_word word ++ rest) ≡ Some (tokens.Word word, rest)
unfolding printed_word
word_again word rest ident apart = in_either_case (is_reserved word) word rest ident apart
