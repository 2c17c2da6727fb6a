-- A printed number is read again, if no digit follows.
use Rattle.std.proofs.Common.{◌≡◌, ℕ, ◌+◌, ◌-◌, ◌*◌, ◌^◌, ◌<◌, ◌≤◌, Bool, true, false, cond, ◌&&◌, leb, List, [], ◌∷◌, ◌++◌, length, take, drop, Option, Some, None, decimal, refl, sym, ap, ◌∙◌, arith, rules, take_at, drop_at}
use Rattle.std.specs.List.{fold, list_all, prefix_len}
use Rattle.std.proofs.lemmas.Bool.{and_parts, and_from, and_left, or_from, leb-true, le-leb, lt-leb, cond-true}
use Rattle.std.proofs.lemmas.Str.Parse.{IsNumeralModel, IsDigitsTest, FoldsDigits, numerals_by_fold}
use Rattle.std.proofs.lemmas.Fmt.{digits_decimal, digits_value-decimal, length-decimal-le, decimal_nonempty}
use Rattle.rs_token.specs.declared.token.Token.{Token}
use Rattle.rs_token.specs.declared.token.Token.TheVariants as tokens
use Rattle.rs_unparse.proofs.Touching.{begins}
use Rattle.rs_token.specs.Tokens.{is_letter, is_digit, digits_value, number_at, token_at}
use Rattle.rs_token.specs.Scanning.{token_here}
use Rattle.law_parse.proofs.PrintedWords.{prefix_all}

-- ---- digits

abbrev are_digits : List ℕ → Bool
are_digits digits = list_all is_digit digits

reports : IsDigitsTest (λ digits. are_digits digits ≡ true)
reports = search rules

abbrev folded : ℕ → List ℕ → ℕ
folded n digits = fold (λ n digit. 10 * n + (digit - 48)) n digits

folds : FoldsDigits folded
folds = search rules

own : IsNumeralModel (λ digits. are_digits digits ≡ true) digits_value
own = numerals_by_fold _ reports folded folds

digit_no_letter : (b : ℕ) → is_digit b ≡ true → is_letter b ≡ false
digit_no_letter b h =
    let last : b ≤ 57 = leb-true b 57 (and_parts (leb 48 b) (leb b 57) h).1 in
    let small : (leb 97 b && leb b 122) ≡ false = and_left (leb 97 b) (leb b 122) (lt-leb 97 b (omega arith)) in
    let capital : (leb 65 b && leb b 90) ≡ false = and_left (leb 65 b) (leb b 90) (lt-leb 65 b (omega arith)) in
    or_from (leb 97 b && leb b 122) (leb 65 b && leb b 90) small capital

-- ---- numbers

digit_here : (b : ℕ) (bytes : List ℕ) → is_digit b ≡ true → token_here (b ∷ bytes) ≡ number_at (b ∷ bytes)
unfolding token_here token_at
digit_here b bytes h = rw (digit_no_letter b h, h) refl

digits_here : (digits rest : List ℕ) → 0 < length digits → are_digits digits ≡ true → token_here (digits ++ rest) ≡ number_at (digits ++ rest)
digits_here [] rest some all = absurd (omega arith)
digits_here (b ∷ digits) rest some all = digit_here b (digits ++ rest) (and_parts (is_digit b) (are_digits digits) all).0

abbrev as_number : ℕ → ℕ → List ℕ → Option (Token × List ℕ)
as_number len value rest = cond (leb len 19 && leb value 9223372036854775807) (Some (tokens.Number value, rest)) None

number_prefix : (digits rest : List ℕ) (n : ℕ) → are_digits digits ≡ true → length digits ≤ 19 → digits_value digits ≡ n → n ≤ 9223372036854775807 → begins is_digit rest ≡ false
    → number_at (digits ++ rest) ≡ Some (tokens.Number n, rest)
unfolding number_at
number_prefix digits rest n all few value within apart =
    let k = prefix_len is_digit (digits ++ rest) in
    let len : k ≡ length digits = prefix_all is_digit digits rest all apart in
    let taken : digits_value (take k (digits ++ rest)) ≡ n = ap digits_value (take_at digits rest k (sym len)) ∙ value in
    let left : drop k (digits ++ rest) ≡ rest = drop_at digits rest k (sym len) in
    let passes = and_from (leb k 19) (leb n 9223372036854775807) (le-leb k 19 (omega (arith, len, few))) (le-leb n 9223372036854775807 within) in
    ap (λ (m : ℕ). as_number k m (drop k (digits ++ rest))) taken ∙ ap (as_number k n) left
    ∙ cond-true {A = Option (Token × List ℕ)} (leb k 19 && leb n 9223372036854775807) (Some (tokens.Number n, rest)) None passes

pub number_again : (n : ℕ) (rest : List ℕ) → n ≤ 9223372036854775807 → begins is_digit rest ≡ false → token_here (decimal n ++ rest) ≡ Some (tokens.Number n, rest)
number_again n rest within apart =
    let bound : n < 2 ^ 64 = omega arith in
    let all : are_digits (decimal n) ≡ true = digits_decimal own n bound in
    let few : length (decimal n) ≤ 19 = length-decimal-le 19 n (omega arith) (omega arith) bound in
    digits_here (decimal n) rest (decimal_nonempty n bound) all ∙ number_prefix (decimal n) rest n all few (digits_value-decimal own n bound) within apart
