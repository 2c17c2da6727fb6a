-- Decimal numbers: reading and printing are inverse.
use Rattle.std.proofs.Common.{◌≡◌, ℕ, zero, suc, ◌+◌, ◌*◌, ◌^◌, ◌-◌, ◌<◌, true, false, ◌&&◌, not, eqb, leb, ltb, List, [], ◌∷◌, length, get_or, Some, decimal, refl, sym, ap, subst, inl, inr, arith, rules}
use Rattle.std.specs.List.{fold}
use Rattle.std.proofs.lemmas.Bool.{and_parts, eq-eqb, le-leb, ltb-true, lt-ltb}
use Rattle.std.proofs.lemmas.Bool.Decides.{eqb_tells}
use Rattle.std.proofs.lemmas.Str.Parse.{IsNumeralModel, IsDigitsTest, FoldsDigits, numerals_by_fold}
use Rattle.std.proofs.lemmas.Fmt.{decimal-digits_value, digits_decimal, digits_value-decimal, length-decimal-le, decimal_nonempty, first_decimal, decimal_digit}
use Rattle.rs_base.proofs.Steps.{held}
use Rattle.rs_sched.specs.Numbers.{are_digits, begins_with_no_zero, is_numeral, digits_value, number_of}

reports : IsDigitsTest (λ digits. are_digits digits ≡ true)
reports = search rules

abbrev folded : ℕ → List ℕ → ℕ
folded n digits = fold (λ n digit. 10 * n + (digit - 48)) n digits

folds : FoldsDigits folded
folds = search rules

own : IsNumeralModel (λ digits. are_digits digits ≡ true) digits_value
own = numerals_by_fold _ reports folded folds

pub some_is : {A : Type 0} (x y : A) → Some x ≡ Some y → x ≡ y
some_is x y e = cc

no_zero_of : (digits : List ℕ) → begins_with_no_zero digits ≡ true → (0 < length digits) × (get_or digits 0 0 ≡ 48 → length digits ≡ 1)
no_zero_of [] h = absurd cc
no_zero_of (b ∷ []) h = (omega arith, λ e. refl)
no_zero_of (b ∷ c ∷ digits) h = (omega arith, λ e. absurd (differs b h e))
  where
    differs : (b : ℕ) → not (eqb b 48) ≡ true → b ≡ 48 → ⊥
    differs b h e = let t : not (eqb b 48) ≡ false = rw (eq-eqb b 48 e) refl in cc

pub number_is : (digits : List ℕ) (n : ℕ) → number_of digits ≡ Some n → (n < 2 ^ 64) × (digits ≡ decimal n)
unfolding number_of
number_is digits n e =
    let right = held (is_numeral digits && ltb (digits_value digits) (2 ^ 64)) (Some (digits_value digits)) n e in
    let both = and_parts (is_numeral digits) (ltb (digits_value digits) (2 ^ 64)) right.0 in
    let parts = and_parts (leb (length digits) 20 && begins_with_no_zero digits) (are_digits digits) both.0 in
    let first = no_zero_of digits (and_parts (leb (length digits) 20) (begins_with_no_zero digits) parts.0).1 in
    let small : digits_value digits < 2 ^ 64 = ltb-true _ _ both.1 in
    let same = decimal-digits_value own digits parts.1 first.0 first.1 small in
    subst (λ (m : ℕ). (m < 2 ^ 64) × (digits ≡ decimal m)) (some_is _ _ right.1) (small, sym same)

no_zero_from : (digits : List ℕ) → 0 < length digits → 48 < get_or digits 0 0 → begins_with_no_zero digits ≡ true
no_zero_from [] some h = absurd (omega arith)
no_zero_from (b ∷ []) some h = refl
no_zero_from (b ∷ c ∷ digits) some h = elim (eqb_tells b 48) [ inl same ↦ absurd (omega (arith, same.1)) | inr other ↦ ap not other.0 ]

decimal_no_zero : (n : ℕ) → n < 2 ^ 64 → begins_with_no_zero (decimal n) ≡ true
decimal_no_zero zero h = ap begins_with_no_zero (decimal_digit 0 (omega arith))
decimal_no_zero (suc n) h = no_zero_from (decimal (suc n)) (decimal_nonempty (suc n) h) (first_decimal (suc n) (omega arith) h)

pub decimal_digits : (n : ℕ) → n < 2 ^ 64 → are_digits (decimal n) ≡ true
decimal_digits n h = digits_decimal own n h

pub number_again : (n : ℕ) → n < 2 ^ 64 → number_of (decimal n) ≡ Some n
unfolding number_of
number_again n h =
    let value : digits_value (decimal n) ≡ n = digits_value-decimal own n h in
    let len : leb (length (decimal n)) 20 ≡ true = le-leb _ _ (length-decimal-le 20 n (omega arith) (omega arith) h) in
    let small : ltb n (2 ^ 64) ≡ true = lt-ltb _ _ h in
    rw (len, decimal_no_zero n h, decimal_digits n h, value, small) refl
