-- Sites in decimal: reading and printing are inverse.
use Rattle.std.proofs.Common.{◌≡◌, ℕ, ◌+◌, ◌-◌, ◌<◌, ◌≤◌, ◌/◌, ◌%◌, Bool, true, cond, ◌&&◌, not, leb, eqb, List, [], ◌∷◌, ◌++◌, Option, Some, None, decimal, refl, sym, ap, subst, ◌∙◌, arith, inl, inr}
use Rattle.std.specs.List.{list_all}
use Rattle.std.proofs.lemmas.Bool.{and_parts, and_from, leb-true, le-leb, eqb-true, ne_eqb, cases_lt}
use Rattle.std.proofs.lemmas.Fmt.{decimal_digit, decimal_step}
use Rattle.std.proofs.lemmas.Option.{cond_some, same_Some}
use Rattle.rs_base.specs.Reading.{◌>>=◌}
use Rattle.rs_name.specs.Reader.{digit_of, number_of, site_of, is_before}
use Rattle.rs_name.specs.SwnText.{IsSite}
use Rattle.rs_name.proofs.Steps.{bind_some, bind_at, chosen}

-- ---- two digits

digit_is : (b n : ℕ) → digit_of b ≡ Some n → (n < 10) × (b ≡ 48 + n)
digit_is b n e =
    let found = cond_some (leb 48 b && leb b 57) (b - 48) n e in
    let both = and_parts (leb 48 b) (leb b 57) found.0 in
    let low : 48 ≤ b = leb-true 48 b both.0 in
    let high : b ≤ 57 = leb-true b 57 both.1 in
    let value : b - 48 ≡ n = found.1 in
    (omega arith, omega arith)

digit_again : (n : ℕ) → n < 10 → digit_of (48 + n) ≡ Some n
digit_again n h =
    let within = and_from (leb 48 (48 + n)) (leb (48 + n) 57) (le-leb 48 (48 + n) (omega arith)) (le-leb (48 + n) 57 (omega arith)) in
    let value : (48 + n) - 48 ≡ n = omega arith in
    ap (λ (test : Bool). cond test (Some ((48 + n) - 48)) None) within ∙ ap (λ (m : ℕ). Some m) value

decimal_two : (n : ℕ) → n < 10 → decimal (10 + n) ≡ 49 ∷ (48 + n) ∷ []
decimal_two n h =
    let step = decimal_step (10 + n) (omega arith) (omega arith) in
    let tens : (10 + n) / 10 ≡ 1 = omega arith in
    let units : (10 + n) % 10 ≡ n = omega arith in
    step ∙ ap (λ (t : ℕ). decimal t ++ ((48 + (10 + n) % 10) ∷ [])) tens ∙ ap (λ (u : ℕ). decimal 1 ++ ((48 + u) ∷ [])) units ∙ ap (λ (digits : List ℕ). digits ++ ((48 + n) ∷ [])) (decimal_digit 1 (omega arith))

-- ---- numbers

number_is : (digits : List ℕ) (n : ℕ) → number_of digits ≡ Some n → digits ≡ decimal n
number_is [] n e = absurd cc
number_is (units ∷ []) n e = let d = digit_is units n e in ap (λ (b : ℕ). b ∷ []) d.1 ∙ sym (decimal_digit n d.0)
number_is (tens ∷ units ∷ []) n e =
    let one = chosen (eqb tens 49) (digit_of units >>= λ n. Some (10 + n)) n e in
    let s = bind_some (digit_of units) (λ n. Some (10 + n)) n one.1 in
    let d = digit_is units s.0 s.1 in
    ap (λ (b : ℕ). b ∷ units ∷ []) (eqb-true tens 49 one.0) ∙ ap (λ (b : ℕ). 49 ∷ b ∷ []) d.1 ∙ sym (decimal_two s.0 d.0) ∙ ap decimal (same_Some (10 + s.0) n s.2)
number_is (hundreds ∷ tens ∷ units ∷ digits) n e = absurd cc

number_again : (n : ℕ) → n < 20 → number_of (decimal n) ≡ Some n
number_again n h =
    elim (cases_lt n 10) [
      | inl lt ↦ ap number_of (decimal_digit n lt) ∙ digit_again n lt
      | inr le ↦
          let whole : 10 + (n - 10) ≡ n = omega arith in
          let two : decimal n ≡ 49 ∷ (48 + (n - 10)) ∷ [] = ap decimal (sym whole) ∙ decimal_two (n - 10) (omega arith) in
          ap number_of two ∙ ap (λ (o : Option ℕ). o >>= λ (m : ℕ). Some (10 + m)) (digit_again (n - 10) (omega arith)) ∙ ap (λ (m : ℕ). Some m) whole
    ]

-- ---- sites

pub site_is : (digits : List ℕ) (n : ℕ) → site_of digits ≡ Some n → IsSite n × (digits ≡ decimal n)
unfolding site_of
site_is digits n e =
    let s = bind_some (number_of digits) _ n e in
    let found = cond_some (leb 1 s.0 && leb s.0 16) s.0 n s.2 in
    let both = and_parts (leb 1 s.0) (leb s.0 16) found.0 in
    subst (λ (m : ℕ). IsSite m × (digits ≡ decimal m)) found.1 ((leb-true 1 s.0 both.0, leb-true s.0 16 both.1), number_is digits s.0 s.1)

pub site_again : (n : ℕ) → IsSite n → site_of (decimal n) ≡ Some n
unfolding site_of
site_again n h = bind_at (number_of (decimal n)) _ n (number_again n (omega (arith, h.1))) ∙ rw (le-leb 1 n h.0, le-leb n 16 h.1) refl

-- ---- no site has a `.`

other_digit : (n : ℕ) → is_before 46 (48 + n) ≡ true
other_digit n = ap not (ne_eqb (48 + n) 46 (omega arith))

pub site_free : (n : ℕ) → IsSite n → list_all (is_before 46) (decimal n) ≡ true
site_free n h =
    elim (cases_lt n 10) [
      | inl lt ↦ ap (list_all (is_before 46)) (decimal_digit n lt) ∙ rw (other_digit n) refl
      | inr le ↦
          let whole : 10 + (n - 10) ≡ n = omega arith in
          ap (list_all (is_before 46)) (ap decimal (sym whole) ∙ decimal_two (n - 10) (omega (arith, h.1))) ∙ rw (other_digit (n - 10)) refl
    ]
