-- Readers of sequences of phrases.
use Rattle.std.proofs.Common.{◌≡◌, ℕ, zero, suc, Bool, true, false, ◌||◌, List, [], ◌∷◌, ◌++◌, refl, ap, subst, ◌∙◌, arith, inl, inr}
use Rattle.rs_token.specs.declared.token.Token.{Token}
use Rattle.rs_parse.specs.Phrases.{Phrase, IsSeries, AtMost}
use Rattle.rs_parse.specs.Read.{Read, Got, ◌>>=◌, begins, series_at, more_at}
use Rattle.rs_parse.proofs.Readers.{IsReader, Empty, Then, Either, Made, begins_fewer, or_left, or_right, give, gives_before, reads_then, reads_either, reads_as, reads_made}

pub begins_apart : (is goes_on : Token → Bool) → ((t : Token) → is t ≡ true → goes_on t ≡ false) → (ts : List Token) → begins is ts ≡ true → begins goes_on ts ≡ false
begins_apart is goes_on apart [] e = refl
begins_apart is goes_on apart (t ∷ ts) e = apart t e

pub begins_longer : (is : Token → Bool) (one two rest : List Token) → begins is (one ++ (two ++ rest)) ≡ true → begins is ((one ++ two) ++ rest) ≡ true
begins_longer is [] two rest e = e
begins_longer is (t ∷ one) two rest e = e

module _ {A : Type 0} (P N : Phrase A) (is_next goes_on : Token → Bool) (first next : List Token → Read A) (r : IsReader P goes_on first) (s : IsReader N goes_on next)
    (begins_so : (x : A) (prefix rest : List Token) → N x prefix → begins is_next (prefix ++ rest) ≡ true) (apart : (t : Token) → is_next t ≡ true → goes_on t ≡ false) where
  -- another phrase begins, or the last continues
  abbrev pub on : Token → Bool
  on t = is_next t || goes_on t

  on_item : (t : Token) → on t ≡ false → goes_on t ≡ false
  on_item t e = or_right (is_next t) (goes_on t) e

  on_next : (t : Token) → on t ≡ false → is_next t ≡ false
  on_next t e = or_left (is_next t) (goes_on t) e

  abbrev series : ℕ → List Token → Read (List A)
  series n ts = series_at is_next next n ts

  abbrev Series : ℕ → Phrase (List A)
  Series n = AtMost n (IsSeries N)

  -- the items after one that was read
  abbrev suffix : ℕ → A → List Token → Read (List A)
  suffix n x ts = series n ts >>= λ xs. Got (x ∷ xs.0) xs.1

  abbrev Others : ℕ → A → Phrase (List A)
  Others n x = Made (λ xs. x ∷ xs) (Series n)

  reads_others : (n : ℕ) → IsReader (Series n) on (series n) → (x : A) → IsReader (Others n x) on (suffix n x)
  reads_others n others x = reads_made (Series n) on (series n) (λ xs. x ∷ xs) others

  ends_before : (xs : List A) (prefix rest : List Token) → IsSeries N xs prefix → begins on rest ≡ false → begins goes_on (prefix ++ rest) ≡ false
  ends_before [] prefix rest e ends = ap (λ (us : List Token). begins goes_on (us ++ rest)) e ∙ begins_fewer goes_on on on_item rest ends
  ends_before (x ∷ xs) prefix rest (one, two, is, more, e) ends =
      begins_apart is_next goes_on apart (prefix ++ rest) (ap (λ (us : List Token). begins is_next (us ++ rest)) e ∙ begins_longer is_next one two rest (begins_so x one (two ++ rest) is))

  others_end : (n : ℕ) (x : A) (ys : List A) (prefix rest : List Token) → Others n x ys prefix → begins on rest ≡ false → begins goes_on (prefix ++ rest) ≡ false
  others_end n x ys prefix rest (xs, is, e) ends = ends_before xs prefix rest is.1 ends

  abbrev Longer : ℕ → Phrase (List A)
  Longer n = Then N (Others n)

  abbrev longer : ℕ → List Token → Read (List A)
  longer n ts = next ts >>= λ x. suffix n x.0 x.1

  reads_longer : (n : ℕ) → IsReader (Series n) on (series n) → IsReader (Longer n) on (longer n)
  reads_longer n others = reads_then N (Others n) next (suffix n) goes_on on s (reads_others n others) (others_end n)

  longer_begins : (n : ℕ) (ys : List A) (prefix rest : List Token) → Longer n ys prefix → begins is_next (prefix ++ rest) ≡ true
  longer_begins n ys prefix rest (x, one, two, is, q, e) = ap (λ (us : List Token). begins is_next (us ++ rest)) e ∙ begins_longer is_next one two rest (begins_so x one (two ++ rest) is)

  series_to : (n : ℕ) (ys : List A) (ts : List Token) → Either (Longer n) (Empty []) ys ts → Series (suc n) ys ts
  series_to n ys ts (inl (x, one, two, is, (xs, others, e), separated)) = subst (λ (zs : List A). Series (suc n) zs ts) e (omega (arith, others.0), (one, two, is, others.1, separated))
  series_to n ys ts (inr empty) = subst (λ (zs : List A). Series (suc n) zs ts) empty.0 (omega arith, empty.1)

  series_from : (n : ℕ) (ys : List A) (ts : List Token) → Series (suc n) ys ts → Either (Longer n) (Empty []) ys ts
  series_from n [] ts (le, e) = inr (refl, e)
  series_from n (x ∷ xs) ts (le, (one, two, is, others, separated)) = inl (x, one, two, is, (xs, (omega (arith, le), others), refl), separated)

  none_to : (ys : List A) (ts : List Token) → Empty [] ys ts → Series 0 ys ts
  none_to ys ts empty = subst (λ (zs : List A). Series 0 zs ts) empty.0 (omega arith, empty.1)

  none_from : (ys : List A) (ts : List Token) → Series 0 ys ts → Empty [] ys ts
  none_from [] ts (le, e) = (refl, e)
  none_from (x ∷ xs) ts (le, e) = absurd (omega (arith, le))

  -- at most `n` phrases
  pub reads_series : (n : ℕ) → IsReader (Series n) on (series n)
  reads_series zero = reads_as (Empty []) (Series 0) on (give []) (gives_before [] on) none_to none_from
  reads_series (suc n) = reads_as (Either (Longer n) (Empty [])) (Series (suc n)) on (series (suc n))
      (reads_either (Longer n) (Empty []) on is_next (longer n) (give []) (reads_longer n (reads_series n)) (gives_before [] on) (longer_begins n)
      (λ ys prefix rest q ends. ap (λ (us : List Token). begins is_next (us ++ rest)) q.1 ∙ begins_fewer is_next on on_next rest ends))
      (series_to n) (series_from n)

  -- one phrase, and at most `n` others
  pub reads_more : (n : ℕ) → IsReader (Then P (Others n)) on (more_at is_next first next n)
  reads_more n = reads_then P (Others n) first (suffix n) goes_on on r (reads_others n (reads_series n)) (others_end n)
