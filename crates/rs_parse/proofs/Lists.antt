-- Readers of lists: items with a separator between each two.
use Rattle.std.proofs.Common.{◌≡◌, ℕ, zero, suc, ◌+◌, ◌<◌, ◌≤◌, Bool, true, false, cond, ◌||◌, List, [], ◌∷◌, ◌++◌, length, refl, ap, subst, ◌∙◌, arith, inl, inr}
use Rattle.std.proofs.lemmas.List.{length-append}
use Rattle.rs_token.specs.declared.token.Token.{Token}
use Rattle.rs_parse.specs.Phrases.{Phrase, After, IsSeries, IsList, AtMost}
use Rattle.rs_parse.specs.Read.{Read, Got, Fault, ◌>>=◌, begins, pass_at, series_at, suffix_at, separated_at, all_at}
use Rattle.rs_parse.proofs.Readers.{IsReader, got_value, got-fault, got_both, fault_of_both, Then, Made, IsToken, never, begins_never, reads_token, reads_then, reads_as}
use Rattle.rs_parse.proofs.Series.{reads_more}

module _ {A : Type 0} (P : Phrase A) (separator : Token) (is_separator goes_on : Token → Bool) (item : List Token → Read A)
    (self : is_separator separator ≡ true) (only : (u : Token) → is_separator u ≡ true → u ≡ separator) (r : IsReader P goes_on item) (ends : goes_on separator ≡ false) where
  abbrev next : List Token → Read A
  next = suffix_at is_separator item

  after_to : (x : A) (ts : List Token) → Then (IsToken separator) (λ passed. P) x ts → After separator P x ts
  after_to x ts (passed, one, two, is, p, e) = (one, two, is, p, e)

  after_from : (x : A) (ts : List Token) → After separator P x ts → Then (IsToken separator) (λ passed. P) x ts
  after_from x ts (one, two, is, p, e) = (tt, one, two, is, p, e)

  reads_next : IsReader (After separator P) goes_on next
  reads_next = reads_as (Then (IsToken separator) (λ passed. P)) (After separator P) goes_on next
      (reads_then (IsToken separator) (λ passed. P) (pass_at is_separator) (λ passed. item) never goes_on (reads_token separator is_separator self only) (λ passed. r)
      (λ passed x suffix rest p none. begins_never (suffix ++ rest)))
      after_to after_from

  next_begins : (x : A) (prefix rest : List Token) → After separator P x prefix → begins is_separator (prefix ++ rest) ≡ true
  next_begins x prefix rest (one, two, is, p, e) = ap (λ (us : List Token). begins is_separator (us ++ rest)) (e ∙ ap (λ (us : List Token). us ++ two) is) ∙ self

  apart : (t : Token) → is_separator t ≡ true → goes_on t ≡ false
  apart t e = ap goes_on (only t e) ∙ ends

  abbrev pub between : Token → Bool
  between t = is_separator t || goes_on t

  abbrev Others' : ℕ → A → Phrase (List A)
  Others' n x = Made (λ xs. x ∷ xs) (AtMost n (IsSeries (After separator P)))

  list_to : (n : ℕ) (ys : List A) (ts : List Token) → Then P (Others' n) ys ts → AtMost (suc n) (IsList separator P) ys ts
  list_to n ys ts (x, one, two, p, (xs, series, e), separated) = subst (λ (zs : List A). AtMost (suc n) (IsList separator P) zs ts) e (omega (arith, series.0), (one, two, p, series.1, separated))

  list_from : (n : ℕ) (ys : List A) (ts : List Token) → AtMost (suc n) (IsList separator P) ys ts → Then P (Others' n) ys ts
  list_from n [] ts (le, is) = absurd is
  list_from n (x ∷ xs) ts (le, (one, two, p, series, separated)) = (x, one, two, p, (xs, (omega (arith, le), series), refl), separated)

  -- one item, and at most `n` others
  pub reads_list : (n : ℕ) → IsReader (AtMost (suc n) (IsList separator P)) between (separated_at is_separator item n)
  reads_list n = reads_as (Then P (Others' n)) (AtMost (suc n) (IsList separator P)) between (separated_at is_separator item n)
      (reads_more P (After separator P) is_separator goes_on item next r reads_next next_begins apart n)
      (list_to n) (list_from n)

  -- ---- any number of them

  abbrev series : ℕ → List Token → Read (List A)
  series n ts = series_at is_separator next n ts

  abbrev separated_list : ℕ → List Token → Read (List A)
  separated_list n ts = separated_at is_separator item n ts

  abbrev put : A → List A × List Token → Read (List A)
  put x xs = Got (x ∷ xs.0) xs.1

  abbrev step : ℕ → A × List Token → Read (List A)
  step n x = series n x.1 >>= put x.0

  got_more : (n m : ℕ) (ts : List Token) (xs : List A) (rest : List Token) → n ≤ m → length xs < n → series n ts ≡ Got xs rest → series m ts ≡ Got xs rest
  got_more zero m ts xs rest le lt e = absurd (omega (arith, lt))
  got_more (suc n) zero ts xs rest le lt e = absurd (omega (arith, le))
  got_more (suc n) (suc m) ts xs rest le lt e = go (begins is_separator ts) (λ us ys r lt' e'. got_more n m us ys r (omega (arith, le)) lt' e') e
    where
      go : (test : Bool) → ((us : List Token) (ys : List A) (r : List Token) → length ys < n → series n us ≡ Got ys r → series m us ≡ Got ys r)
          → cond test (next ts >>= step n) (Got [] ts) ≡ Got xs rest → cond test (next ts >>= step m) (Got [] ts) ≡ Got xs rest
      go false ih e = e
      go true ih e =
          let a = got_both (next ts) (step n) xs rest e in
          let b = got_both (series n a.mid) (put a.value) xs rest a.second in
          let same : a.value ∷ b.value ≡ xs = got_value (a.value ∷ b.value) xs b.mid rest b.second in
          ap (λ (got : Read A). got >>= step m) a.first ∙ ap (λ (got : Read (List A)). got >>= put a.value) (ih a.mid b.value b.mid (omega (arith, lt, ap length same)) b.first) ∙ b.second

  fault_more : (n m : ℕ) (ts rest : List Token) → n ≤ m → series n ts ≡ Fault rest → series m ts ≡ Fault rest
  fault_more zero m ts rest le e = absurd (got-fault [] ts rest e)
  fault_more (suc n) zero ts rest le e = absurd (omega (arith, le))
  fault_more (suc n) (suc m) ts rest le e = go (begins is_separator ts) (λ us r e'. fault_more n m us r (omega (arith, le)) e') e
    where
      go : (test : Bool) → ((us r : List Token) → series n us ≡ Fault r → series m us ≡ Fault r) → cond test (next ts >>= step n) (Got [] ts) ≡ Fault rest → cond test (next ts >>= step m) (Got [] ts) ≡ Fault rest
      go false ih e = e
      go true ih e = elim (fault_of_both (next ts) (step n) rest e) [
        | inl h ↦ ap (λ (got : Read A). got >>= step m) h
        | inr a ↦ ap (λ (got : Read A). got >>= step m) a.first ∙ elim (fault_of_both (series n a.mid) (put a.value) rest a.second) [
          | inl h ↦ ap (λ (got : Read (List A)). got >>= put a.value) (ih a.mid rest h)
          | inr b ↦ absurd (got-fault (a.value ∷ b.value) b.mid rest b.second)
        ]
      ]

  next_shorter : (ts : List Token) (x : A) (mid : List Token) → next ts ≡ Got x mid → length mid < length ts
  next_shorter ts x mid e =
      let a = reads_next.finds ts x mid e in
      let one : a.prefix ≡ (separator ∷ []) ++ a.phrase.1 = a.phrase.4 ∙ ap (λ (us : List Token). us ++ a.phrase.1) a.phrase.2 in
      omega (arith, ap length a.separated, length-append a.prefix mid, ap length one)

  fuel : (n m : ℕ) (ts : List Token) → length ts ≤ n → length ts ≤ m → series n ts ≡ series m ts
  fuel zero zero ts l k = refl
  fuel zero (suc m) [] l k = refl
  fuel zero (suc m) (t ∷ ts) l k = absurd (omega (arith, l))
  fuel (suc n) zero [] l k = refl
  fuel (suc n) zero (t ∷ ts) l k = absurd (omega (arith, k))
  fuel (suc n) (suc m) ts l k = go (begins is_separator ts) (next ts) refl (λ us l' k'. fuel n m us l' k')
    where
      go : (test : Bool) (got : Read A) → next ts ≡ got → ((us : List Token) → length us ≤ n → length us ≤ m → series n us ≡ series m us) → cond test (got >>= step n) (Got [] ts) ≡ cond test (got >>= step m) (Got [] ts)
      go false got e ih = refl
      go true (Fault mid) e ih = refl
      go true (Got x mid) e ih = ap (λ (got : Read (List A)). got >>= put x) (ih mid (omega (arith, l, next_shorter ts x mid e)) (omega (arith, k, next_shorter ts x mid e)))

  list_got_more : (n m : ℕ) (ts : List Token) (xs : List A) (rest : List Token) → n ≤ m → length xs ≤ n → separated_list n ts ≡ Got xs rest → separated_list m ts ≡ Got xs rest
  list_got_more n m ts xs rest le lt e =
      let a = got_both (item ts) (step n) xs rest e in
      let b = got_both (series n a.mid) (put a.value) xs rest a.second in
      let same : a.value ∷ b.value ≡ xs = got_value (a.value ∷ b.value) xs b.mid rest b.second in
      ap (λ (got : Read A). got >>= step m) a.first ∙ ap (λ (got : Read (List A)). got >>= put a.value) (got_more n m a.mid b.value b.mid le (omega (arith, lt, ap length same)) b.first) ∙ b.second

  list_fault_more : (n m : ℕ) (ts rest : List Token) → n ≤ m → separated_list n ts ≡ Fault rest → separated_list m ts ≡ Fault rest
  list_fault_more n m ts rest le e = elim (fault_of_both (item ts) (step n) rest e) [
    | inl h ↦ ap (λ (got : Read A). got >>= step m) h
    | inr a ↦ ap (λ (got : Read A). got >>= step m) a.first ∙ elim (fault_of_both (series n a.mid) (put a.value) rest a.second) [
      | inl h ↦ ap (λ (got : Read (List A)). got >>= put a.value) (fault_more n m a.mid rest le h)
      | inr b ↦ absurd (got-fault (a.value ∷ b.value) b.mid rest b.second)
    ]
  ]

  item_within : (ts : List Token) (x : A) (mid : List Token) → item ts ≡ Got x mid → length mid ≤ length ts
  item_within ts x mid e =
      let a = r.finds ts x mid e in
      omega (arith, ap length a.separated, length-append a.prefix mid)

  list_fuel : (n m : ℕ) (ts : List Token) → length ts ≤ n → length ts ≤ m → separated_list n ts ≡ separated_list m ts
  list_fuel n m ts l k = go (item ts) refl
    where
      go : (got : Read A) → item ts ≡ got → (got >>= step n) ≡ (got >>= step m)
      go (Fault mid) e = refl
      go (Got x mid) e = ap (λ (got : Read (List A)). got >>= put x) (fuel n m mid (omega (arith, l, item_within ts x mid e)) (omega (arith, k, item_within ts x mid e)))

  series_length : (xs : List A) (ts : List Token) → IsSeries (After separator P) xs ts → length xs ≤ length ts
  series_length [] ts e = omega arith
  series_length (x ∷ xs) ts (one, two, (three, four, is, p, e1), series, e0) =
      omega (arith, series_length xs two series, ap length e0, length-append one two, ap length e1, length-append three four, ap length is)

  list_length : (xs : List A) (ts : List Token) → IsList separator P xs ts → length xs ≤ suc (length ts)
  list_length [] ts is = absurd is
  list_length (x ∷ xs) ts (one, two, p, series, e) = omega (arith, series_length xs two series, ap length e, length-append one two)

  -- one item or more
  pub reads_all : IsReader (IsList separator P) between (all_at is_separator item)
  reads_all = record {
    finds = λ ts xs rest e.
        let a = (reads_list (length ts)).finds ts xs rest e in
        record {
          prefix = a.prefix;
          phrase = a.phrase.1;
          separated = a.separated;
          steady = λ t us vs h.
              let len = length (a.prefix ++ t ∷ vs) in
              let long : length xs ≤ length ts = omega (arith, list_length xs a.prefix a.phrase.1, ap length a.separated, length-append a.prefix rest, ap length h) in
              list_fuel len (length ts + len) (a.prefix ++ t ∷ vs) (omega arith) (omega arith)
              ∙ list_got_more (length ts) (length ts + len) (a.prefix ++ t ∷ vs) xs (t ∷ vs) (omega arith) long (a.steady t us vs h);
        };
    breaks = λ ts rest e.
        let a = (reads_list (length ts)).breaks ts rest e in
        record {
          prefix = a.prefix;
          suffix = a.suffix;
          value = a.value;
          phrase = a.phrase.1;
          separated = a.separated;
          steady = λ t us vs h.
              let len = length (a.prefix ++ t ∷ vs) in
              list_fuel len (length ts + len) (a.prefix ++ t ∷ vs) (omega arith) (omega arith)
              ∙ list_fault_more (length ts) (length ts + len) (a.prefix ++ t ∷ vs) (t ∷ vs) (omega arith) (a.steady t us vs h);
        };
    again = λ xs prefix rest is none.
        (reads_list (length (prefix ++ rest))).again xs prefix rest (omega (arith, list_length xs prefix is, length-append prefix rest), is) none;
    some =
        let a = (reads_list 0).some in
        record { value = a.value; tokens = a.tokens; phrase = a.phrase.1 };
  }
