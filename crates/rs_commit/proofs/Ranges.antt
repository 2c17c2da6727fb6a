-- Lists of one value for each number of a range.
use Rattle.std.proofs.Common.{◌≡◌, ℕ, zero, suc, ◌+◌, ◌<◌, ◌≤◌, Bool, true, false, ◌&&◌, List, [], ◌∷◌, ◌++◌, map, length, get_or, set, Option, Some, None, refl, sym, ap, subst, ◌∙◌, arith, ◌⊎◌, inl, inr, get_or-set_same, get_or-set_other, length-set}
use Rattle.std.proofs.lemmas.Bool.{and_parts, cases_eq}
use Rattle.std.proofs.lemmas.List.FromFn.{length-map-range_with_len, get_or-map-range_with_len, map-range_with_len_more, fill_by_all}
use Rattle.std.proofs.lemmas.Option.{slice_get-get_or, slice_get_past}
use Rattle.std.specs.Prelude.{slice_get, slice_set}
use Rattle.std.specs.List.{list_all, range_with_len}

each_from : (test : ℕ → Bool) (a n : ℕ) → list_all test (range_with_len a n) ≡ true → (k : ℕ) → k < n → test (a + k) ≡ true
each_from test a zero e k within = absurd (omega arith)
each_from test a (suc n) e zero within =
    let same : a + zero ≡ a = omega arith in
    ap test same ∙ (and_parts (test a) (list_all test (range_with_len (a + 1) n)) e).0
each_from test a (suc n) e (suc k) within =
    let same : a + suc k ≡ a + 1 + k = omega arith in
    ap test same ∙ each_from test (a + 1) n (and_parts (test a) (list_all test (range_with_len (a + 1) n)) e).1 k (omega arith)

-- a test that holds of each number below n
pub each_in_range : (test : ℕ → Bool) (n : ℕ) → list_all test (range_with_len 0 n) ≡ true → (k : ℕ) → k < n → test k ≡ true
each_in_range test n e k within =
    let same : k ≡ 0 + k = omega arith in
    ap test same ∙ each_from test 0 n e k within

-- the values are the same, if they are so at each number
pub same_values : {X : Type 0} (f g : ℕ → X) (n : ℕ) → ((k : ℕ) → k < n → f k ≡ g k) → map f (range_with_len 0 n) ≡ map g (range_with_len 0 n)
same_values f g zero each = refl
same_values f g (suc n) each =
    fill_by_all g (map f (range_with_len 0 (suc n))) (suc n) (f 0) (length-map-range_with_len f 0 (suc n)) (λ k within. get_or-map-range_with_len f 0 (suc n) k k (f 0) within (omega arith) ∙ each k within)

-- the value at a number, if there is one
pub value_at : {X : Type 0} (f : ℕ → X) (n i : ℕ) → i < n → slice_get (map f (range_with_len 0 n)) i ≡ Some (f i)
value_at f n i within =
    slice_get-get_or (map f (range_with_len 0 n)) i (f i) (subst (λ m. i < m) (sym (length-map-range_with_len f 0 n)) within)
    ∙ ap Some (get_or-map-range_with_len f 0 n i i (f i) within (omega arith))

pub value_past : {X : Type 0} (f : ℕ → X) (n i : ℕ) → n ≤ i → slice_get (map f (range_with_len 0 n)) i ≡ None
value_past f n i past = slice_get_past (map f (range_with_len 0 n)) i (omega (arith, length-map-range_with_len f 0 n))

-- one value is replaced, and the others stay
pub value_set : {X : Type 0} (f g : ℕ → X) (n i : ℕ) (v : X) → i < n → g i ≡ v → ((k : ℕ) → k < n → (k ≡ i → ⊥) → g k ≡ f k) → map g (range_with_len 0 n) ≡ slice_set (map f (range_with_len 0 n)) i v
value_set {X} f g n i v within at others = sym (fill_by_all g (set xs i v) n v (length-set xs i v ∙ long) each)
  where
    xs : List X
    xs = map f (range_with_len 0 n)

    long : length xs ≡ n
    long = length-map-range_with_len f 0 n

    by_cases : (k : ℕ) → k < n → (k ≡ i) ⊎ (k ≡ i → ⊥) → get_or (set xs i v) k v ≡ g k
    by_cases k low (inl same) =
        let room : i < length xs = omega (arith, long) in
        ap (λ m. get_or (set xs i v) m v) same ∙ get_or-set_same xs i v v room ∙ sym at ∙ ap g (sym same)
    by_cases k low (inr differ) =
        get_or-set_other xs i k v v differ ∙ get_or-map-range_with_len f 0 n k k v low (omega arith) ∙ sym (others k low differ)

    each : (k : ℕ) → k < n → get_or (set xs i v) k v ≡ g k
    each k low = by_cases k low (cases_eq k i)

-- one value more
pub next_value : {X : Type 0} (f : ℕ → X) (n : ℕ) (xs new : List X) (x : X) → xs ≡ map f (range_with_len 0 n) → x ≡ f n → new ≡ xs ++ x ∷ [] → new ≡ map f (range_with_len 0 (n + 1))
next_value f n xs new x so_far is pushed =
    let more = map-range_with_len_more f 0 n n (omega arith) in
    rw (pushed, so_far, is) (sym more)
