-- The number of times that elements are in a list, by whether the list has them and whether two of its elements are equal.
use Rattle.std.proofs.Common.{◌≡◌, ◌≢◌, ℕ, ◌<◌, ◌≤◌, List, [], ◌∷◌, Bool, true, false, cond, zero, suc, length, get_or, map, sym, ap, ◌∙◌, subst, arith, ⊎_elim}
use Rattle.std.specs.List.{filter, AllPairs, AllByRecursion, Contains}
use Rattle.std.proofs.lemmas.Bool.{cases_Bool}
use Rattle.std.proofs.lemmas.List.Elements.{All-from_recursion}
use Rattle.std.proofs.lemmas.List.Kept.{AllPairs-cons}
use Rattle.rs_answer.proofs.Counted.{Decides, one_like, times, times_filter}
use Rattle.rs_answer.proofs.Runs.{all_map, all_weaker}

module _ {X : Type 0} (same : X → X → Bool) (is : Decides same) where
  one_for_itself : (z : X) → one_like same z z ≡ 1
  one_for_itself z = ap (λ b. cond b 1 0) (is.itself z)

  one_for : (z x : X) → x ≡ z → one_like same z x ≡ 1
  one_for z x e = ap (one_like same z) e ∙ one_for_itself z

  -- ---- whether the list has it

  times_at : (z : X) (xs : List X) (k : ℕ) → k < length xs → get_or xs k z ≡ z → 0 < times same z xs
  times_at z [] k low e = absurd (omega (arith, low))
  times_at z (x ∷ xs) zero low e = omega (arith, one_for z x e)
  times_at z (x ∷ xs) (suc k) low e = let rest = times_at z xs k (omega arith) e in omega (arith, rest)

  pub times_from_Contains : (z : X) (xs : List X) → Contains xs z → 0 < times same z xs
  times_from_Contains z xs has = times_at z xs has.0 has.1 has.2

  suffix : (z x : X) (xs : List X) → Contains xs z → Contains (x ∷ xs) z
  suffix z x xs has = (suc has.0, omega (arith, has.1), has.2)

  pub Contains-from_times : (z : X) (xs : List X) → 0 < times same z xs → Contains xs z
  Contains-from_times z [] h = absurd (omega (arith, h))
  Contains-from_times z (x ∷ xs) h =
      ⊎_elim (λ (e : same z x ≡ true). (0, omega arith, sym (is.exact z x e)))
      (λ (e : same z x ≡ false). let here : one_like same z x ≡ 0 = ap (λ b. cond b 1 0) e in suffix z x xs (Contains-from_times z xs (omega (arith, h, here))))
      (cases_Bool (same z x))

  -- each element of a list is in it
  pub each_occurs : (xs : List X) → AllByRecursion (λ x. 0 < times same x xs) xs
  each_occurs [] = tt
  each_occurs (x ∷ xs) = (
    omega (arith, one_for_itself x),
    all_weaker (λ y. 0 < times same y xs) (λ y. 0 < times same y (x ∷ xs)) (λ y h. omega (arith, h)) xs (each_occurs xs),
  )

  -- what passes a filter passes its test
  pub passes_from_Contains : (p : X → Bool) (z : X) (xs : List X) → Contains (filter p xs) z → p z ≡ true
  passes_from_Contains p z xs has =
      let some : 0 < cond (p z) (times same z xs) 0 = subst (λ n. 0 < n) (times_filter same is p z xs) (times_from_Contains z (filter p xs) has) in
      ⊎_elim (λ (e : p z ≡ true). e)
      (λ (e : p z ≡ false). let none : cond (p z) (times same z xs) 0 ≡ 0 = ap (λ b. cond b (times same z xs) 0) e in absurd (omega (arith, some, none)))
      (cases_Bool (p z))

  -- ---- whether two are equal

  pub absent : (z : X) (xs : List X) → times same z xs ≡ 0 → AllByRecursion (λ x. z ≢ x) xs
  absent z [] h = tt
  absent z (x ∷ xs) h = ((λ e. absurd (omega (arith, h, one_for z x (sym e)))), absent z xs (omega (arith, h)))

  -- if each is there at most once, a fact of any two different ones is a fact of any two
  pub pairs_apart : {Y : Type 0} (R : Y → Y → Type 0) (f : X → Y) → ((v w : X) → v ≢ w → R (f v) (f w)) → (xs : List X) → ((z : X) → times same z xs ≤ 1) → AllPairs R (map f xs)
  pairs_apart R f differ [] once = λ i j d low high. absurd (omega arith)
  pairs_apart R f differ (x ∷ xs) once =
      AllPairs-cons R (f x) (map f xs)
      (All-from_recursion (R (f x)) (map f xs)
      (all_map (R (f x)) f xs
      (all_weaker (λ y. x ≢ y) (λ y. R (f x) (f y)) (λ y e. differ x y e) xs
      (absent x xs (omega (arith, once x, one_for_itself x))))))
      (pairs_apart R f differ xs (λ z. omega (arith, once z)))
