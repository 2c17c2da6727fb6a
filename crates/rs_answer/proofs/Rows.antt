-- The row that a group gives, one item more; and whether one of the sums overflows.
use Rattle.std.proofs.Common.{◌≡◌, ℕ, ◌+◌, ◌<◌, List, [], ◌∷◌, ◌++◌, Bool, true, false, ◌||◌, cond, length, take, get_or, map, Option, Some, None, refl, sym, ap, ◌∙◌}
use Rattle.std.specs.List.{list_any}
use Rattle.std.specs.Option.{option_and_then, option_map}
use Rattle.std.proofs.lemmas.List.{take_more, map-append}
use Rattle.rs_answer.specs.Items.{all_of}

-- ---- all of the values

pushed : {A : Type 0} → Option (List A) → Option A → Option (List A)
pushed before found = option_and_then (λ vs. option_map (λ v. vs ++ v ∷ []) found) before

pushed_after : {A : Type 0} (v : A) (before : Option (List A)) (found : Option A) → option_map (λ more. v ∷ more) (pushed before found) ≡ pushed (option_map (λ more. v ∷ more) before) found
unfolding pushed
pushed_after v None found = refl
pushed_after v (Some vs) None = refl
pushed_after v (Some vs) (Some w) = refl

all_of_push : {A : Type 0} (os : List (Option A)) (found : Option A) → all_of (os ++ found ∷ []) ≡ pushed (all_of os) found
unfolding pushed
all_of_push [] None = refl
all_of_push [] (Some v) = refl
all_of_push (None ∷ os) found = refl
all_of_push (Some v ∷ os) found = ap (option_map (λ more. v ∷ more)) (all_of_push os found) ∙ pushed_after v (all_of os) found

module _ {X A : Type 0} (f : X → Option A) (xs : List X) (i : ℕ) (d x : X) (within : i < length xs) (is : x ≡ get_or xs i d) where
  all_of_more : all_of (map f (take (i + 1) xs)) ≡ pushed (all_of (map f (take i xs))) (f x)
  all_of_more =
      ap (λ ys. all_of (map f ys)) (take_more xs i d within ∙ ap (λ y. take i xs ++ y ∷ []) (sym is))
      ∙ ap all_of (map-append f (take i xs) (x ∷ []))
      ∙ all_of_push (map f (take i xs)) (f x)

  pushed_whole : (whole : Bool) (row : List A) (v : A) → pushed (cond whole (Some row) None) (Some v) ≡ cond whole (Some (row ++ v ∷ [])) None
  unfolding pushed
  pushed_whole true row v = refl
  pushed_whole false row v = refl

  pushed_none : (whole : Bool) (row : List A) → pushed (cond whole (Some row) None) None ≡ None
  unfolding pushed
  pushed_none true row = refl
  pushed_none false row = refl

  pub row_more : (whole : Bool) (row : List A) (v : A) → all_of (map f (take i xs)) ≡ cond whole (Some row) None → Some v ≡ f x
      → all_of (map f (take (i + 1) xs)) ≡ cond whole (Some (row ++ v ∷ [])) None
  row_more whole row v so_far found =
      all_of_more ∙ ap (λ before. pushed before (f x)) so_far ∙ ap (pushed (cond whole (Some row) None)) (sym found) ∙ pushed_whole whole row v

  pub row_less : (whole : Bool) (row : List A) → all_of (map f (take i xs)) ≡ cond whole (Some row) None → None ≡ f x
      → all_of (map f (take (i + 1) xs)) ≡ None
  row_less whole row so_far found =
      all_of_more ∙ ap (λ before. pushed before (f x)) so_far ∙ ap (pushed (cond whole (Some row) None)) (sym found) ∙ pushed_none whole row

-- ---- one of them

or_last : (b : Bool) → b ≡ false → (b || false) ≡ false
or_last true e = e
or_last false e = refl

pub list_any-append : {X : Type 0} (p : X → Bool) (xs ys : List X) → list_any p (xs ++ ys) ≡ (list_any p xs || list_any p ys)
list_any-append p [] ys = refl
list_any-append p (x ∷ xs) ys = ap (λ b. p x || b) (list_any-append p xs ys) ∙ elim (p x) as (λ b. (b || (list_any p xs || list_any p ys)) ≡ ((b || list_any p xs) || list_any p ys)) [ true ↦ refl | false ↦ refl ]

module _ {X : Type 0} (p : X → Bool) (xs : List X) (i : ℕ) (d x : X) (within : i < length xs) (is : x ≡ get_or xs i d) where
  pub none_more : list_any p (take i xs) ≡ false → p x ≡ false → list_any p (take (i + 1) xs) ≡ false
  none_more so_far here =
      ap (list_any p) (take_more xs i d within ∙ ap (λ y. take i xs ++ y ∷ []) (sym is))
      ∙ list_any-append p (take i xs) (x ∷ []) ∙ ap (λ b. b || (p x || false)) so_far ∙ or_last (p x) here
