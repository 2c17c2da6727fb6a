-- Keys in order: putting in and taking out, in whichever order it is done.
use Rattle.std.proofs.Common.{◌≡◌, Bool, true, false, cond, List, [], ◌∷◌, refl, sym, ap, ◌∙◌}
use Rattle.std.specs.BTreeMap.{is_at}
use Rattle.std.specs.BTreeSet.{insert_key}
use Rattle.std.specs.Cmp.{IsTotalOrder}
use Rattle.std.specs.List.{AllByRecursion}
use Rattle.std.specs.List.Sorted.{IsStrictlySortedBy}
use Rattle.std.specs.Ordering.{is_eq, match_ordering, ordering_reverse}
use Rattle.std.specs.Set.{remove_key}
use Rattle.std.specs.declared.cmp.Ordering.{Ordering}
use Rattle.std.specs.declared.cmp.Ordering.TheVariants.{Less, Equal, Greater}
use Rattle.std.proofs.lemmas.Cmp.{tied_itself, alike_right}

module _ {K : Type 0} {R : K → K → Ordering} (o : IsTotalOrder R) where
  -- ---- the order

  above : (a b : K) → R a b ≡ Less → R b a ≡ Greater
  above a b h = o.antisymm b a ∙ ap ordering_reverse h

  below : (a b : K) → R a b ≡ Greater → R b a ≡ Less
  below a b h = o.antisymm b a ∙ ap ordering_reverse h

  -- ---- putting in

  pub all_put : (P : K → Type 0) (k : K) (xs : List K) → P k → AllByRecursion P xs → AllByRecursion P (insert_key R xs k)
  all_put P k [] here all = (here, tt)
  all_put P k (x ∷ xs) here all = by (R k x) (all_put P k xs here all.1)
    where
      by : (r : Ordering) → AllByRecursion P (insert_key R xs k) → AllByRecursion P (match_ordering r (k ∷ x ∷ xs) (x ∷ xs) (x ∷ insert_key R xs k))
      by Less later = (here, all)
      by Equal later = all
      by Greater later = (all.0, later)

  all_above : (k x : K) (xs : List K) → R k x ≡ Less → AllByRecursion (λ y. R x y ≡ Less) xs → AllByRecursion (λ y. R k y ≡ Less) xs
  all_above k x [] h all = tt
  all_above k x (y ∷ xs) h all = (o.trans k x y h all.0, all_above k x xs h all.1)

  pub put_in_order : (k : K) (xs : List K) → IsStrictlySortedBy R xs → IsStrictlySortedBy R (insert_key R xs k)
  unfolding IsStrictlySortedBy
  put_in_order k [] up = (tt, tt)
  put_in_order k (x ∷ xs) up = by (R k x) refl (put_in_order k xs up.1)
    where
      by : (r : Ordering) → R k x ≡ r → IsStrictlySortedBy R (insert_key R xs k) → IsStrictlySortedBy R (match_ordering r (k ∷ x ∷ xs) (x ∷ xs) (x ∷ insert_key R xs k))
      by Less h later = ((h, all_above k x xs h up.0), up)
      by Equal h later = up
      by Greater h later = (all_put (λ y. R x y ≡ Less) k xs (below k x h) up.0, later)

  -- before the first key
  put_first : (k : K) (xs : List K) → AllByRecursion (λ y. R k y ≡ Less) xs → insert_key R xs k ≡ k ∷ xs
  put_first k [] all = refl
  put_first k (x ∷ xs) all = ap (λ r. match_ordering r (k ∷ x ∷ xs) (x ∷ xs) (x ∷ insert_key R xs k)) all.0

  -- ---- taking out what was put in

  pub taken_back : (k : K) (xs : List K) → AllByRecursion (λ x. is_eq (R k x) ≡ false) xs → remove_key (is_at (R k)) (insert_key R xs k) ≡ xs
  taken_back k [] apart = ap (λ r. cond (is_eq r) [] (k ∷ [])) (tied_itself o k)
  taken_back k (x ∷ xs) apart = by (R k x) refl apart.0 (taken_back k xs apart.1)
    where
      by : (r : Ordering) → R k x ≡ r → is_eq r ≡ false → remove_key (is_at (R k)) (insert_key R xs k) ≡ xs
          → remove_key (is_at (R k)) (match_ordering r (k ∷ x ∷ xs) (x ∷ xs) (x ∷ insert_key R xs k)) ≡ x ∷ xs
      by Less h apart later = ap (λ r. cond (is_eq r) (x ∷ xs) (k ∷ remove_key (is_at (R k)) (x ∷ xs))) (tied_itself o k)
      by Equal h apart later = cc
      by Greater h apart later = ap (λ r. cond (is_eq r) (insert_key R xs k) (x ∷ remove_key (is_at (R k)) (insert_key R xs k))) h ∙ ap (λ ys. x ∷ ys) later

  -- ---- two keys

  -- putting in two keys, in either order
  pub both_put : ((a b : K) → R a b ≡ Equal → a ≡ b) → (j k : K) (xs : List K) → insert_key R (insert_key R xs j) k ≡ insert_key R (insert_key R xs k) j
  both_put exact j k [] = by (R k j) refl
    where
      by : (r : Ordering) → R k j ≡ r → match_ordering r (k ∷ j ∷ []) (j ∷ []) (j ∷ k ∷ []) ≡ match_ordering (R j k) (j ∷ k ∷ []) (k ∷ []) (k ∷ j ∷ [])
      by Less h = sym (ap (λ r. match_ordering r (j ∷ k ∷ []) (k ∷ []) (k ∷ j ∷ [])) (above k j h))
      by Equal h = let same : k ≡ j = exact k j h in
          ap (λ a. a ∷ []) (sym same) ∙ sym (ap (λ r. match_ordering r (j ∷ k ∷ []) (k ∷ []) (k ∷ j ∷ [])) (o.antisymm j k ∙ ap ordering_reverse h))
      by Greater h = sym (ap (λ r. match_ordering r (j ∷ k ∷ []) (k ∷ []) (k ∷ j ∷ [])) (below k j h))
  both_put exact j k (x ∷ xs) = by (R j x) refl (R k x) refl (both_put exact j k xs)
    where
      -- where the key stands in a list that begins with another
      at : (a b : K) (ys : List K) (r : Ordering) → R a b ≡ r → insert_key R (b ∷ ys) a ≡ match_ordering r (a ∷ b ∷ ys) (b ∷ ys) (b ∷ insert_key R ys a)
      at a b ys r h = ap (λ r. match_ordering r (a ∷ b ∷ ys) (b ∷ ys) (b ∷ insert_key R ys a)) h

      first : (r : Ordering) → R k j ≡ r → R k x ≡ Less → R j x ≡ Less
          → insert_key R (j ∷ x ∷ xs) k ≡ insert_key R (k ∷ x ∷ xs) j
      first Less h kx jx = at k j (x ∷ xs) Less h ∙ sym (at j k (x ∷ xs) Greater (above k j h) ∙ ap (λ ys. k ∷ ys) (at j x xs Less jx))
      first Equal h kx jx = let same : k ≡ j = exact k j h in
          at k j (x ∷ xs) Equal h ∙ ap (λ a. a ∷ x ∷ xs) (sym same) ∙ sym (at j k (x ∷ xs) Equal (o.antisymm j k ∙ ap ordering_reverse h))
      first Greater h kx jx = at k j (x ∷ xs) Greater h ∙ ap (λ ys. j ∷ ys) (at k x xs Less kx) ∙ sym (at j k (x ∷ xs) Less (below k j h))

      -- j is before x, and k isn't
      past : (a b : K) → R a x ≡ Less → (R b x ≡ Less → ⊥) → R b a ≡ Greater
      past a b ax bx = later (R b a) refl
        where
          later : (r : Ordering) → R b a ≡ r → r ≡ Greater
          later Less h = absurd (bx (o.trans b a x h ax))
          later Equal h = absurd (bx (o.congr b a x h ∙ ax))
          later Greater h = refl

      by : (q : Ordering) → R j x ≡ q → (r : Ordering) → R k x ≡ r → insert_key R (insert_key R xs j) k ≡ insert_key R (insert_key R xs k) j
          → insert_key R (match_ordering q (j ∷ x ∷ xs) (x ∷ xs) (x ∷ insert_key R xs j)) k ≡ insert_key R (match_ordering r (k ∷ x ∷ xs) (x ∷ xs) (x ∷ insert_key R xs k)) j
      by Less jx Less kx later = first (R k j) refl kx jx
      by Less jx Equal kx later = at k j (x ∷ xs) Greater (past j k jx (λ less. cc)) ∙ ap (λ ys. j ∷ ys) (at k x xs Equal kx) ∙ sym (at j x xs Less jx)
      by Less jx Greater kx later = at k j (x ∷ xs) Greater (past j k jx (λ less. cc)) ∙ ap (λ ys. j ∷ ys) (at k x xs Greater kx) ∙ sym (at j x (insert_key R xs k) Less jx)
      by Equal jx Less kx later = at k x xs Less kx ∙ sym (at j k (x ∷ xs) Greater (past k j kx (λ less. cc)) ∙ ap (λ ys. k ∷ ys) (at j x xs Equal jx))
      by Equal jx Equal kx later = at k x xs Equal kx ∙ sym (at j x xs Equal jx)
      by Equal jx Greater kx later = at k x xs Greater kx ∙ sym (at j x (insert_key R xs k) Equal jx)
      by Greater jx Less kx later = at k x (insert_key R xs j) Less kx ∙ sym (at j k (x ∷ xs) Greater (past k j kx (λ less. cc)) ∙ ap (λ ys. k ∷ ys) (at j x xs Greater jx))
      by Greater jx Equal kx later = at k x (insert_key R xs j) Equal kx ∙ sym (at j x xs Greater jx)
      by Greater jx Greater kx later = at k x (insert_key R xs j) Greater kx ∙ ap (λ ys. x ∷ ys) later ∙ sym (at j x (insert_key R xs k) Greater jx)

  -- putting in a key and taking out another, in either order
  pub put_and_taken : (j k : K) (xs : List K) → is_eq (R k j) ≡ false → IsStrictlySortedBy R xs
      → remove_key (is_at (R k)) (insert_key R xs j) ≡ insert_key R (remove_key (is_at (R k)) xs) j
  unfolding IsStrictlySortedBy
  put_and_taken j k [] apart up = ap (λ b. cond b [] (j ∷ [])) apart
  put_and_taken j k (x ∷ xs) apart up = by (R j x) refl (is_eq (R k x)) refl (put_and_taken j k xs apart up.1)
    where
      same_side : R j x ≡ Equal → is_eq (R k x) ≡ is_eq (R k j)
      same_side jx = sym (ap is_eq (alike_right o j x k jx))

      by : (q : Ordering) → R j x ≡ q → (b : Bool) → is_eq (R k x) ≡ b → remove_key (is_at (R k)) (insert_key R xs j) ≡ insert_key R (remove_key (is_at (R k)) xs) j
          → remove_key (is_at (R k)) (match_ordering q (j ∷ x ∷ xs) (x ∷ xs) (x ∷ insert_key R xs j)) ≡ insert_key R (cond b xs (x ∷ remove_key (is_at (R k)) xs)) j
      by Less jx true kx later =
          ap (λ b. cond b (x ∷ xs) (j ∷ cond (is_eq (R k x)) xs (x ∷ remove_key (is_at (R k)) xs))) apart
          ∙ ap (λ b. j ∷ cond b xs (x ∷ remove_key (is_at (R k)) xs)) kx
          ∙ sym (put_first j xs (all_above j x xs jx up.0))
      by Less jx false kx later =
          ap (λ b. cond b (x ∷ xs) (j ∷ cond (is_eq (R k x)) xs (x ∷ remove_key (is_at (R k)) xs))) apart
          ∙ ap (λ b. j ∷ cond b xs (x ∷ remove_key (is_at (R k)) xs)) kx
          ∙ sym (ap (λ r. match_ordering r (j ∷ x ∷ remove_key (is_at (R k)) xs) (x ∷ remove_key (is_at (R k)) xs) (x ∷ insert_key R (remove_key (is_at (R k)) xs) j)) jx)
      by Equal jx true kx later = let no : true ≡ false = sym kx ∙ same_side jx ∙ apart in cc
      by Equal jx false kx later =
          ap (λ b. cond b xs (x ∷ remove_key (is_at (R k)) xs)) kx
          ∙ sym (ap (λ r. match_ordering r (j ∷ x ∷ remove_key (is_at (R k)) xs) (x ∷ remove_key (is_at (R k)) xs) (x ∷ insert_key R (remove_key (is_at (R k)) xs) j)) jx)
      by Greater jx true kx later = ap (λ b. cond b (insert_key R xs j) (x ∷ remove_key (is_at (R k)) (insert_key R xs j))) kx
      by Greater jx false kx later =
          ap (λ b. cond b (insert_key R xs j) (x ∷ remove_key (is_at (R k)) (insert_key R xs j))) kx ∙ ap (λ ys. x ∷ ys) later
          ∙ sym (ap (λ r. match_ordering r (j ∷ x ∷ remove_key (is_at (R k)) xs) (x ∷ remove_key (is_at (R k)) xs) (x ∷ insert_key R (remove_key (is_at (R k)) xs) j)) jx)
