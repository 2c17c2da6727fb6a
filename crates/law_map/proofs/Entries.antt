-- Entries of a map sorted by key.
use Rattle.std.proofs.Common.{◌≡◌, ◌≢◌, List, [], ◌∷◌, Bool, true, false, cond, Some, None, Ordering, Less, Equal, Greater, refl, sym, ap, ◌∙◌, is_eq}
use Rattle.std.specs.Cmp.{IsTotalOrder}
use Rattle.std.specs.BTreeMap.{insert_entry, is_at}
use Rattle.std.specs.List.{AllByRecursion}
use Rattle.std.specs.List.Sorted.{IsStrictlySortedBy}
use Rattle.std.specs.Map.{lookup, set_value, keys_of, remove_entry}
use Rattle.std.specs.Ordering.{match_ordering, ordering_reverse}
use Rattle.std.proofs.lemmas.Cmp.{tied_itself, alike_right, eq_by_cmp_equiv}
use Rattle.std.proofs.lemmas.Map.{lookup-remove_entry}
use Rattle.std.proofs.lemmas.Map.Keys.{sorted_head, sorted_tail, IsDistinct-from_sorted}
use Rattle.std.proofs.lemmas.Map.Lookups.{CmpEqualImpliesEq}

pub apart : {K : Type 0} {R : K → K → Ordering} → CmpEqualImpliesEq R → (x y : K) → x ≢ y → is_eq (R x y) ≡ false
apart {K} {R} exact x y differ =
    let at : (r : Ordering) → R x y ≡ r → is_eq r ≡ false
    = λ r. elim r as (λ r. R x y ≡ r → is_eq r ≡ false) [ Less ↦ λ h. refl | Equal ↦ λ h. absurd (differ (exact x y h)) | Greater ↦ λ h. refl ] in
    at (R x y) refl

module _ {K X : Type 0} {R : K → K → Ordering} (o : IsTotalOrder R) (k : K) where
  -- no later key is k if an earlier one is above it
  lookup_below : (e : K) (es : List (K × X)) → R k e ≡ Less → AllByRecursion (λ y. R e y ≡ Less) (keys_of es) → lookup (is_at (R k)) es ≡ None
  lookup_below e [] h all = refl
  lookup_below e (f ∷ es) h all =
      let here : R k f.0 ≡ Less = o.trans k e f.0 h all.0 in
      ap (λ r. cond (is_eq r) (Some f.1) (lookup (is_at (R k)) es)) here ∙ lookup_below e es h all.1

  -- a value replaced
  pub set_value_is_insert_entry : (es : List (K × X)) (v w : X) → IsStrictlySortedBy R (keys_of es) → lookup (is_at (R k)) es ≡ Some v
      → set_value (is_at (R k)) es w ≡ insert_entry R es k w
  set_value_is_insert_entry [] v w up found = cc
  set_value_is_insert_entry (e ∷ es) v w up found =
      let at : (r : Ordering) → R k e.0 ≡ r → cond (is_eq r) (Some e.1) (lookup (is_at (R k)) es) ≡ Some v
      → cond (is_eq r) ((e.0, w) ∷ es) (e ∷ set_value (is_at (R k)) es w) ≡ match_ordering r ((k, w) ∷ e ∷ es) ((e.0, w) ∷ es) (e ∷ insert_entry R es k w)
      = λ r. elim r as (λ r. R k e.0 ≡ r → cond (is_eq r) (Some e.1) (lookup (is_at (R k)) es) ≡ Some v
      → cond (is_eq r) ((e.0, w) ∷ es) (e ∷ set_value (is_at (R k)) es w) ≡ match_ordering r ((k, w) ∷ e ∷ es) ((e.0, w) ∷ es) (e ∷ insert_entry R es k w)) [
        | Less ↦ λ h there. let absent : lookup (is_at (R k)) es ≡ None = lookup_below e.0 es h (sorted_head R e.0 (keys_of es) up) in cc
        | Equal ↦ λ h there. refl
        | Greater ↦ λ h there. ap (λ fs. e ∷ fs) (set_value_is_insert_entry es v w (sorted_tail R e.0 (keys_of es) up) there)
      ] in
      at (R k e.0) refl found

  module _ (v : X) where
    -- the inserted key has its value
    pub lookup_put : (es : List (K × X)) → lookup (is_at (R k)) (insert_entry R es k v) ≡ Some v
    lookup_put [] = ap (λ r. cond (is_eq r) (Some v) None) (tied_itself o k)
    lookup_put (e ∷ es) =
        let at : (r : Ordering) → R k e.0 ≡ r → lookup (is_at (R k)) (match_ordering r ((k, v) ∷ e ∷ es) ((e.0, v) ∷ es) (e ∷ insert_entry R es k v)) ≡ Some v
        = λ r. elim r as (λ r. R k e.0 ≡ r → lookup (is_at (R k)) (match_ordering r ((k, v) ∷ e ∷ es) ((e.0, v) ∷ es) (e ∷ insert_entry R es k v)) ≡ Some v) [
          | Less ↦ λ h. ap (λ s. cond (is_eq s) (Some v) (lookup (is_at (R k)) (e ∷ es))) (tied_itself o k)
          | Equal ↦ λ h. ap (λ s. cond (is_eq s) (Some v) (lookup (is_at (R k)) es)) h
          | Greater ↦ λ h. ap (λ s. cond (is_eq s) (Some e.1) (lookup (is_at (R k)) (insert_entry R es k v))) h ∙ lookup_put es
        ] in
        at (R k e.0) refl

    -- each other key keeps its value
    pub lookup_beside : (q : K) → is_eq (R q k) ≡ false → (es : List (K × X)) → lookup (is_at (R q)) (insert_entry R es k v) ≡ lookup (is_at (R q)) es
    lookup_beside q apart [] = ap (λ b. cond b (Some v) None) apart
    lookup_beside q apart (e ∷ es) =
        let at : (r : Ordering) → R k e.0 ≡ r → lookup (is_at (R q)) (match_ordering r ((k, v) ∷ e ∷ es) ((e.0, v) ∷ es) (e ∷ insert_entry R es k v)) ≡ lookup (is_at (R q)) (e ∷ es)
        = λ r. elim r as (λ r. R k e.0 ≡ r → lookup (is_at (R q)) (match_ordering r ((k, v) ∷ e ∷ es) ((e.0, v) ∷ es) (e ∷ insert_entry R es k v)) ≡ lookup (is_at (R q)) (e ∷ es)) [
          | Less ↦ λ h. ap (λ b. cond b (Some v) (lookup (is_at (R q)) (e ∷ es))) apart
          | Equal ↦ λ h.
              let other : is_eq (R q e.0) ≡ false = ap is_eq (sym (alike_right o k e.0 q h)) ∙ apart in
              ap (λ b. cond b (Some v) (lookup (is_at (R q)) es)) other ∙ sym (ap (λ b. cond b (Some e.1) (lookup (is_at (R q)) es)) other)
          | Greater ↦ λ h. ap (λ found. cond (is_eq (R q e.0)) (Some e.1) found) (lookup_beside q apart es)
        ] in
        at (R k e.0) refl

    -- sorted keys stay sorted
    all_keys_put : (P : K → Type 0) (es : List (K × X)) → P k → AllByRecursion P (keys_of es) → AllByRecursion P (keys_of (insert_entry R es k v))
    all_keys_put P [] here all = (here, tt)
    all_keys_put P (e ∷ es) here all =
        let later : AllByRecursion P (keys_of (e ∷ insert_entry R es k v)) = (all.0, all_keys_put P es here all.1) in
        elim (R k e.0) as (λ r. AllByRecursion P (keys_of (match_ordering r ((k, v) ∷ e ∷ es) ((e.0, v) ∷ es) (e ∷ insert_entry R es k v))))
        [ Less ↦ (here, all) | Equal ↦ all | Greater ↦ later ]

    all_above : (e : K) (ks : List K) → R k e ≡ Less → AllByRecursion (λ y. R e y ≡ Less) ks → AllByRecursion (λ y. R k y ≡ Less) ks
    all_above e [] h all = tt
    all_above e (y ∷ ks) h all = (o.trans k e y h all.0, all_above e ks h all.1)

    pub keys_stay_sorted : (es : List (K × X)) → IsStrictlySortedBy R (keys_of es) → IsStrictlySortedBy R (keys_of (insert_entry R es k v))
    unfolding IsStrictlySortedBy
    keys_stay_sorted [] up = (tt, tt)
    keys_stay_sorted (e ∷ es) up =
        let at : (r : Ordering) → R k e.0 ≡ r → IsStrictlySortedBy R (keys_of (match_ordering r ((k, v) ∷ e ∷ es) ((e.0, v) ∷ es) (e ∷ insert_entry R es k v)))
        = λ r. elim r as (λ r. R k e.0 ≡ r → IsStrictlySortedBy R (keys_of (match_ordering r ((k, v) ∷ e ∷ es) ((e.0, v) ∷ es) (e ∷ insert_entry R es k v)))) [
          | Less ↦ λ h. ((h, all_above e.0 (keys_of es) h up.0), up)
          | Equal ↦ λ h. up
          | Greater ↦ λ h. (all_keys_put (λ y. R e.0 y ≡ Less) es (o.antisymm e.0 k ∙ ap ordering_reverse h) up.0, keys_stay_sorted es up.1)
        ] in
        at (R k e.0) refl

---- removed entries

module _ {K X : Type 0} (R : K → K → Ordering) (test : K → Bool) where
  all_keys_left : (P : K → Type 0) (es : List (K × X)) → AllByRecursion P (keys_of es) → AllByRecursion P (keys_of (remove_entry test es))
  all_keys_left P [] all = tt
  all_keys_left P (e ∷ es) all =
      elim (test e.0) as (λ b. AllByRecursion P (keys_of (cond b es (e ∷ remove_entry test es)))) [ true ↦ all.1 | false ↦ (all.0, all_keys_left P es all.1) ]

  -- sorted keys stay sorted
  pub left_in_order : (es : List (K × X)) → IsStrictlySortedBy R (keys_of es) → IsStrictlySortedBy R (keys_of (remove_entry test es))
  unfolding IsStrictlySortedBy
  left_in_order [] up = up
  left_in_order (e ∷ es) up =
      elim (test e.0) as (λ b. IsStrictlySortedBy R (keys_of (cond b es (e ∷ remove_entry test es))))
      [ true ↦ up.1 | false ↦ (all_keys_left (λ y. R e.0 y ≡ Less) es up.0, left_in_order es up.1) ]

module _ {K X : Type 0} {R : K → K → Ordering} (o : IsTotalOrder R) where
  -- each other key keeps its value
  pub lookup_left : (q k : K) → is_eq (R q k) ≡ false → (es : List (K × X)) → lookup (is_at (R q)) (remove_entry (is_at (R k)) es) ≡ lookup (is_at (R q)) es
  lookup_left q k differ [] = refl
  lookup_left q k differ (e ∷ es) =
      let Claim : Ordering → Type 0 = λ r. R k e.0 ≡ r → lookup (is_at (R q)) (cond (is_eq r) es (e ∷ remove_entry (is_at (R k)) es)) ≡ lookup (is_at (R q)) (e ∷ es) in
      let later : cond (is_eq (R q e.0)) (Some e.1) (lookup (is_at (R q)) (remove_entry (is_at (R k)) es)) ≡ lookup (is_at (R q)) (e ∷ es)
      = ap (λ found. cond (is_eq (R q e.0)) (Some e.1) found) (lookup_left q k differ es) in
      let at : (r : Ordering) → Claim r = λ r. elim r as Claim [
        | Less ↦ λ h. later
        | Equal ↦ λ h.
            let other : is_eq (R q e.0) ≡ false = ap is_eq (sym (alike_right o k e.0 q h)) ∙ differ in
            sym (ap (λ b. cond b (Some e.1) (lookup (is_at (R q)) es)) other)
        | Greater ↦ λ h. later
      ] in
      at (R k e.0) refl

  -- the removed key has no value
  pub lookup_gone : (k : K) (es : List (K × X)) → IsStrictlySortedBy R (keys_of es) → lookup (is_at (R k)) (remove_entry (is_at (R k)) es) ≡ None
  lookup_gone k es up =
      lookup-remove_entry (eq_by_cmp_equiv o) (is_at (R k)) (λ x y h. (eq_by_cmp_equiv o).congr k x y h) k es (IsDistinct-from_sorted R (keys_of es) up)
      ∙ ap (λ r. cond (is_eq r) None (lookup (is_at (R k)) es)) (tied_itself o k)
