-- The loop that takes the items of a list: one more item, the end, and an item that isn't there.
use Rattle.std.proofs.Common.{◌≡◌, ℕ, zero, suc, ◌+◌, ◌-◌, ◌<◌, ◌≤◌, List, [], ◌∷◌, ◌++◌, Option, Some, None, refl, sym, ap, ◌∙◌, append_assoc, arith, rules}
use Rattle.rs_base.specs.Reading.{◌>>=◌, with_prefix}
use Rattle.rs_encode.specs.Form.{Form, items_at}

-- an item that was read is appended to those before
with_one : {A : Type 0} (prefix : List A) (x : A) (read : Option (List A × List ℕ)) → with_prefix prefix (read >>= λ xs. Some (x ∷ xs.0, xs.1)) ≡ with_prefix (prefix ++ x ∷ []) read
with_one {A} prefix x (Some xs) = ap (λ (ys : List A). Some (ys, xs.1)) (sym (append_assoc prefix (x ∷ []) xs.0))
with_one prefix x None = refl

module _ {T : Type 0} (form : Form T) where
  first_item : (n : ℕ) (ts rest : List ℕ) (x : T) → form.at ts ≡ Some (x, rest) → items_at form (suc n) ts ≡ (items_at form n rest >>= λ xs. Some (x ∷ xs.0, xs.1))
  first_item n ts rest x read = ap (λ (o : Option (T × List ℕ)). o >>= λ y. items_at form n y.1 >>= λ ys. Some (y.0 ∷ ys.0, ys.1)) read

  -- another item was read
  pub item_more : (prefix grown : List T) (n i : ℕ) (ts rest : List ℕ) (x : T) (total : Option (List T × List ℕ)) → i < n → form.at ts ≡ Some (x, rest) → grown ≡ prefix ++ x ∷ []
      → with_prefix prefix (items_at form (n - i) ts) ≡ total → with_prefix grown (items_at form (n - (i + 1)) rest) ≡ total
  item_more prefix grown n i ts rest x total lt read pushed so_far =
      let k : n - i ≡ suc (n - (i + 1)) = omega arith in
      let here = rw k at so_far in
      rw pushed (sym (with_one prefix x (items_at form (n - (i + 1)) rest)) ∙ sym (ap (with_prefix prefix) (first_item (n - (i + 1)) ts rest x read)) ∙ here)

  -- no other item is there
  pub item_none : (prefix : List T) (n i : ℕ) (ts : List ℕ) (total : Option (List T × List ℕ)) → i < n → form.at ts ≡ None
      → with_prefix prefix (items_at form (n - i) ts) ≡ total → total ≡ None
  item_none prefix n i ts total lt none so_far =
      let k : n - i ≡ suc (n - (i + 1)) = omega arith in
      let here = rw k at so_far in
      sym here ∙ ap (λ (o : Option (T × List ℕ)). with_prefix prefix (o >>= λ y. items_at form (n - (i + 1)) y.1 >>= λ ys. Some (y.0 ∷ ys.0, ys.1))) none

  -- all items were read
  pub items_end : (prefix : List T) (n i : ℕ) (ts : List ℕ) (total : Option (List T × List ℕ)) → n ≤ i → with_prefix prefix (items_at form (n - i) ts) ≡ total → total ≡ Some (prefix, ts)
  items_end prefix n i ts total past so_far =
      let k : n - i ≡ zero = omega arith in
      let here = rw k at so_far in
      sym here ∙ ap (λ (ys : List T). Some (ys, ts)) (search rules)
