-- The loop that reads a list: the items so far, then those that are read in the remaining iterations.
use Rattle.std.proofs.Common.{◌≡◌, ℕ, zero, suc, ◌+◌, ◌-◌, ◌<◌, ◌≤◌, Bool, true, false, List, [], ◌∷◌, ◌++◌, append_assoc, refl, sym, ap, ◌∙◌, arith, rules}
use Rattle.rs_token.specs.declared.token.Token.{Token}
use Rattle.rs_parse.specs.Read.{Read, Got, Fault, ◌>>=◌, begins, series_at}

abbrev pub with_prefix : {A : Type 0} → List A → Read (List A) → Read (List A)
with_prefix prefix (Got xs rest) = Got (prefix ++ xs) rest
with_prefix prefix (Fault rest) = Fault rest

-- an item that was read is appended to those before
with_one : {A : Type 0} (prefix : List A) (x : A) (read : Read (List A)) → with_prefix prefix (read >>= λ xs. Got (x ∷ xs.0) xs.1) ≡ with_prefix (prefix ++ x ∷ []) read
with_one {A} prefix x (Got xs rest) = ap (λ (ys : List A). Got ys rest) (sym (append_assoc prefix (x ∷ []) xs))
with_one prefix x (Fault rest) = refl

with_none : {A : Type 0} (prefix : List A) (rest : List Token) → with_prefix prefix (Got [] rest) ≡ Got prefix rest
with_none {A} prefix rest = ap (λ (ys : List A). Got ys rest) (search rules)

module _ {A : Type 0} (is_next : Token → Bool) (next : List Token → Read A) where
  step : (n : ℕ) (ts : List Token) (x : A) (rest : List Token) → begins is_next ts ≡ true → next ts ≡ Got x rest
      → series_at is_next next (suc n) ts ≡ (series_at is_next next n rest >>= λ xs. Got (x ∷ xs.0) xs.1)
  step n ts x rest is read = rw (is, read) refl

  -- another item was read
  pub series_more : (prefix grown : List A) (n i : ℕ) (ts : List Token) (going : Bool) (x : A) (rest : List Token) (total : Read (List A)) → i < n → going ≡ begins is_next ts → going ≡ true
      → next ts ≡ Got x rest → grown ≡ prefix ++ x ∷ [] → with_prefix prefix (series_at is_next next (n - i) ts) ≡ total → with_prefix grown (series_at is_next next (n - (i + 1)) rest) ≡ total
  series_more prefix grown n i ts going x rest total lt is went read pushed so_far =
      let k : n - i ≡ suc (n - (i + 1)) = omega arith in
      let here = rw k at so_far in
      rw pushed (sym (with_one prefix x (series_at is_next next (n - (i + 1)) rest)) ∙ sym (ap (with_prefix prefix) (step (n - (i + 1)) ts x rest (sym is ∙ went) read)) ∙ here)

  none : (n : ℕ) (ts : List Token) → begins is_next ts ≡ false → series_at is_next next n ts ≡ Got [] ts
  none zero ts is = refl
  none (suc n) ts is = rw is refl

  -- no other item begins
  pub series_ends : (prefix : List A) (n : ℕ) (ts : List Token) (going : Bool) (total : Read (List A)) → going ≡ begins is_next ts → going ≡ false → with_prefix prefix (series_at is_next next n ts) ≡ total
      → total ≡ Got prefix ts
  series_ends prefix n ts going total is went so_far = sym so_far ∙ ap (with_prefix prefix) (none n ts (sym is ∙ went)) ∙ with_none prefix ts

  -- the list is full
  pub series_full : (prefix : List A) (n i : ℕ) (ts : List Token) (total : Read (List A)) → n ≤ i → with_prefix prefix (series_at is_next next (n - i) ts) ≡ total → total ≡ Got prefix ts
  series_full prefix n i ts total past so_far =
      let k : n - i ≡ zero = omega arith in
      let here = rw k at so_far in
      sym here ∙ with_none prefix ts
