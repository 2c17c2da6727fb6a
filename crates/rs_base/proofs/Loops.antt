-- Loops that build a list before what is still to be read. At such a loop the invariant is
-- `with_prefix found (read rest) ≡ read whole`.
use Rattle.std.proofs.Common.{◌≡◌, ℕ, zero, suc, Bool, true, false, List, [], ◌∷◌, ◌++◌, drop, Option, Some, None, refl, sym, ap, ◌∙◌, append_assoc}
use Rattle.rs_base.specs.declared.fault.ReadFault.{ReadFault}
use Rattle.rs_base.specs.declared.fault.ReadFault.TheVariants as faults
use Rattle.rs_base.specs.Reading.{◌>>=◌, Fails, with_prefix, push_first, separated}

-- an item that was read is appended to those before
pub with_prefix-push_first : {A R : Type 0} (prefix : List A) (first : A) (read : Option (List A × R)) → with_prefix prefix (push_first first read) ≡ with_prefix (prefix ++ first ∷ []) read
with_prefix-push_first prefix first None = refl
with_prefix-push_first {A} {R} prefix first (Some x) = ap (λ (items : List A). Some (items, x.1)) (sym (append_assoc prefix (first ∷ []) x.0))

-- nothing before
pub with_prefix-none : {A R : Type 0} (read : Option (List A × R)) → with_prefix [] read ≡ read
with_prefix-none None = refl
with_prefix-none (Some x) = refl

-- a reader that stops at a fault stops the loop with it
pub Fails-with_prefix : {A R : Type 0} (fault : ReadFault) (prefix : List A) (read total : Option (List A × R)) → Fails fault read → with_prefix prefix read ≡ total → Fails fault total
Fails-with_prefix faults.Malformed prefix read total h so_far = sym so_far ∙ ap (with_prefix prefix) h
Fails-with_prefix faults.NoMemory prefix read total h so_far = tt

-- a fault of the first step is the fault of the whole
pub Fails-bind : {A B : Type 0} (fault : ReadFault) (read : Option A) (f : A → Option B) → Fails fault read → Fails fault (read >>= f)
Fails-bind faults.Malformed read f h = ap (λ (o : Option _). o >>= f) h
Fails-bind faults.NoMemory read f h = tt

module _ {A T : Type 0} (item : List T → Option (A × List T)) (is_next : List T → Bool) where
  -- an item was read, and a separator follows it
  pub separated-goes_on : (prefix : List A) (n : ℕ) (ts : List T) (x : A) (rest : List T) (total : Option (List A × List T)) → item ts ≡ Some (x, rest) → is_next rest ≡ true
      → with_prefix prefix (separated item is_next (suc n) ts) ≡ total → with_prefix (prefix ++ x ∷ []) (separated item is_next n (drop 1 rest)) ≡ total
  separated-goes_on prefix n ts x rest total read next so_far =
      let one : separated item is_next (suc n) ts ≡ push_first x (separated item is_next n (drop 1 rest)) = rw (read, next) refl in
      sym (with_prefix-push_first prefix x (separated item is_next n (drop 1 rest))) ∙ sym (ap (with_prefix prefix) one) ∙ so_far

  -- an item was read, and no separator follows it
  pub separated-ends : (prefix : List A) (n : ℕ) (ts : List T) (x : A) (rest : List T) (total : Option (List A × List T)) → item ts ≡ Some (x, rest) → is_next rest ≡ false
      → with_prefix prefix (separated item is_next (suc n) ts) ≡ total → total ≡ Some (prefix ++ x ∷ [], rest)
  separated-ends prefix n ts x rest total read next so_far =
      let one : separated item is_next (suc n) ts ≡ Some (x ∷ [], rest) = rw (read, next) refl in
      sym so_far ∙ ap (with_prefix prefix) one

  -- no item could be read
  pub separated-fails : (fault : ReadFault) (prefix : List A) (n : ℕ) (ts : List T) (total : Option (List A × List T)) → Fails fault (item ts)
      → with_prefix prefix (separated item is_next (suc n) ts) ≡ total → Fails fault total
  separated-fails faults.Malformed prefix n ts total h so_far =
      let one : separated item is_next (suc n) ts ≡ None = rw h refl in
      sym so_far ∙ ap (with_prefix prefix) one
  separated-fails faults.NoMemory prefix n ts total h so_far = tt

  -- the limit is reached, and a further item was to come
  pub separated-too_many : (prefix : List A) (ts : List T) (total : Option (List A × List T)) → with_prefix prefix (separated item is_next zero ts) ≡ total → total ≡ None
  separated-too_many prefix ts total so_far = sym so_far
