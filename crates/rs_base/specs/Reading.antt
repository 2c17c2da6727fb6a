-- Readers on lists: a value that the list begins with, and the rest after it.
-- read >>= f          reads on, after what was read
-- Gives view r read   a function returned, seen by view, what reading gives, unless an allocation failed
-- Reads read r new    the same for a cursor that is left at new
-- with_prefix xs read the items before, and then those that are read
-- separated ..        items separated by a mark
use Rattle.std.specs.Prelude.{◌≡◌, ℕ, zero, suc, Bool, List, [], ◌∷◌, ◌++◌, drop, Option, Some, None, Result, Ok, Err, if◌then◌else◌}
use Rattle.rs_base.specs.declared.fault.ReadFault.{ReadFault}
use Rattle.rs_base.specs.declared.fault.ReadFault.TheVariants as faults

infixl 10 ◌>>=◌
abbrev pub ◌>>=◌ : {A B : Type 0} → Option A → (A → Option B) → Option B
None >>= f = None
(Some x) >>= f = f x

-- a reader's fault: nothing of the form begins the list; or an allocation failed, which says nothing of the list
abbrev pub Fails : {Y : Type 0} → ReadFault → Option Y → Type 0
Fails faults.Malformed read = read ≡ None
Fails faults.NoMemory read = Unit {0}

abbrev pub Gives : {X Y : Type 0} → (X → Y) → Result X ReadFault → Option Y → Type 0
Gives view (Ok x) read = read ≡ Some (view x)
Gives view (Err e) read = Fails e read

abbrev pub Reads : {X R : Type 0} → Option (X × R) → Result X ReadFault → R → Type 0
Reads read (Ok x) new = read ≡ Some (x, new)
Reads read (Err e) new = Fails e read

-- what was read before, and what is still read
abbrev pub with_prefix : {A R : Type 0} → List A → Option (List A × R) → Option (List A × R)
with_prefix prefix read = read >>= λ x. Some (prefix ++ x.0, x.1)

abbrev pub push_first : {A R : Type 0} → A → Option (List A × R) → Option (List A × R)
push_first first read = read >>= λ x. Some (first ∷ x.0, x.1)

-- One item, and a further one after each separator: at most this number in all.
abbrev pub separated : {A T : Type 0} → (List T → Option (A × List T)) → (List T → Bool) → ℕ → List T → Option (List A × List T)
separated item is_next zero ts = None
separated item is_next (suc n) ts = item ts >>= λ x. if is_next x.1 then push_first x.0 (separated item is_next n (drop 1 x.1)) else Some (x.0 ∷ [], x.1)

-- the result of a cursor that only passes over something
abbrev pub Passes : {X R : Type 0} → Option R → Result X ReadFault → R → Type 0
Passes read (Ok x) new = read ≡ Some new
Passes read (Err e) new = Fails e read
