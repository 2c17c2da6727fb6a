-- The result of a reader of tokens: the value that begins the tokens, with the tokens after it; or a fault, with the
-- tokens from the first one that can't belong to such a value.
--     read >>= f          reads on, after what was read
--     Reads read r new    a function's result and its cursor agree with the reader's, unless an allocation failed
use Rattle.std.specs.Prelude.{◌≡◌, ℕ, zero, suc, Bool, List, [], ◌∷◌, length, Option, Some, None, Result, Ok, Err, if◌then◌else◌}
use Rattle.rs_base.specs.declared.fault.ReadFault.{ReadFault}
use Rattle.rs_base.specs.declared.fault.ReadFault.TheVariants as faults
use Rattle.rs_token.specs.declared.token.Token.{Token}

pub data Read (A : Type 0) : Type 0 where
  Got : (value : A) → (rest : List Token) → Read A
  Fault : (rest : List Token) → Read A

infixl 10 ◌>>=◌
abbrev pub ◌>>=◌ : {A B : Type 0} → Read A → (A × List Token → Read B) → Read B
(Got value rest) >>= f = f (value, rest)
(Fault rest) >>= f = Fault rest

abbrev pub Reads : {A : Type 0} → Read A → Result A ReadFault → List Token → Type 0
Reads read (Ok x) new = read ≡ Got x new
Reads read (Err faults.Malformed) new = read ≡ Fault new
Reads read (Err faults.NoMemory) new = Unit {0}

-- ---- single tokens

abbrev pub got_one : {A : Type 0} → Option A → Token → List Token → Read A
got_one (Some x) t ts = Got x ts
got_one None t ts = Fault (t ∷ ts)

-- the value that a token means, if it means one
abbrev pub one_at : {A : Type 0} → (Token → Option A) → List Token → Read A
one_at meant [] = Fault []
one_at meant (t ∷ ts) = got_one (meant t) t ts

-- there is a first token, and it passes the test
abbrev pub begins : (Token → Bool) → List Token → Bool
begins is [] = Bool.false
begins is (t ∷ ts) = is t

-- one reader if the first token passes the test, and another if not
abbrev pub either_at : {A : Type 0} → (Token → Bool) → (List Token → Read A) → (List Token → Read A) → List Token → Read A
either_at is one other ts = if begins is ts then one ts else other ts

-- a token that passes the test
abbrev pub where_so : Bool → Option (Unit {0})
where_so test = if test then Some tt else None

abbrev pub passed : (Token → Bool) → Token → Option (Unit {0})
passed is t = where_so (is t)

abbrev pub pass_at : (Token → Bool) → List Token → Read (Unit {0})
pass_at is ts = one_at (passed is) ts

-- a reader if the first token passes the test, and otherwise nothing
abbrev pub optional_at : {A : Type 0} → (Token → Bool) → (List Token → Read A) → List Token → Read (Option A)
optional_at is read ts = if begins is ts then (read ts >>= λ x. Got (Some x.0) x.1) else Got None ts

-- ---- lists

-- items while the first token passes the test, at most this number
abbrev pub series_at : {A : Type 0} → (Token → Bool) → (List Token → Read A) → ℕ → List Token → Read (List A)
series_at is_next next zero ts = Got [] ts
series_at is_next next (suc n) ts =
    if begins is_next ts then (next ts >>= λ x. series_at is_next next n x.1 >>= λ xs. Got (x.0 ∷ xs.0) xs.1) else Got [] ts

-- one item, and at most `n` others
abbrev pub more_at : {A : Type 0} → (Token → Bool) → (List Token → Read A) → (List Token → Read A) → ℕ → List Token → Read (List A)
more_at is_next first next n ts = first ts >>= λ x. series_at is_next next n x.1 >>= λ xs. Got (x.0 ∷ xs.0) xs.1

abbrev pub suffix_at : {A : Type 0} → (Token → Bool) → (List Token → Read A) → List Token → Read A
suffix_at is_separator item ts = pass_at is_separator ts >>= λ separator. item separator.1

-- one item, and at most `n` others, each after a separator
abbrev pub separated_at : {A : Type 0} → (Token → Bool) → (List Token → Read A) → ℕ → List Token → Read (List A)
separated_at is_separator item n ts = more_at is_separator item (suffix_at is_separator item) n ts

-- one item, and any number of others, each after a separator: they are no more than the tokens
abbrev pub all_at : {A : Type 0} → (Token → Bool) → (List Token → Read A) → List Token → Read (List A)
all_at is_separator item ts = separated_at is_separator item (length ts) ts
