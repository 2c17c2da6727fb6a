-- Combinators for grammars. A phrase relates a value to the lists of tokens that derive it.
--     Is t                 this one token
--     Sequence [P, Q, ..]     a sequence of these phrases
--     Optional P           no token for `None`, a phrase for `Some`
--     IsSeries P           a sequence of such phrases, or none
--     IsList t P           one phrase or more, separated by this token
--     AtMost n P           a list of at most n items
use Rattle.std.specs.Prelude.{◌≡◌, ℕ, ◌≤◌, List, [], ◌∷◌, ◌++◌, length, Option, Some, None}
use Rattle.rs_token.specs.declared.token.Token.{Token}

abbrev pub Phrase : Type 0 → Type 1
Phrase A = A → List Token → Type 0

abbrev pub Is : Token → List Token → Type 0
Is t ts = ts ≡ t ∷ []

-- one phrase after the other
abbrev pub Both : (List Token → Type 0) → (List Token → Type 0) → List Token → Type 0
Both P Q ts = (prefix suffix : List Token) × P prefix × Q suffix × (ts ≡ prefix ++ suffix)

abbrev pub Sequence : List (List Token → Type 0) → List Token → Type 0
Sequence [] ts = ts ≡ []
Sequence (P ∷ []) ts = P ts
Sequence (P ∷ Q ∷ Ps) ts = Both P (Sequence (Q ∷ Ps)) ts

abbrev pub Optional : {A : Type 0} → Phrase A → Phrase (Option A)
Optional P None ts = ts ≡ []
Optional P (Some x) ts = P x ts

abbrev pub IsSeries : {A : Type 0} → Phrase A → Phrase (List A)
IsSeries P [] ts = ts ≡ []
IsSeries P (x ∷ xs) ts = Both (P x) (IsSeries P xs) ts

-- a separator, then a phrase
abbrev pub After : {A : Type 0} → Token → Phrase A → Phrase A
After separator P x ts = Both (Is separator) (P x) ts

abbrev pub IsList : {A : Type 0} → Token → Phrase A → Phrase (List A)
IsList separator P [] ts = ⊥
IsList separator P (x ∷ xs) ts = Both (P x) (IsSeries (After separator P) xs) ts

abbrev pub AtMost : {A : Type 0} → ℕ → Phrase (List A) → Phrase (List A)
AtMost n P xs ts = (length xs ≤ n) × P xs ts
