-- Respellings: other tokens of the same phrase, and how they are combined.
use Rattle.std.proofs.Common.{◌≡◌, ℕ, ◌≤◌, List, [], ◌∷◌, ◌++◌, length, refl, sym, subst}
use Rattle.std.specs.Prelude.{flat_map}
use Rattle.rs_token.specs.declared.token.Symbol.{Symbol}
use Rattle.rs_token.specs.declared.token.Symbol.TheVariants as symbols
use Rattle.rs_token.specs.declared.token.Token.{Token}
use Rattle.rs_token.specs.declared.token.Token.TheVariants as tokens
use Rattle.rs_unparse.specs.Unparsed.{unparsed_after, unparsed_list, comma, between_brackets}
use Rattle.rs_parse.specs.Phrases.{Phrase, Is, Both, Sequence, IsSeries, After, IsList, AtMost}
use Rattle.rs_parse.specs.Grammar.{Keyword, IsSymbol, IsCommaListOrNone}
use Rattle.law_parse.proofs.TokenForms.{AreFormed}

-- If some tokens that a text may have are such a phrase, so are these, and a text may have them.
pub record IsRespelled (P : List Token → Type 0) (spelled : List Token) : Type 0 where
  pub respelled : (ts : List Token) → P ts → AreFormed ts → P spelled × AreFormed spelled

-- ---- formed tokens

pub formed_parts : (prefix suffix : List Token) → AreFormed (prefix ++ suffix) → AreFormed prefix × AreFormed suffix
formed_parts [] suffix formed = (tt, formed)
formed_parts (t ∷ prefix) suffix formed =
    let parts = formed_parts prefix suffix formed.1 in
    ((formed.0, parts.0), parts.1)

formed_both : (prefix suffix : List Token) → AreFormed prefix → AreFormed suffix → AreFormed (prefix ++ suffix)
formed_both [] suffix first second = second
formed_both (t ∷ prefix) suffix first second = (first.0, formed_both prefix suffix first.1 second)

-- ---- single tokens

pub nothing_respelled : IsRespelled (λ ts. ts ≡ []) []
nothing_respelled = record { respelled = λ ts is formed. (refl, tt) }

pub token_respelled : (t : Token) → IsRespelled (Is t) (t ∷ [])
token_respelled t = record { respelled = λ ts is formed. (refl, subst AreFormed is formed) }

pub word_respelled : (word : List ℕ) → IsRespelled (Keyword word) (tokens.Word word ∷ [])
word_respelled word = token_respelled (tokens.Word word)

pub symbol_respelled : (symbol : Symbol) → IsRespelled (IsSymbol symbol) (tokens.Symbol symbol ∷ [])
symbol_respelled symbol = token_respelled (tokens.Symbol symbol)

-- ---- sequences

both_respelled : {P Q : List Token → Type 0} {us vs : List Token} → IsRespelled P us → IsRespelled Q vs → IsRespelled (Both P Q) (us ++ vs)
both_respelled {P} {Q} {us} {vs} first second = record {
  respelled = λ ts is formed.
      let parts = formed_parts is.0 is.1 (subst AreFormed is.4 formed) in
      let one = first.respelled is.0 is.2 parts.0 in
      let two = second.respelled is.1 is.3 parts.1 in
      ((us, vs, one.0, two.0, refl), formed_both us vs one.1 two.1);
}

infixr 10 ◌▹◌
pub ◌▹◌ : {P Q : List Token → Type 0} {us vs : List Token} → IsRespelled P us → IsRespelled Q vs → IsRespelled (Both P Q) (us ++ vs)
first ▹ second = both_respelled first second

-- in parentheses
pub bracketed_respelled : {P : List Token → Type 0} {us : List Token} → IsRespelled P us → IsRespelled (Sequence (IsSymbol symbols.Open ∷ P ∷ IsSymbol symbols.Close ∷ [])) (between_brackets us)
bracketed_respelled inside = symbol_respelled symbols.Open ▹ inside ▹ symbol_respelled symbols.Close

-- the same tokens, separated otherwise
pub respelled_so : {P : List Token → Type 0} {us vs : List Token} → us ≡ vs → IsRespelled P vs → IsRespelled P us
respelled_so {P} e again = subst (λ (ts : List Token). IsRespelled P ts) (sym e) again

-- with a condition that isn't on the tokens
pub kept_respelled : (C : Type 0) {P : List Token → Type 0} {us : List Token} → IsRespelled P us → IsRespelled (λ ts. C × P ts) us
kept_respelled C again = record {
  respelled = λ ts is formed.
      let both = again.respelled ts is.1 formed in
      ((is.0, both.0), both.1);
}

-- ---- lists

pub series_respelled : {A : Type 0} {P : Phrase A} {spelled : A → List Token} → ((x : A) → IsRespelled (P x) (spelled x)) → (xs : List A) → IsRespelled (IsSeries P xs) (flat_map spelled xs)
series_respelled each [] = nothing_respelled
series_respelled each (x ∷ xs) = each x ▹ series_respelled each xs

further_respelled : {A : Type 0} {P : Phrase A} {spelled : A → List Token} (separator : Token) → ((x : A) → IsRespelled (P x) (spelled x))
    → (x : A) → IsRespelled (After separator P x) (unparsed_after separator spelled x)
further_respelled separator each x = token_respelled separator ▹ each x

pub list_respelled : {A : Type 0} {P : Phrase A} {spelled : A → List Token} (separator : Token) → ((x : A) → IsRespelled (P x) (spelled x))
    → (xs : List A) → IsRespelled (IsList separator P xs) (unparsed_list separator spelled xs)
unfolding unparsed_list
list_respelled separator each [] = record { respelled = λ ts is formed. absurd is }
list_respelled separator each (x ∷ xs) = each x ▹ series_respelled (further_respelled separator each) xs

pub at_most_respelled : {A : Type 0} {P : Phrase (List A)} {spelled : List A → List Token} (n : ℕ) → ((xs : List A) → IsRespelled (P xs) (spelled xs))
    → (xs : List A) → IsRespelled (AtMost n P xs) (spelled xs)
at_most_respelled n each xs = kept_respelled (length xs ≤ n) (each xs)

pub list_or_none_respelled : {A : Type 0} {P : Phrase A} {spelled : A → List Token} → ((x : A) → IsRespelled (P x) (spelled x))
    → (xs : List A) → IsRespelled (IsCommaListOrNone P xs) (unparsed_list comma spelled xs)
unfolding unparsed_list
list_or_none_respelled each [] = nothing_respelled
list_or_none_respelled each (x ∷ xs) = list_respelled comma each (x ∷ xs)
