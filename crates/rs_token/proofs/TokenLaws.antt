-- Each test of a token holds of that token only.
use Rattle.std.proofs.Common.{◌≡◌, ℕ, true, List, refl, ap, rules}
use Rattle.std.proofs.lemmas.Bool.{false≢true}
use Rattle.std.proofs.lemmas.Slice.Eq.{bytes_eq-Decides}
use denote.Enum.Bare.{same_true, true_same}
use Rattle.rs_token.specs.declared.token.Symbol.{Symbol}
use Rattle.rs_token.specs.declared.token.Token.{Token}
use Rattle.rs_token.specs.declared.token.Token.TheVariants as tokens
use Rattle.rs_token.specs.contracts.token.Symbol.{the_type}
use Rattle.rs_token.specs.Token.{same_symbol, is_symbol, is_word}

same_symbol_is : (m symbol : Symbol) → same_symbol m symbol ≡ true → m ≡ symbol
unfolding same_symbol
same_symbol_is m symbol h = same_true the_type (search rules) m symbol h

pub is_symbol_self : (symbol : Symbol) → is_symbol symbol (tokens.Symbol symbol) ≡ true
unfolding same_symbol
is_symbol_self symbol = true_same the_type symbol symbol refl

pub is_symbol_is : (symbol : Symbol) (t : Token) → is_symbol symbol t ≡ true → t ≡ tokens.Symbol symbol
is_symbol_is symbol (tokens.Word w) h = absurd (false≢true h)
is_symbol_is symbol (tokens.Number n) h = absurd (false≢true h)
is_symbol_is symbol (tokens.Text text) h = absurd (false≢true h)
is_symbol_is symbol (tokens.Symbol m) h = ap tokens.Symbol (same_symbol_is m symbol h)

pub is_word_self : (word : List ℕ) → is_word word (tokens.Word word) ≡ true
is_word_self word = (bytes_eq-Decides word word).1 refl

pub is_word_is : (word : List ℕ) (t : Token) → is_word word t ≡ true → t ≡ tokens.Word word
is_word_is word (tokens.Word w) h = ap tokens.Word ((bytes_eq-Decides w word).0 h)
is_word_is word (tokens.Number n) h = absurd (false≢true h)
is_word_is word (tokens.Text text) h = absurd (false≢true h)
is_word_is word (tokens.Symbol m) h = absurd (false≢true h)
