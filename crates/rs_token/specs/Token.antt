-- Tests of tokens.
use Rattle.std.specs.Prelude.{ℕ, Bool, false, List, bytes_eq}
use denote.Enum.Bare.{sameb}
use Rattle.rs_token.specs.declared.token.Symbol.{Symbol}
use Rattle.rs_token.specs.declared.token.Token.{Token}
use Rattle.rs_token.specs.declared.token.Token.TheVariants as tokens
use Rattle.rs_token.specs.contracts.token.Symbol.{the_type}

unfoldable pub same_symbol : Symbol → Symbol → Bool
same_symbol = sameb the_type

-- the token is this word, in lower case
abbrev pub is_word : List ℕ → Token → Bool
is_word word (tokens.Word w) = bytes_eq w word
is_word word (tokens.Number n) = false
is_word word (tokens.Text text) = false
is_word word (tokens.Symbol symbol) = false

abbrev pub is_symbol : Symbol → Token → Bool
is_symbol symbol (tokens.Word w) = false
is_symbol symbol (tokens.Number n) = false
is_symbol symbol (tokens.Text text) = false
is_symbol symbol (tokens.Symbol m) = same_symbol m symbol
