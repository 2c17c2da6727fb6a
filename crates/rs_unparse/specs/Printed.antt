-- The text of a statement: its tokens, with a space between two unless they touch.
use Rattle.std.specs.Prelude.{ℕ, Bool, true, false, ◌||◌, List, [], ◌∷◌, ◌++◌, map, codes, decimal, if◌then◌else◌}
use Rattle.std.specs.Char.{to_ascii_uppercase}
use Rattle.rs_base.specs.Printing.{printed_text}
use Rattle.rs_token.specs.declared.token.Symbol.{Symbol}
use Rattle.rs_token.specs.declared.token.Symbol.TheVariants as symbols
use Rattle.rs_token.specs.declared.token.Token.{Token}
use Rattle.rs_token.specs.declared.token.Token.TheVariants as tokens
use Rattle.rs_unparse.specs.declared.ending.Ending.{Ending}
use Rattle.rs_unparse.specs.declared.ending.Ending.TheVariants as endings
use Rattle.rs_ast.specs.declared.stmt.Stmt.{Stmt}
use Rattle.rs_token.specs.Reserved.{is_among, is_reserved}
use Rattle.rs_token.specs.Token.{is_symbol}
use Rattle.rs_unparse.specs.Unparsed.{unparsed_stmt}

-- ---- tokens

-- a reserved word is printed in upper case
unfoldable pub printed_word : List ℕ → List ℕ
printed_word word = if is_reserved word then map to_ascii_uppercase word else word

unfoldable pub printed_symbol : Symbol → List ℕ
printed_symbol symbols.Open = codes "("
printed_symbol symbols.Close = codes ")"
printed_symbol symbols.Comma = codes ","
printed_symbol symbols.Dot = codes "."
printed_symbol symbols.Semicolon = codes ";"
printed_symbol symbols.At = codes "@"
printed_symbol symbols.Star = codes "*"
printed_symbol symbols.Colon = codes ":"
printed_symbol symbols.Plus = codes "+"
printed_symbol symbols.Minus = codes "-"
printed_symbol symbols.Equal = codes "="
printed_symbol symbols.NotEqual = codes "<>"
printed_symbol symbols.Less = codes "<"
printed_symbol symbols.LessOrEqual = codes "<="
printed_symbol symbols.Greater = codes ">"
printed_symbol symbols.GreaterOrEqual = codes ">="

unfoldable pub printed_token : Token → List ℕ
printed_token (tokens.Word word) = printed_word word
printed_token (tokens.Number n) = decimal n
printed_token (tokens.Text text) = printed_text text
printed_token (tokens.Symbol symbol) = printed_symbol symbol

-- ---- tokens without a space before them

-- the aggregate functions
unfoldable pub is_function : List ℕ → Bool
is_function word = is_among (codes "count" ∷ codes "sum" ∷ codes "min" ∷ codes "max" ∷ []) word

-- a minus after a symbol, or at the start, is a sign
unfoldable pub ending_minus : Ending → Ending
ending_minus endings.Start = endings.Tight
ending_minus endings.Tight = endings.Tight
ending_minus endings.Function = endings.Symbol
ending_minus endings.Symbol = endings.Tight
ending_minus endings.Other = endings.Symbol

unfoldable pub ending_symbol : Ending → Symbol → Ending
ending_symbol before symbols.Open = endings.Tight
ending_symbol before symbols.Dot = endings.Tight
ending_symbol before symbols.At = endings.Tight
ending_symbol before symbols.Colon = endings.Tight
ending_symbol before symbols.Minus = ending_minus before
ending_symbol before symbol = endings.Symbol

-- what the text ends with after this token, by what it ended with before
unfoldable pub ending_after : Ending → Token → Ending
ending_after before (tokens.Word word) = if is_function word then endings.Function else endings.Other
ending_after before (tokens.Number n) = endings.Other
ending_after before (tokens.Text text) = endings.Other
ending_after before (tokens.Symbol symbol) = ending_symbol before symbol

-- a symbol that touches the token before it
unfoldable pub closes_up : Symbol → Bool
closes_up symbols.Close = true
closes_up symbols.Comma = true
closes_up symbols.Dot = true
closes_up symbols.Semicolon = true
closes_up symbols.At = true
closes_up symbol = false

unfoldable pub token_closes_up : Token → Bool
token_closes_up (tokens.Word word) = false
token_closes_up (tokens.Number n) = false
token_closes_up (tokens.Text text) = false
token_closes_up (tokens.Symbol symbol) = closes_up symbol

-- whether a token touches the text before it, by the text's ending
unfoldable pub touches : Ending → Token → Bool
touches endings.Start token = true
touches endings.Tight token = true
touches endings.Function token = is_symbol symbols.Open token || token_closes_up token
touches endings.Symbol token = token_closes_up token
touches endings.Other token = token_closes_up token

-- ---- texts

-- a token after a text with this ending
unfoldable pub printed_next : Ending → Token → List ℕ
printed_next before token = if touches before token then printed_token token else 32 ∷ printed_token token

abbrev pub printed_after : Ending → List Token → List ℕ
printed_after before [] = []
printed_after before (token ∷ more) = printed_next before token ++ printed_after (ending_after before token) more

abbrev pub printed_tokens : List Token → List ℕ
printed_tokens unparsed = printed_after endings.Start unparsed

abbrev pub printed_stmt : Stmt → List ℕ
printed_stmt stmt = printed_tokens (unparsed_stmt stmt)
