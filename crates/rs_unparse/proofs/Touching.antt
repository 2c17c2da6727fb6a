-- Tokens that are printed without a space between them don't run together.
use Rattle.std.proofs.Common.{◌≡◌, ℕ, Bool, true, false, ◌||◌, List, [], ◌∷◌, refl}
use Rattle.std.specs.Prelude.{◌==◌, ◌&&◌, nat_le, if◌then◌else◌}
use Rattle.std.proofs.lemmas.Bool.{false≢true}
use Rattle.rs_base.specs.Ident.{is_name_byte}
use Rattle.rs_token.specs.declared.token.Symbol.{Symbol}
use Rattle.rs_token.specs.declared.token.Symbol.TheVariants as symbols
use Rattle.rs_token.specs.declared.token.Token.{Token}
use Rattle.rs_token.specs.declared.token.Token.TheVariants as tokens
use Rattle.rs_unparse.specs.declared.ending.Ending.{Ending}
use Rattle.rs_unparse.specs.declared.ending.Ending.TheVariants as endings
use Rattle.rs_token.specs.Token.{is_symbol, same_symbol}
use Rattle.rs_unparse.specs.Printed.{printed_token, printed_symbol, is_function, ending_after, ending_symbol, closes_up, token_closes_up, touches}

-- a letter of either case, a digit or `_`
abbrev pub is_word_byte : ℕ → Bool
is_word_byte b = is_name_byte b || nat_le 65 b && nat_le b 90

-- `<` goes on to `<>` and `<=`, and `>` to `>=`
abbrev pub goes_on_symbol : Symbol → ℕ → Bool
goes_on_symbol symbols.Less b = b == 61 || b == 62
goes_on_symbol symbols.Greater b = b == 61
goes_on_symbol symbol b = false

-- whether a token's text and this byte after it begin another token, or a longer one
abbrev pub goes_on : Token → ℕ → Bool
goes_on (tokens.Word word) b = is_word_byte b
goes_on (tokens.Number n) b = is_word_byte b
goes_on (tokens.Text text) b = b == 39
goes_on (tokens.Symbol symbol) b = goes_on_symbol symbol b

abbrev pub begins : (ℕ → Bool) → List ℕ → Bool
begins p [] = false
begins p (b ∷ bs) = p b

begins_never : (p : ℕ → Bool) → ((b : ℕ) → p b ≡ false) → (bs : List ℕ) → begins p bs ≡ false
begins_never p h [] = refl
begins_never p h (b ∷ bs) = h b

or_right : (a b : Bool) → b ≡ true → (a || b) ≡ true
or_right true b h = refl
or_right false b h = h

-- a symbol that touches a word begins with one of six bytes
begins_symbol : (p : ℕ → Bool) → p 40 ≡ false → p 41 ≡ false → p 44 ≡ false → p 46 ≡ false → p 59 ≡ false → p 64 ≡ false
    → (symbol : Symbol) → (same_symbol symbol symbols.Open || closes_up symbol) ≡ true → begins p (printed_symbol symbol) ≡ false
unfolding same_symbol closes_up printed_symbol
begins_symbol p b40 b41 b44 b46 b59 b64 symbols.Open h = b40
begins_symbol p b40 b41 b44 b46 b59 b64 symbols.Close h = b41
begins_symbol p b40 b41 b44 b46 b59 b64 symbols.Comma h = b44
begins_symbol p b40 b41 b44 b46 b59 b64 symbols.Dot h = b46
begins_symbol p b40 b41 b44 b46 b59 b64 symbols.Semicolon h = b59
begins_symbol p b40 b41 b44 b46 b59 b64 symbols.At h = b64
begins_symbol p b40 b41 b44 b46 b59 b64 symbols.Star h = absurd (false≢true h)
begins_symbol p b40 b41 b44 b46 b59 b64 symbols.Colon h = absurd (false≢true h)
begins_symbol p b40 b41 b44 b46 b59 b64 symbols.Plus h = absurd (false≢true h)
begins_symbol p b40 b41 b44 b46 b59 b64 symbols.Minus h = absurd (false≢true h)
begins_symbol p b40 b41 b44 b46 b59 b64 symbols.Equal h = absurd (false≢true h)
begins_symbol p b40 b41 b44 b46 b59 b64 symbols.NotEqual h = absurd (false≢true h)
begins_symbol p b40 b41 b44 b46 b59 b64 symbols.Less h = absurd (false≢true h)
begins_symbol p b40 b41 b44 b46 b59 b64 symbols.LessOrEqual h = absurd (false≢true h)
begins_symbol p b40 b41 b44 b46 b59 b64 symbols.Greater h = absurd (false≢true h)
begins_symbol p b40 b41 b44 b46 b59 b64 symbols.GreaterOrEqual h = absurd (false≢true h)

begins_token : (p : ℕ → Bool) → p 40 ≡ false → p 41 ≡ false → p 44 ≡ false → p 46 ≡ false → p 59 ≡ false → p 64 ≡ false
    → (u : Token) → (is_symbol symbols.Open u || token_closes_up u) ≡ true → begins p (printed_token u) ≡ false
unfolding token_closes_up printed_token
begins_token p b40 b41 b44 b46 b59 b64 (tokens.Word word) h = absurd (false≢true h)
begins_token p b40 b41 b44 b46 b59 b64 (tokens.Number n) h = absurd (false≢true h)
begins_token p b40 b41 b44 b46 b59 b64 (tokens.Text text) h = absurd (false≢true h)
begins_token p b40 b41 b44 b46 b59 b64 (tokens.Symbol symbol) h = begins_symbol p b40 b41 b44 b46 b59 b64 symbol h

touches_word : (function : Bool) (u : Token) → touches (if function then endings.Function else endings.Other) u ≡ true → (is_symbol symbols.Open u || token_closes_up u) ≡ true
unfolding touches
touches_word true u h = h
touches_word false u h = or_right (is_symbol symbols.Open u) (token_closes_up u) h

touches_other : (u : Token) → touches endings.Other u ≡ true → (is_symbol symbols.Open u || token_closes_up u) ≡ true
unfolding touches
touches_other u h = or_right (is_symbol symbols.Open u) (token_closes_up u) h

touches_symbol : (u : Token) → touches endings.Symbol u ≡ true → (is_symbol symbols.Open u || token_closes_up u) ≡ true
unfolding touches
touches_symbol u h = or_right (is_symbol symbols.Open u) (token_closes_up u) h

symbol_apart : (before : Ending) (symbol : Symbol) (u : Token) → touches (ending_symbol before symbol) u ≡ true → begins (goes_on_symbol symbol) (printed_token u) ≡ false
unfolding ending_symbol
symbol_apart before symbols.Less u h = begins_token (goes_on_symbol symbols.Less) refl refl refl refl refl refl u (touches_symbol u h)
symbol_apart before symbols.Greater u h = begins_token (goes_on_symbol symbols.Greater) refl refl refl refl refl refl u (touches_symbol u h)
symbol_apart before symbols.Open u h = begins_never (goes_on_symbol symbols.Open) (λ b. refl) (printed_token u)
symbol_apart before symbols.Close u h = begins_never (goes_on_symbol symbols.Close) (λ b. refl) (printed_token u)
symbol_apart before symbols.Comma u h = begins_never (goes_on_symbol symbols.Comma) (λ b. refl) (printed_token u)
symbol_apart before symbols.Dot u h = begins_never (goes_on_symbol symbols.Dot) (λ b. refl) (printed_token u)
symbol_apart before symbols.Semicolon u h = begins_never (goes_on_symbol symbols.Semicolon) (λ b. refl) (printed_token u)
symbol_apart before symbols.At u h = begins_never (goes_on_symbol symbols.At) (λ b. refl) (printed_token u)
symbol_apart before symbols.Star u h = begins_never (goes_on_symbol symbols.Star) (λ b. refl) (printed_token u)
symbol_apart before symbols.Colon u h = begins_never (goes_on_symbol symbols.Colon) (λ b. refl) (printed_token u)
symbol_apart before symbols.Plus u h = begins_never (goes_on_symbol symbols.Plus) (λ b. refl) (printed_token u)
symbol_apart before symbols.Minus u h = begins_never (goes_on_symbol symbols.Minus) (λ b. refl) (printed_token u)
symbol_apart before symbols.Equal u h = begins_never (goes_on_symbol symbols.Equal) (λ b. refl) (printed_token u)
symbol_apart before symbols.NotEqual u h = begins_never (goes_on_symbol symbols.NotEqual) (λ b. refl) (printed_token u)
symbol_apart before symbols.LessOrEqual u h = begins_never (goes_on_symbol symbols.LessOrEqual) (λ b. refl) (printed_token u)
symbol_apart before symbols.GreaterOrEqual u h = begins_never (goes_on_symbol symbols.GreaterOrEqual) (λ b. refl) (printed_token u)

-- If u follows t without a space, the first byte of u doesn't continue the text of t.
pub touching_apart : (before : Ending) (t u : Token) → touches (ending_after before t) u ≡ true → begins (goes_on t) (printed_token u) ≡ false
unfolding ending_after
touching_apart before (tokens.Word word) u h = begins_token is_word_byte refl refl refl refl refl refl u (touches_word (is_function word) u h)
touching_apart before (tokens.Number n) u h = begins_token is_word_byte refl refl refl refl refl refl u (touches_other u h)
touching_apart before (tokens.Text text) u h = begins_token (goes_on (tokens.Text text)) refl refl refl refl refl refl u (touches_other u h)
touching_apart before (tokens.Symbol symbol) u h = symbol_apart before symbol u h
