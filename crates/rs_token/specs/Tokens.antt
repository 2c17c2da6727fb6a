-- The split of a text into tokens: from the left, the longest token first, with blanks between them. An offset is the
-- number of bytes before it.
use Rattle.std.specs.Prelude.{ℕ, zero, suc, ◌+◌, ◌-◌, ◌*◌, Bool, ◌&&◌, ◌||◌, ◌==◌, nat_le, List, [], ◌∷◌, map, fold, length, take, drop, Option, Some, None, if◌then◌else◌}
use Rattle.std.specs.List.{prefix_len}
use Rattle.std.specs.Char.{to_ascii_lowercase}
use Rattle.rs_base.specs.Ident.{is_ident}
use Rattle.rs_base.specs.Txt.{is_txt}
use Rattle.rs_base.specs.Reading.{◌>>=◌, push_first}
use Rattle.rs_token.specs.declared.token_split.Split.{Split}
use Rattle.rs_token.specs.declared.token.Symbol.{Symbol}
use Rattle.rs_token.specs.declared.token.Symbol.TheVariants as symbols
use Rattle.rs_token.specs.declared.token.Token.{Token}
use Rattle.rs_token.specs.declared.token.Token.TheVariants as tokens

-- space, tab, line feed and carriage return
abbrev pub is_blank : ℕ → Bool
is_blank b = b == 32 || b == 9 || b == 10 || b == 13

-- an ASCII letter of either case
abbrev pub is_letter : ℕ → Bool
is_letter b = nat_le 97 b && nat_le b 122 || nat_le 65 b && nat_le b 90

abbrev pub is_digit : ℕ → Bool
is_digit b = nat_le 48 b && nat_le b 57

abbrev pub is_word_byte : ℕ → Bool
is_word_byte b = is_letter b || is_digit b || b == 95

-- A word: a letter, then letters, digits or `_`, at most 24 bytes. It is read in lower case.
unfoldable pub word_at : List ℕ → Option (Token × List ℕ)
word_at bytes =
    let n = prefix_len is_word_byte bytes in
    let word = map to_ascii_lowercase (take n bytes) in
    if is_ident word then Some (tokens.Word word, drop n bytes) else None

-- the value of decimal digits
abbrev pub digits_value : List ℕ → ℕ
digits_value digits = fold (λ n digit. 10 * n + (digit - 48)) 0 digits

-- A number: at most 19 digits, and at most 2 ^ 63 - 1.
unfoldable pub number_at : List ℕ → Option (Token × List ℕ)
number_at bytes =
    let n = prefix_len is_digit bytes in
    let value = digits_value (take n bytes) in
    if nat_le n 19 && nat_le value 9223372036854775807 then Some (tokens.Number value, drop n bytes) else None

-- The bytes up to the closing quote, with each doubled quote as one, and the bytes after the closing quote.
abbrev pub quoted_at : List ℕ → Option (List ℕ × List ℕ)
quoted_at [] = None
quoted_at (b ∷ []) = if b == 39 then Some ([], []) else None
quoted_at (b ∷ c ∷ bytes) =
    if b == 39 then (if c == 39 then push_first 39 (quoted_at bytes) else Some ([], c ∷ bytes)) else push_first b (quoted_at (c ∷ bytes))

-- a text literal, after its opening quote
unfoldable pub text_at : List ℕ → Option (Token × List ℕ)
text_at bytes = quoted_at bytes >>= λ quoted. if is_txt quoted.0 then Some (tokens.Text quoted.0, quoted.1) else None

abbrev pub begins_with : ℕ → List ℕ → Bool
begins_with c [] = Bool.false
begins_with c (b ∷ bytes) = b == c

-- a symbol that begins with this byte, and may end with the next one: the longer symbol first
unfoldable pub symbol_at : ℕ → List ℕ → Option (Symbol × List ℕ)
symbol_at b bytes =
    if b == 40 then Some (symbols.Open, bytes)
    else if b == 41 then Some (symbols.Close, bytes)
    else if b == 44 then Some (symbols.Comma, bytes)
    else if b == 46 then Some (symbols.Dot, bytes)
    else if b == 59 then Some (symbols.Semicolon, bytes)
    else if b == 64 then Some (symbols.At, bytes)
    else if b == 42 then Some (symbols.Star, bytes)
    else if b == 58 then Some (symbols.Colon, bytes)
    else if b == 43 then Some (symbols.Plus, bytes)
    else if b == 45 then Some (symbols.Minus, bytes)
    else if b == 61 then Some (symbols.Equal, bytes)
    else if b == 60 then (if begins_with 62 bytes then Some (symbols.NotEqual, drop 1 bytes) else if begins_with 61 bytes then Some (symbols.LessOrEqual, drop 1 bytes) else Some (symbols.Less, bytes))
    else if b == 62 then (if begins_with 61 bytes then Some (symbols.GreaterOrEqual, drop 1 bytes) else Some (symbols.Greater, bytes))
    else None

-- the token that begins with this byte, and the bytes after it
unfoldable pub token_at : ℕ → List ℕ → Option (Token × List ℕ)
token_at b bytes =
    if is_letter b then word_at (b ∷ bytes)
    else if is_digit b then number_at (b ∷ bytes)
    else if b == 39 then text_at bytes
    else symbol_at b bytes >>= λ symbol. Some (tokens.Symbol symbol.0, symbol.1)

-- no tokens: the text ends at this offset, or no token begins there
abbrev pub ends_at : ℕ → Bool → Split
ends_at offset whole = record { tokens = []; starts = []; end = offset; whole = whole }

-- a token prepended to a split
abbrev pub put_first : ℕ → Token → Split → Split
put_first start token split = record { tokens = token ∷ split.tokens; starts = start ∷ split.starts; end = split.end; whole = split.whole }

-- the token read at this offset, if one was, prepended to the split of the bytes after it
abbrev pub taken_at : ℕ → Option (Token × List ℕ) → (Token × List ℕ → Split) → Split
taken_at at None others = ends_at at Bool.false
taken_at at (Some token) others = put_first at token.0 (others token)

-- The split of the bytes at this offset of the text, of which the first `inside` belong to the token before.
abbrev pub split_suffix : ℕ → ℕ → List ℕ → Split
split_suffix at inside [] = ends_at at Bool.true
split_suffix at (suc inside) (b ∷ bytes) = split_suffix (at + 1) inside bytes
split_suffix at zero (b ∷ bytes) =
    if is_blank b then split_suffix (at + 1) zero bytes
    else taken_at at (token_at b bytes) (λ token. split_suffix (at + 1) (length bytes - length token.1) bytes)

-- The split of a text: its tokens with their offsets, up to the text's end or the first byte reached at which no token
-- begins.
abbrev pub split_of : List ℕ → Split
split_of text = split_suffix 0 0 text
