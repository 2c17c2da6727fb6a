-- A printed symbol is read again, if no byte follows that makes it a longer one.
use Rattle.std.proofs.Common.{◌≡◌, ℕ, false, eqb, List, [], ◌∷◌, ◌++◌, Some, refl}
use Rattle.std.proofs.lemmas.Bool.{or_parts}
use Rattle.rs_token.specs.declared.token.Symbol.{Symbol}
use Rattle.rs_token.specs.declared.token.Symbol.TheVariants as symbols
use Rattle.rs_token.specs.declared.token.Token.TheVariants as tokens
use Rattle.rs_unparse.specs.Printed.{printed_symbol}
use Rattle.rs_unparse.proofs.Touching.{begins, goes_on_symbol}
use Rattle.rs_token.specs.Tokens.{symbol_at, token_at}
use Rattle.rs_token.specs.Scanning.{token_here}

less_again : (rest : List ℕ) → begins (goes_on_symbol symbols.Less) rest ≡ false → token_here (60 ∷ rest) ≡ Some (tokens.Symbol symbols.Less, rest)
unfolding token_here token_at symbol_at
less_again [] apart = refl
less_again (b ∷ rest) apart =
    let both = or_parts (eqb b 61) (eqb b 62) apart in
    let equal : eqb b 61 ≡ false = both.0 in
    let greater : eqb b 62 ≡ false = both.1 in
    rw (greater, equal) refl

greater_again : (rest : List ℕ) → begins (goes_on_symbol symbols.Greater) rest ≡ false → token_here (62 ∷ rest) ≡ Some (tokens.Symbol symbols.Greater, rest)
unfolding token_here token_at symbol_at
greater_again [] apart = refl
greater_again (b ∷ rest) apart = let equal : eqb b 61 ≡ false = apart in rw equal refl

pub symbol_again : (symbol : Symbol) (rest : List ℕ) → begins (goes_on_symbol symbol) rest ≡ false → token_here (printed_symbol symbol ++ rest) ≡ Some (tokens.Symbol symbol, rest)
unfolding token_here token_at symbol_at printed_symbol
symbol_again symbols.Less rest apart = less_again rest apart
symbol_again symbols.Greater rest apart = greater_again rest apart
symbol_again symbol rest apart = refl
