-- The steps of the tokenizer.
use Rattle.std.specs.Prelude.{◌≡◌, ℕ, List, [], ◌∷◌, Option, Some, None, Result, Ok, Err}
use Rattle.rs_base.specs.declared.fault.NoMemory.{NoMemory}
use Rattle.rs_token.specs.declared.token.Token.{Token}
use Rattle.rs_token.specs.Tokens.{token_at}

-- the token that begins the bytes
unfoldable pub token_here : List ℕ → Option (Token × List ℕ)
token_here [] = None
token_here (b ∷ bytes) = token_at b bytes

-- One call of a scanner at the bytes `old`: it returned the token that begins them and left the bytes `new`, or no token
-- begins them, or an allocation failed.
abbrev pub Steps : Result (Option Token) NoMemory → List ℕ → List ℕ → Type 0
Steps (Ok (Some token)) old new = token_here old ≡ Some (token, new)
Steps (Ok None) old new = token_here old ≡ None
Steps (Err fault) old new = Unit {0}
