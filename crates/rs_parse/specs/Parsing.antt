-- The parse of a text: a statement, or a fault at a byte offset.
use Rattle.std.specs.Prelude.{◌≡◌, ℕ, ◌-◌, true, false, List, [], ◌∷◌, ◌++◌, length, Option, Some, None, unwrap_or, Result, Ok, Err, if◌then◌else◌}
use Rattle.std.specs.List.{slice_get}
use Rattle.rs_ast.specs.declared.stmt.Stmt.{Stmt}
use Rattle.rs_token.specs.declared.token.Token.{Token}
use Rattle.rs_parse.specs.declared.parser.ParseFault.{ParseFault}
use Rattle.rs_parse.specs.declared.parser.ParseFault.TheVariants as faults
use Rattle.rs_token.specs.declared.token_split.Split.{Split}
use Rattle.rs_token.specs.Tokens.{split_of}
use Rattle.rs_parse.specs.Grammar.{IsRequest}
use Rattle.rs_parse.specs.Read.{Read, Got, Fault}
use Rattle.rs_parse.specs.Reader.{request_of}

-- the most bytes of a text that is parsed
abbrev pub text_limit : ℕ
text_limit = 8192

-- the text is that of this statement: it is split to its end, and its tokens are a request by the grammar
abbrev pub Spells : List ℕ → Stmt → Type 0
Spells text stmt = ((split_of text).whole ≡ true) × IsRequest stmt (split_of text).tokens

-- ---- the fault of a text

-- some request begins with these tokens
abbrev pub SomeBegins : List Token → Type 0
SomeBegins ts = (stmt : Stmt) × (suffix : List Token) × IsRequest stmt (ts ++ suffix)

-- the token of this number, from 0, is the first such that no request begins with the tokens up to it
pub record IsOffending (ts : List Token) (number : ℕ) : Type 0 where
  pub before : List Token
  pub token : Token
  pub suffix : List Token
  pub separated : ts ≡ before ++ token ∷ suffix
  pub counted : length before ≡ number
  pub begun : SomeBegins before
  pub barred : SomeBegins (before ++ token ∷ []) → ⊥

-- The fault of a text is at this byte offset.
pub data IsFault (text : List ℕ) (offset : ℕ) : Type 0 where
  -- a token begins there: some request begins with the tokens before it, and none with the tokens up to it
  AtToken : (number : ℕ) → IsOffending (split_of text).tokens number
      → slice_get (split_of text).starts number ≡ Some offset → IsFault text offset
  -- no token begins there, and some request begins with all tokens before it
  NoToken : (split_of text).whole ≡ false → SomeBegins (split_of text).tokens
      → offset ≡ (split_of text).end → IsFault text offset
  -- the text ends there: some request begins with all of its tokens, and they are no request
  AtEnd : (split_of text).whole ≡ true → SomeBegins (split_of text).tokens
      → ((stmt : Stmt) → IsRequest stmt (split_of text).tokens → ⊥) → offset ≡ length text → IsFault text offset

-- ---- the parse of a text by reading its tokens

pub data Parsed : Type 0 where
  Statement : (stmt : Stmt) → Parsed
  FaultAt : (offset : ℕ) → Parsed

-- the offset of the first of the tokens that are left, or of the split's end if none is
abbrev pub offset_of : Split → ℕ → ℕ
offset_of split left = unwrap_or (slice_get split.starts (length split.tokens - left)) split.end

abbrev pub judged : Split → Read Stmt → Parsed
judged split (Got stmt rest) = if split.whole then Statement stmt else FaultAt split.end
judged split (Fault rest) = FaultAt (offset_of split (length rest))

unfoldable pub parsed_of : List ℕ → Parsed
parsed_of text = judged (split_of text) (request_of (split_of text).tokens)

abbrev pub statement_in : Parsed → Option Stmt
statement_in (Statement stmt) = Some stmt
statement_in (FaultAt offset) = None

-- the statement of a text, if it is that of one
abbrev pub statement_of : List ℕ → Option Stmt
statement_of text = statement_in (parsed_of text)

-- a result is that of the parse, unless an allocation failed
abbrev pub ParseGives : Result Stmt ParseFault → Parsed → Type 0
ParseGives (Ok stmt) parsed = parsed ≡ Statement stmt
ParseGives (Err (faults.Syntax offset)) parsed = parsed ≡ FaultAt offset
ParseGives (Err faults.NoMemory) parsed = Unit {0}
