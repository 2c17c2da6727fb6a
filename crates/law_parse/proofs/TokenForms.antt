-- Tokens that a text may have: words that are identifiers or reserved, numbers of 64 bits, and texts of text values.
use Rattle.std.proofs.Common.{◌≡◌, ◌≤◌, true, List}
use Rattle.std.specs.List.{AllByRecursion}
use Rattle.rs_base.specs.Ident.{is_ident}
use Rattle.rs_base.specs.Txt.{is_txt}
use Rattle.rs_token.specs.declared.token.Token.{Token}
use Rattle.rs_token.specs.declared.token.Token.TheVariants as tokens

abbrev pub IsFormed : Token → Type 0
IsFormed (tokens.Word word) = is_ident word ≡ true
IsFormed (tokens.Number n) = n ≤ 9223372036854775807
IsFormed (tokens.Text text) = is_txt text ≡ true
IsFormed (tokens.Symbol symbol) = Unit {0}

abbrev pub AreFormed : List Token → Type 0
AreFormed ts = AllByRecursion IsFormed ts
