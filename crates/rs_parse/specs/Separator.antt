-- The separators of lists.
use Rattle.std.specs.Prelude.{Bool, codes}
use Rattle.rs_token.specs.declared.token.Symbol.TheVariants as symbols
use Rattle.rs_token.specs.declared.token.Token.{Token}
use Rattle.rs_token.specs.Token.{is_symbol, is_word}
use Rattle.rs_parse.specs.declared.list.Separator.{Separator}
use Rattle.rs_parse.specs.declared.list.Separator.TheVariants as separators

abbrev pub is_separator : Separator → Token → Bool
is_separator separators.Comma = is_symbol symbols.Comma
is_separator separators.And = is_word (codes "and")
is_separator separators.Or = is_word (codes "or")
