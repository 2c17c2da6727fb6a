-- Which bytes are a text value.
use Rattle.std.specs.Prelude.{ℕ, Bool, ◌&&◌, not, ◌==◌, nat_le, List, length}
use Rattle.std.specs.List.{list_all}
pub use Rattle.std.specs.Str.{is_utf8}

-- no control character
abbrev pub is_text_byte : ℕ → Bool
is_text_byte b = nat_le 32 b && not (b == 127)

abbrev pub are_text_bytes : List ℕ → Bool
are_text_bytes bytes = list_all is_text_byte bytes

-- at most 255 bytes of UTF-8, without control characters
abbrev pub is_txt : List ℕ → Bool
is_txt bytes = nat_le (length bytes) 255 && is_utf8 bytes && are_text_bytes bytes
