-- The lines of a text. Each ends with a line feed, which may be missing after the last.
use Rattle.std.specs.Prelude.{ℕ, Bool, List, [], ◌∷◌, not, ◌==◌, if◌then◌else◌}
use Rattle.std.specs.List.{list_all}

-- the byte prepended to the first line
abbrev pub onto_first : ℕ → List (List ℕ) → List (List ℕ)
onto_first b [] = (b ∷ []) ∷ []
onto_first b (line ∷ lines) = (b ∷ line) ∷ lines

abbrev pub lines_of : List ℕ → List (List ℕ)
lines_of [] = []
lines_of (b ∷ bytes) = if b == 10 then [] ∷ lines_of bytes else onto_first b (lines_of bytes)

abbrev pub is_return : ℕ → Bool
is_return b = b == 13

-- the line without the carriage returns at its end
abbrev pub without_returns : List ℕ → List ℕ
without_returns [] = []
without_returns (b ∷ line) = if list_all is_return (b ∷ line) then [] else b ∷ without_returns line

-- a comment is an empty line, or one that begins with `#`: it has a line number, and is no event
abbrev pub is_comment : List ℕ → Bool
is_comment [] = Bool.true
is_comment (b ∷ line) = b == 35

abbrev pub is_before_feed : ℕ → Bool
is_before_feed b = not (b == 10)
