-- The reserved words, which can't be names. Some belong to statements that aren't supported.
use Rattle.std.specs.Prelude.{ℕ, Bool, ◌||◌, List, [], ◌∷◌, codes, bytes_eq}
use Rattle.std.specs.List.{list_any}

abbrev pub definition_words : List (List ℕ)
definition_words = codes "create" ∷ codes "table" ∷ codes "drop" ∷ codes "index" ∷ codes "on" ∷ codes "synonym" ∷ codes "for" ∷ codes "migrate" ∷ codes "to" ∷ codes "unique" ∷ []

abbrev pub program_words : List (List ℕ)
program_words = codes "compile" ∷ codes "as" ∷ codes "end" ∷ codes "program" ∷ codes "execute" ∷ codes "explain" ∷ codes "show" ∷ codes "sections" ∷ codes "cache" ∷ codes "outcome" ∷ []

abbrev pub change_words : List (List ℕ)
change_words = codes "insert" ∷ codes "into" ∷ codes "values" ∷ codes "update" ∷ codes "set" ∷ codes "delete" ∷ codes "grant" ∷ codes "revoke" ∷ codes "snapshot" ∷ codes "refresh" ∷ []

abbrev pub query_words : List (List ℕ)
query_words = codes "select" ∷ codes "distinct" ∷ codes "from" ∷ codes "where" ∷ codes "group" ∷ codes "by" ∷ codes "order" ∷ codes "asc" ∷ codes "desc" ∷ []

abbrev pub term_words : List (List ℕ)
term_words = codes "and" ∷ codes "or" ∷ codes "int" ∷ codes "integer" ∷ codes "text" ∷ codes "count" ∷ codes "sum" ∷ codes "min" ∷ codes "max" ∷ []

abbrev pub is_among : List (List ℕ) → List ℕ → Bool
is_among words word = list_any (λ w. bytes_eq word w) words

unfoldable pub is_reserved : List ℕ → Bool
is_reserved word = is_among definition_words word || is_among program_words word || is_among change_words word || is_among query_words word || is_among term_words word
