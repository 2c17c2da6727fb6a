-- The row numbers of texts: their pairs, and the order of these.
use Rattle.std.specs.Prelude.{ℕ, List, map, filter, flat_map}
use Rattle.std.specs.BTreeSet.{BTreeSet}
use Rattle.std.specs.Cmp.Lexicographic.{slice_cmp}
use Rattle.std.specs.Ordering.{nat_cmp, ordering_then}
use Rattle.std.specs.declared.cmp.Ordering.{Ordering}
use Rattle.rs_ast.specs.Allows.{allows}
use Rattle.rs_ast.specs.declared.clause.Op.{Op}

-- texts by their bytes
abbrev pub text_cmp : List ℕ → List ℕ → Ordering
text_cmp = slice_cmp nat_cmp

-- by text, and then by number
abbrev pub text_pair_cmp : List ℕ × ℕ → List ℕ × ℕ → Ordering
text_pair_cmp one other = ordering_then (text_cmp one.0 other.0) (nat_cmp one.1 other.1)

-- a text with each of its numbers
abbrev pub pairs_of_entry : List ℕ × BTreeSet ℕ → List (List ℕ × ℕ)
pairs_of_entry entry = map (λ number. (entry.0, number)) entry.1.keys

abbrev pub text_pairs : List (List ℕ × BTreeSet ℕ) → List (List ℕ × ℕ)
text_pairs entries = flat_map pairs_of_entry entries

-- the numbers of the texts, in the order of their pairs
abbrev pub numbers_of : List (List ℕ × BTreeSet ℕ) → List ℕ
numbers_of entries = flat_map (λ entry. entry.1.keys) entries

-- the numbers of these pairs, in their order
abbrev pub pair_numbers : List (List ℕ × ℕ) → List ℕ
pair_numbers pairs = map (λ pair. pair.1) pairs

-- the numbers whose text satisfies the comparison, in the order of the pairs
abbrev pub text_range : Op → List ℕ → List (List ℕ × ℕ) → List ℕ
text_range op text pairs = pair_numbers (filter (λ pair. allows op (text_cmp pair.0 text)) pairs)
